mod SameValues
