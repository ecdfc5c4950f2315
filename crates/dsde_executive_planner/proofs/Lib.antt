mod Naming
mod Placing
mod Searching
mod Drawing
