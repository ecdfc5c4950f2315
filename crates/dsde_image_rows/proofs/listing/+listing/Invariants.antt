use Rattle.std.proofs.Common.{◌≡◌, ◌++◌, drop}
use Rattle.std.specs.List.{flat_map}
use Rattle.dsde_image_rows.specs.Rows.{rows_of_kid}
use Rattle.dsde_image_rows.specs.Script.{script}
use Rattle.dsde_image_rows.proofs.listing.+listing.Given as goal

abbrev pub invariant-list_kids-loop-kid : goal.invariant-list_kids-loop-kid
invariant-list_kids-loop-kid l =
    l.listed ++ flat_map (λ kid. rows_of_kid (script l.program) l.version kid l.path) (drop l.kid-index l.kids)
    ≡ l.fn.listed ++ flat_map (λ kid. rows_of_kid (script l.program) l.version kid l.path) l.kids
