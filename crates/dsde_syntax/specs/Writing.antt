-- What a writer of tokens has written, where no token was lost for want of memory.
use Rattle.std.specs.Prelude.{◌≡◌, Bool, List, ◌++◌, Option, Some, None, if◌then◌else◌}
use Rattle.dsde_syntax.specs.declared.token.Tok.{Tok}

-- the tokens that were written, or nothing if one was lost
abbrev pub written : Bool → List Tok → Option (List Tok)
written lost tokens = if lost then None else Some tokens

-- the part stands behind what was written before, if nothing is lost
pub record Adds (old : Option (List Tok)) (part : List Tok) (new : Option (List Tok)) : Type 0 where
  pub adds : (whole : List Tok) → new ≡ Some whole → (before : List Tok) × ((old ≡ Some before) × (whole ≡ before ++ part))
