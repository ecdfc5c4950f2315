-- What a text can spell is proper.
use Rattle.std.specs.Prelude.{◌≡◌, true}
use Rattle.std.specs.List.{list_all}
use Rattle.dsde_language.specs.given.syntax.decl_Model.{Model}
use Rattle.dsde_language.specs.given.syntax.Shape.{IsShaped}
use Rattle.dsde_language.specs.Proper.{is_proper_decl}

-- each declaration of a model that a text can spell is proper
abbrev pub ShapedIsProper : Type 0
ShapedIsProper = (model : Model) → IsShaped model → list_all is_proper_decl model.decls ≡ true
