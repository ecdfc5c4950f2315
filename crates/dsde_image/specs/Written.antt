-- Images that are written: of version 2, with texts that are UTF-8.
use Rattle.std.specs.Prelude.{◌≡◌, ℕ, List, IsUtf8}
use Rattle.std.specs.List.{AllByRecursion}
use Rattle.dsde_image.specs.declared.image.Body.{Body}
use Rattle.dsde_image.specs.declared.image.Body.TheVariants.{Atomic, Net, Executive}
use Rattle.dsde_image.specs.declared.image.Image.{Image}
use Rattle.dsde_image.specs.declared.image.Location.{Location}
use Rattle.dsde_image.specs.declared.image.Location.TheVariants as location
use Rattle.dsde_image.specs.declared.image.Row.{Row}
use Rattle.dsde_image.specs.declared.image.Version.TheVariants.{Two}

abbrev pub AreUtf8 : List (List ℕ) → Type 0
AreUtf8 = AllByRecursion IsUtf8

abbrev pub IsWrittenLocation : Location → Type 0
IsWrittenLocation (location.Path text) = ⊥
IsWrittenLocation (location.Last name depth) = IsUtf8 name

abbrev pub IsWrittenBody : Body → Type 0
IsWrittenBody (Atomic args standing) = AreUtf8 args × AreUtf8 standing.state
IsWrittenBody (Net args) = AreUtf8 args
IsWrittenBody (Executive standing) = AreUtf8 standing.state

pub record IsWrittenRow (row : Row) : Type 0 where
  pub location : IsWrittenLocation row.location
  pub model : IsUtf8 row.model
  pub body : IsWrittenBody row.body

-- An image that may be written.
pub record IsWritten (image : Image) : Type 0 where
  pub version : image.version ≡ Two
  pub parts : AllByRecursion IsWrittenRow image.parts
