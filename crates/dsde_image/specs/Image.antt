-- The image of a run: where its rows say that parts stand, and which images there are. Source: this project's profile.
use Rattle.std.specs.Prelude.{◌≡◌, ℕ, ◌<◌, ◌≤◌, ◌^◌, List, [], ◌∷◌, length}
use Rattle.std.specs.List.{AllByRecursion}
use Rattle.dsde_values.specs.When.{IsMoment}
use Rattle.dsde_values.specs.Path.{IsPath, path_text, name_text}
use Rattle.dsde_values.specs.declared.name.Name.{Name}
use Rattle.dsde_values.specs.declared.path.Path.{Path}
use Rattle.dsde_values.specs.declared.when.When.{When}
use Rattle.dsde_values.specs.declared.when.When.TheVariants.{At, Never}
use Rattle.dsde_image.specs.declared.image.Body.{Body}
use Rattle.dsde_image.specs.declared.image.Body.TheVariants.{Atomic, Net, Executive}
use Rattle.dsde_image.specs.declared.image.Image.{Image}
use Rattle.dsde_image.specs.declared.image.Location.{Location}
use Rattle.dsde_image.specs.declared.image.Location.TheVariants as location
use Rattle.dsde_image.specs.declared.image.Row.{Row}
use Rattle.dsde_image.specs.declared.image.Standing.{Standing}
use Rattle.dsde_image.specs.declared.image.Version.{Version}
use Rattle.dsde_image.specs.declared.image.Version.TheVariants.{One, Two}

-- the spelling of the last of some names
abbrev pub last_text : List Name → List ℕ
last_text [] = []
last_text (name ∷ []) = name_text name
last_text (name ∷ names) = last_text names

-- where a row of this version says that the part of this path stands
abbrev pub location_of : Version → Path → Location
location_of One path = location.Path (path_text path)
location_of Two path = location.Last (last_text path.names) (length path.names)

-- ---- which images there are

-- The text is that of a path that a model can have.
pub record SpellsPath (text : List ℕ) : Type 0 where
  pub path : Path
  pub is : IsPath path
  pub spelled : path_text path ≡ text

-- The text is that of the last name of such a path.
pub record SpellsLast (text : List ℕ) : Type 0 where
  pub path : Path
  pub is : IsPath path
  pub spelled : last_text path.names ≡ text

-- a path in version 1, and in version 2 a last name and a number of 32 bits
abbrev pub IsLocation : Version → Location → Type 0
IsLocation One (location.Path text) = SpellsPath text
IsLocation One (location.Last name depth) = ⊥
IsLocation Two (location.Path text) = ⊥
IsLocation Two (location.Last name depth) = SpellsLast name × (depth < 2 ^ 32)

abbrev pub IsInTime : When → Type 0
IsInTime (At time) = IsMoment time
IsInTime Never = Unit {0}

pub record IsStanding (standing : Standing) : Type 0 where
  pub last : IsMoment standing.last
  pub next : IsInTime standing.next

abbrev pub IsBody : Body → Type 0
IsBody (Atomic args standing) = IsStanding standing
IsBody (Net args) = Unit {0}
IsBody (Executive standing) = IsStanding standing

pub record IsRow (version : Version) (row : Row) : Type 0 where
  pub location : IsLocation version row.location
  pub body : IsBody row.body

-- Its numbers are bounded, no more records are taken than turns are done, and its rows are of its version.
pub record IsImage (image : Image) : Type 0 where
  pub time : IsMoment image.time
  pub turn : image.turn ≤ 2 ^ 62
  pub records : image.records ≤ image.turn
  pub parts : AllByRecursion (IsRow image.version) image.parts
