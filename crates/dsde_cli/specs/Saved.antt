-- What is stored of a run, and where.
use Rattle.std.specs.Prelude.{ℕ, ◌≡◌, ◌≤◌, ◌^◌, ◌⊎◌, ⊤, List, Option, Some, None, IfSome, IsSomeAnd}
use Rattle.std.specs.Option.{option_map}
use Rattle.std.specs.Borrow.{Bor}
use Rattle.serde_json.specs.Written.{compact_text}
use Rattle.dsde_image.specs.declared.image.Image.{Image}
use Rattle.dsde_image.specs.Json.{image_data}
use Rattle.dsde_image.specs.Text.{IsReading}
use Rattle.dsde_run_free.specs.given.run.Saved.{Says}
use Rattle.dsde_io.specs.Held.{Bytes, ChangesOnly}
use Rattle.dsde_io.specs.declared.shelf.ShelfEnd.{ShelfEnd}
use Rattle.dsde_io.specs.declared.shelf.ShelfEnd.TheVariants as shelf_end
use Rattle.dsde_cli_status.specs.declared.status.Status.{Status}
use Rattle.dsde_cli_status.specs.declared.status.Status.TheVariants.{Done, Unwritten, Memory}
use Rattle.dsde_cli_status.specs.declared.status.What.TheVariants as what
use Rattle.dsde_cli.specs.RunOutcome.{IsOfRun}

-- a name that is given or not
abbrev pub name_of : Option (Bor (List ℕ)) → Option (List ℕ)
name_of name = option_map (λ (name : Bor (List ℕ)). name.now) name

-- The bytes are the text of this image, without blanks, and are read as its JSON value; so they say it, where
-- no more turns are done than an image may have.
pub record IsTextOf (image : Image) (text : List ℕ) : Type 0 where
  pub is : text ≡ compact_text (image_data image)
  pub reading : IsReading text (image_data image)
  pub says : image.turn ≤ 2 ^ 62 → Says text image

-- A name is given.
abbrev pub IsGiven : Option (List ℕ) → Type 0
IsGiven None = ⊥
IsGiven (Some name) = ⊤

-- Where it tells what it holds, the shelf has the text of this image under the name, if one is given.
abbrev pub Stores : Option (List ℕ) → Option Image → Option Bytes → Type 0
Stores None image held = ⊤
Stores (Some name) image held = IfSome held (λ map. IsSomeAnd image (λ own. IsSomeAnd (map name) (IsTextOf own)))

-- What a call leaves on the shelf that is to store an image under this name, if one is given: each other name
-- has what it had; and so has this one, unless all went well, the store failed, or memory ran out behind a
-- store that failed.
abbrev pub Leaves : Option (List ℕ) → (ShelfFails : Type 0) → Option Bytes → Option Bytes → Status → Type 0
Leaves None ShelfFails before after status = after ≡ before
Leaves (Some name) ShelfFails before after Done = ChangesOnly name before after
Leaves (Some name) ShelfFails before after (Unwritten what.Save) = ChangesOnly name before after × ShelfFails
Leaves (Some name) ShelfFails before after Memory = (after ≡ before) ⊎ (ChangesOnly name before after × ShelfFails)
Leaves (Some name) ShelfFails before after other = after ≡ before

-- The status is one of a store under this name, and the shelf failed where it says so.
abbrev pub IsOfStore : Option (List ℕ) → (ShelfFails : Type 0) → Status → Type 0
IsOfStore name ShelfFails Done = ⊤
IsOfStore name ShelfFails (Unwritten what.Save) = IsGiven name × ShelfFails
IsOfStore name ShelfFails Memory = ⊤
IsOfStore name ShelfFails other = ⊥

-- The status of a run whose image was not stored.
abbrev pub unstored : ShelfEnd → Status
unstored shelf_end.Memory = Memory
unstored shelf_end.Failed = Unwritten what.Save
unstored shelf_end.Absent = Unwritten what.Save
unstored shelf_end.TooLong = Unwritten what.Save

-- The status is one of a run and the store behind it, and its device failed where it says so.
abbrev pub IsOfStored : Option (List ℕ) → (ShelfFails SourceFails SinkFails : Type 0) → Status → Type 0
IsOfStored name ShelfFails SourceFails SinkFails (Unwritten what.Save) = IsGiven name × ShelfFails
IsOfStored name ShelfFails SourceFails SinkFails status = IsOfRun SourceFails SinkFails status
