-- What is written as a JSON value is read again.
use Rattle.std.proofs.Common.{◌≡◌, ℕ, ◌<◌, ◌^◌, List, [], ◌∷◌, Option, Some, refl, lt-ltb, le-leb}
use Rattle.std.specs.List.{AllByRecursion}
use Rattle.dsde_values.specs.When.{IsMoment}
use Rattle.dsde_values.specs.declared.when.When.{When}
use Rattle.dsde_values.specs.declared.when.When.TheVariants.{At, Never}
use Rattle.serde_json.specs.Data.{Data, string}
use Rattle.serde_json.specs.Find.{as_str}
use Rattle.dsde_image.specs.Image.{IsInTime, IsBody, IsLocation, IsRow, IsImage}
use Rattle.dsde_image.specs.declared.image.Body.{Body}
use Rattle.dsde_image.specs.declared.image.Body.TheVariants.{Atomic, Net, Executive}
use Rattle.dsde_image.specs.declared.image.Image.{Image}
use Rattle.dsde_image.specs.declared.image.Location.{Location}
use Rattle.dsde_image.specs.declared.image.Location.TheVariants as location
use Rattle.dsde_image.specs.declared.image.Row.{Row}
use Rattle.dsde_image.specs.declared.image.Version.{Version}
use Rattle.dsde_image.specs.declared.image.Version.TheVariants.{One, Two}
use Rattle.dsde_image.specs.Json.{items_data, number_data, when_data, row_data, version_number, image_data}
use Rattle.dsde_image.specs.Form.{number_of, moment_of, depth_of, version_of, when_of, each_of, under, count_in, location_of, standing_of, body_of, row_of, version_in, progress_of, image_of}

each-again : {A : Type 0} (read : Data → Option A) (seen : A → Data) (things : List A) → AllByRecursion (λ thing. read (seen thing) ≡ Some thing) things → each_of read (items_data seen things) ≡ Some things
unfolding each_of
each-again read seen [] all = refl
each-again read seen (thing ∷ things) all = rw (all.0, each-again read seen things all.1) refl

strings : (texts : List (List ℕ)) → AllByRecursion (λ text. as_str (string text) ≡ Some text) texts
strings [] = tt
strings (text ∷ texts) = (refl, strings texts)

texts-again : (texts : List (List ℕ)) → each_of as_str (items_data string texts) ≡ Some texts
texts-again texts = each-again as_str string texts (strings texts)

moment-again : (time : ℕ) → IsMoment time → moment_of (number_data time) ≡ Some time
unfolding moment_of number_of
moment-again time early = rw (lt-ltb time (2 ^ 63) early) refl

depth-again : (depth : ℕ) → depth < 2 ^ 32 → depth_of (number_data depth) ≡ Some depth
unfolding depth_of number_of
depth-again depth few = rw (lt-ltb depth (2 ^ 32) few) refl

version-again : (version : Version) → version_of (number_data (version_number version)) ≡ Some version
unfolding version_of number_of
version-again One = refl
version-again Two = refl

when-again : (next : When) → IsInTime next → when_of (when_data next) ≡ Some next
unfolding when_of
when-again (At time) early = rw (moment-again time early) refl
when-again Never early = refl

body-again : (version : Version) (place : Location) (model : List ℕ) (body : Body) → IsLocation version place → IsBody body →
    (let row : Row = record { location = place; model = model; body = body } in row_of version (row_data row) ≡ Some row)
unfolding row_of location_of standing_of body_of count_in under
body-again One (location.Path path) model (Atomic args standing) at is = rw (texts-again args, moment-again standing.last is.last, when-again standing.next is.next, texts-again standing.state) refl
body-again One (location.Path path) model (Net args) at is = rw (texts-again args) refl
body-again One (location.Path path) model (Executive standing) at is = rw (moment-again standing.last is.last, when-again standing.next is.next, texts-again standing.state) refl
body-again Two (location.Last name depth) model (Atomic args standing) at is =
    rw (texts-again args, depth-again depth at.1, moment-again standing.last is.last, when-again standing.next is.next, texts-again standing.state) refl
body-again Two (location.Last name depth) model (Net args) at is = rw (texts-again args, depth-again depth at.1) refl
body-again Two (location.Last name depth) model (Executive standing) at is =
    rw (depth-again depth at.1, moment-again standing.last is.last, when-again standing.next is.next, texts-again standing.state) refl
body-again One (location.Last name depth) model body at is = absurd at
body-again Two (location.Path path) model body at is = absurd at

rows : (version : Version) (parts : List Row) → AllByRecursion (IsRow version) parts → AllByRecursion (λ row. row_of version (row_data row) ≡ Some row) parts
rows version [] all = tt
rows version (row ∷ parts) all = (body-again version row.location row.model row.body all.0.location all.0.body, rows version parts all.1)

pub image-again : (image : Image) → IsImage image → image_of (image_data image) ≡ Some image
unfolding image_of version_in progress_of count_in under number_of
image-again image is =
    rw (
      moment-again image.time is.time,
      version-again image.version,
      each-again (row_of image.version) row_data image.parts (rows image.version image.parts is.parts),
      le-leb image.records image.turn is.records,
      le-leb image.turn (2 ^ 62) is.turn,
    ) refl
