-- Which JSON values are images.
use Rattle.std.proofs.Common.{◌≡◌, ◌≢◌, ℕ, List, [], ◌∷◌, Option, Some, None, sym, ap, subst, ◌∙◌}
use Rattle.std.specs.Prelude.{Result, Ok, Err, IfOk, IsErrOf}
use Rattle.std.specs.List.{AllByRecursion}
use Rattle.serde_json.specs.Data.{Data}
use Rattle.dsde_image.specs.Image.{IsImage, IsRow, IsLocation}
use Rattle.dsde_image.specs.declared.image.Image.{Image}
use Rattle.dsde_image.specs.declared.image.Location.{Location}
use Rattle.dsde_image.specs.declared.image.Location.TheVariants as location
use Rattle.dsde_image.specs.declared.image.Row.{Row}
use Rattle.dsde_image.specs.declared.image.Version.{Version}
use Rattle.dsde_image.specs.declared.image.Version.TheVariants.{One, Two}
use Rattle.dsde_image.specs.Json.{image_data}
use Rattle.dsde_image.specs.Text.{IsReading}
use Rattle.dsde_image.specs.Form.{image_of, GivesIt, Spells, SpellsRow}
use Rattle.dsde_image.specs.declared.reading.ReadImage.{ReadImage}
use Rattle.dsde_image.specs.declared.reading.ReadImage.TheVariants as read_image
use Rattle.dsde_image.proofs.Found.{image-found, IsOf, IsOwn}
use Rattle.dsde_image.proofs.Again.{image-again}

some-is : {A : Type 0} {x y : A} → (let own : Option A = Some x in own ≡ Some y) → x ≡ y
some-is is = cc

location-is : (version : Version) (place : Location) → IsOf version place → Spells place → IsLocation version place
location-is One (location.Path path) own spells = spells
location-is One (location.Last name depth) own spells = absurd own
location-is Two (location.Path path) own spells = absurd own
location-is Two (location.Last name depth) own spells = (spells, own)

spells-of : (version : Version) (place : Location) → IsLocation version place → Spells place
spells-of One (location.Path path) is = is
spells-of One (location.Last name depth) is = absurd is
spells-of Two (location.Path path) is = absurd is
spells-of Two (location.Last name depth) is = is.0

rows-are : (version : Version) (rows : List Row) → AllByRecursion SpellsRow rows → AllByRecursion (IsOwn version) rows → AllByRecursion (IsRow version) rows
rows-are version [] names own = tt
rows-are version (row ∷ rows) names own =
    (record { location = location-is version row.location own.0.location names.0; body = own.0.body }, rows-are version rows names.1 own.1)

names-of : (version : Version) (rows : List Row) → AllByRecursion (IsRow version) rows → AllByRecursion SpellsRow rows
names-of version [] all = tt
names-of version (row ∷ rows) all = (spells-of version row.location all.0.location, names-of version rows all.1)

value-image : (seen : Data) (image : Image) → image_of seen ≡ Some image → AllByRecursion SpellsRow image.parts → IsImage image
value-image seen image is names =
    let found = image-found seen image is in
    record { time = found.time; turn = found.turn; records = found.records; parts = rows-are image.version image.parts names found.parts }

value-is : (seen : Data) (image : Image) → image_of seen ≡ Some image → seen ≡ image_data image
value-is seen image is = (image-found seen image is).is

read-so : (seen : Data) (other : Image) → IsImage other → seen ≡ image_data other → image_of seen ≡ Some other
read-so seen other fits same = ap image_of same ∙ image-again other fits

pub value-other : (seen : Data) (image : Image) → image_of seen ≡ Some image → (AllByRecursion SpellsRow image.parts → ⊥) → (other : Image) → IsImage other → seen ≢ image_data other
value-other seen image is none other fits same =
    let one : image ≡ other = some-is (sym is ∙ read-so seen other fits same) in
    none (subst (λ (own : Image). AllByRecursion SpellsRow own.parts) (sym one) (names-of other.version other.parts fits.parts))

value-none : (seen : Data) → image_of seen ≡ None → (other : Image) → IsImage other → seen ≢ image_data other
value-none seen is other fits same = clash (sym is ∙ read-so seen other fits same)
  where
    clash : {A : Type 0} {x : A} → (let none : Option A = None in none ≡ Some x) → ⊥
    clash is = absurd (cc is)

-- where it is not read
module _ (seen : Data) where
  pub not-read : (why : ReadImage) → (let own : Result Image ReadImage = Err why in GivesIt own (image_of seen)) →
      (let own : Result Image ReadImage = Err why in IsErrOf own read_image.WrongForm) → (other : Image) → IsImage other → seen ≢ image_data other
  not-read read_image.NotJson gives wrong = absurd gives
  not-read read_image.WrongForm gives wrong = value-none seen gives
  not-read read_image.Memory gives wrong = absurd (cc wrong)

  pub is-json : (why : ReadImage) → (let own : Result Image ReadImage = Err why in GivesIt own (image_of seen)) → (let own : Result Image ReadImage = Err why in IsErrOf own read_image.NotJson) → ⊥
  is-json read_image.NotJson gives json = gives
  is-json read_image.WrongForm gives json = cc json
  is-json read_image.Memory gives json = cc json

-- where names were looked at
module _ (seen : Data) (image : Image) (is : image_of seen ≡ Some image) where
  pub ok-image : (result : Result Image ReadImage) → IfOk result (λ own. own ≡ image) → IfOk result (λ own. AllByRecursion SpellsRow own.parts) → IfOk result IsImage
  ok-image (Ok own) same names = subst IsImage (sym same) (value-image seen image is (subst (λ (own : Image). AllByRecursion SpellsRow own.parts) same names))
  ok-image (Err why) same names = tt

  pub ok-only : (result : Result Image ReadImage) → IfOk result (λ own. own ≡ image) → IfOk result (λ own. (other : Image) → IsImage other → seen ≡ image_data other → other ≡ own)
  ok-only (Ok own) same = λ other fits says. some-is (sym (read-so seen other fits says) ∙ is) ∙ sym same
  ok-only (Err why) same = tt

  pub ok-is : (result : Result Image ReadImage) → IfOk result (λ own. own ≡ image) → IfOk result (λ own. seen ≡ image_data own)
  ok-is (Ok own) same = value-is seen image is ∙ ap image_data (sym same)
  ok-is (Err why) same = tt

-- what bytes say is one value
pub only-so : (bytes : List ℕ) (seen : Data) → IsReading bytes seen → (result : Result Image ReadImage) → IfOk result (λ own. (other : Image) → IsImage other → seen ≡ image_data other → other ≡ own) →
    IfOk result (λ own. (other : Image) → IsImage other → IsReading bytes (image_data other) → other ≡ own)
only-so bytes seen says (Ok own) only = λ other fits reads. only other fits (some-is (sym says.says ∙ reads.says))
only-so bytes seen says (Err why) only = tt
