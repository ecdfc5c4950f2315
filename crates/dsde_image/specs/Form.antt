-- Reading a JSON value as an image: its members by their keys, and how many they are.
use Rattle.std.specs.Prelude.{◌≡◌, ℕ, suc, Bool, true, ◌-◌, ◌^◌, ◌&&◌, ◌==◌, nat_lt, nat_le, if◌then◌else◌, List, [], ◌∷◌, ◌++◌, codes, Option, Some, None, option_and_then, Result, Ok, Err}
use Rattle.std.specs.Cmp.Lexicographic.{slice_cmp}
use Rattle.std.specs.Ordering.{nat_cmp, is_lt}
use Rattle.std.specs.Str.{bytes_eq}
use Rattle.dsde_values.specs.declared.when.When.{When}
use Rattle.dsde_values.specs.declared.when.When.TheVariants.{At, Never}
use Rattle.dsde_image.specs.Image.{SpellsPath, SpellsLast}
use Rattle.dsde_image.specs.declared.image.Body.{Body}
use Rattle.dsde_image.specs.declared.image.Body.TheVariants.{Atomic, Net, Executive}
use Rattle.dsde_image.specs.declared.image.Image.{Image}
use Rattle.dsde_image.specs.declared.image.Location.{Location}
use Rattle.dsde_image.specs.declared.image.Location.TheVariants as location
use Rattle.dsde_image.specs.declared.image.Row.{Row}
use Rattle.dsde_image.specs.declared.image.Standing.{Standing}
use Rattle.dsde_image.specs.declared.image.Version.{Version}
use Rattle.dsde_image.specs.declared.image.Version.TheVariants.{One, Two}
use Rattle.serde_json.specs.Data.{Data, Items, no_items, item, Members, no_members, member}
use Rattle.serde_json.specs.Find.{get, as_null, as_number, as_str, as_array, as_object, as_u64}
use Rattle.dsde_image.specs.declared.reading.ReadImage.{ReadImage}
use Rattle.dsde_image.specs.declared.reading.ReadImage.TheVariants as read_image

infixl 10 ◌>>=◌
abbrev pub ◌>>=◌ : {A B : Type 0} → Option A → (A → Option B) → Option B
None >>= next = None
(Some x) >>= next = next x

-- The answer is what is read, unless memory ran out.
abbrev pub GivesIt : {X : Type 0} → Result X ReadImage → Option X → Type 0
GivesIt (Ok x) read = read ≡ Some x
GivesIt (Err read_image.NotJson) read = ⊥
GivesIt (Err read_image.WrongForm) read = read ≡ None
GivesIt (Err read_image.Memory) read = Unit {0}

-- a list, and what is read behind it
abbrev pub behind : {A : Type 0} → List A → Option (List A) → Option (List A)
behind front read = read >>= λ later. Some (front ++ later)

abbrev pub only_if : {A : Type 0} → Bool → A → Option A
only_if test x = if test then Some x else None

-- ---- single values

unfoldable pub number_of : Data → Option ℕ
number_of seen = option_and_then as_u64 (as_number seen)

unfoldable pub moment_of : Data → Option ℕ
moment_of seen = number_of seen >>= λ time. only_if (nat_lt time (2 ^ 63)) time

unfoldable pub depth_of : Data → Option ℕ
depth_of seen = number_of seen >>= λ depth. only_if (nat_lt depth (2 ^ 32)) depth

unfoldable pub version_of : Data → Option Version
version_of seen = number_of seen >>= λ number. if number == 1 then Some One else only_if (number == 2) Two

unfoldable pub when_of : Data → Option When
when_of seen = elim (as_null seen) [ Some nothing ↦ Some Never | None ↦ moment_of seen >>= λ time. Some (At time) ]

-- each item, as it is read
unfoldable pub each_of : {A : Type 0} → (Data → Option A) → Items → Option (List A)
each_of read no_items = Some []
each_of read (item seen items) = read seen >>= λ thing. each_of read items >>= λ things. Some (thing ∷ things)

-- ---- members

-- the value under a key, as it is read
unfoldable pub under : {A : Type 0} → (Data → Option A) → List ℕ → Data → Option A
under read key seen = get key seen >>= read

-- the texts under a key
abbrev pub texts_under : List ℕ → Data → Option (List (List ℕ))
texts_under key seen = under as_array key seen >>= each_of as_str

abbrev pub count : Members → ℕ
count no_members = 0
count (member key seen members) = suc (count members)

-- all keys are above this one
abbrev pub are_above : List ℕ → Members → Bool
are_above key no_members = true
are_above key (member own seen members) = is_lt (slice_cmp nat_cmp key own) && are_above key members

-- each key is below those behind it
abbrev pub are_ordered : Members → Bool
are_ordered no_members = true
are_ordered (member key seen members) = are_above key members && are_ordered members

-- how many members an object has, where they are in the order of their keys
abbrev pub count_ordered : Option Members → ℕ
count_ordered None = 0
count_ordered (Some members) = if are_ordered members then count members else 0

unfoldable pub count_in : Data → ℕ
count_in seen = count_ordered (as_object seen)

-- ---- a part

-- where it stands
unfoldable pub location_of : Version → Data → Option Location
location_of One seen = under as_str (codes "path") seen >>= λ path. Some (location.Path path)
location_of Two seen =
    under depth_of (codes "depth") seen >>= λ depth.
    under as_str (codes "name") seen >>= λ name.
    Some (location.Last name depth)

-- how it stands
unfoldable pub standing_of : Data → Option Standing
standing_of seen =
    under moment_of (codes "last") seen >>= λ last.
    under when_of (codes "next") seen >>= λ next.
    texts_under (codes "state") seen >>= λ state.
    Some (record { state = state; last = last; next = next })

-- how many members say where it stands and name its model
abbrev pub place_members : Version → ℕ
place_members One = 2
place_members Two = 3

-- what it is, by how many members are left to say so
unfoldable pub body_of : ℕ → Data → Option Body
body_of many seen =
    if many == 1 then (texts_under (codes "args") seen >>= λ args. Some (Net args))
    else (if many == 3 then (standing_of seen >>= λ standing. Some (Executive standing))
    else (if many == 4 then (texts_under (codes "args") seen >>= λ args. standing_of seen >>= λ standing. Some (Atomic args standing)) else None))

unfoldable pub row_of : Version → Data → Option Row
row_of version seen =
    location_of version seen >>= λ place.
    under as_str (codes "model") seen >>= λ model.
    body_of (count_in seen - place_members version) seen >>= λ body.
    Some (record { location = place; model = model; body = body })

-- ---- an image

-- its version, where it has as many members as an image and is marked as one
unfoldable pub version_in : Data → Option Version
version_in seen =
    under as_str (codes "kind") seen >>= λ kind.
    under version_of (codes "version") seen >>= λ version.
    only_if (bytes_eq kind (codes "dsde-save") && count_in seen == 6) version

-- how many records are taken, the time, and how many turns are done, if they are bounded
unfoldable pub progress_of : Data → Option (ℕ × ℕ × ℕ)
progress_of seen =
    under number_of (codes "records") seen >>= λ records.
    under moment_of (codes "time") seen >>= λ time.
    under number_of (codes "turn") seen >>= λ turn.
    only_if (nat_le records turn && nat_le turn (2 ^ 62)) (records, time, turn)

unfoldable pub image_of : Data → Option Image
image_of seen =
    version_in seen >>= λ version.
    progress_of seen >>= λ own.
    under as_array (codes "parts") seen >>= λ parts.
    each_of (row_of version) parts >>= λ rows.
    Some (record { version = version; turn = own.2; time = own.1; records = own.0; parts = rows })

-- ---- what is looked at behind that

-- its text is one of a path, or of a last name
abbrev pub Spells : Location → Type 0
Spells (location.Path text) = SpellsPath text
Spells (location.Last name depth) = SpellsLast name

abbrev pub SpellsRow : Row → Type 0
SpellsRow row = Spells row.location
