-- What the words of a line are.
use Rattle.std.specs.Prelude.{ℕ, ◌≡◌, ◌<◌, ◌^◌, ◌-◌, ◌⊎◌, Bool, true, false, List, ◌∷◌, ◌++◌, length, map, Option, Some, None, IfSome, IsSomeAnd, codes, decimal, slice_get}
use Rattle.std.specs.Option.{option_map_or}
use Rattle.std.specs.Borrow.{Bor}
use Rattle.dsde_input_records.specs.Lines.{Lacks}
use Rattle.dsde_input_records.specs.Record.{port_name}
use Rattle.dsde_values.specs.Path as path
use Rattle.dsde_values.specs.Reading.{fields_text}
use Rattle.dsde_values.specs.Value.{HasType, fill, has_type, spelling}
use Rattle.dsde_values.specs.declared.path.Path.{Path}
use Rattle.dsde_values.specs.declared.types.Field.{Field}
use Rattle.dsde_values.specs.declared.types.Types.{Types}
use Rattle.dsde_values.specs.declared.value.Value.{Value}
use Rattle.dsde_values.specs.declared.when.When.{When}
use Rattle.dsde_values.specs.declared.when.When.TheVariants.{At, Never}

-- The text is that of such a thing.
abbrev pub Spells : {A : Type 0} → (A → Type 0) → (A → List ℕ) → List ℕ → A → Type 0
Spells Is text_of text one = Is one × (text ≡ text_of one)

-- What a text is, if it is the text of such a thing: there is one at most.
pub record Inverts {A : Type 0} (Is : A → Type 0) (text_of : A → List ℕ) (text : List ℕ) (found : Option A) : Type 0 where
  pub is : IfSome found (Spells Is text_of text)
  pub only : (one : A) → Is one → text ≡ text_of one → found ≡ Some one

-- What was found is such a thing, and the first of them: each is it, or comes behind it.
pub record Finds {A : Type 0} (Before : A → A → Type 0) (Is : A → Type 0) (found : Option A) : Type 0 where
  pub is : IfSome found Is
  pub only : (one : A) → Is one → IsSomeAnd found (λ first. (first ≡ one) ⊎ Before first one)

-- Of two things with numbers the first has the lesser number; or the same, and comes before the other by what else it is.
abbrev pub Precedes : {B : Type 0} → (B → B → Type 0) → ℕ × B → ℕ × B → Type 0
Precedes Inner one other = (one.0 < other.0) ⊎ ((one.0 ≡ other.0) × Inner one.1 other.1)

-- No thing comes before another.
abbrev pub NoneBefore : {B : Type 0} → B → B → Type 0
NoneBefore one other = ⊥

-- A text of two parts with a space between them: what its parts are, and the first of such pairs. Its first
-- part is one thing at most.
pub record Pairs {A B : Type 0} (IsFirst : A → Type 0) (first_text : A → List ℕ) (Before : B → B → Type 0) (IsSecond : A → B → Type 0) (second_text : A → B → List ℕ) (text : List ℕ) (found : Option (A × B)) : Type 0 where
  pub finds : Finds (λ (one other : A × B). Before one.1 other.1) (Spells (λ (pair : A × B). IsFirst pair.0 × IsSecond pair.0 pair.1) (λ (pair : A × B). first_text pair.0 ++ 32 ∷ second_text pair.0 pair.1) text) found

-- Anything of its type.
abbrev pub IsAny : {A : Type 0} → A → Type 0
IsAny one = Unit {0}

-- A text is cut at the first such byte, or has none.
abbrev pub Cuts : ℕ → List ℕ → Option (Bor (List ℕ) × Bor (List ℕ)) → Type 0
Cuts byte text None = Lacks byte text
Cuts byte text (Some (front, rest)) = (text ≡ front.now ++ byte ∷ rest.now) × Lacks byte front.now

-- whether the path is an executive's
abbrev pub is_executive : Path → Bool
is_executive own = option_map_or path.is_executive (slice_get own.names (length own.names - 1)) false

-- A number of 64 bits, or of 32.
abbrev pub IsCount : ℕ → Type 0
IsCount number = number < 2 ^ 64

abbrev pub IsSmall : ℕ → Type 0
IsSmall number = number < 2 ^ 32

-- a line and a column
abbrev pub IsPlace : ℕ × ℕ → Type 0
IsPlace place = IsSmall place.0 × IsSmall place.1

abbrev pub place_text : ℕ × ℕ → List ℕ
place_text place = decimal place.0 ++ 58 ∷ decimal place.1

-- a time, if there is one
abbrev pub IsWhen : When → Type 0
IsWhen (At time) = IsCount time
IsWhen Never = Unit {0}

abbrev pub when_text : When → List ℕ
when_text (At time) = decimal time
when_text Never = codes "never"

-- Values of the types of state variables, and when that state is left.
pub record IsSettled (states : List Field) (types : Types) (settled : List Value × When) : Type 0 where
  pub typed : fill (map (has_type types) settled.0) states ≡ true
  pub next : IsWhen settled.1

abbrev pub settled_text : List Field → Types → List Value × When → List ℕ
settled_text states types settled = codes "{" ++ (fields_text types states settled.0 ++ (codes " next " ++ when_text settled.1))

-- A port of these, and a value of its type.
pub record IsPassed (ports : List Field) (types : Types) (passed : ℕ × Value) : Type 0 where
  pub small : IsSmall passed.0
  pub port : Field
  pub at : slice_get ports passed.0 ≡ Some port
  pub typed : HasType types passed.1 port.ty

abbrev pub passed_text : List Field → Types → ℕ × Value → List ℕ
passed_text ports types passed = port_name ports passed.0 ++ (codes " " ++ spelling types passed.1)
