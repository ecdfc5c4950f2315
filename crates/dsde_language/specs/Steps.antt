-- One step after another, up to the first wrong thing.
use Rattle.std.specs.Prelude.{ℕ, ◌+◌, min, nat_lt, Bool, if◌then◌else◌, List, Result, Ok, Err}
use Rattle.std.specs.List.{list_any}
use Rattle.std.specs.Str.{bytes_eq}
use Rattle.dsde_syntax.specs.declared.id.Id.{Id}
use Rattle.dsde_language.specs.declared.wrong.Wrong.{Wrong}
use Rattle.dsde_language.specs.declared.wrong.WrongKind.{WrongKind}
use Rattle.dsde_language.specs.declared.wrong.WrongKind.TheVariants.{Duplicate, Limit}

-- the next step on what a step gave, or what was wrong before it
infixl 10 ◌>>=◌
abbrev pub ◌>>=◌ : {A B F : Type 0} → Result A F → (A → Result B F) → Result B F
Ok value >>= next = next value
Err failure >>= next = Err failure

-- something wrong at a place
abbrev pub wrong : {A : Type 0} → WrongKind → ℕ → Result A Wrong
wrong kind at = Err (record { kind = kind; at = at })

-- a test that nothing is wrong
abbrev pub Test : Type 0
Test = Result (Unit {0}) Wrong

-- where this holds, something is wrong
abbrev pub unless : Bool → WrongKind → ℕ → Test
unless fails kind at = if fails then wrong kind at else Ok tt

-- A name differs from others.
abbrev pub apart : List (List ℕ) → Id → Test
apart names id = unless (list_any (λ name. bytes_eq name id.name) names) Duplicate id.at

-- the height of what stands on parts of this height; counted up to 513, which is above the limit
abbrev pub above : ℕ → ℕ
above height = min height 512 + 1

-- Parts are no higher than 512.
abbrev pub within : ℕ → ℕ → Test
within at height = unless (nat_lt 512 height) Limit at
