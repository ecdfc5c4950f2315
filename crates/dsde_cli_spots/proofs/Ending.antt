-- Steps one after another: what has no value ends as one of them does.
use Rattle.std.proofs.Common.{◌≡◌, ℕ, Bool, true, false, zero, suc, List, [], ◌∷◌, Option, Some, Result, Ok, Err, refl, subst}
use Rattle.std.specs.Prelude.{◌<◌, if◌then◌else◌, slice_get}
use Rattle.std.specs.List.{AllByRecursion}
use Rattle.dsde_language.specs.Outcome.{Halt, Fault, Stuck, ◌>>=◌}
use Rattle.dsde_formalism.specs.Leaf as leaf
use Rattle.dsde_cli_spots.specs.Placed.{Ends}

-- a fault stands at one of so many tokens
abbrev pub IsBelow : ℕ → Halt → Type 0
IsBelow n (Fault kind at) = at < n
IsBelow n Stuck = Unit {0}

pub ends-then : {A B H : Type 0} (P : H → Type 0) (own : Result A H) (next : A → Result B H) → Ends P own → ((value : A) → Ends P (next value)) → Ends P (own >>= next)
ends-then P (Ok value) next one two = two value
ends-then P (Err why) next one two = one

-- the next step where it is taken
pub ends-on : {A B H : Type 0} (P : H → Type 0) (own : Result A H) (next : A → Result B H) → Ends P own → ((value : A) → own ≡ Ok value → Ends P (next value)) → Ends P (own >>= next)
ends-on P (Ok value) next one two = two value refl
ends-on P (Err why) next one two = one

pub leaf-then : {A B H : Type 0} (P : H → Type 0) (own : Result A H) (next : A → Result B H) → Ends P own → ((value : A) → Ends P (next value)) → Ends P (leaf.◌>>=◌ own next)
leaf-then P (Ok value) next one two = two value
leaf-then P (Err why) next one two = one

pub ends-if : {A H : Type 0} (P : H → Type 0) (test : Bool) (one other : Result A H) → Ends P one → Ends P other → Ends P (if test then one else other)
ends-if P true one other own else_own = own
ends-if P false one other own else_own = else_own

the-own : {A : Type 0} (own other : A) → (let found : Option A = Some own in found ≡ Some other) → own ≡ other
the-own own other is = cc

-- what stands at a place of a list has what holds of each
pub each-at : {A : Type 0} (P : A → Type 0) (list : List A) → AllByRecursion P list → (place : ℕ) (own : A) → slice_get list place ≡ Some own → P own
each-at P [] all place own is = cc
each-at P (first ∷ list) all zero own is = subst P (the-own first own is) all.0
each-at P (first ∷ list) all (suc place) own is = each-at P list all.1 place own is
