-- What an expression comes to: a value, or the first fault with its place.
use Rattle.std.specs.Prelude.{◌≡◌, ℕ, ℤ, Bool, List, Option, Some, None, Result, Ok, Err}
use Rattle.dsde_values.specs.declared.value.Value.{Value, out-Value}
use Rattle.dsde_values.specs.declared.value.Value.TheOpen as layer
use Rattle.dsde_faults.specs.declared.kind.FaultKind.{FaultKind}
use Rattle.dsde_faults.specs.declared.end.EvalEnd.{EvalEnd}
use Rattle.dsde_faults.specs.declared.end.EvalEnd.TheVariants as end_of

-- why there is no value: a fault with its place; or a value of another type, a name or a number of
-- nothing, which no model meets in which nothing is wrong
pub data Halt : Type 0 where
  Fault : (kind : FaultKind) (at : ℕ) → Halt
  Stuck : Halt

abbrev pub Outcome : Type 0 → Type 0
Outcome A = Result A Halt

-- the next step on what there is, or the end that came before it
infixl 10 ◌>>=◌
abbrev pub ◌>>=◌ : {A B H : Type 0} → Result A H → (A → Result B H) → Result B H
Ok value >>= next = next value
Err halt >>= next = Err halt

-- what stands at a number, or nothing that a model meets in which nothing is wrong
abbrev pub present : {A : Type 0} → Option A → Outcome A
present None = Err Stuck
present (Some own) = Ok own

-- what a value holds, where it is of the wanted kind
abbrev pub int_of : Value → Outcome ℤ
int_of own = elim (out-Value own) [ layer.Int number ↦ Ok number | _ ↦ Err Stuck ]

abbrev pub truth_of : Value → Outcome Bool
truth_of own = elim (out-Value own) [ layer.Bool truth ↦ Ok truth | _ ↦ Err Stuck ]

abbrev pub items_of : Value → Outcome (List Value)
items_of own = elim (out-Value own) [ layer.List items ↦ Ok items | _ ↦ Err Stuck ]

abbrev pub option_of : Value → Outcome (Option Value)
option_of own = elim (out-Value own) [ layer.Nothing ↦ Ok None | layer.Some inner ↦ Ok (Some inner) | _ ↦ Err Stuck ]

-- the values of a record's fields
abbrev pub parts_of : Value → Outcome (List Value)
parts_of own = elim (out-Value own) [ layer.Rec number parts ↦ Ok parts | _ ↦ Err Stuck ]

-- The answer is what is meant, or memory ran out.
abbrev pub Gives : {A : Type 0} → Outcome A → Result A EvalEnd → Type 0
Gives meant (Ok found) = meant ≡ Ok found
Gives meant (Err (end_of.Fault kind at)) = meant ≡ Err (Fault kind at)
Gives meant (Err end_of.Memory) = Unit {0}
