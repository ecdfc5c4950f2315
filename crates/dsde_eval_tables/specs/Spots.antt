-- Where a value stands in the slots, or the value itself.
use Rattle.std.specs.Prelude.{◌≡◌, ℕ, Bool, if◌then◌else◌, List, [], ◌∷◌, ◌++◌, Option, Some, None, Result, Ok, Err, slice_get}
use Rattle.dsde_values.specs.declared.value.Value.{Value, Value-F, out-Value}
use Rattle.dsde_values.specs.declared.value.Value.TheOpen as layer
use Rattle.dsde_values.specs.declared.value.Value.TheVariants as value
use Rattle.dsde_faults.specs.declared.end.EvalEnd.{EvalEnd}
use Rattle.dsde_faults.specs.declared.end.EvalEnd.TheVariants as end_of
use Rattle.dsde_language.specs.Outcome.{Outcome, Fault, Stuck, ◌>>=◌, present, option_of}
use Rattle.dsde_language.specs.MeaningOperators.{unwrapped, indexed, of_one}
use Rattle.dsde_language.specs.MeaningTables.{field_at}
use Rattle.dsde_language.specs.declared.operator.Builtin.{Builtin}
use Rattle.dsde_eval_tables.specs.declared.spot.Got.{Got}
use Rattle.dsde_eval_tables.specs.declared.spot.Got.TheVariants as got_of
use Rattle.dsde_eval_tables.specs.declared.spot.Spot.{Spot}

-- the value one step inwards of a value: a field, an item, or what an option holds
abbrev pub step_of : Value-F Value → ℕ → Outcome Value
step_of (layer.Rec number parts) step = present (slice_get parts step)
step_of (layer.List items) step = present (slice_get items step)
step_of (layer.Some inner) step = Ok inner
step_of _ step = Err Stuck

abbrev pub stepped : Value → ℕ → Outcome Value
stepped own step = step_of (out-Value own) step

-- the value some steps inwards
abbrev pub reached : List ℕ → Value → Outcome Value
reached [] own = Ok own
reached (step ∷ steps) own = stepped own step >>= (λ inner. reached steps inner)

-- the value that stands at a spot
unfoldable pub standing : Spot → List Value → Outcome Value
standing spot slots = present (slice_get slots spot.slot) >>= (λ own. reached spot.steps own)

-- the spot one step further inwards
abbrev pub further : Spot → ℕ → Spot
further spot step = record { slot = spot.slot; steps = spot.steps ++ step ∷ [] }

-- the value that was made, or that stands at the spot
abbrev pub found_in : Got → List Value → Outcome Value
found_in (got_of.Own own) slots = Ok own
found_in (got_of.At spot) slots = standing spot slots

-- that value, and an empty option where there is none
abbrev pub found : Got → List Value → Value
found got slots = elim (found_in got slots) [ Ok own ↦ own | Err _ ↦ value.Nothing ]

-- a field of the record at a spot, and of the record that was found
abbrev pub field_standing : ℕ → Spot → List Value → Outcome Value
field_standing number spot slots = standing spot slots >>= (λ own. field_at number own)

abbrev pub field_in : ℕ → Got → List Value → Outcome Value
field_in number got slots = found_in got slots >>= (λ own. field_at number own)

-- what the option that was found holds
abbrev pub held_at : Got → List Value → Outcome (Option Value)
held_at got slots = found_in got slots >>= (λ own. option_of own)

-- what an option holds, by whether it holds a value
abbrev pub holding : Bool → Value → Outcome (Option Value)
holding holds own = if holds then (stepped own 0 >>= (λ inner. Ok (Some inner))) else Ok None

-- `!`, an index and a builtin of one argument, of what was found
abbrev pub unwrapped_at : ℕ → Got → List Value → Outcome Value
unwrapped_at at got slots = found_in got slots >>= (λ own. unwrapped at own)

abbrev pub indexed_at : ℕ → Got → Value → List Value → Outcome Value
indexed_at at got index slots = found_in got slots >>= (λ own. indexed at own index)

abbrev pub one_at : Builtin → Got → List Value → Outcome Value
one_at which got slots = found_in got slots >>= (λ own. of_one which own)

-- The answer is the value that is meant, or where it stands, or memory ran out.
abbrev pub Reaches : Outcome Value → Result Got EvalEnd → List Value → Type 0
Reaches meant (Ok got) slots = meant ≡ found_in got slots
Reaches meant (Err (end_of.Fault kind at)) slots = meant ≡ Err (Fault kind at)
Reaches meant (Err end_of.Memory) slots = Unit {0}

-- The same of what an option holds, if it holds a value.
abbrev pub Holds : Outcome (Option Value) → Option Got → List Value → Type 0
Holds meant None slots = meant ≡ Ok None
Holds meant (Some got) slots = meant ≡ (found_in got slots >>= (λ inner. Ok (Some inner)))

-- The answer is the step to the value that is meant, or memory ran out.
abbrev pub Steps : Outcome Value → Value → Result ℕ EvalEnd → Type 0
Steps meant own (Ok step) = meant ≡ stepped own step
Steps meant own (Err (end_of.Fault kind at)) = meant ≡ Err (Fault kind at)
Steps meant own (Err end_of.Memory) = Unit {0}
