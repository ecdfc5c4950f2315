-- One step further inwards, and what a field is by a step.
use Rattle.std.proofs.Common.{◌≡◌, ◌≢◌, ℕ, List, [], ◌∷◌, ◌++◌, Option, Some, None, Result, Ok, Err, refl, ap, sym, ◌∙◌, slice_get}
use Rattle.dsde_values.specs.declared.value.Value.{Value, Value-F, out-Value}
use Rattle.dsde_values.specs.declared.value.Value.TheOpen as layer
use Rattle.dsde_language.specs.Outcome.{Halt, Outcome, Stuck, ◌>>=◌, present}
use Rattle.dsde_faults.specs.declared.end.EvalEnd.{EvalEnd}
use Rattle.dsde_faults.specs.declared.end.EvalEnd.TheVariants as end_of
use Rattle.dsde_eval_short.specs.given.eval_operators.Lends.{StandsIn}
use Rattle.dsde_language.specs.MeaningTables.{field_at}
use Rattle.dsde_values.specs.declared.value.Value.TheVariants as value
use Rattle.dsde_eval_tables.specs.declared.spot.Got.{Got}
use Rattle.dsde_eval_tables.specs.declared.spot.Got.TheVariants as got_of
use Rattle.dsde_eval_tables.specs.declared.spot.Spot.{Spot}
use Rattle.dsde_eval_tables.specs.Spots.{step_of, stepped, reached, standing, further, found_in, found, field_standing, Steps}

-- what there is, or the end that came before it
last : (found : Outcome Value) → (found >>= (λ inner. Ok inner)) ≡ found
last (Ok inner) = refl
last (Err halt) = refl

along : (found : Outcome Value) (front back : Value → Outcome Value) (step : ℕ) (inner : Value) → ((own : Value) → front own ≡ Ok inner → back own ≡ stepped inner step) → (found >>= front) ≡ Ok inner → (found >>= back) ≡ stepped inner step
along (Ok own) front back step inner each is = each own is
along (Err halt) front back step inner each is = cc

pub reached-append : (steps : List ℕ) (step : ℕ) (own inner : Value) → reached steps own ≡ Ok inner → reached (steps ++ step ∷ []) own ≡ stepped inner step
reached-append [] step own inner is = last (stepped own step) ∙ ap (λ (v : Outcome Value). v >>= (λ found. stepped found step)) is
reached-append (first ∷ steps) step own inner is =
    along (stepped own first) (λ mid. reached steps mid) (λ mid. reached (steps ++ step ∷ []) mid) step inner (λ mid e. reached-append steps step mid inner e) is

pub stands-slot : (slot : ℕ) (slots : List Value) → standing (record { slot = slot; steps = [] }) slots ≡ present (slice_get slots slot)
unfolding standing
stands-slot slot slots = last (present (slice_get slots slot))

pub stands-further : (spot : Spot) (step : ℕ) (slots : List Value) (own : Value) → standing spot slots ≡ Ok own → standing (further spot step) slots ≡ stepped own step
unfolding standing
stands-further spot step slots own is =
    along (present (slice_get slots spot.slot)) (λ mid. reached spot.steps mid) (λ mid. reached (spot.steps ++ step ∷ []) mid) step own (λ mid e. reached-append spot.steps step mid own e) is

-- nothing that is found is a fault
present-stuck : {A : Type 0} (own : Option A) (halt : Halt) → present own ≡ Err halt → halt ≡ Stuck
present-stuck None halt is = cc
present-stuck (Some own) halt is = cc

step-stuck : (own : Value-F Value) (step : ℕ) (halt : Halt) → step_of own step ≡ Err halt → halt ≡ Stuck
step-stuck (layer.Rec number parts) step halt is = present-stuck (slice_get parts step) halt is
step-stuck (layer.List items) step halt is = present-stuck (slice_get items step) halt is
step-stuck (layer.Some inner) step halt is = cc
step-stuck (layer.Int number) step halt is = cc
step-stuck (layer.Bool truth) step halt is = cc
step-stuck (layer.Enum number variant) step halt is = cc
step-stuck layer.Nothing step halt is = cc

then-stuck : (own : Outcome Value) (next : Value → Outcome Value) (halt : Halt) → ((h : Halt) → own ≡ Err h → h ≡ Stuck) → ((v : Value) (h : Halt) → next v ≡ Err h → h ≡ Stuck) → (own >>= next) ≡ Err halt → halt ≡ Stuck
then-stuck (Ok v) next halt first each is = each v halt is
then-stuck (Err h) next halt first each is = first halt is

reached-stuck : (steps : List ℕ) (own : Value) (halt : Halt) → reached steps own ≡ Err halt → halt ≡ Stuck
reached-stuck [] own halt is = cc
reached-stuck (step ∷ steps) own halt is =
    then-stuck (stepped own step) (λ v. reached steps v) halt (λ h e. step-stuck (out-Value own) step h e) (λ v h e. reached-stuck steps v h e) is

standing-stuck : (spot : Spot) (slots : List Value) (halt : Halt) → standing spot slots ≡ Err halt → halt ≡ Stuck
unfolding standing
standing-stuck spot slots halt is =
    then-stuck (present (slice_get slots spot.slot)) (λ v. reached spot.steps v) halt (λ h e. present-stuck (slice_get slots spot.slot) h e) (λ v h e. reached-stuck spot.steps v h e) is

abbrev err : Halt → Outcome Value
err halt = Err halt

-- what an outcome is that is no fault
abbrev settled : Outcome Value → Value
settled own = elim own [ Ok v ↦ v | Err _ ↦ value.Nothing ]

settle : (own : Outcome Value) → ((h : Halt) → own ≡ Err h → h ≡ Stuck) → own ≢ Err Stuck → own ≡ Ok (settled own)
settle (Ok v) each not_stuck = refl
settle (Err h) each not_stuck = absurd (not_stuck (ap (λ (k : Halt). err k) (each h refl)))

pub found-there : (got : Got) (slots : List Value) → found_in got slots ≢ Err Stuck → found_in got slots ≡ Ok (found got slots)
found-there (got_of.Own own) slots not_stuck = refl
found-there (got_of.At spot) slots not_stuck = settle (standing spot slots) (λ h e. standing-stuck spot slots h e) not_stuck

-- a field is one step further inwards
abbrev parts_layer : Value-F Value → Outcome (List Value)
parts_layer own = elim own [ layer.Rec number parts ↦ Ok parts | _ ↦ Err Stuck ]

abbrev field_layer : Value-F Value → ℕ → Outcome Value
field_layer own number = parts_layer own >>= (λ parts. present (slice_get parts number))

field-step : (own : Value-F Value) (number : ℕ) → field_layer own number ≢ Err Stuck → field_layer own number ≡ step_of own number
field-step (layer.Rec of parts) number not_stuck = refl
field-step (layer.List items) number not_stuck = absurd (not_stuck refl)
field-step (layer.Some inner) number not_stuck = absurd (not_stuck refl)
field-step (layer.Int own) number not_stuck = refl
field-step (layer.Bool truth) number not_stuck = refl
field-step (layer.Enum of variant) number not_stuck = refl
field-step layer.Nothing number not_stuck = refl

field-along : (number : ℕ) (own : Outcome Value) (then : Outcome Value) → ((h : Halt) → own ≡ Err h → h ≡ Stuck) → ((v : Value) → own ≡ Ok v → then ≡ stepped v number) → (own >>= (λ v. field_at number v)) ≢ Err Stuck → (own >>= (λ v. field_at number v)) ≡ then
field-along number (Ok v) then first each not_stuck = field-step (out-Value v) number not_stuck ∙ sym (each v refl)
field-along number (Err h) then first each not_stuck = absurd (not_stuck (ap (λ (k : Halt). err k) (first h refl)))

pub field-stands : (number : ℕ) (spot : Spot) (slots : List Value) → field_standing number spot slots ≢ Err Stuck → field_standing number spot slots ≡ standing (further spot number) slots
field-stands number spot slots not_stuck =
    field-along number (standing spot slots) (standing (further spot number) slots) (λ h e. standing-stuck spot slots h e) (λ v e. stands-further spot number slots v e) not_stuck

-- an item is one step further inwards
abbrev items_layer : Value-F Value → Outcome (List Value)
items_layer own = elim own [ layer.List items ↦ Ok items | _ ↦ Err Stuck ]

abbrev item_layer : Value-F Value → ℕ → Outcome Value
item_layer own place = items_layer own >>= (λ items. present (slice_get items place))

item-step : (own : Value-F Value) (place : ℕ) → item_layer own place ≢ Err Stuck → item_layer own place ≡ step_of own place
item-step (layer.List items) place not_stuck = refl
item-step (layer.Rec of parts) place not_stuck = absurd (not_stuck refl)
item-step (layer.Some inner) place not_stuck = absurd (not_stuck refl)
item-step (layer.Int own) place not_stuck = refl
item-step (layer.Bool truth) place not_stuck = refl
item-step (layer.Enum of variant) place not_stuck = refl
item-step layer.Nothing place not_stuck = refl

pub steps-in : (list : Value) (meant : Outcome Value) (answer : Result ℕ EvalEnd) → meant ≢ Err Stuck → StandsIn list meant answer → Steps meant list answer
steps-in list meant (Ok place) not_stuck is = is ∙ item-step (out-Value list) place (λ e. not_stuck (is ∙ e))
steps-in list meant (Err (end_of.Fault kind at)) not_stuck is = is
steps-in list meant (Err end_of.Memory) not_stuck is = tt

pub ruleset steps = (stands-slot, stands-further)

pub ruleset laws = (found-there, field-stands)
