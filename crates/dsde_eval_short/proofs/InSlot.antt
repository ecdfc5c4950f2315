-- A list that is changed in its slot.
use Rattle.std.proofs.Common.{◌≡◌, ◌≢◌, ◌<◌, ℕ, zero, suc, Bool, true, List, [], ◌∷◌, length, Option, Some, Result, Ok, Err, ap, sym, ◌∙◌, arith, slice_get, lt-ltb}
use Rattle.std.specs.Prelude.{slice_set, nat_lt, if◌then◌else◌}
use Rattle.dsde_values.specs.declared.arrival.Item.{Item}
use Rattle.dsde_values.specs.declared.value.Value.{Value}
use Rattle.dsde_faults.specs.declared.end.EvalEnd.{EvalEnd}
use Rattle.dsde_faults.specs.declared.end.EvalEnd.TheVariants as end_of
use Rattle.dsde_language.specs.Outcome.{Fault, Outcome, Stuck, ◌>>=◌, present}
use Rattle.dsde_language.specs.Flow.{Flow, over, stopped, why}
use Rattle.dsde_language.specs.MeaningTables.{Flows, State, set_slot, state_of}
use Rattle.dsde_eval_short.specs.Changes.{Changes, made_in}

-- what stands in a slot, put there again
set-again : (slots : List Value) (slot : ℕ) (own : Value) → slice_get slots slot ≡ Some own → slice_set slots slot own ≡ slots
set-again [] slot own found = absurd (cc found)
set-again (first ∷ slots) zero own found = ap (λ (v : Value). v ∷ slots) (cc (sym found))
set-again (first ∷ slots) (suc slot) own found = ap (λ (rest : List Value). first ∷ rest) (set-again slots slot own found)

below : (slots : List Value) (slot : ℕ) (own : Value) → slice_get slots slot ≡ Some own → slot < length slots
below [] slot own found = absurd (cc found)
below (first ∷ slots) zero own found = omega arith
below (first ∷ slots) (suc slot) own found = omega (arith, below slots slot own found)

is-within : (slots : List Value) (slot : ℕ) (own : Value) → slice_get slots slot ≡ Some own → nat_lt slot (length slots) ≡ true
is-within slots slot own found = lt-ltb slot (length slots) (below slots slot own found)

abbrev set_to : ℕ → State → Outcome Value → Flow State State
set_to slot state own = over state own >>= (λ value. set_slot slot value state)

module _ (slot : ℕ) (slots : List Value) (sends : List Item) (made : Value → Outcome Value) (list : Value) (found : slice_get slots slot ≡ Some list) where
  abbrev state : State
  state = state_of slots sends

  is-made : made_in slot made state ≡ set_to slot state (made list)
  is-made = ap (λ (o : Option Value). set_to slot state (present o >>= made)) found

  -- The change is not stuck where it is not in its slot.
  pub may-change : why (made_in slot made state) ≢ Some Stuck → made list ≢ Err Stuck
  may-change not_stuck = λ e. not_stuck (ap (λ (flow : Flow State State). why flow) is-made ∙ ap (λ (own : Outcome Value). why (set_to slot state own)) e)

  -- what a list that was changed in its slot leaves
  pub changed-there : (new : Value) (result : Result (Unit {0}) EvalEnd) → Changes (made list) result list new → Flows (made_in slot made state) result (slice_set slots slot new) sends
  changed-there new (Ok _) is =
      is-made ∙ ap (set_to slot state) is
      ∙ ap (λ (holds : Bool). if holds then Ok (state_of (slice_set slots slot new) sends) else stopped state Stuck) (is-within slots slot list found)
  changed-there new (Err (end_of.Fault kind at)) (is, kept) =
      is-made ∙ ap (set_to slot state) is
      ∙ ap (λ (own : List Value). stopped (state_of own sends) (Fault kind at)) (sym (ap (slice_set slots slot) kept ∙ set-again slots slot list found))
  changed-there new (Err end_of.Memory) is = tt

  pub kept-there : (new : Value) (result : Result (Unit {0}) EvalEnd) → Changes (made list) result list new → result ≡ Err end_of.Memory → slice_set slots slot new ≡ slots
  kept-there new (Ok _) is e = absurd (cc e)
  kept-there new (Err end) (is, kept) e = ap (slice_set slots slot) kept ∙ set-again slots slot list found
