-- An assignment of a list that is made anew from the list in the same slot.
use Rattle.std.proofs.Common.{◌≡◌, ◌≢◌, ℕ, zero, suc, ◌-◌, Option, Some, None, Ok, Err, refl, ap, ◌∙◌, arith, slice_get}
use Rattle.dsde_values.specs.declared.value.Value.{Value}
use Rattle.dsde_language.specs.declared.operator.Builtin.TheVariants as builtin
use Rattle.dsde_language.specs.declared.node_ids.ExprId.{ExprId}
use Rattle.dsde_language.specs.declared.act.Act.TheVariants as act
use Rattle.dsde_language.specs.declared.node.Node.{Node}
use Rattle.dsde_language.specs.declared.node.Node.TheVariants as node
use Rattle.dsde_language.specs.Outcome.{Outcome, Stuck, ◌>>=◌, present}
use Rattle.dsde_language.specs.MeaningOperators.{of_three}
use Rattle.dsde_language.specs.Flow.{Flow, over, why}
use Rattle.dsde_language.specs.MeaningTables.{Coded, State, means_in, act_flow, node_at, set_slot}
use Rattle.dsde_eval_short.specs.declared.change.Change.{Change}
use Rattle.dsde_eval_short.specs.declared.change.Change.TheVariants as change
use Rattle.dsde_eval_short.specs.declared.change.Which.TheVariants as which
use Rattle.dsde_eval_short.specs.Changes.{IsChange, changed_in, made_by, changing}

abbrev set_to : ℕ → State → Outcome Value → Flow State State
set_to slot state own = over state own >>= (λ value. set_slot slot value state)

-- what stands in a slot, and what is made of it and of the expressions beside it
abbrev in_turn : Outcome Value → (Value → Value → Outcome Value) → Outcome Value → Outcome Value
in_turn list made one = list >>= (λ first. one >>= (λ second. made first second))

abbrev in_turn_of_two : Outcome Value → (Value → Value → Value → Outcome Value) → Outcome Value → Outcome Value → Outcome Value
in_turn_of_two list made one two = list >>= (λ first. one >>= (λ second. two >>= (λ third. made first second third)))

-- The name of a slot has no fault, so that it may be looked at last.
by-one : (slot : ℕ) (state : State) (found : Option Value) (made : Value → Value → Outcome Value) (one : Outcome Value) → why (set_to slot state (in_turn (present found) made one)) ≢ Some Stuck
    → set_to slot state (in_turn (present found) made one) ≡ (over state one >>= (λ other. set_to slot state (present found >>= (λ list. made list other))))
by-one slot state None made one not_stuck = absurd (not_stuck refl)
by-one slot state (Some first) made (Ok own) not_stuck = refl
by-one slot state (Some first) made (Err halt) not_stuck = refl

by-two : (slot : ℕ) (state : State) (found : Option Value) (made : Value → Value → Value → Outcome Value) (one two : Outcome Value) → why (set_to slot state (in_turn_of_two (present found) made one two)) ≢ Some Stuck
    → set_to slot state (in_turn_of_two (present found) made one two)
    ≡ (over state one >>= (λ place. over state two >>= (λ other. set_to slot state (present found >>= (λ list. made list place other)))))
by-two slot state None made one two not_stuck = absurd (not_stuck refl)
by-two slot state (Some first) made (Ok own) (Ok other) not_stuck = refl
by-two slot state (Some first) made (Ok own) (Err halt) not_stuck = refl
by-two slot state (Some first) made (Err halt) two not_stuck = refl

module _ (coded : Coded) (depth slot : ℕ) (state : State) where
  -- what the parts of a node come to, at a depth with two more above it
  abbrev part : ExprId → Outcome Value
  part number = (means_in coded (suc depth)).part number state.slots

  abbrev found : Option Value
  found = slice_get state.slots slot

  -- the assignment, by what the node comes to where the list is the slot's
  abbrev meant : Change → Outcome Value
  meant (change.By own at number) = in_turn (present found) (λ list other. made_by own at list other) (part number)
  meant (change.Put at index number) = in_turn_of_two (present found) (λ list place other. of_three builtin.Put at list place other) (part index) (part number)

  named : (own : Change) (list : ExprId) → slice_get coded.nodes list.0 ≡ Some (node.Slot slot) → node_at (means_in coded (suc depth)) coded.functions (Some (changing own list)) state.slots ≡ meant own
  unfolding means_in
  named (change.By which.Push at number) list is = ap (λ (o : Option Node). in_turn (node_at (means_in coded depth) coded.functions o state.slots) (λ list other. made_by which.Push at list other) (part number)) is
  named (change.By which.Take at number) list is = ap (λ (o : Option Node). in_turn (node_at (means_in coded depth) coded.functions o state.slots) (λ list other. made_by which.Take at list other) (part number)) is
  named (change.By which.Skip at number) list is = ap (λ (o : Option Node). in_turn (node_at (means_in coded depth) coded.functions o state.slots) (λ list other. made_by which.Skip at list other) (part number)) is
  named (change.By which.Join at number) list is = ap (λ (o : Option Node). in_turn (node_at (means_in coded depth) coded.functions o state.slots) (λ list other. made_by which.Join at list other) (part number)) is
  named (change.Put at index number) list is = ap (λ (o : Option Node). in_turn_of_two (node_at (means_in coded depth) coded.functions o state.slots) (λ list place other. of_three builtin.Put at list place other) (part index) (part number)) is

  last : (own : Change) → why (set_to slot state (meant own)) ≢ Some Stuck → set_to slot state (meant own) ≡ changed_in (means_in coded (suc depth)).part slot own state
  last (change.By own at number) not_stuck = by-one slot state found (λ list other. made_by own at list other) (part number) not_stuck
  last (change.Put at index number) not_stuck = by-two slot state found (λ list place other. of_three builtin.Put at list place other) (part index) (part number) not_stuck

not-named : (coded : Coded) (state : State) (own : Change) (list : ExprId) → node_at (means_in coded zero) coded.functions (Some (changing own list)) state.slots ≡ Err Stuck
unfolding means_in
not-named coded state (change.By which.Push at number) list = refl
not-named coded state (change.By which.Take at number) list = refl
not-named coded state (change.By which.Skip at number) list = refl
not-named coded state (change.By which.Join at number) list = refl
not-named coded state (change.Put at index number) list = refl

pub are-changes : (coded : Coded) (depth slot : ℕ) (number : ExprId) (own : Change) (state : State) → IsChange coded.nodes slot number own
    → why (act_flow (means_in coded depth) (act.Set slot number) state) ≢ Some Stuck
    → act_flow (means_in coded depth) (act.Set slot number) state ≡ changed_in (means_in coded (depth - 1)).part slot own state
unfolding means_in
are-changes coded zero slot number own state is not_stuck = absurd (not_stuck refl)
are-changes coded (suc zero) slot number own state (there, stands, (list, is, slot_is)) not_stuck =
    absurd (not_stuck (ap (λ (o : Option Node). why (set_to slot state (node_at (means_in coded zero) coded.functions o state.slots))) (stands ∙ ap Some is)
    ∙ ap (λ (found : Outcome Value). why (set_to slot state found)) (not-named coded state own list)))
are-changes coded (suc (suc depth)) slot number own state (there, stands, (list, is, slot_is)) not_stuck =
    let minus : suc (suc depth) - 1 ≡ suc depth = omega arith in
    let e : set_to slot state ((means_in coded (suc (suc depth))).part number state.slots) ≡ set_to slot state (meant coded depth slot state own) =
    ap (λ (o : Option Node). set_to slot state (node_at (means_in coded (suc depth)) coded.functions o state.slots)) (stands ∙ ap Some is)
    ∙ ap (set_to slot state) (named coded depth slot state own list slot_is) in
    rw minus (e ∙ last coded depth slot state own (λ stuck. not_stuck (ap (λ (flow : Flow State State). why flow) e ∙ stuck)))

pub ruleset changes = are-changes
