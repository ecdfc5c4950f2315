-- An assignment of a list that is made anew from the list in the same slot, by the change of that list.
use Rattle.std.proofs.Common.{◌≡◌, ◌≢◌, ℕ, ◌-◌, List, Some, Result, sym, ◌∙◌, ap, subst}
use Rattle.dsde_values.specs.declared.arrival.Item.{Item}
use Rattle.dsde_values.specs.declared.value.Value.{Value}
use Rattle.dsde_faults.specs.declared.end.EvalEnd.{EvalEnd}
use Rattle.dsde_language.specs.declared.node_ids.ExprId.{ExprId}
use Rattle.dsde_language.specs.declared.act.Act.TheVariants as act
use Rattle.dsde_language.specs.Outcome.{Stuck}
use Rattle.dsde_language.specs.Flow.{Flow, why}
use Rattle.dsde_language.specs.MeaningTables.{Coded, State, Flows, means_in, act_flow}
use Rattle.dsde_eval_short.specs.declared.change.Change.{Change}
use Rattle.dsde_eval_short.specs.Changes.{AreChanges, IsChange, changed_in}

module _ (law : AreChanges) (coded : Coded) (depth below slot : ℕ) (number : ExprId) (own : Change) (state : State) (is : below ≡ depth - 1)
    (makes : IsChange coded.nodes slot number own) (not_stuck : why (act_flow (means_in coded depth) (act.Set slot number) state) ≢ Some Stuck) where
  assigned : act_flow (means_in coded depth) (act.Set slot number) state ≡ changed_in (means_in coded below).part slot own state
  assigned =
      law coded depth slot number own state makes not_stuck
      ∙ ap (λ (n : ℕ). changed_in (means_in coded n).part slot own state) (sym is)

  pub may-change : why (changed_in (means_in coded below).part slot own state) ≢ Some Stuck
  may-change = λ e. not_stuck (ap (λ (flow : Flow State State). why flow) assigned ∙ e)

  pub assigns : (result : Result (Unit {0}) EvalEnd) (slots : List Value) (sends : List Item) → Flows (changed_in (means_in coded below).part slot own state) result slots sends
      → Flows (act_flow (means_in coded depth) (act.Set slot number) state) result slots sends
  assigns result slots sends flows = subst (λ (flow : Flow State State). Flows flow result slots sends) (sym assigned) flows
