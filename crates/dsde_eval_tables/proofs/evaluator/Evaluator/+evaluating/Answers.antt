-- A node and a block at a depth, and an assignment.
use Rattle.std.proofs.Common.{Some, List, rules, sym, ◌∙◌, ap, subst, arith}
use Rattle.dsde_language.specs.Outcome.{Outcome, Gives}
use Rattle.dsde_language.specs.MeaningTables.{state_of}
use Rattle.dsde_values.specs.declared.value.Value.{Value}
use Rattle.dsde_eval_tables.specs.Spots.{Reaches}
use Rattle.dsde_eval_tables.specs.Evaluating.{coded_of}
use Rattle.dsde_eval_tables.proofs.Assigning.{may-change, assigns}
use Rattle.dsde_eval_tables.proofs.Depths.{part-at, passes-at}
use Rattle.dsde_eval_tables.proofs.evaluator.Evaluator.+evaluating.Goals as goal

pub reach-node-requires : goal.reach-node-requires
reach-node-requires t c = (search rules, λ e. c.requires (part-at (coded_of c.args.self.now) c.args.depth c.args.number c.args.slots.now c.in-Some.node.now (omega arith) (sym c.in-Some.ensures.value) ∙ e))

pub reach-returns-clause-gives : goal.reach-returns-clause-gives
reach-returns-clause-gives t c =
    let at = part-at (coded_of c.args.self.now) c.args.depth c.args.number c.args.slots.now c.in-Some.node.now (omega arith) (sym c.in-Some.ensures.value) in
    subst (λ (meant : Outcome Value). Reaches meant c.node.result c.args.slots.now) (sym at) c.node.ensures.gives

pub eval-value-requires : goal.eval-value-requires
eval-value-requires t c = (search rules, λ e. c.requires (part-at (coded_of c.args.self.now) c.args.depth c.args.number c.args.slots.now c.in-Some.node.now (omega arith) (sym c.in-Some.ensures.value) ∙ e))

pub eval-returns-clause-gives : goal.eval-returns-clause-gives
eval-returns-clause-gives t c =
    let at = part-at (coded_of c.args.self.now) c.args.depth c.args.number c.args.slots.now c.in-Some.node.now (omega arith) (sym c.in-Some.ensures.value) in
    subst (λ (meant : Outcome Value). Gives meant c.value.result) (sym at) c.value.ensures.gives

pub block-returns-clause-passes : goal.block-returns-clause-passes
block-returns-clause-passes t c = λ is.
    passes-at (coded_of c.args.self.now) c.args.depth c.args.number (state_of c.args.slots.now c.args.sends.now) (state_of c.acts.new.slots c.acts.new.sends) c.as_slice.result.now (omega arith)
    (sym c.in-Some.ensures.value ∙ ap Some (sym c.as_slice.ensures))
    (c.acts.ensures.passes is)

pub set-change-requires : goal.set-change-requires
set-change-requires t c = (
  omega (arith, c.saturating_sub.ensures),
  may-change c.changes_are_assignments.ensures (coded_of c.args.self.now) c.args.depth c.saturating_sub.result c.args.slot c.args.number c.in-Some.change
      (state_of c.args.slots.now c.args.sends.now) c.saturating_sub.ensures c.in-Some.ensures c.requires,
)

pub set-returns-in-Some-clause-flows : goal.set-returns-in-Some-clause-flows
set-returns-in-Some-clause-flows t c =
    assigns c.changes_are_assignments.ensures (coded_of c.args.self.now) c.args.depth c.saturating_sub.result c.args.slot c.args.number c.in-Some.change
    (state_of c.args.slots.now c.args.sends.now) c.saturating_sub.ensures c.in-Some.ensures c.requires c.change.result c.change.new.slots c.args.sends.now c.change.ensures.flows

pub set-returns-in-Some-clause-passes : goal.set-returns-in-Some-clause-passes
set-returns-in-Some-clause-passes t c = λ is. ap (λ (slots : List Value). state_of slots c.args.sends.now) (c.change.ensures.keeps is)
