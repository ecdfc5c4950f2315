use Rattle.std.proofs.Common.{Some, ap, ◌∙◌}
use Rattle.dsde_executive.proofs.Planned.{planned-sure, plan-gives, plan-fits}
use Rattle.dsde_executive.proofs.planning.structure.Goals as goal

pub plan-requires : goal.plan-requires
plan-requires c =
    planned-sure c.args.program.now c.args.model c.args.args.now c.args.state.now c.laws.ensures.stand c.laws.ensures.agree c.right.ensures
    c.requires.network c.requires.args c.requires.state c.planner.result c.planner.ensures.coded c.planner.ensures.depth
    c.as_slice.result.now (ap Some c.as_slice.ensures ∙ c.makes-makes.ensures) c.in_ok-slots.slots c.in_ok-slots.ensures

pub returns-clause-gives : goal.returns-clause-gives
returns-clause-gives c =
    plan-gives c.args.program.now c.args.model c.args.args.now c.args.state.now c.laws.ensures.stand c.laws.ensures.agree c.right.ensures
    c.requires.network c.requires.args c.requires.state c.planner.result c.planner.ensures.coded c.planner.ensures.depth
    c.as_slice.result.now (ap Some c.as_slice.ensures ∙ c.makes-makes.ensures) c.in_ok-slots.slots c.in_ok-slots.ensures
    c.plan.result c.plan.ensures

pub returns-clause-fits : goal.returns-clause-fits
returns-clause-fits c =
    plan-fits c.args.program.now c.args.model c.args.args.now c.args.state.now c.laws.ensures.stand c.laws.ensures.agree c.right.ensures
    c.requires.network c.requires.args c.requires.state c.planner.result c.planner.ensures.coded c.planner.ensures.depth
    c.as_slice.result.now (ap Some c.as_slice.ensures ∙ c.makes-makes.ensures) c.in_ok-slots.slots c.in_ok-slots.ensures
    c.plan.result c.plan.ensures
