-- One more state variable is laid behind those before.
use Rattle.std.proofs.Common.{◌∙◌}
use Rattle.dsde_program_bodies.proofs.Loops.{state_own, state_tables, state_seen}
use Rattle.dsde_program_bodies.proofs.bodies.add_states.Goals as goal

pub loop-state-preserved : goal.loop-state-preserved
loop-state-preserved c = (
  state_own c.args.resolver.now c.args.states.now c.loop-state.state-index c.state-item.result c.loop-state-test.true c.state-item.is c.loop-state.scope c.first_value.new.scope c.loop-state.tables c.first_value.new.tables c.in_ok-first_value.ensures.scope c.in_ok-first_value.ensures.tables c.loop-state.inits c.push.new.self c.in_ok-first_value.field-0 c.in_ok-push.ensures.ok c.in_ok-first_value.ensures.number ∙ c.loop-state.invariant.0,
  state_tables c.args.resolver.now c.args.states.now c.loop-state.state-index c.state-item.result c.loop-state-test.true c.state-item.is c.loop-state.scope c.first_value.new.scope c.loop-state.tables c.first_value.new.tables c.in_ok-first_value.ensures.scope c.in_ok-first_value.ensures.tables ∙ c.loop-state.invariant.1,
  state_seen c.args.resolver.now c.args.states.now c.loop-state.state-index c.state-item.result c.loop-state-test.true c.state-item.is c.loop-state.scope c.first_value.new.scope c.loop-state.tables c.first_value.new.tables c.in_ok-first_value.ensures.scope c.in_ok-first_value.ensures.tables ∙ c.loop-state.invariant.2,
)
