use Rattle.dsde_sim_changing.specs.given.system.Program.{system}
use Rattle.dsde_core_moves.proofs.StepStepping.{births-by, kept-by, leaf-fits, leaf-live, others-by, stands-by, told-by}
use Rattle.dsde_core_moves.proofs.component.component_steps.Goals as goal

pub component_moves-requires-clause-live : goal.component_moves-requires-clause-live
component_moves-requires-clause-live g c = leaf-live c.args.program.now c.args.flat.now c.args.mover c.requires.stands c.requires.there c.requires.component

pub component_moves-requires-clause-fits : goal.component_moves-requires-clause-fits
component_moves-requires-clause-fits g c = leaf-fits c.args.program.now c.args.flat.now c.args.mover c.requires.stands c.requires.there c.requires.component

pub returns-clause-told : goal.returns-clause-told
returns-clause-told g c room =
    let a = c.args in
    told-by a.program.now a.flat.now a.mover c.requires.stands c.requires.there c.requires.component a.time a.kind c.requires.kind (c.movers_take_their_steps.ensures.component (system a.program.now))
    c.component_moves.new.grove c.component_moves.new.queue a.events.now c.component_moves.new.events c.component_moves.result c.component_moves.ensures.told room

pub returns-clause-stands : goal.returns-clause-stands
returns-clause-stands g c =
    let a = c.args in
    stands-by a.program.now a.flat.now a.mover c.requires.stands c.requires.there c.requires.component a.time a.kind c.requires.kind (c.movers_take_their_steps.ensures.component (system a.program.now))
    c.component_moves.new.grove c.component_moves.new.queue a.events.now c.component_moves.new.events c.component_moves.result c.component_moves.ensures.told
    (c.component_moves.ensures.fits, c.component_moves.ensures.stays, c.component_moves.ensures.tree)

pub returns-clause-others : goal.returns-clause-others
returns-clause-others g c =
    let a = c.args in
    others-by a.program.now a.flat.now a.mover c.requires.stands c.requires.there c.requires.component a.time a.kind c.requires.kind (c.movers_take_their_steps.ensures.component (system a.program.now))
    c.component_moves.new.grove c.component_moves.new.queue a.events.now c.component_moves.new.events c.component_moves.result c.component_moves.ensures.told
    (c.component_moves.ensures.fits, c.component_moves.ensures.stays, c.component_moves.ensures.tree)

pub returns-clause-births : goal.returns-clause-births
returns-clause-births g c =
    let a = c.args in
    births-by a.program.now a.flat.now a.mover c.requires.stands c.requires.there c.requires.component a.time a.kind c.requires.kind (c.movers_take_their_steps.ensures.component (system a.program.now))
    c.component_moves.new.grove c.component_moves.new.queue a.events.now c.component_moves.new.events c.component_moves.result c.component_moves.ensures.told

pub returns-clause-kept : goal.returns-clause-kept
returns-clause-kept g c =
    let a = c.args in
    kept-by a.program.now a.flat.now a.mover c.requires.stands c.requires.there c.requires.component a.time a.kind c.requires.kind (c.movers_take_their_steps.ensures.component (system a.program.now))
    c.component_moves.new.grove c.component_moves.new.queue a.events.now c.component_moves.new.events c.component_moves.result c.component_moves.ensures.told
