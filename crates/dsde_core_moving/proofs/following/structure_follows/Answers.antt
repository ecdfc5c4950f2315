use Rattle.std.proofs.Common.{◌∙◌, ◌*◌, Err, length, ap, subst, sym}
use Rattle.std.proofs.lemmas.Result.{err_from_is_err_and}
use Rattle.dsde_values.specs.Path.{root}
use Rattle.dsde_sim_starting.specs.given.system.Program.{system}
use Rattle.dsde_sim_tree.specs.Told.{Tells}
use Rattle.dsde_sim_movers.specs.Movers.{path_behind}
use Rattle.dsde_sim_movers.specs.Work.{work}
use Rattle.dsde_routes_wiring.specs.Places.{nets_at}
use Rattle.dsde_core_moves.specs.Flat.{tree_of}
use Rattle.dsde_core_moving.specs.Executive.{followed}
use Rattle.dsde_core_moving.proofs.Follows.{born-few, ends-as, follows-err, follows-ok, here-fits, here-live, here-network, looked, plan-fits, there-at, worked}
use Rattle.dsde_core_moving.proofs.Whole.{told-more}
use Rattle.dsde_core_moving.proofs.following.structure_follows.Goals as goal

pub structure_here-requires-clause-live : goal.structure_here-requires-clause-live
structure_here-requires-clause-live g c = here-live (system c.args.program.now) c.args.program.now c.args.flat.now c.args.handle c.args.path.now c.requires.stands c.requires.executive

pub structure_here-requires-clause-fits : goal.structure_here-requires-clause-fits
structure_here-requires-clause-fits g c = here-fits (system c.args.program.now) c.args.program.now c.args.flat.now c.args.handle c.args.path.now c.requires.stands c.requires.executive

pub structure_here-requires-clause-network : goal.structure_here-requires-clause-network
structure_here-requires-clause-network g c = here-network (system c.args.program.now) c.args.program.now c.args.flat.now c.args.handle c.args.path.now c.requires.stands c.requires.executive

pub restructure-requires-clause-path : goal.restructure-requires-clause-path
restructure-requires-clause-path g c =
    let own = c.requires.executive in
    own.at ∙ ap (path_behind root) (sym (c.place_in.ensures own.place own.at))

pub restructure-requires-clause-there : goal.restructure-requires-clause-there
restructure-requires-clause-there g c =
    let own = c.requires.executive in
    (own.net, there-at (system c.args.program.now) c.args.program.now c.args.flat.now c.args.handle c.args.path.now c.requires.stands own c.place_in.result.now (c.place_in.ensures own.place own.at))

pub restructure-requires-clause-plan : goal.restructure-requires-clause-plan
restructure-requires-clause-plan g c =
    let own = c.requires.executive in
    plan-fits (system c.args.program.now) c.args.program.now c.args.flat.now c.args.handle c.args.path.now c.requires.stands own c.in_ok-plan.plan c.in_ok-plan.ensures.fits c.place_in.result.now (c.place_in.ensures own.place own.at)

pub returns-in_err-plan-clause-told : goal.returns-in_err-plan-clause-told
returns-in_err-plan-clause-told g c own =
    let a = c.args in
    let e = err_from_is_err_and c.from_residual.result c.from_residual.ensures.1 in
    subst (Tells (followed (system a.program.now) (tree_of a.flat.now) own.place a.path.now own.net a.time a.room) a.events.now a.events.now) (sym (ends-as a.flat.now c.from_residual.result c.in_err-plan.field-0.0 (e.1 ∙ ap Err e.2)))
    (follows-err (system a.program.now) a.program.now a.flat.now a.handle a.path.now c.requires.stands own a.time a.room a.events.now c.in_err-plan.field-0.0 c.in_err-plan.ensures.comes)

pub returns-clause-told : goal.returns-clause-told
returns-clause-told g c own =
    let a = c.args in
    let same = c.place_in.ensures own.place own.at in
    follows-ok (system a.program.now) a.program.now a.flat.now a.handle a.path.now c.requires.stands own a.time a.room a.events.now c.restructure.new.events c.in_ok-plan.plan c.place_in.result.now _ c.in_ok-plan.ensures.comes same
    (c.restructure.ensures.told own.net (there-at (system a.program.now) a.program.now a.flat.now a.handle a.path.now c.requires.stands own c.place_in.result.now same))

pub returns-clause-grows : goal.returns-clause-grows
returns-clause-grows g c =
    let a = c.args in
    let own = c.requires.executive in
    told-more (followed (system a.program.now) (tree_of a.flat.now) own.place a.path.now own.net a.time a.room) c.restructure.new.flat a.events.now c.restructure.new.events c.restructure.result (returns-clause-told g c own)

pub returns-clause-births : goal.returns-clause-births
returns-clause-births g c =
    let a = c.args in
    let own = c.requires.executive in
    born-few (system a.program.now) a.program.now a.flat.now a.handle a.path.now c.requires.stands own c.in_ok-plan.plan a.room _ _ c.restructure.result
    (c.restructure.ensures.born own.net (there-at (system a.program.now) a.program.now a.flat.now a.handle a.path.now c.requires.stands own c.place_in.result.now (c.place_in.ensures own.place own.at)))

pub returns-clause-ticks : goal.returns-clause-ticks
returns-clause-ticks g c own plan is =
    let a = c.args in
    looked (system a.program.now) a.program.now a.flat.now a.handle a.path.now c.requires.stands own c.in_ok-plan.plan plan a.looks.now c.structure_here.new.looks c.restructure.new.looks _ _ c.restructure.result c.in_ok-plan.ensures.comes is c.structure_here.ensures.ticks
    (c.restructure.ensures.ticks own.net (there-at (system a.program.now) a.program.now a.flat.now a.handle a.path.now c.requires.stands own c.place_in.result.now (c.place_in.ensures own.place own.at)))

pub returns-clause-work : goal.returns-clause-work
returns-clause-work g c own plan is =
    let a = c.args in
    worked (system a.program.now) a.program.now a.flat.now a.handle a.path.now c.requires.stands own c.in_ok-plan.plan plan a.looks.now c.structure_here.new.looks c.restructure.new.looks
    (4 * length c.restructure.new.flat.queue.pairs) (16 * work a.events.now) (4 * length a.flat.now.queue.pairs) (16 * work c.restructure.new.events) c.restructure.result c.in_ok-plan.ensures.comes is c.structure_here.ensures.ticks c.restructure.ensures.work

pub returns-clause-touches : goal.returns-clause-touches
returns-clause-touches g c own before after net was nets =
    c.restructure.ensures.touches before after net was (ap (λ names. nets_at names before) (c.place_in.ensures own.place own.at) ∙ nets)
