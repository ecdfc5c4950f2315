use Rattle.std.proofs.Common.{◌∙◌, Err, length, ap, subst, sym}
use Rattle.std.proofs.lemmas.Result.{err_from_is_err_and}
use Rattle.dsde_values.specs.Path.{root}
use Rattle.dsde_sim_starting.specs.given.system.Program.{system}
use Rattle.dsde_sim_starting.specs.given.sim_telling.lemmas_GoingOn.{goes-begin, goes-memory}
use Rattle.dsde_sim_tree.specs.declared.fault.TurnEnd.TheVariants as turn_end
use Rattle.dsde_sim_tree.specs.Told.{Tells}
use Rattle.dsde_sim_movers.specs.Movers.{move_one}
use Rattle.dsde_sim_movers.specs.Work.{work}
use Rattle.dsde_core_moves.specs.Flat.{delivery_of, tree_of}
use Rattle.dsde_core_moving.proofs.Follows.{ends-as}
use Rattle.dsde_core_moving.proofs.Moved.{changes-moved}
use Rattle.dsde_core_moving.proofs.Owning.{leaf-fits, leaf-live, path-under}
use Rattle.dsde_core_moving.proofs.Spared.{kept-by, others-by}
use Rattle.dsde_core_moving.proofs.Stepped.{beneath-behind, births-behind, births-mid, looked-behind, moved_at, planned-behind, put, stands-mid, stops-here, told-behind, work-all}
use Rattle.dsde_core_moving.proofs.Whole.{one-more}
use Rattle.dsde_core_moving.proofs.executive.executive_steps.Goals as goal

pub component_moves-requires-clause-live : goal.component_moves-requires-clause-live
component_moves-requires-clause-live g c = leaf-live c.args.program.now c.args.flat.now c.args.mover c.requires.stands c.requires.there c.requires.executive

pub component_moves-requires-clause-fits : goal.component_moves-requires-clause-fits
component_moves-requires-clause-fits g c = leaf-fits c.args.program.now c.args.flat.now c.args.mover c.requires.stands c.requires.there c.requires.executive

pub returns-in_err-copy_path-clause-told : goal.returns-in_err-copy_path-clause-told
returns-in_err-copy_path-clause-told g c =
    let a = c.args in
    let e = err_from_is_err_and c.from_residual.result c.from_residual.ensures.1 in
    let whole = move_one (system a.program.now) root a.time (delivery_of a.mover) (tree_of a.flat.now) a.room in
    subst (Tells whole a.events.now a.events.now) (sym (ends-as a.flat.now c.from_residual.result turn_end.Memory (e.1 ∙ ap Err e.2)))
    (goes-memory whole whole a.events.now a.events.now (goes-begin whole a.events.now))

pub returns-in_err-component_moves-clause-told : goal.returns-in_err-component_moves-clause-told
returns-in_err-component_moves-clause-told g c =
    let a = c.args in
    let r = c.requires in
    let e = err_from_is_err_and c.from_residual-in_err-component_moves.result c.from_residual-in_err-component_moves.ensures.1 in
    let law = c.movers_take_their_steps.ensures.executive (system a.program.now) in
    subst (Tells (move_one (system a.program.now) root a.time (delivery_of a.mover) (tree_of a.flat.now) a.room) a.events.now c.component_moves.new.events) (sym (ends-as (record a.flat.now { grove = c.component_moves.new.grove; queue = c.component_moves.new.queue }) c.from_residual-in_err-component_moves.result c.in_err-component_moves.field-0.0 (e.1 ∙ ap Err e.2)))
    (stops-here (system a.program.now) a.program.now a.flat.now a.mover r.stands r.there r.executive a.time a.kind r.kind law a.room a.events.now c.component_moves.new.events c.in_err-component_moves.field-0.0 c.in_err-component_moves.ensures.told)

pub structure_follows-requires-clause-stands : goal.structure_follows-requires-clause-stands
structure_follows-requires-clause-stands g c =
    let a = c.args in
    let r = c.requires in
    let law = c.movers_take_their_steps.ensures.executive (system a.program.now) in
    let e = c.in_ok-component_moves.ensures in
    stands-mid (system a.program.now) a.program.now a.flat.now a.mover r.stands r.there r.executive a.time a.kind r.kind law a.room c.component_moves.new.grove c.component_moves.new.queue a.events.now c.component_moves.new.events e.told e.fits e.stays e.tree

pub structure_follows-requires-clause-executive : goal.structure_follows-requires-clause-executive
structure_follows-requires-clause-executive g c =
    let a = c.args in
    let r = c.requires in
    let law = c.movers_take_their_steps.ensures.executive (system a.program.now) in
    let e = c.in_ok-component_moves.ensures in
    moved_at (system a.program.now) a.program.now a.flat.now a.mover r.stands r.there r.executive a.time a.kind r.kind law a.room c.component_moves.new.grove c.component_moves.new.queue a.events.now c.component_moves.new.events e.told
    c.network_of-network.result (c.network_of-network.ensures _ (c.in_ok-copy_path.ensures ∙ path-under a.program.now a.flat.now a.mover r.stands r.there r.executive))

pub structure_follows-requires-clause-births : goal.structure_follows-requires-clause-births
structure_follows-requires-clause-births g c =
    let a = c.args in
    let r = c.requires in
    let law = c.movers_take_their_steps.ensures.executive (system a.program.now) in
    let e = c.in_ok-component_moves.ensures in
    births-mid (system a.program.now) a.program.now a.flat.now a.mover r.stands r.there r.executive a.time a.kind r.kind law a.room c.component_moves.new.grove c.component_moves.new.queue a.events.now c.component_moves.new.events e.told r.births

pub returns-clause-told : goal.returns-clause-told
returns-clause-told g c =
    let a = c.args in
    let r = c.requires in
    let law = c.movers_take_their_steps.ensures.executive (system a.program.now) in
    let e = c.in_ok-component_moves.ensures in
    let found = c.network_of-network.result in
    let is = c.network_of-network.ensures _ (c.in_ok-copy_path.ensures ∙ path-under a.program.now a.flat.now a.mover r.stands r.there r.executive) in
    told-behind (system a.program.now) a.program.now a.flat.now a.mover r.stands r.there r.executive a.time a.kind r.kind law a.room c.component_moves.new.grove c.component_moves.new.queue a.events.now c.component_moves.new.events e.told found is
    c.structure_follows.new.events _
    (c.structure_follows.ensures.told (moved_at (system a.program.now) a.program.now a.flat.now a.mover r.stands r.there r.executive a.time a.kind r.kind law a.room c.component_moves.new.grove c.component_moves.new.queue a.events.now c.component_moves.new.events e.told found is))

pub returns-clause-others : goal.returns-clause-others
returns-clause-others g c =
    let a = c.args in
    let r = c.requires in
    let law = c.movers_take_their_steps.ensures.executive (system a.program.now) in
    let e = c.in_ok-component_moves.ensures in
    let found = c.network_of-network.result in
    let is = c.network_of-network.ensures _ (c.in_ok-copy_path.ensures ∙ path-under a.program.now a.flat.now a.mover r.stands r.there r.executive) in
    let own = c.component_moves.new.grove in
    let moved = put (system a.program.now) a.program.now a.flat.now a.mover r.stands r.there r.executive a.time a.kind r.kind law a.room own c.component_moves.new.queue a.events.now c.component_moves.new.events e.told in
    others-by a.program.now a.flat.now a.mover r.stands r.there r.executive own c.structure_follows.new.flat c.structure_follows.result
    (changes-moved a.program.now a.flat.now a.mover r.stands r.there r.executive moved.leaf own c.component_moves.new.queue moved.is)
    (beneath-behind (system a.program.now) a.program.now a.flat.now a.mover r.stands r.there r.executive a.time a.kind r.kind law a.room own c.component_moves.new.queue a.events.now c.component_moves.new.events e.told found is
    c.structure_follows.new.flat.grove c.structure_follows.result c.structure_follows.ensures.beneath)

pub returns-clause-kept : goal.returns-clause-kept
returns-clause-kept g c =
    let a = c.args in
    let r = c.requires in
    let law = c.movers_take_their_steps.ensures.executive (system a.program.now) in
    let e = c.in_ok-component_moves.ensures in
    let found = c.network_of-network.result in
    let is = c.network_of-network.ensures _ (c.in_ok-copy_path.ensures ∙ path-under a.program.now a.flat.now a.mover r.stands r.there r.executive) in
    let own = c.component_moves.new.grove in
    let moved = put (system a.program.now) a.program.now a.flat.now a.mover r.stands r.there r.executive a.time a.kind r.kind law a.room own c.component_moves.new.queue a.events.now c.component_moves.new.events e.told in
    kept-by a.program.now a.flat.now a.mover r.stands r.there r.executive own c.structure_follows.new.flat.grove c.structure_follows.result
    (changes-moved a.program.now a.flat.now a.mover r.stands r.there r.executive moved.leaf own c.component_moves.new.queue moved.is)
    (beneath-behind (system a.program.now) a.program.now a.flat.now a.mover r.stands r.there r.executive a.time a.kind r.kind law a.room own c.component_moves.new.queue a.events.now c.component_moves.new.events e.told found is
    c.structure_follows.new.flat.grove c.structure_follows.result c.structure_follows.ensures.beneath)

pub returns-clause-waits : goal.returns-clause-waits
returns-clause-waits g c rest but = c.structure_follows.ensures.waits rest (c.in_ok-component_moves.ensures.waits rest but)

pub returns-clause-births : goal.returns-clause-births
returns-clause-births g c =
    let a = c.args in
    let r = c.requires in
    let law = c.movers_take_their_steps.ensures.executive (system a.program.now) in
    let e = c.in_ok-component_moves.ensures in
    births-behind (system a.program.now) a.program.now a.flat.now a.mover r.stands r.there r.executive a.time a.kind r.kind law a.room c.component_moves.new.grove c.component_moves.new.queue a.events.now c.component_moves.new.events e.told
    c.structure_follows.new.flat.grove.next_birth c.structure_follows.result c.structure_follows.ensures.births

pub returns-clause-ticks : goal.returns-clause-ticks
returns-clause-ticks g c other moved plan is ends structure =
    let a = c.args in
    let r = c.requires in
    let law = c.movers_take_their_steps.ensures.executive (system a.program.now) in
    let e = c.in_ok-component_moves.ensures in
    let found = c.network_of-network.result in
    let same = c.network_of-network.ensures _ (c.in_ok-copy_path.ensures ∙ path-under a.program.now a.flat.now a.mover r.stands r.there r.executive) in
    looked-behind (system a.program.now) a.program.now a.flat.now a.mover r.stands r.there r.executive a.time a.kind r.kind law a.room c.component_moves.new.grove c.component_moves.new.queue a.events.now c.component_moves.new.events e.told found same
    other moved plan a.looks.now c.component_moves.new.looks c.structure_follows.new.looks c.structure_follows.new.flat.grove.next_birth c.structure_follows.result is ends structure c.component_moves.ensures.ticks
    (c.structure_follows.ensures.ticks (moved_at (system a.program.now) a.program.now a.flat.now a.mover r.stands r.there r.executive a.time a.kind r.kind law a.room c.component_moves.new.grove c.component_moves.new.queue a.events.now c.component_moves.new.events e.told found same))

pub returns-clause-some : goal.returns-clause-some
returns-clause-some g c =
    one-more c.structure_follows.result (work c.args.events.now) (work c.component_moves.new.events) (work c.structure_follows.new.events) c.in_ok-component_moves.ensures.work c.structure_follows.ensures.grows

pub returns-clause-work : goal.returns-clause-work
returns-clause-work g c other moved plan is ends structure =
    let a = c.args in
    let r = c.requires in
    let S = system a.program.now in
    let law = c.movers_take_their_steps.ensures.executive S in
    let e = c.in_ok-component_moves.ensures in
    let found = c.network_of-network.result in
    let same = c.network_of-network.ensures _ (c.in_ok-copy_path.ensures ∙ path-under a.program.now a.flat.now a.mover r.stands r.there r.executive) in
    work-all c.structure_follows.result a.looks.now c.component_moves.new.looks c.structure_follows.new.looks (length a.flat.now.queue.pairs) (length c.component_moves.new.queue.pairs) (length c.structure_follows.new.flat.queue.pairs)
    (work a.events.now) (work c.component_moves.new.events) (work c.structure_follows.new.events) (length plan.entries) c.component_moves.ensures.ticks e.longer e.work
    (c.structure_follows.ensures.work
    (moved_at S a.program.now a.flat.now a.mover r.stands r.there r.executive a.time a.kind r.kind law a.room c.component_moves.new.grove c.component_moves.new.queue a.events.now c.component_moves.new.events e.told found same) plan
    (planned-behind S a.program.now a.flat.now a.mover r.stands r.there r.executive a.time a.kind r.kind law a.room c.component_moves.new.grove c.component_moves.new.queue a.events.now c.component_moves.new.events e.told found same
    other moved plan is ends structure))

pub returns-clause-touches : goal.returns-clause-touches
returns-clause-touches g c before after net was nets =
    let a = c.args in
    let r = c.requires in
    let law = c.movers_take_their_steps.ensures.executive (system a.program.now) in
    let e = c.in_ok-component_moves.ensures in
    let found = c.network_of-network.result in
    let is = c.network_of-network.ensures _ (c.in_ok-copy_path.ensures ∙ path-under a.program.now a.flat.now a.mover r.stands r.there r.executive) in
    c.structure_follows.ensures.touches (moved_at (system a.program.now) a.program.now a.flat.now a.mover r.stands r.there r.executive a.time a.kind r.kind law a.room c.component_moves.new.grove c.component_moves.new.queue a.events.now c.component_moves.new.events e.told found is)
    before after net was nets
