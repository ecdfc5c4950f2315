use Rattle.std.proofs.Common.{◌∙◌, ◌+◌, ◌≤◌, ℕ, length, Result, Err, sym, ap, subst, arith}
use Rattle.std.proofs.lemmas.Result.{err_from_is_err_and}
use Rattle.dsde_values.specs.Path.{root}
use Rattle.dsde_sim_starting.specs.given.system.Program.{system}
use Rattle.dsde_sim_tree.specs.declared.fault.TurnEnd.{TurnEnd}
use Rattle.dsde_sim_tree.specs.Told.{Tells}
use Rattle.dsde_sim_tree.specs.Tree.{parts}
use Rattle.dsde_sim_movers.specs.Movers.{move_one}
use Rattle.dsde_sim_movers.specs.Work.{work}
use Rattle.dsde_core_moves.specs.Flat.{delivery_of, tree_of}
use Rattle.dsde_core_moving.specs.Restructured.{with_room}
use Rattle.dsde_core_moving.proofs.Stepping.{births-by, is-component, is-executive, kind-found, some-kind}
use Rattle.dsde_core_moving.proofs.Priced.{executive-work}
use Rattle.dsde_core_moving.proofs.one.mover_steps.Goals as goal

pub unreachable-requires-in_default-kind_of : goal.unreachable-requires-in_default-kind_of
unreachable-requires-in_default-kind_of g c =
    let a = c.args in
    some-kind a.program.now a.flat.now a.mover c.requires.stands c.requires.there a.time c.requires.called c.in-Some.leaf.now c.in-Some.ensures.leaf c.kind_of.result c.as_slice.result.now c.kind_of.ensures c.as_slice.ensures c.in_default-kind_of.is

pub executive_steps-requires-clause-executive : goal.executive_steps-requires-clause-executive
executive_steps-requires-clause-executive g c =
    let a = c.args in
    is-executive a.program.now a.flat.now a.mover c.requires.stands c.requires.there a.time c.requires.called c.in-Some.leaf.now c.in-Some.ensures.leaf c.if-is_boss.true

pub executive_steps-requires-clause-births : goal.executive_steps-requires-clause-births
executive_steps-requires-clause-births g c =
    let few : parts (tree_of c.args.flat.now) + c.args.room ≤ 131072 = c.requires.room in
    omega (arith, few, c.requires.births)

pub returns-then-is_boss-clause-births : goal.returns-then-is_boss-clause-births
returns-then-is_boss-clause-births g c =
    let a = c.args in
    births-by a.program.now a.flat.now a.mover c.requires.stands c.requires.there a.time c.requires.called c.in-Some.leaf.now c.in-Some.ensures.leaf c.executive_steps.result c.executive_steps.new.flat.grove.next_birth a.room (parts (tree_of a.flat.now))
    c.if-is_boss.true c.executive_steps.ensures.births c.requires.room

pub component_steps-requires-clause-component : goal.component_steps-requires-clause-component
component_steps-requires-clause-component g c =
    let a = c.args in
    is-component a.program.now a.flat.now a.mover c.requires.stands c.requires.there a.time c.requires.called c.in-Some.leaf.now c.in-Some.ensures.leaf c.if-is_boss.false

pub returns-in_err-component_steps-clause-told : goal.returns-in_err-component_steps-clause-told
returns-in_err-component_steps-clause-told g c =
    let a = c.args in
    let e = err_from_is_err_and c.from_residual.result c.from_residual.ensures.1 in
    subst (λ (result : Result ℕ TurnEnd). Tells (move_one (system a.program.now) root a.time (delivery_of a.mover) (tree_of a.flat.now) a.room) a.events.now c.component_steps.new.events (with_room c.component_steps.new.flat result)) (sym (e.1 ∙ ap Err e.2))
    (c.in_err-component_steps.ensures.told a.room)

pub returns-then-is_boss-clause-work : goal.returns-then-is_boss-clause-work
returns-then-is_boss-clause-work g c =
    let a = c.args in
    let boss = is-executive a.program.now a.flat.now a.mover c.requires.stands c.requires.there a.time c.requires.called c.in-Some.leaf.now c.in-Some.ensures.leaf c.if-is_boss.true in
    let kind_is =
    kind-found a.program.now a.flat.now a.mover c.requires.stands c.requires.there a.time c.requires.called c.in-Some.leaf.now c.in-Some.ensures.leaf c.kind_of.result c.in-Some-kind_of.kind c.as_slice.result.now c.kind_of.ensures c.as_slice.ensures c.in-Some-kind_of.is in
    executive-work (system a.program.now) a.program.now a.flat.now a.mover c.requires.stands c.requires.there boss a.time c.in-Some-kind_of.kind kind_is
    (c.executives_take_structures.ensures (system a.program.now)) a.room c.executive_steps.result c.executive_steps.new.flat a.events.now c.executive_steps.new.events a.looks.now c.leaf_at.new.looks c.executive_steps.new.looks
    (length a.flat.now.queue.pairs) (length c.executive_steps.new.flat.queue.pairs) (work a.events.now) (work c.executive_steps.new.events) c.executive_steps.ensures.told c.leaf_at.ensures.ticks c.executive_steps.ensures.work
