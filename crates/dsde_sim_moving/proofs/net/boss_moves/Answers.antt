use Rattle.std.proofs.Common.{◌∙◌, ap, sym, Err}
use Rattle.std.proofs.lemmas.Result.{err_from_is_err_and}
use Rattle.dsde_sim_tree.specs.given.formalism.Leaf.{kind_of}
use Rattle.dsde_sim_tree.specs.given.formalism.System.{Ports}
use Rattle.dsde_sim_tree.specs.Told.{to_boss}
use Rattle.dsde_sim_changing.specs.given.sim_telling.lemmas_GoingOn.{goes-step, stops, tail}
use Rattle.dsde_sim_tree.specs.Move.{take_move, after_boss, boss_moves}
use Rattle.dsde_sim_changing.specs.given.system.Program.{system}
use Rattle.dsde_sim_moving.proofs.Goes.{boss-goes}
use Rattle.dsde_sim_moving.proofs.net.boss_moves.Goals as goal

pub returns-in_err-boss-in-Some-clause-told : goal.returns-in_err-boss-in-Some-clause-told
returns-in_err-boss-in-Some-clause-told c =
    let e = err_from_is_err_and c.from_residual.result c.from_residual.ensures.1 in
    let s = system c.args.program.now in
    stops c.from_residual.result c.in_err-boss-in-Some.field-0.0 (e.1 ∙ ap Err e.2)
    (boss_moves s c.args.model c.args.args c.args.boss c.args.links c.args.kids c.args.path.now c.args.time c.args.got c.args.room)
    (take_move s c.args.boss c.in-Some.kind (to_boss c.args.path.now) c.args.time c.args.got)
    (after_boss s c.args.model c.args.args c.args.kids c.args.path.now c.args.time c.args.room)
    c.args.events.now c.args.events.now c.boss_move.new.events
    (boss-goes s c.args.model c.args.args c.args.boss c.args.links c.args.kids c.args.path.now c.args.time c.args.got c.args.room c.in-Some.kind c.args.events.now
    (ap (λ (got : Ports). kind_of c.args.boss c.args.time got) (sym c.as_slice.ensures) ∙ sym c.kind_of.ensures ∙ c.in-Some.is))
    c.in_err-boss-in-Some.ensures.told

pub returns-in_ok-boss-in-Some-clause-told : goal.returns-in_ok-boss-in-Some-clause-told
returns-in_ok-boss-in-Some-clause-told c =
    let s = system c.args.program.now in
    let whole = boss_moves s c.args.model c.args.args c.args.boss c.args.links c.args.kids c.args.path.now c.args.time c.args.got c.args.room in
    let after = after_boss s c.args.model c.args.args c.args.kids c.args.path.now c.args.time c.args.room in
    tail whole (after c.in_ok-boss-in-Some.boss) c.args.events.now c.boss_move.new.events c.after_boss.new.events c.after_boss.result
    (goes-step whole (take_move s c.args.boss c.in-Some.kind (to_boss c.args.path.now) c.args.time c.args.got) after
    c.args.events.now c.args.events.now c.boss_move.new.events c.in_ok-boss-in-Some.boss
    (boss-goes s c.args.model c.args.args c.args.boss c.args.links c.args.kids c.args.path.now c.args.time c.args.got c.args.room c.in-Some.kind c.args.events.now
    (ap (λ (got : Ports). kind_of c.args.boss c.args.time got) (sym c.as_slice.ensures) ∙ sym c.kind_of.ensures ∙ c.in-Some.is))
    c.in_ok-boss-in-Some.ensures.told.0 c.in_ok-boss-in-Some.ensures.told.1)
    c.after_boss.ensures.told

pub returns-in_ok-net_of-in-None-clause-fits : goal.returns-in_ok-net_of-in-None-clause-fits
returns-in_ok-net_of-in-None-clause-fits c =
    c.in_ok-net_of-in-None.ensures.fits c.args.program.now c.requires.args c.requires.boss c.requires.boss_is c.requires.kids c.requires.links
