use Rattle.std.proofs.Common.{◌∙◌, ap, Err, Ok, true}
use Rattle.std.proofs.lemmas.Result.{err_from_is_err_and}
use Rattle.dsde_sim_tree.specs.Told.{◌then◌}
use Rattle.dsde_sim_moving.specs.given.sim_telling.lemmas_GoingOn.{goes-end, goes-step, stops}
use Rattle.dsde_sim_tree.specs.declared.sim.Sim.TheVariants as sim
use Rattle.dsde_sim_tree.specs.declared.sim.Sim.TheViews.{out-Net}
use Rattle.dsde_sim_tree.specs.Move.{boss_moves}
use Rattle.dsde_sim_tree.specs.Opened.{as_net}
use Rattle.dsde_sim_moving.specs.given.system.Program.{system}
use Rattle.dsde_sim_moving.specs.Fits.{tree-net}
use Rattle.dsde_sim_movers.specs.Movers.{moves}
use Rattle.dsde_order.proofs.ByParts.{boss-got, boss-moves-net, goes-as, kids, kids-few, same-args, same-model, shape}
use Rattle.dsde_order.proofs.moves.net_moves.Goals as goal

pub boss_moves-requires-clause-few : goal.boss_moves-requires-clause-few
boss_moves-requires-clause-few c = kids-few c.args.net c.args.room c.requires.few

pub boss_moves-requires-clause-args : goal.boss_moves-requires-clause-args
boss_moves-requires-clause-args c = (shape c.args.program.now c.args.net c.requires.fits).args

pub boss_moves-requires-clause-boss : goal.boss_moves-requires-clause-boss
boss_moves-requires-clause-boss c = (shape c.args.program.now c.args.net c.requires.fits).boss

pub boss_moves-requires-clause-boss_is : goal.boss_moves-requires-clause-boss_is
boss_moves-requires-clause-boss_is c = (shape c.args.program.now c.args.net c.requires.fits).boss_is

pub boss_moves-requires-clause-kids : goal.boss_moves-requires-clause-kids
boss_moves-requires-clause-kids c = kids c.args.program.now c.args.net c.requires.fits

pub boss_moves-requires-clause-links : goal.boss_moves-requires-clause-links
boss_moves-requires-clause-links c = (shape c.args.program.now c.args.net c.requires.fits).links

pub boss_moves-requires-clause-got : goal.boss_moves-requires-clause-got
boss_moves-requires-clause-got c = boss-got c.args.program.now c.args.net c.requires.fits c.args.got c.requires.got

pub returns-in_err-net-clause-told : goal.returns-in_err-net-clause-told
returns-in_err-net-clause-told c =
    let e = err_from_is_err_and c.from_residual.result c.from_residual.ensures.1 in
    let s = system c.args.program.now in
    let net = out-Net c.args.net in
    let step = boss_moves s net.model net.args net.boss net.links net.kids c.args.path.now c.args.time c.args.got c.args.room in
    stops c.from_residual.result c.in_err-net.field-0.0 (e.1 ∙ ap Err e.2)
    (moves s true c.args.path.now c.args.time c.args.got (sim.Net c.args.net) c.args.room) step as_net
    c.args.events.now c.args.events.now c.boss_moves.new.events
    (goes-as _ (step then as_net) c.args.events.now (boss-moves-net s c.args.path.now c.args.time c.args.got c.args.room c.args.net))
    c.in_err-net.ensures.told

pub returns-clause-told : goal.returns-clause-told
returns-clause-told c =
    let s = system c.args.program.now in
    let net = out-Net c.args.net in
    let whole = moves s true c.args.path.now c.args.time c.args.got (sim.Net c.args.net) c.args.room in
    let step = boss_moves s net.model net.args net.boss net.links net.kids c.args.path.now c.args.time c.args.got c.args.room in
    goes-end whole (sim.Net c.in_ok-net.net, c.in_ok-net.rest) c.args.events.now c.boss_moves.new.events
    (goes-step whole step as_net c.args.events.now c.args.events.now c.boss_moves.new.events (c.in_ok-net.net, c.in_ok-net.rest)
    (goes-as whole (step then as_net) c.args.events.now (boss-moves-net s c.args.path.now c.args.time c.args.got c.args.room c.args.net))
    c.in_ok-net.ensures.told.0 c.in_ok-net.ensures.told.1)

pub returns-clause-fits : goal.returns-clause-fits
returns-clause-fits c = tree-net c.args.program.now c.in_ok-net.net c.in_ok-net.ensures.fits

pub returns-clause-model : goal.returns-clause-model
returns-clause-model c = same-model c.args.net c.in_ok-net.net c.in_ok-net.ensures.is.model

pub returns-clause-args : goal.returns-clause-args
returns-clause-args c = same-args c.args.net c.in_ok-net.net c.in_ok-net.ensures.is.args
