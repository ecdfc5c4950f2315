use Rattle.std.proofs.Common.{◌≡◌, true, subst, sym, arith}
use Rattle.std.proofs.lemmas.Result.{err_from_is_err_and}
use Rattle.dsde_sound_structures.specs.given.system.Program.{system}
use Rattle.dsde_image_rows.specs.Walk.{took_net, restored_boss, with_boss, with_args, restored}
use Rattle.dsde_image_rows.specs.Script.{script}
use Rattle.dsde_image_rows.specs.Walks.{WalksOn}
use Rattle.dsde_image_rows.proofs.Opening.{restored-network, net-opens, net-goes, stops, goes}
use Rattle.dsde_image_rows.proofs.Fitting.{made-fits, kid-fits}
use Rattle.dsde_image_rows.proofs.walk.+restoring.Goals as goal

pub restored-returns-then-is_network-clause-walks : goal.restored-returns-then-is_network-clause-walks
restored-returns-then-is_network-clause-walks t c =
    let network : (system c.args.walk.now.program.now).is_network c.args.model ≡ true = cc (c.is_network.ensures, c.if-is_network.true) in
    subst (WalksOn c.restored_net.result (c.restored_net.new.here.rows.now, c.restored_net.new.here.room))
    (sym (restored-network (system c.args.walk.now.program.now) (script c.args.walk.now.program.now) c.args.walk.now.version c.args.walk.now.time c.args.left _ c.args.soft c.args.model c.args.args c.args.path.now (c.args.here.now.rows.now, c.args.here.now.room) (omega arith) network))
    c.restored_net.ensures.walks

pub restored_net-returns-in_err-own-clause-walks : goal.restored_net-returns-in_err-own-clause-walks
restored_net-returns-in_err-own-clause-walks t c =
    let p = err_from_is_err_and c.from_residual.result c.from_residual.ensures.1 in
    let s = system c.args.walk.now.program.now in
    let r = script c.args.walk.now.program.now in
    rw (p.1, p.2) (stops (λ one. (one, (c.took_net.new.here.rows.now, c.took_net.new.here.room))) (λ one. (one, (c.took_net.new.here.rows.now, c.took_net.new.here.room))) c.in_err-own.field-0.0
    (took_net r c.args.walk.now.version _ c.args.soft c.args.model c.args.args c.args.path.now (c.args.here.now.rows.now, c.args.here.now.room))
    (with_args s r c.args.walk.now.version c.args.walk.now.time c.args.left (restored s r c.args.walk.now.version c.args.walk.now.time c.args.left) c.args.model c.args.path.now) _
    c.in_err-own.ensures.walks
    (net-opens s r c.args.walk.now.version c.args.walk.now.time c.args.left _ c.args.soft c.args.model c.args.args c.args.path.now (c.args.here.now.rows.now, c.args.here.now.room) (omega arith)))

pub restored_net-returns-in_err-boss-clause-walks : goal.restored_net-returns-in_err-boss-clause-walks
restored_net-returns-in_err-boss-clause-walks t c =
    let p = err_from_is_err_and c.from_residual-in_err-boss.result c.from_residual-in_err-boss.ensures.1 in
    let s = system c.args.walk.now.program.now in
    let r = script c.args.walk.now.program.now in
    rw (p.1, p.2) (stops (λ one. (one, (c.restored_boss.new.here.rows.now, c.restored_boss.new.here.room))) (λ one. (one, (c.restored_boss.new.here.rows.now, c.restored_boss.new.here.room))) c.in_err-boss.field-0.0
    (restored_boss s r c.args.walk.now.version c.args.walk.now.time c.args.left c.args.model c.in_ok-own.own c.args.path.now (c.took_net.new.here.rows.now, c.took_net.new.here.room))
    (with_boss s r c.args.walk.now.version c.args.walk.now.time (restored s r c.args.walk.now.version c.args.walk.now.time c.args.left) c.args.model c.in_ok-own.own c.args.path.now) _
    c.in_err-boss.ensures.walks
    (net-goes s r c.args.walk.now.version c.args.walk.now.time c.args.left _ c.args.soft c.args.model c.args.args c.in_ok-own.own c.args.path.now (c.args.here.now.rows.now, c.args.here.now.room) (c.took_net.new.here.rows.now, c.took_net.new.here.room) (omega arith) c.in_ok-own.ensures.walks))

pub restored_net-returns-clause-walks : goal.restored_net-returns-clause-walks
restored_net-returns-clause-walks t c =
    let s = system c.args.walk.now.program.now in
    let r = script c.args.walk.now.program.now in
    goes (λ one. (one, (c.with_boss.new.here.rows.now, c.with_boss.new.here.room))) c.with_boss.result
    (restored_boss s r c.args.walk.now.version c.args.walk.now.time c.args.left c.args.model c.in_ok-own.own c.args.path.now (c.took_net.new.here.rows.now, c.took_net.new.here.room)) (c.in_ok-boss.boss, (c.restored_boss.new.here.rows.now, c.restored_boss.new.here.room))
    (with_boss s r c.args.walk.now.version c.args.walk.now.time (restored s r c.args.walk.now.version c.args.walk.now.time c.args.left) c.args.model c.in_ok-own.own c.args.path.now) _
    c.in_ok-boss.ensures.walks
    (net-goes s r c.args.walk.now.version c.args.walk.now.time c.args.left _ c.args.soft c.args.model c.args.args c.in_ok-own.own c.args.path.now (c.args.here.now.rows.now, c.args.here.now.room) (c.took_net.new.here.rows.now, c.took_net.new.here.room) (omega arith) c.in_ok-own.ensures.walks)
    c.with_boss.ensures.walks

pub with_boss-returns-clause-fits : goal.with_boss-returns-clause-fits
with_boss-returns-clause-fits t c =
    made-fits c.args.walk.now.program.now c.args.model c.args.args c.args.boss c.in_ok-kids.kids c.in_ok-entries.field-0 c.in_ok-net.net c.in_ok-net.ensures.fits
    c.requires.network c.requires.args c.requires.boss c.in_ok-kids.ensures.fits c.in_ok-kids.ensures.roles c.in_ok-entries.ensures.fits

pub restored_kid-returns-clause-fits : goal.restored_kid-returns-clause-fits
restored_kid-returns-clause-fits t c = kid-fits c.args.walk.now.program.now c.args.entry.name c.in_ok-sim.sim c.in_ok-sim.ensures.fits
