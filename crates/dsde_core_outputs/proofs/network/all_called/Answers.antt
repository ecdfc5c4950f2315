use Rattle.std.proofs.Common.{length, ap, arith}
use Rattle.dsde_sim_working.specs.given.system.Program.{system}
use Rattle.dsde_core_parcels.specs.given.core_flat.lemmas_Fitting.{tree-named}
use Rattle.dsde_core_parcels.specs.given.core_moves.Flat.{tree_of}
use Rattle.dsde_core_outputs.proofs.Living.{each-lives}
use Rattle.dsde_core_outputs.proofs.Paying.{called-many, left-many}
use Rattle.dsde_core_outputs.proofs.network.all_called.Goals as goal

pub due_movers-requires-clause-fit : goal.due_movers-requires-clause-fit
due_movers-requires-clause-fit g c =
    let f = c.args.flat.now in
    let m = c.args.program.now in
    c.live_leaves_fit.ensures m f.grove f.root f.wiring (tree_of f) c.requires.stands.stands (tree-named m (tree_of f) c.requires.stands.fits) c.requires.stands.fits

pub due_movers-requires-clause-live : goal.due_movers-requires-clause-live
due_movers-requires-clause-live g c = each-lives c.args.flat.now.grove c.args.time c.args.due.items c.requires.due

pub told_movers-requires-clause-fit : goal.told_movers-requires-clause-fit
told_movers-requires-clause-fit g c =
    let f = c.args.flat.now in
    let m = c.args.program.now in
    c.live_leaves_fit.ensures m f.grove f.root f.wiring (tree_of f) c.requires.stands.stands (tree-named m (tree_of f) c.requires.stands.fits) c.requires.stands.fits

pub returns-clause-many : goal.returns-clause-many
returns-clause-many g c =
    called-many (system c.args.program.now) c.args.flat.now.grove c.args.due.items c.args.boxes c.in_ok-called.called c.in_ok-told.told c.in_ok-movers.movers c.in_ok-called.ensures.movers c.in_ok-movers.ensures.same

pub returns-clause-ticks : goal.returns-clause-ticks
returns-clause-ticks g c =
    let left = ap length c.in_ok-called.ensures.left in
    let many = left-many c.args.due.items c.args.boxes in
    omega (arith, c.in_ok-called.ensures.ticks, c.in_ok-told.ensures.ticks, left, many)
