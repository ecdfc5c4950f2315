use Rattle.dsde_core_parcels.specs.given.core_flat.lemmas_Fitting.{tree-named}
use Rattle.dsde_core_parcels.specs.given.core_moves.Flat.{tree_of}
use Rattle.dsde_core_outputs.proofs.network.come_out.Goals as goal

pub turn_outlets-requires-clause-fit : goal.turn_outlets-requires-clause-fit
turn_outlets-requires-clause-fit g c =
    let f = c.args.flat.now in
    let m = c.args.program.now in
    c.live_leaves_fit.ensures m f.grove f.root f.wiring (tree_of f) c.requires.stands.stands (tree-named m (tree_of f) c.requires.stands.fits) c.requires.stands.fits

pub returns-clause-sent : goal.returns-clause-sent
returns-clause-sent g c = record {
  got = c.in_ok-got.got;
  came = c.in_ok-got.ensures.got;
  fits = c.in_ok-got.ensures.fits;
  due = c.requires.due;
  send = c.in_ok-outlets.ensures.send;
  sent = c.in_ok-outlets.ensures.outlets;
}
