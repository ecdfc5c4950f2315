use Rattle.std.proofs.Common.{sym, subst}
use Rattle.std.specs.List.{AllByRecursion}
use Rattle.dsde_sim_changing.specs.given.sim_starting.Fitting.{FitsKid}
use Rattle.dsde_sim_changing.specs.given.sim_starting.lemmas_Fits.{net-kids, net-shape}
use Rattle.dsde_sim_moving.proofs.Gathering.{is-asked}
use Rattle.dsde_sim_moving.proofs.boxes.sources_in.Goals as goal

pub sources_of-requires-clause-kids : goal.sources_of-requires-clause-kids
sources_of-requires-clause-kids c = subst (AllByRecursion (FitsKid c.args.program.now)) (sym c.as_slice.ensures) (net-kids c.args.program.now c.args.net.now c.requires.fits)

pub sources_of-requires-clause-boss : goal.sources_of-requires-clause-boss
sources_of-requires-clause-boss c = (net-shape c.args.program.now c.args.net.now c.requires.fits).boss

pub returns-clause-asked : goal.returns-clause-asked
returns-clause-asked c =
    is-asked c.args.program.now c.args.net.now c.args.got c.requires.fits c.requires.got c.as_slice.result.now c.as_slice.ensures c.sources_of.result c.sources_of.ensures.fits
