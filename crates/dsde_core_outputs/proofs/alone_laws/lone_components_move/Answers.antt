use Rattle.dsde_values.specs.Path.{root}
use Rattle.dsde_sim_working.specs.given.system.Program.{system}
use Rattle.dsde_core_outputs.proofs.Moves.{are-movers}
use Rattle.dsde_core_outputs.proofs.Waits.{due-path, many, paths, rows, waits}
use Rattle.dsde_core_outputs.proofs.Whole as whole
use Rattle.dsde_core_outputs.proofs.alone_laws.lone_components_move.Goals as goal

pub returns-clause-lives : goal.returns-clause-lives
returns-clause-lives c = λ model flat stands none. whole.lives model flat stands none

pub returns-clause-fits : goal.returns-clause-fits
returns-clause-fits c = λ model flat leaf stands alone. (whole.fits flat leaf alone model stands).fits

pub returns-clause-sends : goal.returns-clause-sends
returns-clause-sends c = λ own flat leaf time alone. whole.sends flat leaf alone own time

pub returns-clause-moves : goal.returns-clause-moves
returns-clause-moves c =
    λ model flat leaf time items got stands alone come is few.
    are-movers model flat stands leaf alone time items come got is few c.sent_fits.ensures (c.movers_are_walked.ensures.leaf (system model) leaf root time got)

pub returns-clause-waits : goal.returns-clause-waits
returns-clause-waits c = λ model flat leaf time got dues stands alone are. waits model flat stands leaf alone time got dues are

pub returns-clause-many : goal.returns-clause-many
returns-clause-many c = λ model flat leaf time got dues stands alone are. many model flat stands leaf alone c.orders_are_total.ensures.paths time got dues are

pub returns-clause-paths : goal.returns-clause-paths
returns-clause-paths c = λ model flat leaf time dues stands alone are. paths model flat stands leaf alone time dues are

pub returns-clause-rows : goal.returns-clause-rows
returns-clause-rows c = λ model flat leaf time items dues stands alone are. rows model flat stands leaf alone time items dues are

pub returns-clause-dues : goal.returns-clause-dues
returns-clause-dues c = λ model flat time stands none due is. due-path model flat stands none time due is
