use Rattle.dsde_sim_starting.specs.lemmas.Fits.{net-shape, net-kids}
use Rattle.dsde_image_rows.proofs.listing.parts_fit.Goals as goal

pub returns-clause-args : goal.returns-clause-args
returns-clause-args c = (net-shape c.args._program.now c.args._net.now c.requires).args

pub returns-clause-boss : goal.returns-clause-boss
returns-clause-boss c = (net-shape c.args._program.now c.args._net.now c.requires).boss

pub returns-clause-kids : goal.returns-clause-kids
returns-clause-kids c = net-kids c.args._program.now c.args._net.now c.requires
