use Rattle.dsde_sim_starting.specs.lemmas.Fits.{net-kids, net-shape}
use Rattle.dsde_sim_starting.proofs.asking.parts_fit.Goals as goal

pub returns-clause-kids : goal.returns-clause-kids
returns-clause-kids c = net-kids c.args._program.now c.args._net.now c.requires

pub returns-clause-boss : goal.returns-clause-boss
returns-clause-boss c = (net-shape c.args._program.now c.args._net.now c.requires).boss
