use Rattle.dsde_sim_starting.proofs.Sending.{leaf-sent}
use Rattle.dsde_sim_starting.proofs.asking.leaf_output.Goals as goal

pub returns-clause-fits : goal.returns-clause-fits
returns-clause-fits c = leaf-sent c.args.program.now c.args.leaf.now c.requires c.sent.result c.at.result c.sent.ensures.fits c.at.ensures.value
