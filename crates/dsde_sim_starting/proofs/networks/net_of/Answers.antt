use Rattle.dsde_sim_starting.proofs.Made.{net-of-fits-ok}
use Rattle.dsde_sim_starting.proofs.networks.net_of.Goals as goal

pub returns-clause-fits : goal.returns-clause-fits
returns-clause-fits c = net-of-fits-ok c.args.model c.args.args c.args.boss c.args.kids c.args.links c.new.result c.new.ensures
