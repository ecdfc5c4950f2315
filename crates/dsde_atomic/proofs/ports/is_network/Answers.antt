use Rattle.dsde_atomic.proofs.Infos.{network-is}
use Rattle.dsde_atomic.proofs.ports.is_network.Goals as goal

pub returns : goal.returns
returns c = network-is c.args.program.now c.args.model c.info.result.now c.info.ensures
