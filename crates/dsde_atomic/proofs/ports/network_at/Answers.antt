use Rattle.dsde_atomic.proofs.Infos.{network-place}
use Rattle.dsde_atomic.proofs.ports.network_at.Goals as goal

pub returns : goal.returns
returns c = λ args. network-place c.args.program.now c.args.model c.info.result.now c.info.ensures args
