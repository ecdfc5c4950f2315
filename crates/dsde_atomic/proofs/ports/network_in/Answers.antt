use Rattle.std.proofs.Common.{◌∙◌, sym}
use Rattle.dsde_atomic.proofs.Infos.{network-ins}
use Rattle.dsde_atomic.proofs.ports.network_in.Goals as goal

pub returns : goal.returns
returns c = λ args. network-ins c.args.program.now c.args.model c.info.result.now c.info.ensures args c.requires.network ∙ sym c.len.ensures
