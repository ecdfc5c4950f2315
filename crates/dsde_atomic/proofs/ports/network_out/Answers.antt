use Rattle.std.proofs.Common.{◌∙◌, sym}
use Rattle.dsde_atomic.proofs.Infos.{network-outs}
use Rattle.dsde_atomic.proofs.ports.network_out.Goals as goal

pub returns : goal.returns
returns c = λ args. network-outs c.args.program.now c.args.model c.info.result.now c.info.ensures args c.requires.network ∙ sym c.len.ensures
