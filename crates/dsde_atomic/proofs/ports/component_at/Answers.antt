use Rattle.dsde_atomic.proofs.Infos.{component-place}
use Rattle.dsde_atomic.proofs.ports.component_at.Goals as goal

pub returns : goal.returns
returns c = λ args. component-place c.args.program.now c.args.model args c.requires c.code_of.result.now c.code_of.ensures
