use Rattle.dsde_program_layout.proofs.Infos.{infos-are-declared}
use Rattle.dsde_program_layout.proofs.declared_law.infos_are_declared.Goals as goal

pub returns : goal.returns
returns c = λ model number. infos-are-declared model number
