use Rattle.dsde_program_layout.proofs.Lays.{laid-is}
use Rattle.dsde_program_layout.proofs.layout_law.laid_is.Goals as goal

pub returns : goal.returns
returns c = λ known e scope table. laid-is known e scope table
