use Rattle.dsde_program_layout.proofs.Tops.{top-is-named}
use Rattle.dsde_program_layout.proofs.declared_law.top_is_named.Goals as goal

pub returns : goal.returns
returns c = λ model. top-is-named model
