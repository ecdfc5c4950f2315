use Rattle.dsde_program_layout.proofs.ModelLays.{model-is}
use Rattle.dsde_program_layout.proofs.layout_law.model_laid.Goals as goal

pub returns : goal.returns
returns c = λ model. model-is model
