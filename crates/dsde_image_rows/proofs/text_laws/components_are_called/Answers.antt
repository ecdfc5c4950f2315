use Rattle.dsde_image_rows.proofs.Called.{plan-called}
use Rattle.dsde_image_rows.proofs.text_laws.components_are_called.Goals as goal

pub returns : goal.returns
returns c = λ model right number args state plan is. plan-called c.plans_are_called_so.ensures model right.shaped number args state plan is
