use Rattle.dsde_image_rows.proofs.Restoring.{tree-restored}
use Rattle.dsde_image_rows.proofs.image_laws.images_are_restored.Goals as goal

pub returns : goal.returns
returns c = tree-restored c.images_fit.ensures c.scripts_are_exact.ensures.args c.scripts_are_exact.ensures.states
