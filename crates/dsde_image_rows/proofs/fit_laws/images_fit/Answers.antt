use Rattle.dsde_image_rows.proofs.Again.{tree-again}
use Rattle.dsde_image_rows.proofs.fit_laws.images_fit.Goals as goal

pub returns : goal.returns
returns c = tree-again
