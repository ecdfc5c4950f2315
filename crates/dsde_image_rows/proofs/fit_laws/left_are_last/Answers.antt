use Rattle.dsde_image_rows.proofs.Leaving.{part-leaves}
use Rattle.dsde_image_rows.proofs.fit_laws.left_are_last.Goals as goal

pub returns : goal.returns
returns c = part-leaves
