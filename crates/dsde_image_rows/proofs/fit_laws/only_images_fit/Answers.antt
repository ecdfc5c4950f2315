use Rattle.dsde_image_rows.proofs.Found.{only-images}
use Rattle.dsde_image_rows.proofs.fit_laws.only_images_fit.Goals as goal

pub returns : goal.returns
returns c = only-images
