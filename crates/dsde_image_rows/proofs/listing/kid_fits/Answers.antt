use Rattle.dsde_sim_starting.specs.lemmas.Fits.{kid-tree}
use Rattle.dsde_image_rows.proofs.listing.kid_fits.Goals as goal

pub returns : goal.returns
returns c = kid-tree c.args._program.now c.args._kid.now c.requires
