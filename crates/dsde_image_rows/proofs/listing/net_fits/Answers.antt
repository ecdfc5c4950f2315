use Rattle.dsde_sim_starting.specs.lemmas.Fits.{net-tree}
use Rattle.dsde_image_rows.proofs.listing.net_fits.Goals as goal

pub returns : goal.returns
returns c = net-tree c.args._program.now c.args._net.now c.requires
