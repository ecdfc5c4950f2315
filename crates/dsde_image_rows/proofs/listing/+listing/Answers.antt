use Rattle.std.proofs.Common.{subst}
use Rattle.dsde_sim_starting.specs.Fitting.{FitsTree}
use Rattle.dsde_sim_starting.specs.lemmas.Fits.{leaf-tree}
use Rattle.dsde_image_rows.specs.Script.{script}
use Rattle.dsde_image_rows.proofs.NetRows.{net-listed}
use Rattle.dsde_image_rows.proofs.listing.+listing.Goals as goal

pub list_net-returns : goal.list_net-returns
list_net-returns t c =
    net-listed (script c.args.program.now) c.args.version c.args.net.now c.args.path.now c.args.listed.now _ _ _ _ c.list_kids.result c.in_ok-put_net.ensures c.in_ok-put_boss.ensures c.as_slice.ensures c.list_kids.ensures

pub list-put_atomic-requires : goal.list-put_atomic-requires
list-put_atomic-requires t c =
    (leaf-tree c.args.program.now c.in-Leaf.leaf (subst (FitsTree c.args.program.now) c.in-Leaf.is c.requires)).fits.below
