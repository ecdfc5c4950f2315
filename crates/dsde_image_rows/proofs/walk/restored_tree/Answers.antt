use Rattle.std.proofs.Common.{rules}
use Rattle.dsde_image_rows.proofs.Whole.{stands-then}
use Rattle.dsde_image_rows.proofs.walk.restored_tree.Goals as goal

pub returns-in-Ok-clause-stands : goal.returns-in-Ok-clause-stands
returns-in-Ok-clause-stands c =
    stands-then c.args.program.now c.args.version c.args.time c.args.rows.now c.whole_tree.result c.only_images_fit.ensures
    (c.scripts_are_exact.ensures.exact c.args.program.now c.right.ensures) (search rules)
