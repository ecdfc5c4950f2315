use Rattle.std.proofs.Common.{subst, false, Option}
use Rattle.std.specs.Prelude.{IfSome}
use Rattle.dsde_sim_tree.specs.given.formalism.leaf_Leaf.{Leaf}
use Rattle.dsde_image_rows.specs.Walks.{FitsComponent}
use Rattle.dsde_image_rows.proofs.Fitting.{atomic-fits}
use Rattle.dsde_image_rows.proofs.walk.restored_atomic.Goals as goal

pub returns-in-Some-clause-fits : goal.returns-in-Some-clause-fits
returns-in-Some-clause-fits c =
    atomic-fits c.args.walk.now.program.now c.args.model c.in-Some.leaf
    (subst (λ (own : Option Leaf). IfSome own (FitsComponent c.args.walk.now.program.now c.args.model false)) c.in-Some.is c.in_ok-leaf.ensures.fits) c.requires.atomic
