use Rattle.dsde_grove.specs.Grove.{value_of}
use Rattle.dsde_core_parcels.specs.lemmas.Dues.{held-is}
use Rattle.dsde_core_outputs.proofs.single.root_leaf.Goals as goal

pub returns-clause-held : goal.returns-clause-held
returns-clause-held g c = held-is (value_of c.args.flat.now.grove c.args.flat.now.root) c.in-Some.leaf.now c.in-Some.ensures.leaf
