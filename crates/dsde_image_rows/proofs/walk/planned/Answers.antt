use Rattle.dsde_image_rows.proofs.Fitting.{boss-state}
use Rattle.dsde_image_rows.proofs.walk.planned.Goals as goal

pub structure-requires-clause-state : goal.structure-requires-clause-state
structure-requires-clause-state c = boss-state c.args.walk.now.program.now c.args.model c.args.args.now c.args.boss.now c.requires.boss
