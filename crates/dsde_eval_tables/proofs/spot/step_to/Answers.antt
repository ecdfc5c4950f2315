-- The place of an item is a step.
use Rattle.dsde_language.specs.MeaningOperators.{indexed}
use Rattle.dsde_eval_tables.proofs.Steps.{steps-in}
use Rattle.dsde_eval_tables.proofs.spot.step_to.Goals as goal

pub returns : goal.returns
returns c = steps-in c.args.list.now (indexed c.args.at c.args.list.now c.args.index.now) c.place_in.result c.requires c.place_in.ensures
