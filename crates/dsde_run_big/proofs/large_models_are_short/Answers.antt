use Rattle.dsde_run_big.proofs.Short.{big-short}
use Rattle.dsde_run_big.proofs.large_models_are_short.Goals as goal

pub returns : goal.returns
returns c = big-short
