use Rattle.dsde_cli_spots.proofs.Systems.{systems-below, tops-below}
use Rattle.dsde_cli_spots.proofs.sound_laws.faults_are_placed.Goals as goal

pub returns-clause-tops : goal.returns-clause-tops
returns-clause-tops c = λ model shaped. tops-below model shaped

pub returns-clause-systems : goal.returns-clause-systems
returns-clause-systems c = λ model chosen shaped top. systems-below model chosen shaped top
