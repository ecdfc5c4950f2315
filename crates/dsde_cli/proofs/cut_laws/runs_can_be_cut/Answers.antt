use Rattle.dsde_sound_runs.specs.given.run_meaning.Run.{records_in}
use Rattle.dsde_cli.proofs.Standing.{rest-is}
use Rattle.dsde_cli.proofs.Going.{goes-on, state-is}
use Rattle.dsde_cli.proofs.cut_laws.runs_can_be_cut.Goals as goal

pub returns : goal.returns
returns c = λ system spots ports types bytes engine turns more none early can. record {
  rest = rest-is system ports types bytes turns engine none early;
  state = state-is system spots turns (records_in ports types bytes) engine;
  goes_on = goes-on system spots turns more (records_in ports types bytes) engine can;
}
