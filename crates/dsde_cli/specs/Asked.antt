-- What the words ask a run to be.
use Rattle.std.specs.Prelude.{ℕ, Option, Some, None}
use Rattle.dsde_input_records.specs.Records.{Records}
use Rattle.dsde_sound_runs.specs.given.run_meaning.Run.{Run}
use Rattle.dsde_run_free.specs.given.run.Run.{Running, run}
use Rattle.dsde_run_free.specs.Free.{free_run}
use Rattle.dsde_cli_command.specs.Commands.{RunCommand}
use Rattle.dsde_cli_command.specs.declared.command.Only.{Only}
use Rattle.dsde_cli_command.specs.declared.command.Only.TheVariants as only
use Rattle.dsde_cli_status.specs.given.trace.pick_Pick.{Pick}
use Rattle.dsde_cli_status.specs.given.trace.pick_Pick_TheVariants.{All, Outputs, Structure}

-- the lines that a command keeps: all, where it does not say which
abbrev pub pick_of : Option Only → Pick
pick_of None = All
pick_of (Some only.Outputs) = Outputs
pick_of (Some only.Structure) = Structure

-- what the run tells on records
abbrev pub tells_on : Running → RunCommand → Records → Run
tells_on own asked records = run own records asked.turns

-- what the run in the orders that a seed draws tells on records
abbrev pub drawn_on : Running → ℕ → ℕ → Records → Run
drawn_on own seed turns records = free_run own seed records turns
