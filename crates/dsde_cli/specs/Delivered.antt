-- What a run delivers.
use Rattle.std.specs.Prelude.{ℕ}
use Rattle.std.specs.List.{AllByRecursion}
use Rattle.dsde_input_records.specs.Records.{Records}
use Rattle.dsde_run_free.specs.given.run.Run.{Running}
use Rattle.dsde_cli.specs.DeliveredTurns.{IsRunTurnDelivered, run_turns}
use Rattle.dsde_sound_runs.specs.given.system.Program.{system}

-- Nothing is delivered outside the structure of its moment: each turn of the run on these records
-- reaches only parts of the tree before it, and each part receives what the links of that tree carry
-- to it, up to a fault.
abbrev pub IsDelivered : Running → Records → ℕ → Type 0
IsDelivered own records turns = AllByRecursion (IsRunTurnDelivered (system own.model)) (run_turns (system own.model) records turns)
