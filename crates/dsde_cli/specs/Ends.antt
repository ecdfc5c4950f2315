-- Runs in drawn orders come to an end.
use Rattle.std.specs.Prelude.{ℕ}
use Rattle.dsde_language.specs.Right.{IsRight}
use Rattle.dsde_input_records.specs.Records.{Records}
use Rattle.dsde_run_free.specs.given.run.Run.{Running}
use Rattle.dsde_run_free.specs.Free.{free_run}
use Rattle.dsde_sound_runs.specs.Ends.{AllArrive, HasEnd}

-- Of a model in which nothing is wrong, on records that come to it, whatever seed draws the orders.
abbrev pub DrawnRunsEnd : Type 0
DrawnRunsEnd = (own : Running) (seed : ℕ) (records : Records) (turns : ℕ) → IsRight own.model → AllArrive own.model records → HasEnd (free_run own seed records turns)
