-- How calls end whose models are accepted, where no device fails.
use Rattle.std.specs.Prelude.{ℕ, ◌≡◌, ◌⊎◌, List, Option, Some, IfSome}
use Rattle.dsde_input_records.specs.Records.{Records}
use Rattle.dsde_sim_tree.specs.declared.event.Finish.{Finish}
use Rattle.dsde_sim_tree.specs.Engine.{Engine}
use Rattle.dsde_sound_runs.specs.given.run_meaning.Run.{Run}
use Rattle.dsde_run_free.specs.given.run.Run.{Running, records_in}
use Rattle.dsde_run_free.specs.given.run.Resumed.{HasFew, resumed}
use Rattle.dsde_cli.specs.RunOutcome.{status_of}
use Rattle.dsde_cli_status.specs.declared.status.SaveFault.TheVariants.{FewRecords}
use Rattle.dsde_cli_status.specs.declared.status.Status.{Status}
use Rattle.dsde_cli_status.specs.declared.status.Status.TheVariants.{Done, Memory, BadSave}

-- The run came to its end, and the status is that of this end, unless memory ran out. Where the source
-- tells its bytes it is the end of the run on their records, which there always is.
pub record Completes (own : Running) (tells : Records → Run) (input : Option (List ℕ)) (status : Status) : Type 0 where
  pub how : Finish
  pub end : IfSome input (λ bytes. (tells (records_in own bytes)).end ≡ Some how)
  pub is : (status ≡ status_of how) ⊎ (status ≡ Memory)

-- A check is done, unless memory ran out.
abbrev pub CompletesCheck : Status → Type 0
CompletesCheck status = (status ≡ Done) ⊎ (status ≡ Memory)

-- A run that was taken up again came to its end, and the status is that of this end.
pub record EndsBack (own : Running) (turns : ℕ) (engine : Engine) (input : Option (List ℕ)) (status : Status) : Type 0 where
  pub how : Finish
  pub end : IfSome input (λ bytes. (resumed own bytes turns engine).end ≡ Some how)
  pub is : status ≡ status_of how

-- It came to its end, or the input has too few records, unless memory ran out.
abbrev pub CompletesBack : Running → ℕ → Engine → Option (List ℕ) → Status → Type 0
CompletesBack own turns engine input status =
    EndsBack own turns engine input status ⊎ (((status ≡ BadSave FewRecords) × IfSome input (HasFew own engine)) ⊎ (status ≡ Memory))
