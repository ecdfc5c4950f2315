-- What a run comes to that is taken up again.
use Rattle.std.specs.Prelude.{ℕ, List, [], Option, Result, Ok, Err}
use Rattle.dsde_input_records.specs.declared.end.InputEnd.TheVariants as input_end
use Rattle.dsde_input.specs.declared.skipping.SkipEnd.{SkipEnd}
use Rattle.dsde_input.specs.declared.skipping.SkipEnd.TheVariants.{Few, Refused}
use Rattle.dsde_io.specs.Bytes.{Gains}
use Rattle.dsde_sim_tree.specs.declared.event.Finish.{Finish}
use Rattle.dsde_sim_tree.specs.declared.event.Finish.TheVariants as how
use Rattle.dsde_sim_tree.specs.declared.event.InputKind.TheVariants as kind
use Rattle.dsde_sim_tree.specs.Engine.{Engine}
use Rattle.dsde_trace.specs.declared.pick.Pick.{Pick}
use Rattle.dsde_run.specs.declared.run.Cut.{Cut}
use Rattle.dsde_run.specs.declared.run.Cut.TheVariants as cut
use Rattle.dsde_run.specs.Reading.{Comes}
use Rattle.dsde_run.specs.Run.{Running}
use Rattle.dsde_run.specs.declared.resuming.Unresumed.{Unresumed}
use Rattle.dsde_run.specs.declared.resuming.Unresumed.TheVariants as unresumed
use Rattle.dsde_run.specs.Resumed.{HasFew, records_for, resumed_on}

-- What it comes to: what the turns of a run do, over the whole input, or else the input has too few records,
-- and nothing was written.
abbrev pub ComesBack : Running → Pick → ℕ → Engine → Engine → Option (List ℕ) → Option (List ℕ) → Result Finish Unresumed → List ℕ → List ℕ → Type 0
ComesBack own pick turns engine stands old new (Ok how) before after = Comes own pick (resumed_on own turns engine) (records_for own engine before) stands old new (Ok how) [] before after
ComesBack own pick turns engine stands old new (Err (unresumed.Cut why)) before after = Comes own pick (resumed_on own turns engine) (records_for own engine before) stands old new (Err why) [] before after
ComesBack own pick turns engine stands old new (Err unresumed.FewRecords) before after = HasFew own engine before × Gains old new []

-- how the turns of a run end, as that of a run that is taken up again
abbrev pub taken_up : Result Finish Cut → Result Finish Unresumed
taken_up (Ok how) = Ok how
taken_up (Err why) = Err (unresumed.Cut why)

-- how a run ends whose records are not skipped
abbrev pub stopped_as : SkipEnd → Result Finish Unresumed
stopped_as Few = Err unresumed.FewRecords
stopped_as (Refused (input_end.BadLine line)) = Ok (how.Input kind.BadLine line)
stopped_as (Refused (input_end.Backwards line)) = Ok (how.Input kind.Backwards line)
stopped_as (Refused (input_end.LineTooLong line)) = Ok (how.Input kind.LineTooLong line)
stopped_as (Refused input_end.ReadFault) = Err (unresumed.Cut cut.ReadFault)
stopped_as (Refused input_end.Memory) = Err (unresumed.Cut cut.Memory)
