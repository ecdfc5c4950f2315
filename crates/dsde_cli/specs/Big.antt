-- What a run of the large model writes, and how it ends.
use Rattle.std.specs.Prelude.{ℕ, ◌≡◌, ⊤, List, [], ◌++◌, Option, Some}
use Rattle.dsde_sound_runs.specs.given.run_meaning.Run.{Run}
use Rattle.dsde_run_free.specs.given.run.Run.{Running, records_in, run}
use Rattle.dsde_run_big.specs.Model.{big_text}
use Rattle.dsde_cli_command.specs.Commands.{AsksBig}
use Rattle.dsde_cli_status.specs.declared.status.Status.{Status}
use Rattle.dsde_cli_status.specs.declared.status.Status.TheVariants.{Done, Refused, ModelFault, Unwritten, Memory}
use Rattle.dsde_cli_status.specs.declared.status.What.TheVariants as what
use Rattle.dsde_cli_status.specs.given.cli_verdict.Verdict.{Refuses}
use Rattle.dsde_cli.specs.Answer.{AnswersFront}
use Rattle.dsde_cli.specs.Causes.{Runs, RunsSome}

-- a run for at most so many turns on an empty input
abbrev pub big_run : Running → ℕ → Run
big_run own turns = run own (records_in own []) turns

-- The words ask for a run of the large model of a seed, whose text is accepted with this model and its places.
pub record Drawn (words : List (List ℕ)) : Type 0 where
  pub asked : AsksBig words
  pub own : Running
  pub runs : Runs (big_text asked.big.seed) own

-- what its run tells
abbrev pub run_of : {words : List (List ℕ)} → Drawn words → Run
run_of drawn = big_run drawn.own drawn.asked.big.turns

-- A model was run without input, and this is the summary of its run: the sink had `written`, and has
-- `out`. Where the run ended the whole summary was written. Only a failed write and want of memory cut
-- it short.
abbrev pub Summarizes : List ℕ → List ℕ → Option (List ℕ) → Status → Type 0
Summarizes summary written out Done = out ≡ Some (written ++ summary)
Summarizes summary written out (ModelFault fault) = out ≡ Some (written ++ summary)
Summarizes summary written out (Unwritten what.Output) = AnswersFront summary written out
Summarizes summary written out Memory = AnswersFront summary written out
Summarizes summary written out other = ⊥

-- Why a status comes where the words ask for a run of the large model of this seed: its text stands for
-- that of a model that is loaded. Only want of memory comes without a cause.
abbrev pub CauseBig : ℕ → (SinkFails : Type 0) → Status → Type 0
CauseBig seed SinkFails Done = RunsSome (big_text seed)
CauseBig seed SinkFails (ModelFault fault) = RunsSome (big_text seed)
CauseBig seed SinkFails (Refused kind line column) = Refuses (big_text seed) kind line column
CauseBig seed SinkFails (Unwritten what.Output) = RunsSome (big_text seed) × SinkFails
CauseBig seed SinkFails Memory = ⊤
CauseBig seed SinkFails other = ⊥

-- The status is one of a run without input, and the sink failed where it says so.
abbrev pub IsOfSummary : Type 0 → Status → Type 0
IsOfSummary SinkFails Done = ⊤
IsOfSummary SinkFails (ModelFault fault) = ⊤
IsOfSummary SinkFails (Unwritten what.Output) = SinkFails
IsOfSummary SinkFails Memory = ⊤
IsOfSummary SinkFails other = ⊥
