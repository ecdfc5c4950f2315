-- A run of the large model, from what its parts say.
use Rattle.std.proofs.Common.{◌≡◌, ℕ, ◌≤◌, ◌⊎◌, List, [], ◌++◌, length, inl, inr, refl, sym, ap, subst, ◌∙◌, arith}
use Rattle.std.specs.Prelude.{Option, Some, None, IfSome}
use Rattle.dsde_io.specs.Bytes.{Gains}
use Rattle.dsde_io.specs.Held.{Bytes}
use Rattle.dsde_sim_tree.specs.declared.event.Finish.{Finish}
use Rattle.dsde_sim_tree.specs.declared.event.Finish.TheVariants as how
use Rattle.dsde_sound_runs.specs.Ends.{InputsArrive, RunsEnd}
use Rattle.dsde_run_free.specs.given.run.Run.{Running, run}
use Rattle.dsde_run_big.specs.Model.{big_text}
use Rattle.dsde_run_free.specs.given.run.Counting.{IsOwnEnd}
use Rattle.dsde_cli_status.specs.declared.status.Status.{Status}
use Rattle.dsde_cli_status.specs.declared.status.Status.TheVariants.{Done, Refused, Usage, BadInput, ModelFault, Unread, Unwritten, Memory, BadSave}
use Rattle.dsde_cli_status.specs.declared.status.What.TheVariants as what
use Rattle.dsde_cli_status.specs.declared.status.Why.TheVariants as why
use Rattle.dsde_cli_status.specs.given.cli_verdict.refusal_Refusal.{Refusal}
use Rattle.dsde_cli_status.specs.given.cli_verdict.Verdict.{Refuses}
use Rattle.dsde_cli.specs.Answer.{AnswersFront}
use Rattle.dsde_cli.specs.Big.{CauseBig, IsOfSummary, Summarizes, big_run}
use Rattle.dsde_cli.specs.Causes.{NoModel, NoneIn, Runs, RunsSome, Tells}
use Rattle.dsde_cli.specs.RunOutcome.{SaysEnd, status_of}
use Rattle.dsde_cli.specs.Saved.{IsOfStored}
use Rattle.dsde_cli.specs.Outcome.{Completes}
use Rattle.dsde_cli.proofs.Completing.{cut-memory, run-completes, run-ends}
use Rattle.dsde_cli.proofs.Loads.{OneVerdict, refusal_tells, run_cut, run_unrefused}
use Rattle.dsde_cli.proofs.Outcomes.{answers-none, answers-whole}

-- What an end says that no line of an input made.
pub says-own : (answer : Finish) → IsOwnEnd answer → SaysEnd (Some answer) (Some []) (status_of answer)
says-own how.Bound own = inl refl
says-own how.Quiet own = inr (refl, refl)
says-own (how.Fault fault) own = refl
says-own (how.Input kind line) own = refl

pub of-summary : (SinkFails : Type 0) (answer : Finish) → IsOwnEnd answer → IsOfSummary SinkFails (status_of answer)
of-summary SinkFails how.Bound own = tt
of-summary SinkFails how.Quiet own = tt
of-summary SinkFails (how.Fault fault) own = tt
of-summary SinkFails (how.Input kind line) own = own

summary-whole : (answer : Finish) (summary written : List ℕ) (out : Option (List ℕ)) → IsOwnEnd answer → out ≡ Some (written ++ summary) → Summarizes summary written out (status_of answer)
summary-whole how.Bound summary written out own is = is
summary-whole how.Quiet summary written out own is = is
summary-whole (how.Fault fault) summary written out own is = is
summary-whole (how.Input kind line) summary written out own is = own

-- The whole summary was written.
pub summary-written : (answer : Finish) (summary bytes : List ℕ) (before after : Option (List ℕ)) (status : Status) → IsOwnEnd answer → Gains before after bytes → bytes ≡ summary → status ≡ status_of answer →
    IfSome before (λ written. Summarizes summary written after status)
summary-written answer summary bytes None after status own gains same is = tt
summary-written answer summary bytes (Some written) after status own gains same is =
    subst (Summarizes summary written after) (sym is) (summary-whole answer summary written after own (gains ∙ ap (λ bytes. Some (written ++ bytes)) same))

-- Nothing was written, for want of memory.
pub summary-none : (summary : List ℕ) (before : Option (List ℕ)) (status : Status) → status ≡ Memory → IfSome before (λ written. Summarizes summary written before status)
summary-none summary None status is = tt
summary-none summary (Some written) status is = subst (Summarizes summary written (Some written)) (sym is) (answers-none summary written (Some written) refl)

summary-front : (summary written : List ℕ) (out : Option (List ℕ)) (status : Status) → Summarizes summary written out status → AnswersFront summary written out
summary-front summary written out Done is = answers-whole summary written out is
summary-front summary written out (ModelFault fault) is = answers-whole summary written out is
summary-front summary written out (Unwritten what.Output) is = is
summary-front summary written out Memory is = is
summary-front summary written out (Unwritten what.Input) is = absurd is
summary-front summary written out (Unwritten what.Model) is = absurd is
summary-front summary written out (Unwritten what.Save) is = absurd is
summary-front summary written out (Unread reading because) is = absurd is
summary-front summary written out (Refused kind line column) is = absurd is
summary-front summary written out Usage is = absurd is
summary-front summary written out (BadInput kind line) is = absurd is
summary-front summary written out (BadSave fault) is = absurd is

-- What comes of a run without input is told, unless memory ran out.
pub summary-reported : (summary : List ℕ) (before after : Option (List ℕ)) (status result : Status) →
    IfSome before (λ written. Summarizes summary written after status) → (result ≡ status) ⊎ (result ≡ Memory) → IfSome before (λ written. Summarizes summary written after result)
summary-reported summary None after status result summarizes reported = tt
summary-reported summary (Some written) after status result summarizes (inl same) = subst (Summarizes summary written after) (sym same) summarizes
summary-reported summary (Some written) after status result summarizes (inr ended) = subst (Summarizes summary written after) (sym ended) (summary-front summary written after status summarizes)

pub end-reported : (end : Option Finish) (left : Option (List ℕ)) (status result : Status) → SaysEnd end left status → (result ≡ status) ⊎ (result ≡ Memory) → SaysEnd end left result
end-reported end left status result says (inl same) = subst (SaysEnd end left) (sym same) says
end-reported end left status result says (inr ended) = subst (SaysEnd end left) (sym ended) tt

-- a status of a run without input is one of a run
of-run : (SinkFails : Type 0) (status : Status) → IsOfSummary SinkFails status → IsOfStored None ⊥ ⊥ SinkFails status
of-run SinkFails Done is = tt
of-run SinkFails (ModelFault fault) is = tt
of-run SinkFails (Unwritten what.Output) is = is
of-run SinkFails Memory is = tt
of-run SinkFails (Unwritten what.Input) is = absurd is
of-run SinkFails (Unwritten what.Model) is = absurd is
of-run SinkFails (Unwritten what.Save) is = absurd is
of-run SinkFails (Unread reading because) is = absurd is
of-run SinkFails (Refused kind line column) is = absurd is
of-run SinkFails Usage is = absurd is
of-run SinkFails (BadInput kind line) is = absurd is
of-run SinkFails (BadSave fault) is = absurd is

-- a shelf that has these bytes under each name
abbrev having : List ℕ → Option Bytes
having bytes = Some (λ _. Some bytes)

pub big-completes : (ends : RunsEnd) (inputs : InputsArrive) (bytes : List ℕ) (own : Running) (turns : ℕ) → Runs bytes own → (SinkFails : Type 0) (status : Status) → IsOfSummary SinkFails status →
    SaysEnd (big_run own turns).end (Some []) status → ¬ SinkFails → Completes own (λ records. run own records turns) (Some []) status
big-completes ends inputs bytes own turns accepted SinkFails status is says sink =
    run-completes own (λ records. run own records turns) (run-ends inputs [] (having bytes) own accepted ends turns) None ⊥ ⊥ SinkFails (Some []) (Some []) status (of-run SinkFails status is) says (λ never. never) (λ never. never) sink

-- why a status comes of a run that was made
pub cause-made : (seed : ℕ) (SinkFails : Type 0) (status : Status) → RunsSome (big_text seed) → IsOfSummary SinkFails status → CauseBig seed SinkFails status
cause-made seed SinkFails Done some is = some
cause-made seed SinkFails (ModelFault fault) some is = some
cause-made seed SinkFails (Unwritten what.Output) some is = (some, is)
cause-made seed SinkFails Memory some is = tt
cause-made seed SinkFails (Unwritten what.Input) some is = absurd is
cause-made seed SinkFails (Unwritten what.Model) some is = absurd is
cause-made seed SinkFails (Unwritten what.Save) some is = absurd is
cause-made seed SinkFails (Unread reading because) some is = absurd is
cause-made seed SinkFails (Refused kind line column) some is = absurd is
cause-made seed SinkFails Usage some is = absurd is
cause-made seed SinkFails (BadInput kind line) some is = absurd is
cause-made seed SinkFails (BadSave fault) some is = absurd is

-- and why there is none: the text is too short to be refused for its length
pub cause-none : (seed : ℕ) (SinkFails : Type 0) (status : Status) → length (big_text seed) ≤ 4096 → NoneIn Refuses (big_text seed) status → CauseBig seed SinkFails status
cause-none seed SinkFails (Refused kind line column) short none = none
cause-none seed SinkFails Memory short none = tt
cause-none seed SinkFails (Unread what.Model why.TooLong) short none = absurd (omega (arith, short, none))
cause-none seed SinkFails (Unread what.Model why.Absent) short none = absurd none
cause-none seed SinkFails (Unread what.Model why.Failed) short none = absurd none
cause-none seed SinkFails (Unread what.Save because) short none = absurd none
cause-none seed SinkFails (Unread what.Input because) short none = absurd none
cause-none seed SinkFails (Unread what.Output because) short none = absurd none
cause-none seed SinkFails Done short none = absurd none
cause-none seed SinkFails Usage short none = absurd none
cause-none seed SinkFails (BadInput kind line) short none = absurd none
cause-none seed SinkFails (ModelFault fault) short none = absurd none
cause-none seed SinkFails (Unwritten writing) short none = absurd none
cause-none seed SinkFails (BadSave fault) short none = absurd none

-- bytes that give no model give none from a shelf that has them
no-model : (bytes : List ℕ) (status : Status) → NoneIn Refuses bytes status → NoModel Refuses [] (having bytes) ⊥ status
no-model bytes (Refused kind line column) none = none
no-model bytes Memory none = tt
no-model bytes (Unread what.Model why.TooLong) none = none
no-model bytes (Unread what.Model why.Absent) none = absurd none
no-model bytes (Unread what.Model why.Failed) none = absurd none
no-model bytes (Unread what.Save because) none = absurd none
no-model bytes (Unread what.Input because) none = absurd none
no-model bytes (Unread what.Output because) none = absurd none
no-model bytes Done none = absurd none
no-model bytes Usage none = absurd none
no-model bytes (BadInput kind line) none = absurd none
no-model bytes (ModelFault fault) none = absurd none
no-model bytes (Unwritten writing) none = absurd none
no-model bytes (BadSave fault) none = absurd none

-- Where bytes that are accepted gave no model, memory ran out.
pub big-memory : OneVerdict → (bytes : List ℕ) (own : Running) (status : Status) → NoneIn Refuses bytes status → Runs bytes own → status ≡ Memory
big-memory one bytes own status none accepted =
    let no = no-model bytes status none in
    cut-memory [] (having bytes) ⊥ status no (run_cut one [] (having bytes) ⊥ status own no accepted) (λ never. never)

-- what is told of a text that is refused
pub big-refused : OneVerdict → (bytes : List ℕ) (status : Status) (kind : Refusal) (line column : ℕ) → NoneIn Refuses bytes status → Refuses bytes kind line column → Tells kind line column status
big-refused one bytes status kind line column none refuses = refusal_tells one [] (having bytes) ⊥ status kind line column (no-model bytes status none) refuses

pub big-unrefused : OneVerdict → (bytes : List ℕ) (kind : Refusal) (line column : ℕ) → RunsSome bytes → Refuses bytes kind line column → ⊥
big-unrefused one bytes kind line column some refuses = run_unrefused one [] (having bytes) kind line column some refuses
