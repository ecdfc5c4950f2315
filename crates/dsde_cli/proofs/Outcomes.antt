-- How a call ends, from what its parts say.
use Rattle.std.proofs.Common.{◌≡◌, ◌≢◌, ℕ, List, ◌++◌, ◌⊎◌, length, refl, sym, ap, subst, ◌∙◌, inl, inr}
use Rattle.std.specs.Prelude.{Option, Some, None, IfSome}
use Rattle.std.proofs.Math.Seq.{take-length}
use Rattle.std.proofs.lemmas.List.{append-nil}
use Rattle.dsde_input_records.specs.Records.{Records}
use Rattle.dsde_io.specs.Held.{Bytes}
use Rattle.dsde_cli_command.specs.Commands.{BigCommand, CheckCommand, FreeCommand, ResumeCommand, RunCommand, Task, checks, counts, draws, resumes, runs}
use Rattle.dsde_cli.specs.Answer.{Answers, AnswersFront}
use Rattle.dsde_cli.specs.Causes.{Cause, CauseResume}
use Rattle.dsde_cli_status.specs.declared.status.SaveFault.{SaveFault}
use Rattle.dsde_sound_runs.specs.given.run_meaning.Run.{Run}
use Rattle.dsde_run_free.specs.given.run.Run.{Running, records_in}
use Rattle.dsde_run_free.specs.given.run.Resumed.{records_for, resumed_on}
use Rattle.dsde_sim_tree.specs.Engine.{Engine}
use Rattle.dsde_cli_status.specs.given.trace.pick_Pick.{Pick}
use Rattle.dsde_cli.specs.Back.{ComesBack, SaysBack, TellsSave}
use Rattle.dsde_cli.specs.RunOutcome.{WritesFront, SaysEnd, Comes, ComesOn}
use Rattle.dsde_cli.specs.Saved.{Leaves}
use Rattle.dsde_cli.specs.lemmas.Fronts.{front-none, front-whole}
use Rattle.dsde_cli_status.specs.declared.status.SaveFault.TheVariants as save
use Rattle.dsde_cli_status.specs.declared.status.Status.{Status}
use Rattle.dsde_cli_status.specs.declared.status.Status.TheVariants.{Done, Refused, Usage, BadInput, ModelFault, Unread, Unwritten, Memory, BadSave}
use Rattle.dsde_cli_status.specs.declared.status.What.TheVariants as what
use Rattle.dsde_cli_status.specs.declared.status.Why.TheVariants as why

-- Whatever comes, a front of the trace was written.
pub comes-front : (own : Running) (pick : Pick) (tells : Records → Run) (records : Records) (input : List ℕ) (left : Option (List ℕ)) (written : List ℕ) (out : Option (List ℕ)) (status : Status) →
    ComesOn own pick tells records input left written out status → WritesFront own pick (tells records) written out
comes-front own pick tells records input left written out Done comes = front-whole own pick (tells records) written out comes.0
comes-front own pick tells records input left written out (BadInput kind line) comes = front-whole own pick (tells records) written out comes.0
comes-front own pick tells records input left written out (ModelFault fault) comes = front-whole own pick (tells records) written out comes.0
comes-front own pick tells records input left written out (Unread what.Input why.Failed) comes = comes.1
comes-front own pick tells records input left written out (Unread what.Model why.Failed) comes = front-none own pick (tells records) written out comes
comes-front own pick tells records input left written out (Unread what.Input why.Absent) comes = absurd comes
comes-front own pick tells records input left written out (Unread what.Input why.TooLong) comes = absurd comes
comes-front own pick tells records input left written out (Unread what.Model why.Absent) comes = absurd comes
comes-front own pick tells records input left written out (Unread what.Model why.TooLong) comes = absurd comes
comes-front own pick tells records input left written out (Unread what.Save because) comes = absurd comes
comes-front own pick tells records input left written out (Unread what.Output because) comes = absurd comes
comes-front own pick tells records input left written out (Unwritten what.Output) comes = comes
comes-front own pick tells records input left written out (Unwritten what.Save) comes = front-whole own pick (tells records) written out comes.0
comes-front own pick tells records input left written out (Unwritten what.Input) comes = absurd comes
comes-front own pick tells records input left written out (Unwritten what.Model) comes = absurd comes
comes-front own pick tells records input left written out Memory comes = comes
comes-front own pick tells records input left written out (Refused kind line column) comes = absurd comes
comes-front own pick tells records input left written out Usage comes = absurd comes
comes-front own pick tells records input left written out (BadSave fault) comes = absurd comes

-- What is said of the end is said in the report, unless memory ran out.
pub ends-reported : (own : Running) (tells : Records → Run) (left left_after : Option (List ℕ)) (status result : Status) →
    IfSome left (λ input. SaysEnd (tells (records_in own input)).end left_after status) → (result ≡ status) ⊎ (result ≡ Memory) →
    IfSome left (λ input. SaysEnd (tells (records_in own input)).end left_after result)
ends-reported own tells None left_after status result ends reported = tt
ends-reported own tells (Some input) left_after status result ends (inl same) = subst (SaysEnd (tells (records_in own input)).end left_after) (sym same) ends
ends-reported own tells (Some input) left_after status result ends (inr ended) = subst (SaysEnd (tells (records_in own input)).end left_after) (sym ended) tt

-- What comes is told, unless memory ran out.
pub comes-reported : (own : Running) (pick : Pick) (tells : Records → Run) (left left_after before after : Option (List ℕ)) (status result : Status) →
    IfSome left (λ input. IfSome before (λ written. Comes own pick tells input left_after written after status)) → (result ≡ status) ⊎ (result ≡ Memory) →
    IfSome left (λ input. IfSome before (λ written. Comes own pick tells input left_after written after result))
comes-reported own pick tells None left_after before after status result comes reported = tt
comes-reported own pick tells (Some input) left_after None after status result comes reported = tt
comes-reported own pick tells (Some input) left_after (Some written) after status result comes (inl same) =
    subst (Comes own pick tells input left_after written after) (sym same) comes
comes-reported own pick tells (Some input) left_after (Some written) after status result comes (inr ended) =
    subst (Comes own pick tells input left_after written after) (sym ended) (comes-front own pick tells (records_in own input) input left_after written after status comes)

-- a run that was taken up again left a front of its trace
back-front : (own : Running) (pick : Pick) (turns : ℕ) (engine : Engine) (input : List ℕ) (left : Option (List ℕ)) (written : List ℕ) (out : Option (List ℕ)) (status : Status) →
    ComesBack own pick turns engine input left written out status → ComesBack own pick turns engine input left written out Memory
back-front own pick turns engine input left written out (BadSave save.FewRecords) comes = front-none own pick (resumed_on own turns engine (records_for own engine input)) written out comes.1
back-front own pick turns engine input left written out (BadSave save.NotJson) comes = absurd comes
back-front own pick turns engine input left written out (BadSave save.WrongForm) comes = absurd comes
back-front own pick turns engine input left written out (BadSave (save.DoesNotFit path)) comes = absurd comes
back-front own pick turns engine input left written out (Unread what.Save why.Failed) comes = front-none own pick (resumed_on own turns engine (records_for own engine input)) written out comes
back-front own pick turns engine input left written out (Unread what.Save why.Absent) comes = absurd comes
back-front own pick turns engine input left written out (Unread what.Save why.TooLong) comes = absurd comes
back-front own pick turns engine input left written out (Unread what.Input because) comes = comes-front own pick (resumed_on own turns engine) (records_for own engine input) input left written out (Unread what.Input because) comes
back-front own pick turns engine input left written out (Unread what.Model because) comes = comes-front own pick (resumed_on own turns engine) (records_for own engine input) input left written out (Unread what.Model because) comes
back-front own pick turns engine input left written out (Unread what.Output because) comes = comes-front own pick (resumed_on own turns engine) (records_for own engine input) input left written out (Unread what.Output because) comes
back-front own pick turns engine input left written out Done comes = comes-front own pick (resumed_on own turns engine) (records_for own engine input) input left written out Done comes
back-front own pick turns engine input left written out (BadInput kind line) comes = comes-front own pick (resumed_on own turns engine) (records_for own engine input) input left written out (BadInput kind line) comes
back-front own pick turns engine input left written out (ModelFault fault) comes = comes-front own pick (resumed_on own turns engine) (records_for own engine input) input left written out (ModelFault fault) comes
back-front own pick turns engine input left written out (Unwritten writing) comes = comes-front own pick (resumed_on own turns engine) (records_for own engine input) input left written out (Unwritten writing) comes
back-front own pick turns engine input left written out Memory comes = comes-front own pick (resumed_on own turns engine) (records_for own engine input) input left written out Memory comes
back-front own pick turns engine input left written out (Refused kind line column) comes = comes-front own pick (resumed_on own turns engine) (records_for own engine input) input left written out (Refused kind line column) comes
back-front own pick turns engine input left written out Usage comes = comes-front own pick (resumed_on own turns engine) (records_for own engine input) input left written out Usage comes

-- memory ran out before anything was written
pub back-none : (own : Running) (pick : Pick) (turns : ℕ) (engine : Engine) (left out : Option (List ℕ)) → IfSome left (λ input. IfSome out (λ written. ComesBack own pick turns engine input left written out Memory))
back-none own pick turns engine None out = tt
back-none own pick turns engine (Some input) None = tt
back-none own pick turns engine (Some input) (Some written) = front-none own pick (resumed_on own turns engine (records_for own engine input)) written (Some written) refl

pub back-reported : (own : Running) (pick : Pick) (turns : ℕ) (engine : Engine) (left left_after before after : Option (List ℕ)) (status result : Status) →
    IfSome left (λ input. IfSome before (λ written. ComesBack own pick turns engine input left_after written after status)) → (result ≡ status) ⊎ (result ≡ Memory) →
    IfSome left (λ input. IfSome before (λ written. ComesBack own pick turns engine input left_after written after result))
back-reported own pick turns engine None left_after before after status result comes reported = tt
back-reported own pick turns engine (Some input) left_after None after status result comes reported = tt
back-reported own pick turns engine (Some input) left_after (Some written) after status result comes (inl same) =
    subst (ComesBack own pick turns engine input left_after written after) (sym same) comes
back-reported own pick turns engine (Some input) left_after (Some written) after status result comes (inr ended) =
    subst (ComesBack own pick turns engine input left_after written after) (sym ended) (back-front own pick turns engine input left_after written after status comes)

pub says-reported : (own : Running) (turns : ℕ) (engine : Engine) (left left_after : Option (List ℕ)) (status result : Status) →
    IfSome left (λ input. SaysBack own turns engine input left_after status) → (result ≡ status) ⊎ (result ≡ Memory) → IfSome left (λ input. SaysBack own turns engine input left_after result)
says-reported own turns engine None left_after status result says reported = tt
says-reported own turns engine (Some input) left_after status result says (inl same) = subst (SaysBack own turns engine input left_after) (sym same) says
says-reported own turns engine (Some input) left_after status result says (inr ended) = subst (SaysBack own turns engine input left_after) (sym ended) tt

-- what the shelf has is told, unless memory ran out
leaves-front : (name : Option (List ℕ)) (ShelfFails : Type 0) (held after : Option Bytes) (status : Status) → status ≢ Done → Leaves name ShelfFails held after status → Leaves name ShelfFails held after Memory
leaves-front None ShelfFails held after status well leaves = leaves
leaves-front (Some name) ShelfFails held after Done well leaves = absurd (well refl)
leaves-front (Some name) ShelfFails held after (Unwritten what.Save) well leaves = inr leaves
leaves-front (Some name) ShelfFails held after Memory well leaves = leaves
leaves-front (Some name) ShelfFails held after (Unwritten what.Output) well leaves = inl leaves
leaves-front (Some name) ShelfFails held after (Unwritten what.Input) well leaves = inl leaves
leaves-front (Some name) ShelfFails held after (Unwritten what.Model) well leaves = inl leaves
leaves-front (Some name) ShelfFails held after (Refused kind line column) well leaves = inl leaves
leaves-front (Some name) ShelfFails held after Usage well leaves = inl leaves
leaves-front (Some name) ShelfFails held after (BadInput kind line) well leaves = inl leaves
leaves-front (Some name) ShelfFails held after (ModelFault fault) well leaves = inl leaves
leaves-front (Some name) ShelfFails held after (Unread reading because) well leaves = inl leaves
leaves-front (Some name) ShelfFails held after (BadSave fault) well leaves = inl leaves

pub leaves-reported : (name : Option (List ℕ)) (ShelfFails : Type 0) (held after : Option Bytes) (status result : Status) → Leaves name ShelfFails held after status → (status ≡ Done → result ≡ Done) → (result ≡ status) ⊎ (result ≡ Memory) →
    Leaves name ShelfFails held after result
leaves-reported name ShelfFails held after status result leaves done (inl same) = subst (Leaves name ShelfFails held after) (sym same) leaves
leaves-reported name ShelfFails held after status result leaves done (inr ended) =
    subst (Leaves name ShelfFails held after) (sym ended) (leaves-front name ShelfFails held after status (λ well. absurd (let two : Done ≡ Memory = sym (done well) ∙ ended in cc two)) leaves)

-- a task is for one command
pub same_run : (one other : RunCommand) → Some (runs one) ≡ Some (runs other) → one ≡ other
same_run one other same = cc same

pub same_resume : (one other : ResumeCommand) → Some (resumes one) ≡ Some (resumes other) → one ≡ other
same_resume one other same = cc same

pub same_check : (one other : CheckCommand) → Some (checks one) ≡ Some (checks other) → one ≡ other
same_check one other same = cc same

pub same_big : (one other : BigCommand) → Some (counts one) ≡ Some (counts other) → one ≡ other
same_big one other same = cc same

pub same_free : (one other : FreeCommand) → Some (draws one) ≡ Some (draws other) → one ≡ other
same_free one other same = cc same

-- the command that a task is for
pub data Kind : Type 0 where
  check : Kind
  run : Kind
  resume : Kind
  big : Kind
  free : Kind

abbrev pub kind_of : Task → Kind
kind_of (checks task) = check
kind_of (runs task) = run
kind_of (resumes task) = resume
kind_of (counts task) = big
kind_of (draws task) = free

-- no task is for two commands, and none is for no command
pub other_task : (one other : Task) → kind_of one ≢ kind_of other → Some one ≡ Some other → ⊥
other_task one other apart same = let is : one ≡ other = cc same in apart (ap kind_of is)

pub no_task : (task : Task) → None ≡ Some task → ⊥
no_task task same = cc same

-- the whole answer is a front of it
pub answers-whole : (answer written : List ℕ) (out : Option (List ℕ)) → out ≡ Some (written ++ answer) → AnswersFront answer written out
answers-whole answer written out writes = record { count = length answer; is = writes ∙ ap (λ text. Some (written ++ text)) (sym (take-length answer)) }

-- nothing is a front of the answer
pub answers-none : (answer written : List ℕ) (out : Option (List ℕ)) → out ≡ Some written → AnswersFront answer written out
answers-none answer written out same = record { count = 0; is = same ∙ ap Some (sym (append-nil written)) }

-- Whatever comes of a check, a front of the answer was written.
answers-front : (answer written : List ℕ) (out : Option (List ℕ)) (status : Status) → Answers answer written out status → AnswersFront answer written out
answers-front answer written out Done is = answers-whole answer written out is
answers-front answer written out (Unread what.Model why.Failed) is = answers-none answer written out is
answers-front answer written out (Unwritten what.Output) is = is
answers-front answer written out Memory is = is
answers-front answer written out (Unread what.Model why.Absent) is = absurd is
answers-front answer written out (Unread what.Model why.TooLong) is = absurd is
answers-front answer written out (Unread what.Input because) is = absurd is
answers-front answer written out (Unread what.Save because) is = absurd is
answers-front answer written out (Unread what.Output because) is = absurd is
answers-front answer written out (Unwritten what.Input) is = absurd is
answers-front answer written out (Unwritten what.Model) is = absurd is
answers-front answer written out (Unwritten what.Save) is = absurd is
answers-front answer written out (Refused kind line column) is = absurd is
answers-front answer written out Usage is = absurd is
answers-front answer written out (BadInput kind line) is = absurd is
answers-front answer written out (ModelFault fault) is = absurd is
answers-front answer written out (BadSave fault) is = absurd is

-- What comes of a check is told, unless memory ran out.
pub answers-reported : (answer : List ℕ) (before after : Option (List ℕ)) (status result : Status) →
    IfSome before (λ written. Answers answer written after status) → (result ≡ status) ⊎ (result ≡ Memory) → IfSome before (λ written. Answers answer written after result)
answers-reported answer None after status result answers reported = tt
answers-reported answer (Some written) after status result answers (inl same) = subst (Answers answer written after) (sym same) answers
answers-reported answer (Some written) after status result answers (inr ended) = subst (Answers answer written after) (sym ended) (answers-front answer written after status answers)

-- What all went well for in the report went well before.
pub done-before : (status result : Status) → result ≡ Done → (result ≡ status) ⊎ (result ≡ Memory) → status ≡ Done
done-before status result well (inl same) = sym same ∙ well
done-before status result well (inr ended) = absurd (let two : Done ≡ Memory = sym well ∙ ended in cc two)

-- why a status comes is told, unless memory ran out
pub cause-reported : (name : List ℕ) (store : Option (List ℕ)) (held : Option Bytes) (ShelfFails SourceFails SinkFails : Type 0) (status result : Status) → Cause name store held ShelfFails SourceFails SinkFails status →
    (result ≡ status) ⊎ (result ≡ Memory) → Cause name store held ShelfFails SourceFails SinkFails result
cause-reported name store held ShelfFails SourceFails SinkFails status result cause (inl same) = subst (Cause name store held ShelfFails SourceFails SinkFails) (sym same) cause
cause-reported name store held ShelfFails SourceFails SinkFails status result cause (inr ended) = subst (Cause name store held ShelfFails SourceFails SinkFails) (sym ended) (inl tt)

pub resume-reported : (name file : List ℕ) (store : Option (List ℕ)) (held : Option Bytes) (ShelfFails SourceFails SinkFails : Type 0) (status result : Status) → CauseResume name file store held ShelfFails SourceFails SinkFails status →
    (result ≡ status) ⊎ (result ≡ Memory) → CauseResume name file store held ShelfFails SourceFails SinkFails result
resume-reported name file store held ShelfFails SourceFails SinkFails status result cause (inl same) = subst (CauseResume name file store held ShelfFails SourceFails SinkFails) (sym same) cause
resume-reported name file store held ShelfFails SourceFails SinkFails status result cause (inr ended) = subst (CauseResume name file store held ShelfFails SourceFails SinkFails) (sym ended) (inl tt)

-- and what is wrong with an image
pub refused-reported : (fault : SaveFault) (status result : Status) → TellsSave fault status → (result ≡ status) ⊎ (result ≡ Memory) → TellsSave fault result
refused-reported fault status result tells (inl same) = subst (TellsSave fault) (sym same) tells
refused-reported fault status result tells (inr ended) = subst (TellsSave fault) (sym ended) tt
