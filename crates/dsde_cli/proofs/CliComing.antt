-- How a run ends, from what its turns come to.
use Rattle.std.proofs.Common.{◌≡◌, ℕ, List, [], Result, Ok, Err, refl, ap, inl, inr}
use Rattle.std.specs.Prelude.{Option, Some, None, IfSome, IsErrOf}
use Rattle.dsde_input_records.specs.Records.{Records}
use Rattle.dsde_sim_tree.specs.declared.event.Finish.{Finish}
use Rattle.dsde_sim_tree.specs.declared.event.Finish.TheVariants as how
use Rattle.dsde_sound_runs.specs.given.run_meaning.Run.{Run}
use Rattle.dsde_run_free.specs.given.run.run_Cut.{Cut}
use Rattle.dsde_run_free.specs.given.run.run_Cut_TheVariants as cut
use Rattle.dsde_run_free.specs.given.run.Reading as reading
use Rattle.dsde_run_free.specs.given.run.Reading.{Told, IsFront}
use Rattle.dsde_run_free.specs.given.run.Run.{Running, kept_text}
use Rattle.dsde_sim_tree.specs.Engine.{Engine}
use Rattle.dsde_cli_status.specs.given.trace.pick_Pick.{Pick}
use Rattle.dsde_cli.specs.RunOutcome.{WritesFront, SaysEnd, ComesOn, IsOfRun, status_of, status_by}

-- A run that ended is told by its status, and its whole trace is written.
comes-ended : (own : Running) (pick : Pick) (tells : Records → Run) (records : Records) (input : List ℕ) (left : Option (List ℕ)) (written : List ℕ) (out : Option (List ℕ)) (engine : Engine) (answer : Finish) →
    reading.Tells own pick (tells records) engine (Some written) out answer → (answer ≡ how.Quiet → left ≡ Some []) →
    ComesOn own pick tells records input left written out (status_of answer)
comes-ended own pick tells records input left written out engine how.Bound run quiet = (run.text, inl run.end)
comes-ended own pick tells records input left written out engine how.Quiet run quiet = (run.text, inr (run.end, quiet refl))
comes-ended own pick tells records input left written out engine (how.Input kind line) run quiet = (run.text, run.end)
comes-ended own pick tells records input left written out engine (how.Fault fault) run quiet = (run.text, run.end)

-- the front of a text
front_of : (own : Running) (pick : Pick) (run : Run) (written : List ℕ) (out : Option (List ℕ)) → IsFront (Some written) out (kept_text own pick run.events) → WritesFront own pick run written out
front_of own pick run written out front = record { count = front.count; is = front.is }

pub comes-by : (own : Running) (pick : Pick) (tells : Records → Run) (records : Records) (input after written : List ℕ) (out : Option (List ℕ)) (result : Result Finish Cut) →
    reading.ComesWhole own pick tells records (Some written) out result input after → (result ≡ Ok how.Quiet → after ≡ []) →
    ComesOn own pick tells records input (Some after) written out (status_by result)
comes-by own pick tells records input after written out (Ok answer) comes quiet =
    comes-ended own pick tells records input (Some after) written out comes.0 answer comes.1 (λ same. ap Some (quiet (ap Ok same)))
comes-by own pick tells records input after written out (Err cut.ReadFault) comes quiet =
    ((comes.0, comes.1), front_of own pick (tells records) written out comes.1.front)
comes-by own pick tells records input after written out (Err cut.Unwritten) comes quiet = front_of own pick (tells records) written out comes.1
comes-by own pick tells records input after written out (Err cut.Memory) comes quiet = front_of own pick (tells records) written out comes.1

-- What a run comes to is what the call comes to.
pub comes-told : (own : Running) (pick : Pick) (tells : Records → Run) (records : List ℕ → Records) (left left_after before after : Option (List ℕ)) (result : Result Finish Cut) →
    Told left left_after (λ input. reading.ComesWhole own pick tells (records input) before after result input) →
    (result ≡ Ok how.Quiet → Told left left_after (λ _ rest. rest ≡ [])) →
    IfSome left (λ input. IfSome before (λ written. ComesOn own pick tells (records input) input left_after written after (status_by result)))
comes-told own pick tells records None left_after before after result comes quiet = tt
comes-told own pick tells records (Some input) None before after result comes quiet = absurd comes
comes-told own pick tells records (Some input) (Some rest) None after result comes quiet = tt
comes-told own pick tells records (Some input) (Some rest) (Some written) after result comes quiet =
    comes-by own pick tells (records input) input rest written after result comes quiet

ends-ended : (end : Option Finish) (left : Option (List ℕ)) (answer : Finish) → end ≡ Some answer → (answer ≡ how.Quiet → left ≡ Some []) → SaysEnd end left (status_of answer)
ends-ended end left how.Bound is quiet = inl is
ends-ended end left how.Quiet is quiet = inr (is, quiet refl)
ends-ended end left (how.Input kind line) is quiet = is
ends-ended end left (how.Fault fault) is quiet = is

pub ends-by : (own : Running) (pick : Pick) (tells : Records → Run) (records : Records) (input after : List ℕ) (before out : Option (List ℕ)) (result : Result Finish Cut) →
    reading.ComesWhole own pick tells records before out result input after → (result ≡ Ok how.Quiet → after ≡ []) →
    SaysEnd (tells records).end (Some after) (status_by result)
ends-by own pick tells records input after before out (Ok answer) comes quiet =
    ends-ended (tells records).end (Some after) answer comes.1.end (λ same. ap Some (quiet (ap Ok same)))
ends-by own pick tells records input after before out (Err cut.ReadFault) comes quiet = tt
ends-by own pick tells records input after before out (Err cut.Unwritten) comes quiet = tt
ends-by own pick tells records input after before out (Err cut.Memory) comes quiet = tt

-- The status says how the run ended.
pub ends-told : (own : Running) (pick : Pick) (tells : Records → Run) (records : List ℕ → Records) (left left_after before after : Option (List ℕ)) (result : Result Finish Cut) →
    Told left left_after (λ input. reading.ComesWhole own pick tells (records input) before after result input) →
    (result ≡ Ok how.Quiet → Told left left_after (λ _ rest. rest ≡ [])) →
    IfSome left (λ input. SaysEnd (tells (records input)).end left_after (status_by result))
ends-told own pick tells records None left_after before after result comes quiet = tt
ends-told own pick tells records (Some input) None before after result comes quiet = absurd comes
ends-told own pick tells records (Some input) (Some rest) before after result comes quiet =
    ends-by own pick tells (records input) input rest before after result comes quiet

-- The status is one of a run, and its device failed where it says so.
pub of-run : (SourceFails SinkFails : Type 0) (result : Result Finish Cut) → (IsErrOf result cut.ReadFault → SourceFails) → (IsErrOf result cut.Unwritten → SinkFails) →
    IsOfRun SourceFails SinkFails (status_by result)
of-run SourceFails SinkFails (Ok how.Bound) unread unwritten = tt
of-run SourceFails SinkFails (Ok how.Quiet) unread unwritten = tt
of-run SourceFails SinkFails (Ok (how.Input kind line)) unread unwritten = tt
of-run SourceFails SinkFails (Ok (how.Fault fault)) unread unwritten = tt
of-run SourceFails SinkFails (Err cut.ReadFault) unread unwritten = unread refl
of-run SourceFails SinkFails (Err cut.Unwritten) unread unwritten = unwritten refl
of-run SourceFails SinkFails (Err cut.Memory) unread unwritten = tt
