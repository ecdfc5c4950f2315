-- How a run ended, by the words of its last line.
use Rattle.std.proofs.Common.{◌≡◌, ℕ, List, ◌∷◌, ◌++◌, refl}
use Rattle.std.specs.Prelude.{Option}
use Rattle.std.specs.Option.{option_map}
use Rattle.dsde_values.specs.Path.{IsPath, path_text}
use Rattle.dsde_values.specs.declared.path.Path.{Path}
use Rattle.dsde_faults.specs.declared.kind.FaultKind.{FaultKind}
use Rattle.dsde_faults.specs.declared.kind.Site.{Site}
use Rattle.dsde_sim_tree.specs.declared.event.Finish as finish
use Rattle.dsde_sim_tree.specs.declared.event.Finish.TheVariants as how
use Rattle.dsde_sim_tree.specs.declared.event.InputKind.{InputKind}
use Rattle.dsde_trace.specs.Text.{input_text}
use Rattle.dsde_trace_words.specs.Words.{Finds, IsAny, NoneBefore, Pairs, Spells}
use Rattle.dsde_trace_words.specs.declared.names.Ending.{Ending}
use Rattle.dsde_trace_words.specs.declared.names.Ending.TheVariants as ending
use Rattle.dsde_trace_words.specs.lemmas.Behind.{From, finds-through}
use Rattle.dsde_trace_reading.specs.Parts.{IsEnded, IsLined, IsSited, IsTimes, closing_text, ended_text, lined_text, sited_text}

module _ (text : List ℕ) where
  abbrev Ends : Ending → finish.Finish × (ℕ × ℕ) → Type 0
  Ends own = Spells (IsEnded own) ended_text text

  abbrev IsClosed : ℕ × ℕ → Type 0
  IsClosed = Spells IsTimes closing_text text

  -- all turns are done
  abbrev bound_of : ℕ × ℕ → finish.Finish × (ℕ × ℕ)
  bound_of times = (how.Bound, times)

  bound_parts : (ended : finish.Finish × (ℕ × ℕ)) → Ends ending.Bound ended → From IsClosed bound_of ended
  bound_parts (how.Bound, times) is = record { one = times; is = (is.0.times, is.1); same = refl }
  bound_parts (how.Quiet, times) is = absurd (cc is.0.ending)
  bound_parts (how.Input kind line, times) is = absurd (cc is.0.ending)
  bound_parts (how.Fault fault, times) is = absurd (cc is.0.ending)

  pub bound-ends : (found : Option (ℕ × ℕ)) → Finds NoneBefore IsClosed found → Finds NoneBefore (Ends ending.Bound) (option_map bound_of found)
  bound-ends found finds =
      finds-through NoneBefore IsClosed NoneBefore (Ends ending.Bound) bound_of
      (λ one is. (record { ending = refl; lawful = tt; times = is.0 }, is.1)) bound_parts (λ one other never. never) found finds

  -- nothing is left to come
  abbrev quiet_of : ℕ × ℕ → finish.Finish × (ℕ × ℕ)
  quiet_of times = (how.Quiet, times)

  quiet_parts : (ended : finish.Finish × (ℕ × ℕ)) → Ends ending.Quiet ended → From IsClosed quiet_of ended
  quiet_parts (how.Bound, times) is = absurd (cc is.0.ending)
  quiet_parts (how.Quiet, times) is = record { one = times; is = (is.0.times, is.1); same = refl }
  quiet_parts (how.Input kind line, times) is = absurd (cc is.0.ending)
  quiet_parts (how.Fault fault, times) is = absurd (cc is.0.ending)

  pub quiet-ends : (found : Option (ℕ × ℕ)) → Finds NoneBefore IsClosed found → Finds NoneBefore (Ends ending.Quiet) (option_map quiet_of found)
  quiet-ends found finds =
      finds-through NoneBefore IsClosed NoneBefore (Ends ending.Quiet) quiet_of
      (λ one is. (record { ending = refl; lawful = tt; times = is.0 }, is.1)) quiet_parts (λ one other never. never) found finds

  -- a bad line
  abbrev IsInput : InputKind × (ℕ × (ℕ × ℕ)) → Type 0
  IsInput one = (IsAny one.0 × IsLined one.1) × (text ≡ input_text one.0 ++ 32 ∷ lined_text one.1)

  abbrev input_of : InputKind × (ℕ × (ℕ × ℕ)) → finish.Finish × (ℕ × ℕ)
  input_of one = (how.Input one.0 one.1.0, one.1.1)

  input_parts : (ended : finish.Finish × (ℕ × ℕ)) → Ends ending.Input ended → From IsInput input_of ended
  input_parts (how.Bound, times) is = absurd (cc is.0.ending)
  input_parts (how.Quiet, times) is = absurd (cc is.0.ending)
  input_parts (how.Input kind line, times) is = record { one = (kind, (line, times)); is = ((tt, (is.0.lawful, is.0.times)), is.1); same = refl }
  input_parts (how.Fault fault, times) is = absurd (cc is.0.ending)

  pub input-ends : (found : Option (InputKind × (ℕ × (ℕ × ℕ)))) → Pairs IsAny input_text NoneBefore (λ _. IsLined) (λ _. lined_text) text found →
      Finds NoneBefore (Ends ending.Input) (option_map input_of found)
  input-ends found pairs =
      finds-through NoneBefore IsInput NoneBefore (Ends ending.Input) input_of
      (λ one is. (record { ending = refl; lawful = is.0.1.0; times = is.0.1.1 }, is.1)) input_parts (λ one other never. never) found pairs.finds

  -- a fault
  abbrev IsFault : Path × (Site × (FaultKind × ((ℕ × ℕ) × (ℕ × ℕ)))) → Type 0
  IsFault one = (IsPath one.0 × IsSited one.1) × (text ≡ path_text one.0 ++ 32 ∷ sited_text one.1)

  abbrev fault_of : Path × (Site × (FaultKind × ((ℕ × ℕ) × (ℕ × ℕ)))) → finish.Finish × (ℕ × ℕ)
  fault_of one = (how.Fault (record { path = one.0; site = one.1.0; kind = one.1.1.0; line = one.1.1.1.0.0; column = one.1.1.1.0.1 }), one.1.1.1.1)

  fault_parts : (ended : finish.Finish × (ℕ × ℕ)) → Ends ending.Fault ended → From IsFault fault_of ended
  fault_parts (how.Bound, times) is = absurd (cc is.0.ending)
  fault_parts (how.Quiet, times) is = absurd (cc is.0.ending)
  fault_parts (how.Input kind line, times) is = absurd (cc is.0.ending)
  fault_parts (how.Fault fault, times) is = record {
    one = (fault.path, (fault.site, (fault.kind, ((fault.line, fault.column), times))));
    is = ((is.0.lawful.0, (tt, (tt, (is.0.lawful.1, is.0.times)))), is.1);
    same = refl;
  }

  pub fault-ends : (found : Option (Path × (Site × (FaultKind × ((ℕ × ℕ) × (ℕ × ℕ)))))) → Pairs IsPath path_text NoneBefore (λ _. IsSited) (λ _. sited_text) text found →
      Finds NoneBefore (Ends ending.Fault) (option_map fault_of found)
  fault-ends found pairs =
      finds-through NoneBefore IsFault NoneBefore (Ends ending.Fault) fault_of
      (λ one is. (record { ending = refl; lawful = (is.0.0, is.0.1.1.1.0); times = is.0.1.1.1.1 }, is.1)) fault_parts (λ one other never. never) found pairs.finds
