-- Where a run goes on as the whole run does, their texts are joined.
use Rattle.std.proofs.Common.{◌≡◌, ℕ, Bool, true, List, [], ◌∷◌, ◌++◌, refl, sym, ap, subst, ◌∙◌}
use Rattle.std.specs.Prelude.{if◌then◌else◌, Result, Ok, Err}
use Rattle.std.specs.List.{flat_map}
use Rattle.std.proofs.lemmas.List.{append-nil}
use Rattle.std.proofs.lemmas.List.Concat.{flat_map-append}
use Rattle.dsde_language.specs.DeclaredModels.{top_ins, types_of}
use Rattle.dsde_input_records.specs.Records.{Records}
use Rattle.dsde_input.specs.Skipped.{Unskipped}
use Rattle.dsde_sound_runs.specs.given.system.Program.{system}
use Rattle.dsde_sim_tree.specs.declared.event.Event.{Event}
use Rattle.dsde_sim_tree.specs.declared.event.Event.TheVariants as event
use Rattle.dsde_sim_tree.specs.Engine.{Engine}
use Rattle.dsde_cli_status.specs.given.trace.Pick.{picked}
use Rattle.dsde_cli_status.specs.given.trace.pick_Pick.{Pick}
use Rattle.dsde_sound_runs.specs.given.run_meaning.Run.{Run}
use Rattle.dsde_cli.specs.LawCut.{GoesOnAs, records_behind}
use Rattle.dsde_run_free.specs.given.run.Run.{Running, event_text, go, kept_line, kept_text}
use Rattle.dsde_run_free.specs.given.run.Resumed.{resumed, unskipped}
use Rattle.dsde_cli.specs.Joined.{AreJoined}
use Rattle.dsde_cli.proofs.Cutting.{IsCut}

first-text : (line : Event → List ℕ) (events front : List Event) (last : Event) (text : List ℕ) → events ≡ front ++ last ∷ [] → line last ≡ text → flat_map line events ≡ flat_map line front ++ text
first-text line events front last text is same =
    ap (flat_map line) is ∙ flat_map-append line front (last ∷ []) ∙ ap (λ (own : List ℕ). flat_map line front ++ own) (append-nil (line last) ∙ same)

-- a line that is kept
line-kept : (own : Running) (pick : Pick) (one : Event) → picked one pick ≡ true → kept_line own pick one ≡ event_text own one
line-kept own pick one is = ap (λ (test : Bool). if test then event_text own one else []) is

texts-joined : (own : Running) (pick : Pick) (first later whole : Run) → GoesOnAs first later whole → AreJoined own pick first later whole
texts-joined own pick first later whole goes = record {
  front = kept_text own pick goes.front;
  how = goes.how;
  turns = goes.turns;
  time = goes.time;
  is =
      first-text (kept_line own pick) first.events goes.front (event.Finish goes.how goes.turns goes.time) (event_text own (event.Finish goes.how goes.turns goes.time)) goes.is
      (line-kept own pick (event.Finish goes.how goes.turns goes.time) refl);
  whole_is = ap (λ (run : Run). kept_text own pick run.events) goes.whole_is ∙ flat_map-append (kept_line own pick) goes.front later.events;
  end = ap (λ (run : Run). run.end) goes.whole_is;
  state = ap (λ (run : Run). run.state) goes.whole_is;
}

-- what an engine tells, by the records behind those that it took
abbrev by_behind : Running → ℕ → Engine → Result Records Unskipped → Run
by_behind own more at behind = elim behind [ Ok rest ↦ go own more rest at | Err why ↦ unskipped why at ]

resumed-is : (own : Running) (bytes : List ℕ) (more : ℕ) (state at : Engine) (rest : Records) → state ≡ at → records_behind (top_ins own.model) (types_of own.model) bytes at ≡ Ok rest →
    resumed own bytes more state ≡ go own more rest at
resumed-is own bytes more state at rest same behind = ap (resumed own bytes more) same ∙ ap (by_behind own more at) behind

-- What the last engine of a run tells, that goes on with the same input, is the rest of the whole.
pub cut-joined : (own : Running) (pick : Pick) (bytes : List ℕ) (more : ℕ) (first whole : Run) → IsCut (system own.model) own.spots (top_ins own.model) (types_of own.model) bytes more first whole →
    AreJoined own pick first (resumed own bytes more first.state) whole
cut-joined own pick bytes more first whole cut =
    let later : resumed own bytes more first.state ≡ go own more cut.rest cut.at = resumed-is own bytes more first.state cut.at cut.rest cut.state cut.behind in
    subst (λ (run : Run). AreJoined own pick first run whole) (sym later) (texts-joined own pick first (go own more cut.rest cut.at) whole cut.goes_on)
