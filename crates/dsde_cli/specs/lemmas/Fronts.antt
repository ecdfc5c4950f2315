-- The front of a trace, and of an input.
use Rattle.std.proofs.Common.{◌≡◌, ℕ, List, [], ◌++◌, length, refl, sym, ap, ◌∙◌, arith}
use Rattle.std.specs.Prelude.{Option, Some, None}
use Rattle.std.proofs.Math.Seq.{take-length}
use Rattle.std.proofs.lemmas.List.{append-nil}
use Rattle.dsde_input_records.specs.Records.{Records}
use Rattle.dsde_sound_runs.specs.given.run_meaning.Run.{Run}
use Rattle.dsde_run_free.specs.given.run.Reading.{TakesWanted, Told}
use Rattle.dsde_run_free.specs.given.run.Run.{Running, kept_text}
use Rattle.dsde_cli_status.specs.given.trace.pick_Pick.{Pick}
use Rattle.dsde_cli.specs.RunOutcome.{Writes, WritesFront}

-- nothing is a front of the trace
pub front-none : (own : Running) (pick : Pick) (run : Run) (written : List ℕ) (out : Option (List ℕ)) → out ≡ Some written → WritesFront own pick run written out
front-none own pick run written out same = record { count = 0; is = same ∙ ap Some (sym (append-nil written)) }

-- the whole trace is a front of it
pub front-whole : (own : Running) (pick : Pick) (run : Run) (written : List ℕ) (out : Option (List ℕ)) → Writes own pick run written out → WritesFront own pick run written out
front-whole own pick run written out writes = record {
  count = length (kept_text own pick run.events);
  is = writes ∙ ap (λ text. Some (written ++ text)) (sym (take-length (kept_text own pick run.events)));
}

-- Where nothing of an input was taken, nothing was taken that was not wanted.
pub none-taken : (tells : Records → Run) (records : List ℕ → Records) (left : Option (List ℕ)) → Told left left (λ before. TakesWanted tells (records before) [] before)
none-taken tells records None = tt
none-taken tells records (Some bytes) = record { needed = []; past = []; split = refl; size = omega arith; wanted = λ some. absurd (some refl) }
