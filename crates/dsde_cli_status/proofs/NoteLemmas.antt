-- What the writing of a note leaves.
use Rattle.std.proofs.Common.{◌≡◌, ℕ, List, [], ◌++◌, length, take, refl, sym, ap, ◌∙◌}
use Rattle.std.specs.Prelude.{Option, Some, None, Result, Ok, Err, IfSome, OnOk, OnErr}
use Rattle.std.proofs.Math.Seq.{take-length}
use Rattle.std.proofs.lemmas.List.{append-nil}
use Rattle.dsde_io.specs.Bytes.{Gains, GainsFront}
use Rattle.dsde_cli_status.specs.declared.status.Status.{Status}
use Rattle.dsde_cli_status.specs.declared.status.Status.TheVariants.{Done}
use Rattle.dsde_cli_status.specs.Note.{note_of, WritesNoteFront}

-- the whole of a note is a front of it
front-whole : (before after : Option (List ℕ)) (status : Status) (text : List ℕ) → text ≡ note_of status → Gains before after text →
    IfSome before (λ written. WritesNoteFront written after)
front-whole None after status text is gained = tt
front-whole (Some written) after status text is gained = record {
  told = status;
  count = length text;
  is = gained ∙ ap (λ text. Some (written ++ text)) (sym (take-length text) ∙ ap (take (length text)) is);
}

-- a part of a note was written
front-part : (before after : Option (List ℕ)) (status : Status) (text : List ℕ) → text ≡ note_of status → GainsFront before after text →
    IfSome before (λ written. WritesNoteFront written after)
front-part None after status text is gained = tt
front-part (Some written) after status text is gained = record {
  told = status;
  count = gained.0;
  is = gained.2 ∙ ap (λ text. Some (written ++ take gained.0 text)) is;
}

-- What was written of a note is a front of it, however the write ended.
pub front-either : {A E : Type 0} (result : Result A E) (before after : Option (List ℕ)) (status : Status) (text : List ℕ) → text ≡ note_of status →
    OnOk result (Gains before after text) → OnErr result (GainsFront before after text) →
    IfSome before (λ written. WritesNoteFront written after)
front-either (Ok all) before after status text is gained front = front-whole before after status text is gained
front-either (Err end) before after status text is gained front = front-part before after status text is front

-- Where nothing is to be told, nothing is written.
pub gains-nothing : (before : Option (List ℕ)) → Gains before before []
gains-nothing None = tt
gains-nothing (Some written) = ap Some (sym (append-nil written))

pub front-nothing : (before : Option (List ℕ)) → IfSome before (λ written. WritesNoteFront written before)
front-nothing before = front-whole before before Done [] refl (gains-nothing before)
