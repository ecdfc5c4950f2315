-- What a sink gained, and what is kept in a text, of what a run tells.
use Rattle.std.proofs.Common.{◌≡◌, ℕ, ◌+◌, List, [], ◌++◌, length, take, drop, refl, sym, ap, subst, ◌∙◌, append_assoc}
use Rattle.std.specs.Prelude.{Option, Some, None}
use Rattle.std.proofs.lemmas.List.{append-nil, take-append-drop}
use Rattle.std.proofs.Math.Seq.{take-append-add, take-append_seam}
use Rattle.dsde_io.specs.Bytes.{Gains, GainsFront}
use Rattle.dsde_sim_tree.specs.declared.event.Finish.{Finish}
use Rattle.dsde_sim_tree.specs.Engine.{Engine}
use Rattle.dsde_trace.specs.declared.pick.Pick.{Pick}
use Rattle.dsde_run.specs.Run.{Running, kept_text}
use Rattle.dsde_run_meaning.specs.Run.{Run}
use Rattle.dsde_run.specs.Reading.{IsWhole, Tells, IsFront}
use Rattle.dsde_run.specs.Steps.{HandsOn, GoesIn, EndsIn, GoesOn}

-- Nothing was gained.
pub Gains-none : (old : Option (List ℕ)) → Gains old old []
Gains-none None = tt
Gains-none (Some bytes) = ap Some (sym (append-nil bytes))

-- Some bytes, and then more.
pub Gains-then : (old mid new : Option (List ℕ)) (first second : List ℕ) → Gains old mid first → Gains mid new second → Gains old new (first ++ second)
Gains-then None mid new first second one two = tt
Gains-then (Some bytes) mid new first second one two =
    subst (λ mid. Gains mid new second) one two ∙ ap Some (append_assoc bytes first second)

pub Gains-same : (old new : Option (List ℕ)) (first second : List ℕ) → first ≡ second → Gains old new first → Gains old new second
Gains-same old new first second same gains = subst (Gains old new) same gains

-- Some bytes, and then a front of others.
pub IsFront-more : (old mid new : Option (List ℕ)) (first second : List ℕ) → Gains old mid first → IsFront mid new second → IsFront old new (first ++ second)
IsFront-more old mid new first second gains front = record {
  count = length first + front.count;
  is = Gains-same old new (first ++ take front.count second) (take (length first + front.count) (first ++ second)) (sym (take-append-add first second front.count))
      (Gains-then old mid new first (take front.count second) gains front.is);
}

-- A front of a text is a front of one that goes on.
pub IsFront-within : (old new : Option (List ℕ)) (text more whole : List ℕ) → whole ≡ text ++ more → IsFront old new text → IsFront old new whole
IsFront-within old new text more whole is front =
    let all : whole ≡ take front.count text ++ (drop front.count text ++ more) =
    is ∙ ap (λ text. text ++ more) (sym (take-append-drop front.count text)) ∙ append_assoc (take front.count text) (drop front.count text) more in
    record {
      count = length (take front.count text);
      is = Gains-same old new (take front.count text) (take (length (take front.count text)) whole)
          (sym (ap (take (length (take front.count text))) all ∙ take-append_seam (take front.count text) (drop front.count text ++ more))) front.is;
    }

pub IsFront-none : (old : Option (List ℕ)) (text : List ℕ) → IsFront old old text
IsFront-none old text = record { count = 0; is = Gains-none old }

-- A write that failed.
pub IsFront-failed : (old new : Option (List ℕ)) (text : List ℕ) → GainsFront old new text → IsFront old new text
IsFront-failed None new text front = record { count = 0; is = tt }
IsFront-failed (Some bytes) new text front = record { count = front.0; is = front.2 }

module _ (own : Running) (pick : Pick) where
  -- Nothing is told yet.
  pub GoesOn-none : (run : Run) (old : Option (List ℕ)) → GoesOn own pick run run old old []
  GoesOn-none run old = record { piece = []; gained = Gains-none old; text = refl; end = refl; state = refl }

  -- A turn's lines are kept.
  pub GoesOn-turned : (whole mid rest : Run) (old new : Option (List ℕ)) (text more : List ℕ) → GoesOn own pick whole mid old new text → GoesIn own pick mid rest text more → GoesOn own pick whole rest old new more
  GoesOn-turned whole mid rest old new text more goes turned = record {
    piece = goes.piece;
    gained = goes.gained;
    text =
        goes.text
        ∙ ap (λ lines. (goes.piece ++ text) ++ lines) turned.text
        ∙ sym (append_assoc (goes.piece ++ text) turned.piece (kept_text own pick rest.events))
        ∙ ap (λ lines. lines ++ kept_text own pick rest.events) (append_assoc goes.piece text turned.piece ∙ ap (λ lines. goes.piece ++ lines) (sym turned.gained));
    end = goes.end ∙ turned.end;
    state = goes.state ∙ turned.state;
  }

  -- What is kept is handed on.
  pub GoesOn-handed : (whole rest : Run) (old mid new : Option (List ℕ)) (text less : List ℕ) → GoesOn own pick whole rest old mid text → HandsOn mid new text less → GoesOn own pick whole rest old new less
  GoesOn-handed whole rest old mid new text less goes hands = record {
    piece = goes.piece ++ hands.piece;
    gained = Gains-then old mid new goes.piece hands.piece goes.gained hands.gained;
    text =
        goes.text
        ∙ ap (λ lines. lines ++ kept_text own pick rest.events) (ap (λ text. goes.piece ++ text) hands.split ∙ sym (append_assoc goes.piece hands.piece less));
    end = goes.end;
    state = goes.state;
  }

  -- The rest is written as well.
  pub Tells-all : (whole rest : Run) (engine : Engine) (how : Finish) (old mid new : Option (List ℕ)) (text : List ℕ) → GoesOn own pick whole rest old mid text →
      Gains mid new (text ++ kept_text own pick rest.events) → rest.end ≡ Some how → (IsWhole how → engine ≡ rest.state) → Tells own pick whole engine old new how
  Tells-all whole rest engine how old mid new text goes gains end stands = record {
    text = Gains-same old new (goes.piece ++ (text ++ kept_text own pick rest.events)) (kept_text own pick whole.events)
        (sym (append_assoc goes.piece text (kept_text own pick rest.events)) ∙ sym goes.text)
        (Gains-then old mid new goes.piece (text ++ kept_text own pick rest.events) goes.gained gains);
    end = goes.end ∙ end;
    stands = λ is. stands is ∙ sym goes.state;
  }

  -- The run ended, and what is kept is handed on.
  pub Tells-ended : (whole rest : Run) (engine : Engine) (how : Finish) (old mid new : Option (List ℕ)) (text more : List ℕ) → GoesOn own pick whole rest old mid text →
      EndsIn own pick rest engine text more how → HandsOn mid new more [] → Tells own pick whole engine old new how
  Tells-ended whole rest engine how old mid new text more goes ends hands =
      Tells-all whole rest engine how old mid new text goes
      (Gains-same mid new hands.piece (text ++ kept_text own pick rest.events) (sym (append-nil hands.piece) ∙ sym hands.split ∙ ends.text) hands.gained)
      ends.end ends.stands

  -- What the sink has is a front of what the run tells.
  pub front-gone : (whole rest : Run) (old new : Option (List ℕ)) (text : List ℕ) → GoesOn own pick whole rest old new text → IsFront old new (kept_text own pick whole.events)
  front-gone whole rest old new text goes = record {
    count = length goes.piece;
    is = Gains-same old new goes.piece (take (length goes.piece) (kept_text own pick whole.events))
        (sym (ap (take (length goes.piece)) (goes.text ∙ append_assoc goes.piece text (kept_text own pick rest.events)) ∙ take-append_seam goes.piece (text ++ kept_text own pick rest.events)))
        goes.gained;
  }

  -- A write of what was kept, and of more of it, failed.
  pub front-failed : (whole rest : Run) (old mid new : Option (List ℕ)) (text more : List ℕ) → GoesOn own pick whole rest old mid text →
      (later : List ℕ) → text ++ kept_text own pick rest.events ≡ more ++ later → IsFront mid new more → IsFront old new (kept_text own pick whole.events)
  front-failed whole rest old mid new text more goes later is front =
      IsFront-within old new (goes.piece ++ more) later (kept_text own pick whole.events)
      (goes.text ∙ append_assoc goes.piece text (kept_text own pick rest.events) ∙ ap (λ lines. goes.piece ++ lines) is ∙ sym (append_assoc goes.piece more later))
      (IsFront-more old mid new goes.piece more goes.gained front)
