-- A text of two parts with a space between them.
use Rattle.std.proofs.Common.{◌≡◌, ℕ, inl, inr, List, ◌∷◌, ◌++◌, sym, subst, ◌∙◌, ap}
use Rattle.std.specs.Prelude.{Some, None}
use Rattle.dsde_input_records.specs.Lines.{Lacks}
use Rattle.dsde_input_parser.specs.lemmas.Cuts.{no_cut, same_cut}
use Rattle.dsde_trace_words.specs.Words.{Finds, Inverts, Pairs, Spells}

module _ {A : Type 0} (IsFirst : A → Type 0) (first_text : A → List ℕ) (lacking : (one : A) → IsFirst one → Lacks 32 (first_text one))
    (text front rest : List ℕ) (cut : text ≡ front ++ 32 ∷ rest) (lacks : Lacks 32 front) where
  -- the parts of such a text are those of the cut
  parts : (one : A) (behind : List ℕ) → IsFirst one → text ≡ first_text one ++ 32 ∷ behind → (front ≡ first_text one) × (rest ≡ behind)
  parts one behind is spelled = same_cut 32 front rest (first_text one) behind (sym cut ∙ spelled) lacks (lacking one is)

  same : (first : A) → Inverts IsFirst first_text front (Some first) → (one : A) (behind : List ℕ) → IsFirst one → text ≡ first_text one ++ 32 ∷ behind → first ≡ one
  same first inverts one behind is spelled = let two : Some first ≡ Some one = inverts.only one is (parts one behind is spelled).0 in cc two

  inner : {B : Type 0} (IsSecond : A → B → Type 0) (second_text : A → B → List ℕ) (first : A) → Inverts IsFirst first_text front (Some first) → (one : A × B) → IsFirst one.0 → IsSecond one.0 one.1 →
      text ≡ first_text one.0 ++ 32 ∷ second_text one.0 one.1 → Spells (IsSecond first) (second_text first) rest one.1
  inner IsSecond second_text first inverts one is second spelled =
      subst (λ own. Spells (IsSecond own) (second_text own) rest one.1) (sym (same first inverts one.0 (second_text one.0 one.1) is spelled))
      (second, (parts one.0 (second_text one.0 one.1) is spelled).1)

module _ {A B : Type 0} {IsFirst : A → Type 0} {first_text : A → List ℕ} {Before : B → B → Type 0} {IsSecond : A → B → Type 0} {second_text : A → B → List ℕ} {text : List ℕ} where
  -- there is no space
  pub pair-uncut : Lacks 32 text → Pairs IsFirst first_text Before IsSecond second_text text None
  pair-uncut lacks = record { finds = record { is = tt; only = λ one is. no_cut 32 text (first_text one.0) (second_text one.0 one.1) lacks is.1 } }

  module _ (lacking : (one : A) → IsFirst one → Lacks 32 (first_text one)) (front rest : List ℕ) (cut : text ≡ front ++ 32 ∷ rest) (lacks : Lacks 32 front) where
    -- the first part is none
    pub pair-no_first : Inverts IsFirst first_text front None → Pairs IsFirst first_text Before IsSecond second_text text None
    pair-no_first inverts = record {
      finds = record {
        is = tt;
        only = λ one is.
            let none = inverts.only one.0 is.0.0 (same_cut 32 front rest (first_text one.0) (second_text one.0 one.1) (sym cut ∙ is.1) lacks (lacking one.0 is.0.0)).0 in absurd (cc none);
      };
    }

    -- the second part is none
    pub pair-no_second : (first : A) → Inverts IsFirst first_text front (Some first) → Finds Before (Spells (IsSecond first) (second_text first) rest) None →
        Pairs IsFirst first_text Before IsSecond second_text text None
    pair-no_second first inverts finds = record {
      finds = record {
        is = tt;
        only = λ one is. finds.only one.1 (inner IsFirst first_text lacking text front rest cut lacks IsSecond second_text first inverts one is.0.0 is.0.1 is.1);
      };
    }

    -- both are there
    pub pair-is : (first : A) → Inverts IsFirst first_text front (Some first) → (second : B) → Finds Before (Spells (IsSecond first) (second_text first) rest) (Some second) →
        Pairs IsFirst first_text Before IsSecond second_text text (Some (first, second))
    pair-is first inverts second finds = record {
      finds = record {
        is = (
          (inverts.is.0, finds.is.0),
          cut ∙ ap (λ front. front ++ 32 ∷ rest) inverts.is.1 ∙ ap (λ rest. first_text first ++ 32 ∷ rest) finds.is.1,
        );
        only = λ one is.
            elim (finds.only one.1 (inner IsFirst first_text lacking text front rest cut lacks IsSecond second_text first inverts one is.0.0 is.0.1 is.1)) [
              | inl equal ↦
                  inl (ap (λ own. (own, second)) (same IsFirst first_text lacking text front rest cut lacks first inverts one.0 (second_text one.0 one.1) is.0.0 is.1)
                  ∙ ap (λ other. (one.0, other)) equal)
              | inr later ↦ inr later
            ];
      };
    }
