-- What stands behind a front.
use Rattle.std.proofs.Common.{◌≡◌, ◌≢◌, ℕ, inl, inr, List, ◌++◌, sym, subst, ◌∙◌, ap}
use Rattle.std.specs.Prelude.{Option, Some, None}
use Rattle.std.specs.Option.{option_map}
use Rattle.std.proofs.lemmas.List.{append_cancel_left}
use Rattle.dsde_trace_words.specs.Words.{Finds, Inverts, Spells}

-- what stands behind a front is the text of a thing
pub behind-inverts : {A : Type 0} (Is : A → Type 0) (text_of : A → List ℕ) (text front rest : List ℕ) (found : Option A) → text ≡ front ++ rest → Inverts Is text_of rest found →
    Inverts Is (λ one. front ++ text_of one) text found
behind-inverts Is text_of text front rest None begins inverts = record { is = tt; only = λ one is spelled. inverts.only one is (append_cancel_left front rest (text_of one) (sym begins ∙ spelled)) }
behind-inverts Is text_of text front rest (Some found) begins inverts = record {
  is = (inverts.is.0, begins ∙ ap (λ rest. front ++ rest) inverts.is.1);
  only = λ one is spelled. inverts.only one is (append_cancel_left front rest (text_of one) (sym begins ∙ spelled));
}

pub not-behind : {A : Type 0} (Is : A → Type 0) (text_of : A → List ℕ) (text front : List ℕ) → ((rest : List ℕ) → text ≢ front ++ rest) → Inverts Is (λ one. front ++ text_of one) text None
not-behind Is text_of text front none = record { is = tt; only = λ one is spelled. absurd (none (text_of one) spelled) }

-- and the first of several
module _ {A : Type 0} (Before : A → A → Type 0) (Is : A → Type 0) (text_of : A → List ℕ) (text front : List ℕ) where
  pub behind-finds : (rest : List ℕ) (found : Option A) → text ≡ front ++ rest → Finds Before (Spells Is text_of rest) found → Finds Before (Spells Is (λ one. front ++ text_of one) text) found
  behind-finds rest None begins finds = record { is = tt; only = λ one is. finds.only one (is.0, append_cancel_left front rest (text_of one) (sym begins ∙ is.1)) }
  behind-finds rest (Some first) begins finds = record {
    is = (finds.is.0, begins ∙ ap (λ rest. front ++ rest) finds.is.1);
    only = λ one is. finds.only one (is.0, append_cancel_left front rest (text_of one) (sym begins ∙ is.1));
  }

  pub not-behind-finds : ((rest : List ℕ) → text ≢ front ++ rest) → Finds Before (Spells Is (λ one. front ++ text_of one) text) None
  not-behind-finds none = record { is = tt; only = λ one is. none (text_of one) is.1 }

-- A thing comes from another.
pub record From {A E : Type 0} (Is : A → Type 0) (to : A → E) (event : E) : Type 0 where
  pub one : A
  pub is : Is one
  pub same : event ≡ to one

-- What is found of parts is found of what they make up.
pub finds-through : {A E : Type 0} (Before : A → A → Type 0) (Is : A → Type 0) (Ahead : E → E → Type 0) (IsWhole : E → Type 0) (to : A → E) →
    ((one : A) → Is one → IsWhole (to one)) → ((whole : E) → IsWhole whole → From Is to whole) → ((one other : A) → Before one other → Ahead (to one) (to other)) →
    (found : Option A) → Finds Before Is found → Finds Ahead IsWhole (option_map to found)
finds-through Before Is Ahead IsWhole to makes parts ahead None finds = record { is = tt; only = λ whole is. let part = parts whole is in finds.only part.one part.is }
finds-through Before Is Ahead IsWhole to makes parts ahead (Some first) finds = record {
  is = makes first finds.is;
  only = λ whole is.
      let part = parts whole is in
      elim (finds.only part.one part.is) [
        | inl equal ↦ inl (ap to equal ∙ sym part.same)
        | inr later ↦ inr (subst (λ whole. Ahead (to first) whole) (sym part.same) (ahead first part.one later))
      ];
}

-- Such things are the same, told in another way.
pub finds-as : {A : Type 0} (Before : A → A → Type 0) (Is Other : A → Type 0) → ((one : A) → Is one → Other one) → ((one : A) → Other one → Is one) →
    (found : Option A) → Finds Before Is found → Finds Before Other found
finds-as Before Is Other to back None finds = record { is = tt; only = λ one is. finds.only one (back one is) }
finds-as Before Is Other to back (Some first) finds = record { is = to first finds.is; only = λ one is. finds.only one (back one is) }
