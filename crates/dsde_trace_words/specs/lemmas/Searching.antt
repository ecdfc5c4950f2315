-- The first of numbers, and of things with numbers.
use Rattle.std.proofs.Common.{◌≡◌, ℕ, ◌+◌, ◌<◌, List, sym, ◌∙◌, ap, subst, arith, inl, inr, ◌⊎◌}
use Rattle.std.specs.Prelude.{Option, Some, None}
use Rattle.std.proofs.lemmas.Bool.{cases_lt}
use Rattle.dsde_trace_words.specs.Words.{Finds, Inverts, NoneBefore, Precedes, Spells}

-- What a text is is found.
pub inverts-finds : {A : Type 0} (Is : A → Type 0) (text_of : A → List ℕ) (text : List ℕ) (found : Option A) → Inverts Is text_of text found → Finds NoneBefore (Spells Is text_of text) found
inverts-finds Is text_of text None inverts = record { is = tt; only = λ one is. let none = inverts.only one is.0 is.1 in absurd (cc none) }
inverts-finds Is text_of text (Some first) inverts = record {
  is = inverts.is;
  only = λ one is. let same = inverts.only one is.0 is.1 in let here : first ≡ one = cc same in inl here;
}

module _ {B : Type 0} (Inner : B → B → Type 0) (Is : ℕ × B → Type 0) where
  -- No thing with a lesser number is one.
  abbrev pub NoneBelow : ℕ → Type 0
  NoneBelow number = (one : ℕ × B) → one.0 < number → Is one → ⊥

  -- the first number with such a thing
  pub found-first : (number : ℕ) (first : B) → NoneBelow number → Finds Inner (λ one. Is (number, one)) (Some first) → Finds (Precedes Inner) Is (Some (number, first))
  found-first number first below finds = record { is = finds.is; only = only }
    where
      only : (one : ℕ × B) → Is one → ((number, first) ≡ one) ⊎ Precedes Inner (number, first) one
      only one is = elim (cases_lt one.0 number) [
        | inl less ↦ absurd (below one less is)
        | inr past ↦ elim (cases_lt number one.0) [
          | inl more ↦ inr (inl more)
          | inr same ↦
              let here : number ≡ one.0 = omega (arith, past, same) in
              elim (finds.only one.1 (subst (λ n. Is (n, one.1)) (sym here) is)) [
                | inl equal ↦ inl (ap (λ n. (n, first)) here ∙ ap (λ b. (one.0, b)) equal)
                | inr later ↦ inr (inr (here, later))
              ]
        ]
      ]

  -- none so far
  pub none-here : (number : ℕ) → NoneBelow number → Finds Inner (λ one. Is (number, one)) None → NoneBelow (number + 1)
  none-here number below finds one within is = elim (cases_lt one.0 number) [
    | inl less ↦ below one less is
    | inr past ↦ let same : number ≡ one.0 = omega (arith, within, past) in finds.only one.1 (subst (λ n. Is (n, one.1)) (sym same) is)
  ]

  -- none at all
  pub none-found : (count : ℕ) → NoneBelow count → ((one : ℕ × B) → Is one → one.0 < count) → Finds (Precedes Inner) Is None
  none-found count below within = record { is = tt; only = λ one is. below one (within one is) is }

-- the first number that is one
module _ (Is : ℕ → Type 0) where
  abbrev pub NoLess : ℕ → Type 0
  NoLess number = (one : ℕ) → one < number → Is one → ⊥

  pub least-is : (number : ℕ) → NoLess number → Is number → Finds ◌<◌ Is (Some number)
  least-is number below here = record { is = here; only = only }
    where
      only : (one : ℕ) → Is one → (number ≡ one) ⊎ (number < one)
      only one is = elim (cases_lt one number) [
        | inl less ↦ absurd (below one less is)
        | inr past ↦ elim (cases_lt number one) [
          | inl more ↦ inr more
          | inr same ↦ inl (omega (arith, past, same))
        ]
      ]

  pub not-yet : (number : ℕ) → NoLess number → (Is number → ⊥) → NoLess (number + 1)
  not-yet number below none one within is = elim (cases_lt one number) [
    | inl less ↦ below one less is
    | inr past ↦ let same : number ≡ one = omega (arith, within, past) in none (subst Is (sym same) is)
  ]

  pub none-least : (count : ℕ) → NoLess count → ((one : ℕ) → Is one → one < count) → Finds ◌<◌ Is None
  none-least count below within = record { is = tt; only = λ one is. below one (within one is) is }
