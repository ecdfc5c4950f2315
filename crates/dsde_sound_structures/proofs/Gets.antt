-- Outcomes in tables that are those over names.
use Rattle.std.proofs.Common.{◌≡◌, Bool, false, Ok, Err, refl, ◌∙◌, ap}
use Rattle.dsde_sim_tree.specs.given.language.Outcome.{Fault, Stuck, Outcome, ◌>>=◌}
use Rattle.dsde_sim_tree.specs.given.language.Typed.{Sound}

pub sound-any : {A : Type 0} (total : Bool) (P : A → Type 0) (x : Outcome A) → Sound total P x → Sound false P x
sound-any total P (Ok own) h = h
sound-any total P (Err (Fault kind at)) h = refl
sound-any total P (Err Stuck) h = h

-- What is meant is a value of which this holds, or a fault; and what is found is the same.
pub record Gets {A : Type 0} (P : A → Type 0) (meant found : Outcome A) : Type 0 where
  pub sound : Sound false P meant
  pub same : found ≡ meant

pub gets-ok : {A : Type 0} (P : A → Type 0) (own : A) → P own → Gets P (Ok own) (Ok own)
gets-ok P own h = record { sound = h; same = refl }

-- an outcome that is the same in both
pub gets-own : {A : Type 0} (P : A → Type 0) (x : Outcome A) → Sound false P x → Gets P x x
gets-own P x h = record { sound = h; same = refl }

pub gets-then : {A B : Type 0} (P : A → Type 0) (Q : B → Type 0) (m p : Outcome A) (f g : A → Outcome B)
    → Gets P m p → ((own : A) → P own → Gets Q (f own) (g own)) → Gets Q (m >>= f) (p >>= g)
gets-then P Q (Ok own) p f g here next =
    let two = next own here.sound in
    record { sound = two.sound; same = ap (λ (o : Outcome _). o >>= g) here.same ∙ two.same }
gets-then P Q (Err (Fault kind at)) p f g here next = record { sound = refl; same = ap (λ (o : Outcome _). o >>= g) here.same }
gets-then P Q (Err Stuck) p f g here next = absurd here.sound
