-- Outcomes that hold what is asked of them, step by step.
use Rattle.std.proofs.Common.{◌≡◌, ◌≢◌, Bool, true, false, if◌then◌else◌, Ok, Err, refl, ◌∙◌, ap, subst}
use Rattle.dsde_language.specs.Outcome.{Fault, Stuck, Outcome, ◌>>=◌}
use Rattle.dsde_language.specs.Typed.{Sound}

-- nothing is asked of a value
abbrev pub Any : {A : Type 0} → A → Type 0
Any value = Unit {0}

-- what is sound is not stuck
pub sound-stuck : {A : Type 0} (total : Bool) (P : A → Type 0) (x : Outcome A) → Sound total P x → x ≢ Err Stuck
sound-stuck total P (Ok a) h = λ e. cc
sound-stuck total P (Err (Fault kind at)) h = λ e. cc
sound-stuck total P (Err Stuck) h = absurd h

abbrev well : {A : Type 0} → A → Outcome A
well a = Ok a

given-is : {A : Type 0} (a b : A) → well a ≡ well b → a ≡ b
given-is a b e = cc

-- a value that is given has what holds of each value
pub sound-given : {A : Type 0} (total : Bool) (P : A → Type 0) (x : Outcome A) (a : A) → Sound total P x → x ≡ Ok a → P a
sound-given total P (Ok b) a h e = subst P (given-is b a e) h
sound-given total P (Err halt) a h e = cc

-- a step on what holds
pub sound-then : {A B : Type 0} (total : Bool) (P : A → Type 0) (Q : B → Type 0) (x : Outcome A) (f : A → Outcome B) → Sound total P x → ((a : A) → P a → Sound total Q (f a)) → Sound total Q (x >>= f)
sound-then total P Q (Ok a) f h next = next a h
sound-then total P Q (Err (Fault kind at)) f h next = h
sound-then total P Q (Err Stuck) f h next = h

pub sound-if : {A : Type 0} (total : Bool) (P : A → Type 0) (b : Bool) (x y : Outcome A) → (b ≡ true → Sound total P x) → (b ≡ false → Sound total P y) → Sound total P (if b then x else y)
sound-if total P true x y h k = h refl
sound-if total P false x y h k = k refl

-- the same value, where what comes first holds what the steps behind it ask
pub same-then : {A B : Type 0} (total : Bool) (P : A → Type 0) (x y : Outcome A) (f g : A → Outcome B) → y ≡ x → Sound total P x → ((a : A) → P a → g a ≡ f a) → (y >>= g) ≡ (x >>= f)
same-then total P (Ok a) y f g e h next = ap (λ o. o >>= g) e ∙ next a h
same-then total P (Err halt) y f g e h next = ap (λ o. o >>= g) e
