-- Lists of parts that are proper, and other steps of the induction over trees.
use Rattle.std.proofs.Common.{◌≡◌, Bool, true, false, ◌||◌, List, [], ◌∷◌, map, refl, sym, ◌∙◌, ap, subst}
use Rattle.std.specs.List.{list_all}
use Rattle.dsde_language.specs.given.syntax.token_Sign.{Sign}
use Rattle.dsde_language.specs.given.syntax.Levels.{is_sum_sign, is_mul_sign, has_first}
use Rattle.dsde_language.specs.declared.operator.Binary.{Binary}
use Rattle.dsde_sound_expressions.specs.lemmas.Truths.{and-left, and-right}
use Rattle.dsde_sound_expressions.proofs.Signs.{is_operator}

-- parts that are proper, with what is said of each
pub record Passed {E X : Type 0} (fst : E → X) (Good : X → Type 0) (es : List E) : Type 0 where
  pub ys : List ((x : X) × Good x)
  pub is : map (λ y. y.0) ys ≡ map fst es

pub passed : {E X B : Type 0} (fst : E → X) (P : X → B) (q : B → Bool) (Good : X → Type 0) → ((e : E) → q (P (fst e)) ≡ true → Good (fst e)) → (es : List E) → list_all q (map P (map fst es)) ≡ true → Passed fst Good es
passed fst P q Good next [] h = record { ys = []; is = refl }
passed fst P q Good next (e ∷ es) h =
    let rest = passed fst P q Good next es (and-right (q (P (fst e))) (list_all q (map P (map fst es))) h) in
    record { ys = (fst e, next e (and-left (q (P (fst e))) (list_all q (map P (map fst es))) h)) ∷ rest.ys; is = ap (λ xs. fst e ∷ xs) rest.is }

pub word-map : {X B : Type 0} (f : X → Binary → B) (which : Binary) (xs : List X) → map (λ tail. tail which) (map f xs) ≡ map (λ x. f x which) xs
word-map f which [] = refl
word-map f which (x ∷ xs) = ap (λ rest. f x which ∷ rest) (word-map f which xs)

pub three : {A B C : Type 0} (P : A → B → C → Type 0) (a a' : A) (b b' : B) (c c' : C) → a ≡ a' → b ≡ b' → c ≡ c' → P a' b' c' → P a b c
three P a a' b b' c c' ha hb hc own = subst (λ own. P own b c) (sym ha) (subst (λ own. P a' own c) (sym hb) (subst (λ own. P a' b' own) (sym hc) own))

some-map : {X B C : Type 0} (f : X → B) (h : X → C) (xs : List X) → has_first (map f xs) ≡ true → has_first (map h xs) ≡ true
some-map f h [] some = cc
some-map f h (x ∷ xs) some = refl

-- a list that has a first item, through its items
pub first-kept : {X B C : Type 0} (f : X → B) (h : X → C) (xs ys : List X) → ys ≡ xs → has_first (map f xs) ≡ true → has_first (map h ys) ≡ true
first-kept f h xs ys is some = some-map f h ys (ap (λ l. has_first (map f l)) is ∙ some)

-- signs that are operators of sums or of products
abbrev pub AreOperators : (Sign → Bool) → Type 0
AreOperators is_sign = (which : Sign) → is_sign which ≡ true → is_operator which ≡ true

pub sum-operator : (which : Sign) → is_sum_sign which ≡ true → is_operator which ≡ true
sum-operator which h = ap (λ (b : Bool). b || is_mul_sign which) h

or-true : (a b : Bool) → b ≡ true → (a || b) ≡ true
or-true true b h = refl
or-true false b h = h

pub mul-operator : (which : Sign) → is_mul_sign which ≡ true → is_operator which ≡ true
mul-operator which h = or-true (is_sum_sign which) (is_mul_sign which) h
