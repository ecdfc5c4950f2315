-- What the places in a part of a model grant, where they are those of its tokens and these are among so many.
use Rattle.std.proofs.Common.{◌≡◌, ℕ, ◌+◌, Bool, true, false, List, [], ◌∷◌, map, Option, Some, None, refl, ap, ◌∙◌, subst, arith}
use Rattle.std.specs.Prelude.{◌≤◌, ◌<◌, option_and_then, ◌==◌, if◌then◌else◌}
use Rattle.std.specs.List.{AllByRecursion}
use Rattle.std.proofs.lemmas.Bool.Decides.{Decides-eqb}
use Rattle.dsde_syntax.specs.Places.{Span, ◌>>◌, token, token_at, begins_at, all_spans, spans_with, bracketed}

-- From its first token to the one behind its last a part rises, and where that one is within so many
-- tokens, something holds.
pub record Grants (n : ℕ) (span : Span) (P : Type 0) : Type 0 where
  pub rises : (i j : ℕ) → span i ≡ Some j → i ≤ j
  pub grants : (i j : ℕ) → span i ≡ Some j → j ≤ n → P

-- the token between one span and the next
pub record Between (found : Option ℕ) (next : Span) (j : ℕ) : Type 0 where
  pub middle : ℕ
  pub left : found ≡ Some middle
  pub right : next middle ≡ Some j

pub between : (found : Option ℕ) (next : Span) (j : ℕ) → option_and_then next found ≡ Some j → Between found next j
between None next j is = cc
between (Some middle) next j is = record { middle = middle; left = refl; right = is }

-- the place of the next token
pub record Here (at i j : ℕ) : Type 0 where
  pub stays : i ≡ j
  pub place : at ≡ i

here-by : (at i j : ℕ) (same : Bool) → (at == i) ≡ same → (let found : Option ℕ = if same then Some i else None in found) ≡ Some j → Here at i j
here-by at i j true same is = record { stays = cc; place = (Decides-eqb at i).0 same }
here-by at i j false same is = cc

here : (at i j : ℕ) → begins_at at i ≡ Some j → Here at i j
here at i j is = here-by at i j (at == i) refl is

module _ (n : ℕ) where
  pub none : Grants n Some (Unit {0})
  none = record { rises = λ i j is. (let same : i ≡ j = cc in omega arith); grants = λ i j is less. tt }

  pub skip : Grants n token (Unit {0})
  skip = record { rises = λ i j is. (let same : i + 1 ≡ j = cc in omega arith); grants = λ i j is less. tt }

  -- a token leaves room for one
  pub some : Grants n token (0 < n)
  some = record { rises = λ i j is. (let same : i + 1 ≡ j = cc in omega arith); grants = λ i j is less. (let same : i + 1 ≡ j = cc in omega arith) }

  pub begun : (at : ℕ) → Grants n (begins_at at) (Unit {0})
  begun at = record { rises = λ i j is. (let own = (here at i j is).stays in omega arith); grants = λ i j is less. tt }

  pub more : {span : Span} {P Q : Type 0} → Grants n span P → (P → Q) → Grants n span Q
  more own step = record { rises = own.rises; grants = λ i j is less. step (own.grants i j is less) }

  pub both : {first next : Span} {P Q : Type 0} → Grants n first P → Grants n next Q → Grants n (first >> next) (P × Q)
  both {first} {next} one two = record {
    rises = λ i j is.
        let way = between (first i) next j is in
        let front = one.rises i way.middle way.left in
        let back = two.rises way.middle j way.right in
        omega arith;
    grants = λ i j is less.
        let way = between (first i) next j is in
        let back = two.rises way.middle j way.right in
        let within : way.middle ≤ n = omega arith in
        (one.grants i way.middle way.left within, two.grants way.middle j way.right less);
  }

  -- a place, and a token behind it
  pub opens : {next : Span} {Q : Type 0} (at : ℕ) → Grants n next Q → Grants n (begins_at at >> (token >> next)) ((at < n) × Q)
  opens {next} at two = record {
    rises = (both (begun at) (both skip two)).rises;
    grants = λ i j is less.
        let way = between (begins_at at i) (token >> next) j is in
        let own = here at i way.middle way.left in
        let after = between (token way.middle) next j way.right in
        let one : way.middle + 1 ≡ after.middle = (let same = after.left in cc) in
        let back = two.rises after.middle j after.right in
        let stays = own.stays in
        let place = own.place in
        let below : at < n = omega arith in
        (below, two.grants after.middle j after.right less);
  }

  pub at : (place : ℕ) → Grants n (token_at place) (place < n)
  at place = record {
    rises = (both (begun place) skip).rises;
    grants = λ i j is less.
        let way = between (begins_at place i) token j is in
        let own = here place i way.middle way.left in
        let stays = own.stays in
        let at = own.place in
        let one : way.middle + 1 ≡ j = (let same = way.right in cc) in
        omega arith;
  }

  -- a part behind a token, before one, and in brackets
  pub behind : {span : Span} {P : Type 0} → Grants n span P → Grants n (token >> span) P
  behind own = more (both skip own) (λ both. both.1)

  pub before : {span : Span} {P : Type 0} → Grants n span P → Grants n (span >> token) P
  before own = more (both own skip) (λ both. both.0)

  pub within : {span : Span} {P : Type 0} → Grants n span P → Grants n (bracketed span) P
  within own = before (behind own)

  -- a place, and a part in brackets there
  pub placed : {span : Span} {P : Type 0} (at : ℕ) → Grants n span P → Grants n (begins_at at >> bracketed span) ((at < n) × P)
  placed {span} {P} at own = record {
    rises = (both (begun at) (within own)).rises;
    grants = λ i j is less.
        let way = between (begins_at at i) (bracketed span) j is in
        let last = between ((token >> span) way.middle) token j way.right in
        let front : (begins_at at >> (token >> span)) i ≡ Some last.middle = ap (option_and_then (token >> span)) way.left ∙ last.left in
        let ends : last.middle + 1 ≡ j = (let same = last.right in cc) in
        let fits : last.middle ≤ n = omega arith in
        (opens at own).grants i last.middle front fits;
  }

  -- parts one behind another
  module _ {Y X B : Type 0} (f : Y → X) (S : X → Span) (M : X → B) (P : B → Type 0) (own : (y : Y) → Grants n (S (f y)) (P (M (f y)))) where
    pub all-of : (ys : List Y) → Grants n (all_spans (map S (map f ys))) (AllByRecursion P (map M (map f ys)))
    all-of [] = more none (λ none. tt)
    all-of (y ∷ ys) = both (own y) (all-of ys)

    all-behind : (ys : List Y) → Grants n (all_spans (map (λ next. token >> next) (map S (map f ys)))) (AllByRecursion P (map M (map f ys)))
    all-behind [] = more none (λ none. tt)
    all-behind (y ∷ ys) = both (behind (own y)) (all-behind ys)

    -- parts with a token between each two
    pub separated-of : (ys : List Y) → Grants n (spans_with token (map S (map f ys))) (AllByRecursion P (map M (map f ys)))
    separated-of [] = more none (λ none. tt)
    separated-of (y ∷ ys) = both (own y) (all-behind ys)

  map-same : {A : Type 0} (list : List A) → map (λ v. v) list ≡ list
  map-same [] = refl
  map-same (v ∷ list) = ap (λ rest. v ∷ rest) (map-same list)

  module _ {X B : Type 0} (S : X → Span) (M : X → B) (P : B → Type 0) (own : (x : X) → Grants n (S x) (P (M x))) where
    pub all : (xs : List X) → Grants n (all_spans (map S xs)) (AllByRecursion P (map M xs))
    all xs = subst (λ ys. Grants n (all_spans (map S ys)) (AllByRecursion P (map M ys))) (map-same xs) (all-of (λ x. x) S M P own xs)

    pub separated : (xs : List X) → Grants n (spans_with token (map S xs)) (AllByRecursion P (map M xs))
    separated xs = subst (λ ys. Grants n (spans_with token (map S ys)) (AllByRecursion P (map M ys))) (map-same xs) (separated-of (λ x. x) S M P own xs)

  module _ {X : Type 0} (S : X → Span) (P : X → Type 0) (own : (x : X) → Grants n (S x) (P x)) where
    pub each : (xs : List X) → Grants n (all_spans (map S xs)) (AllByRecursion P xs)
    each [] = more none (λ none. tt)
    each (x ∷ xs) = both (own x) (each xs)

    each-behind : (xs : List X) → Grants n (all_spans (map (λ next. token >> next) (map S xs))) (AllByRecursion P xs)
    each-behind [] = more none (λ none. tt)
    each-behind (x ∷ xs) = both (behind (own x)) (each-behind xs)

    pub each-apart : (xs : List X) → Grants n (spans_with token (map S xs)) (AllByRecursion P xs)
    each-apart [] = more none (λ none. tt)
    each-apart (x ∷ xs) = both (own x) (each-behind xs)

  -- what each of some things grants
  pub for-each : {X : Type 0} {span : Span} (P : X → Type 0) → X → ((x : X) → Grants n span (P x)) → Grants n span ((x : X) → P x)
  for-each P first own = record { rises = (own first).rises; grants = λ i j is less x. (own x).grants i j is less }
