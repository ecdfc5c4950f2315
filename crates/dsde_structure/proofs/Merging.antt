-- Two lists in the order of their keys, where what survives has its key: what one step of a walk over both does.
use Rattle.std.proofs.Common.{◌≡◌, Bool, true, false, ◌||◌, not, cond, List, [], ◌∷◌, map, refl, sym, ◌∙◌, ap}
use Rattle.std.specs.declared.cmp.Ordering.{Ordering}
use Rattle.std.specs.declared.cmp.Ordering.TheVariants.{Less, Equal, Greater}
use Rattle.std.specs.Cmp.{IsTotalOrder}
use Rattle.std.specs.Ordering.{ordering_reverse}
use Rattle.std.specs.List.{filter, list_any, AllByRecursion}

fails : (b : Bool) → (b ≡ true → ⊥) → b ≡ false
fails true never = absurd (never refl)
fails false never = refl

or_false : (b : Bool) → (b || false) ≡ b
or_false true = refl
or_false false = refl

module _ {K : Type 0} (R : K → K → Ordering) (o : IsTotalOrder R) where
  -- a key before others
  abbrev pub IsBefore : K → List K → Type 0
  IsBefore k keys = AllByRecursion (λ y. R k y ≡ Less) keys

  pub before-less : (j k : K) (keys : List K) → R j k ≡ Less → IsBefore k keys → IsBefore j keys
  before-less j k [] less before = before
  before-less j k (key ∷ keys) less before = (o.trans j k key less before.0, before-less j k keys less before.1)

  pub before-tied : (j k : K) (keys : List K) → R j k ≡ Equal → IsBefore k keys → IsBefore j keys
  before-tied j k [] tied before = before
  before-tied j k (key ∷ keys) tied before = (o.congr j k key tied ∙ before.0, before-tied j k keys tied before.1)

  pub tied-back : (j k : K) → R j k ≡ Equal → R k j ≡ Equal
  tied-back j k tied = o.antisymm k j ∙ ap ordering_reverse tied

  pub greater-back : (j k : K) → R j k ≡ Greater → R k j ≡ Less
  greater-back j k greater = o.antisymm k j ∙ ap ordering_reverse greater

  -- the old ones, the new ones, and when an old one survives as a new one
  module _ {O N : Type 0} (old_key : O → K) (new_key : N → K) (S : O → N → Bool) (ties : (x : O) (y : N) → S x y ≡ true → R (old_key x) (new_key y) ≡ Equal) where
    abbrev pub kept_of : List O → List N → List O
    kept_of olds news = filter (λ x. list_any (S x) news) olds

    abbrev pub gone_of : List O → List N → List O
    gone_of olds news = filter (λ x. not (list_any (S x) news)) olds

    abbrev pub fresh_of : List O → List N → List N
    fresh_of olds news = filter (λ y. not (list_any (λ x. S x y) olds)) news

    apart : (x : O) (y : N) → R (old_key x) (new_key y) ≡ Less → S x y ≡ false
    apart x y less = fails (S x y) (λ h. let e : R (old_key x) (new_key y) ≡ Equal = ties x y h in let f : Less ≡ Equal = sym less ∙ e in cc)

    apart-back : (x : O) (y : N) → R (new_key y) (old_key x) ≡ Less → S x y ≡ false
    apart-back x y less = fails (S x y) (λ h.
        let turned : R (old_key x) (new_key y) ≡ Greater = o.antisymm (old_key x) (new_key y) ∙ ap ordering_reverse less in
        let e : R (old_key x) (new_key y) ≡ Equal = ties x y h in let f : Greater ≡ Equal = sym turned ∙ e in cc)

    -- an old one before all the new ones survives as none
    pub none-after : (x : O) (news : List N) → IsBefore (old_key x) (map new_key news) → list_any (S x) news ≡ false
    none-after x [] before = refl
    none-after x (y ∷ news) before = rw (apart x y before.0, none-after x news before.1) refl

    -- as a new one before all the old ones none survives
    none-before : (y : N) (olds : List O) → IsBefore (new_key y) (map old_key olds) → list_any (λ x. S x y) olds ≡ false
    none-before y [] before = refl
    none-before y (x ∷ olds) before = rw (apart-back x y before.0, none-before y olds before.1) refl

    pub kept-later : (y : N) (news : List N) (olds : List O) → IsBefore (new_key y) (map old_key olds) → kept_of olds (y ∷ news) ≡ kept_of olds news
    kept-later y news [] before = refl
    kept-later y news (x ∷ olds) before = rw (apart-back x y before.0, kept-later y news olds before.1) refl

    pub gone-later : (y : N) (news : List N) (olds : List O) → IsBefore (new_key y) (map old_key olds) → gone_of olds (y ∷ news) ≡ gone_of olds news
    gone-later y news [] before = refl
    gone-later y news (x ∷ olds) before = rw (apart-back x y before.0, gone-later y news olds before.1) refl

    pub fresh-later : (x : O) (olds : List O) (news : List N) → IsBefore (old_key x) (map new_key news) → fresh_of (x ∷ olds) news ≡ fresh_of olds news
    fresh-later x olds [] before = refl
    fresh-later x olds (y ∷ news) before = rw (apart x y before.0, fresh-later x olds news before.1) refl

    -- the old one comes first
    module _ (x : O) (olds : List O) (news : List N) (before : IsBefore (old_key x) (map new_key news)) where
      pub first-kept : kept_of (x ∷ olds) news ≡ kept_of olds news
      first-kept = rw (none-after x news before) refl

      pub first-gone : gone_of (x ∷ olds) news ≡ x ∷ gone_of olds news
      first-gone = rw (none-after x news before) refl

    -- the new one comes first
    pub first-fresh : (y : N) (olds : List O) (news : List N) → IsBefore (new_key y) (map old_key olds) → fresh_of olds (y ∷ news) ≡ y ∷ fresh_of olds news
    first-fresh y olds news before = rw (none-before y olds before) refl

    -- both have the same key
    module _ (x : O) (y : N) (olds : List O) (news : List N) (after_x : IsBefore (old_key x) (map new_key news)) (after_y : IsBefore (new_key y) (map old_key olds)) where
      pub both-kept : kept_of (x ∷ olds) (y ∷ news) ≡ cond (S x y) (x ∷ kept_of olds news) (kept_of olds news)
      both-kept = rw (none-after x news after_x, or_false (S x y), kept-later y news olds after_y) refl

      pub both-gone : gone_of (x ∷ olds) (y ∷ news) ≡ cond (not (S x y)) (x ∷ gone_of olds news) (gone_of olds news)
      both-gone = rw (none-after x news after_x, or_false (S x y), gone-later y news olds after_y) refl

      pub both-fresh : fresh_of (x ∷ olds) (y ∷ news) ≡ cond (not (S x y)) (y ∷ fresh_of olds news) (fresh_of olds news)
      both-fresh = rw (none-before y olds after_y, or_false (S x y), fresh-later x olds news after_x) refl
