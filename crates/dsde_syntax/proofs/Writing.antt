-- What parts that are written one after another come to.
use Rattle.std.proofs.Common.{◌≡◌, ℕ, ◌+◌, ◌<◌, ◌≤◌, List, [], ◌∷◌, ◌++◌, map, flat_map, length, get_or, take, Option, sym, ap, subst, ◌∙◌, append_assoc, append-nil}
use Rattle.std.proofs.lemmas.List.{take_more, take_all, map-append}
use Rattle.std.proofs.lemmas.Grind.{flat_map-append}
use Rattle.dsde_syntax.specs.declared.token.Tok.{Tok}
use Rattle.dsde_syntax.specs.Writing.{Adds}

pub then : {a b c : Option (List Tok)} {x y : List Tok} → Adds a x b → Adds b y c → Adds a (x ++ y) c
then {x = x} {y = y} p q = record {
  adds = λ whole e.
      let r = q.adds whole e in
      let s = p.adds r.0 r.1.0 in
      (s.0, (s.1.0, cc (append_assoc s.0 x y, r.1.1, s.1.1)));
}

pub same : {a b : Option (List Tok)} {x y : List Tok} → Adds a x b → x ≡ y → Adds a y b
same {a} {b} it is = subst (λ part. Adds a part b) is it

module _ {A : Type 0} where
  -- one more item of a list
  pub adds_more : (g : List Tok → List Tok) (f : A → List Tok) (xs : List A) (i : ℕ) (x : A) {a b c : Option (List Tok)} → i < length xs → x ≡ get_or xs i x
      → Adds a (flat_map g (map f (take i xs))) b → Adds b (g (f x)) c → Adds a (flat_map g (map f (take (i + 1) xs))) c
  adds_more g f xs i x {a} {b} {c} lt is before it =
      subst (λ part. Adds a part c)
      (ap (λ y. flat_map g (map f (take i xs)) ++ g (f y)) is
      ∙ ap (λ part. flat_map g (map f (take i xs)) ++ part) (sym (append-nil (g (f (get_or xs i x)))))
      ∙ sym (flat_map-append g (map f (take i xs)) (f (get_or xs i x) ∷ []))
      ∙ ap (flat_map g) (sym (map-append f (take i xs) (get_or xs i x ∷ [])))
      ∙ ap (λ ys. flat_map g (map f ys)) (sym (take_more xs i x lt)))
      (then before it)

  -- all of them
  pub adds_all : (g : List Tok → List Tok) (f : A → List Tok) (xs : List A) (i : ℕ) {a b : Option (List Tok)} → length xs ≤ i
      → Adds a (flat_map g (map f (take i xs))) b → Adds a (flat_map g (map f xs)) b
  adds_all g f xs i {a} {b} le all = subst (λ ys. Adds a (flat_map g (map f ys)) b) (take_all i xs le) all
