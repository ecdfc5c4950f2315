-- What a tree is to those who see its parts by birth alone.
use Rattle.std.proofs.Common.{◌≡◌, ◌≢◌, ◌⊎◌, ℕ, zero, suc, ◌<◌, cond, eqb, List, [], ◌∷◌, ◌++◌, length, length-append, append_assoc, append-nil, Option, Some, None, option_and_then, refl, sym, ap, subst, ◌∙◌, inl, inr, arith}
use Rattle.std.specs.Ordering.{nat_cmp}
use Rattle.std.specs.FinMap as fin
use Rattle.std.proofs.lemmas.Bool.{cases_eq}
use Rattle.std.proofs.lemmas.Bool.Decides.{eqb_tells}
use Rattle.dsde_bank.specs.declared.handle.Handle.{Handle}
use Rattle.dsde_bank.proofs.Births.{same_births, get-insert_other}
use Rattle.dsde_values.specs.declared.name.Name.{Name}
use Rattle.dsde_grove.specs.Grove.{Grove, Spot, spot, parent_of, root_name, IsAbove, IsTree, IsGone, IsUnder, Grows}
use Rattle.dsde_grove.specs.Grove.IsAbove.{itself, above_parent}
use Rattle.dsde_grove.proofs.Above.{above_cases}

module _ {A : Type 0} where
  -- lists with one more item at the end
  pub last_same : (xs ys : List A) (x y : A) → xs ++ x ∷ [] ≡ ys ++ y ∷ [] → (xs ≡ ys) × (x ≡ y)
  last_same [] [] x y e = (refl, cc)
  last_same [] (b ∷ ys) x y e = absurd (omega (arith, ap length e, length-append ys (y ∷ [])))
  last_same (a ∷ xs) [] x y e = absurd (omega (arith, ap length e, length-append xs (x ∷ [])))
  last_same (a ∷ xs) (b ∷ ys) x y e =
      let heads : a ≡ b = cc in
      let tails : xs ++ x ∷ [] ≡ ys ++ y ∷ [] = cc in
      let rest = last_same xs ys x y tails in
      ((λ i. heads i ∷ rest.0 i), rest.1)

  pub last_cases : (l : List A) → (l ≡ []) ⊎ ((front : List A) × (last : A) × (l ≡ front ++ last ∷ []))
  last_cases [] = inl refl
  last_cases (x ∷ xs) = by (last_cases xs)
    where
      by : (xs ≡ []) ⊎ ((front : List A) × (last : A) × (xs ≡ front ++ last ∷ [])) → ((x ∷ xs) ≡ []) ⊎ ((front : List A) × (last : A) × ((x ∷ xs) ≡ front ++ last ∷ []))
      by (inl none) = inr ([], x, ap (λ l. x ∷ l) none)
      by (inr some) = inr (x ∷ some.0, some.1, ap (λ l. x ∷ l) some.2)

  one_of : (x y : A) → Some x ≡ Some y → x ≡ y
  one_of x y e = cc

module _ {T : Type 0} where
  in_place : (o : Option (Spot T)) (slot : ℕ) (s : Spot T) → option_and_then (λ (part : Spot T). cond (eqb part.slot slot) (Some part) None) o ≡ Some s → (o ≡ Some s) × (s.slot ≡ slot)
  in_place None slot s is = absurd (cc)
  in_place (Some x) slot s is = elim (eqb_tells x.slot slot) [
    | inl (test, same) ↦
        let here = one_of x s (sym (ap (λ b. cond b (Some x) None) test) ∙ is) in
        (ap Some here, ap (λ (p : Spot T). p.slot) (sym here) ∙ same)
    | inr (test, _) ↦ let none : None ≡ Some s = sym (ap (λ b. cond b (Some x) None) test) ∙ is in absurd (cc)
  ]

  -- what a handle shows is the part of its birth, in its slot
  pub spot-get : (g : Grove T) (h : Handle) (s : Spot T) → spot g h ≡ Some s → (fin.get g.parts h.birth ≡ Some s) × (s.slot ≡ h.slot)
  spot-get g h s is = in_place (fin.get g.parts h.birth) h.slot s is

  parent_from : (o : Option (Spot T)) (p : Handle) → option_and_then (λ (s : Spot T). s.parent) o ≡ Some p → (x : Spot T) × (o ≡ Some x) × (x.parent ≡ Some p)
  parent_from None p is = absurd (cc)
  parent_from (Some x) p is = (x, refl, is)

  module _ (g : Grove T) (tree : IsTree g) where
    abbrev parents : ℕ → Option Handle
    parents = parent_of g

    parent_is : (b : ℕ) (x : Spot T) → fin.get g.parts b ≡ Some x → parents b ≡ x.parent
    parent_is b x is = ap (option_and_then (λ (s : Spot T). s.parent)) is

    -- a part of a path is not without a name
    some_path : (b : ℕ) (x : Spot T) → fin.get g.parts b ≡ Some x → 0 < length x.path
    some_path b x is = by x.parent refl
      where
        by : (o : Option Handle) → x.parent ≡ o → 0 < length x.path
        by None root = omega (arith, ap length (tree.root b x is root).2)
        by (Some p) below = let up = tree.up b x p is below in omega (arith, ap length up.path, length-append up.above.path (x.name ∷ []))

    -- parts of one path are one part
    one_path : (fuel a b : ℕ) (x y : Spot T) → a < fuel → fin.get g.parts a ≡ Some x → fin.get g.parts b ≡ Some y → x.path ≡ y.path → a ≡ b
    one_path zero a b x y within at at' same = absurd (omega arith)
    one_path (suc fuel) a b x y within at at' same = by (λ c d v w less is is' paths. one_path fuel c d v w less is is' paths) x.parent y.parent refl refl
      where
        by : ((c d : ℕ) (v w : Spot T) → c < fuel → fin.get g.parts c ≡ Some v → fin.get g.parts d ≡ Some w → v.path ≡ w.path → c ≡ d) → (o p : Option Handle) → x.parent ≡ o → y.parent ≡ p → a ≡ b
        by earlier None None u v = omega (arith, (tree.root a x at u).0, (tree.root b y at' v).0)
        by earlier None (Some q) u v =
            let up = tree.up b y q at' v in
            let apart = last_same [] up.above.path root_name y.name (sym (tree.root a x at u).2 ∙ same ∙ up.path) in
            absurd (omega (arith, ap length apart.0, some_path q.birth up.above (spot-get g q up.above up.live).0))
        by earlier (Some p) None u v =
            let up = tree.up a x p at u in
            let apart = last_same up.above.path [] x.name root_name (sym up.path ∙ same ∙ (tree.root b y at' v).2) in
            absurd (omega (arith, ap length apart.0, some_path p.birth up.above (spot-get g p up.above up.live).0))
        by earlier (Some p) (Some q) u v =
            let up = tree.up a x p at u in
            let over = tree.up b y q at' v in
            let both = last_same up.above.path over.above.path x.name y.name (sym up.path ∙ same ∙ over.path) in
            let p_at = spot-get g p up.above up.live in
            let q_at = spot-get g q over.above over.live in
            let births = earlier p.birth q.birth up.above over.above (omega (arith, up.earlier, within)) p_at.0 q_at.0 both.0 in
            let spots = one_of up.above over.above (sym p_at.0 ∙ ap (fin.get g.parts) births ∙ q_at.0) in
            let slots = sym p_at.1 ∙ ap (λ (s : Spot T). s.slot) spots ∙ q_at.1 in
            let handles : q ≡ p = λ i. record { birth = sym births i; slot = sym slots i } in
            tree.apart a b x y p at at' u (v ∙ ap Some handles) both.1

    -- a part below another has that one's path in front of its own
    under_above : {a b : ℕ} → IsAbove parents a b → (x y : Spot T) → fin.get g.parts a ≡ Some x → fin.get g.parts b ≡ Some y → (rest : List Name) × (y.path ≡ x.path ++ rest)
    under_above itself x y at at' = ([], ap (λ (s : Spot T). s.path) (one_of y x (sym at' ∙ at)) ∙ sym (append-nil x.path))
    under_above {b = b} (above_parent {parent = parent} is above) x y at at' =
        let up = tree.up b y parent at' (sym (parent_is b y at') ∙ is) in
        let rest = under_above above x up.above at (spot-get g parent up.above up.live).0 in
        (rest.0 ++ y.name ∷ [], up.path ∙ ap (λ l. l ++ y.name ∷ []) rest.1 ∙ append_assoc x.path rest.0 (y.name ∷ []))

    -- and only such a part
    above_under : (a : ℕ) (x : Spot T) → fin.get g.parts a ≡ Some x → (fuel b : ℕ) (y : Spot T) → b < fuel → fin.get g.parts b ≡ Some y → (rest : List Name) → y.path ≡ x.path ++ rest → IsAbove parents a b
    above_under a x at zero b y within at' rest path = absurd (omega arith)
    above_under a x at (suc fuel) b y within at' rest path = elim (last_cases rest) [
      | inl none ↦
          let same = path ∙ ap (λ l. x.path ++ l) none ∙ append-nil x.path in
          subst (IsAbove parents a) (one_path (suc a) a b x y (omega arith) at at' (sym same)) itself
      | inr some ↦ by (λ c z less is front same. above_under a x at fuel c z less is front same) some.0 some.1 (path ∙ ap (λ l. x.path ++ l) some.2 ∙ sym (append_assoc x.path some.0 (some.1 ∷ []))) y.parent refl
    ]
      where
        by : ((c : ℕ) (z : Spot T) → c < fuel → fin.get g.parts c ≡ Some z → (more : List Name) → z.path ≡ x.path ++ more → IsAbove parents a c) → (front : List Name) (last : Name) → y.path ≡ (x.path ++ front) ++ last ∷ [] → (o : Option Handle) → y.parent ≡ o → IsAbove parents a b
        by earlier front last is None root =
            let none = last_same [] (x.path ++ front) root_name last (sym (tree.root b y at' root).2 ∙ is) in
            absurd (omega (arith, ap length none.0, length-append x.path front, some_path a x at))
        by earlier front last is (Some p) below =
            let up = tree.up b y p at' below in
            let both = last_same up.above.path (x.path ++ front) y.name last (sym up.path ∙ is) in
            above_parent (parent_is b y at' ∙ below) (earlier p.birth up.above (omega (arith, up.earlier, within)) (spot-get g p up.above up.live).0 front both.0)

    parent_falls : (b : ℕ) (p : Handle) → parents b ≡ Some p → p.birth < b
    parent_falls b p is = let from = parent_from (fin.get g.parts b) p is in (tree.up b from.0 p from.1 from.2).earlier

    handle_of : (p q : Handle) → Some p ≡ Some q → p ≡ q
    handle_of p q e = cc

    -- whether a part lies above another
    is_above : (a fuel b : ℕ) → b < fuel → IsAbove parents a b ⊎ ¬ IsAbove parents a b
    is_above a zero b within = absurd (omega arith)
    is_above a (suc fuel) b within = elim (cases_eq b a) [
      | inl same ↦ inl (subst (IsAbove parents a) (sym same) itself)
      | inr differs ↦ by (λ c less. is_above a fuel c less) differs (parents b) refl
    ]
      where
        by : ((c : ℕ) → c < fuel → IsAbove parents a c ⊎ ¬ IsAbove parents a c) → b ≢ a → (o : Option Handle) → parents b ≡ o → IsAbove parents a b ⊎ ¬ IsAbove parents a b
        by earlier differs None root = inr (λ above. elim (above_cases above) [ inl same ↦ differs same | inr over ↦ let wrong : None ≡ Some over.parent = sym root ∙ over.is in cc ])
        by earlier differs (Some p) below = elim (earlier p.birth (omega (arith, parent_falls b p below, within))) [
          | inl above ↦ inl (above_parent below above)
          | inr not_above ↦ inr (λ above. elim (above_cases above) [
            | inl same ↦ differs same
            | inr over ↦ not_above (subst (λ (h : Handle). IsAbove parents a h.birth) (handle_of over.parent p (sym over.is ∙ below)) over.above)
          ])
        ]

    -- each part lies below the root
    rooted : (fuel b : ℕ) (x : Spot T) → b < fuel → fin.get g.parts b ≡ Some x → IsAbove parents 0 b
    rooted zero b x within at = absurd (omega arith)
    rooted (suc fuel) b x within at = by (λ c y less is. rooted fuel c y less is) x.parent refl
      where
        by : ((c : ℕ) (y : Spot T) → c < fuel → fin.get g.parts c ≡ Some y → IsAbove parents 0 c) → (o : Option Handle) → x.parent ≡ o → IsAbove parents 0 b
        by earlier None root = subst (IsAbove parents 0) (sym (tree.root b x at root).0) itself
        by earlier (Some p) below =
            let up = tree.up b x p at below in
            above_parent (parent_is b x at ∙ below) (earlier p.birth up.above (omega (arith, up.earlier, within)) (spot-get g p up.above up.live).0)

    -- only live parts lie below a live one
    live_under : {a b : ℕ} → IsAbove parents a b → (x : Spot T) → fin.get g.parts a ≡ Some x → b < g.next_birth
    live_under {a} itself x at = tree.given a x at
    live_under {b = b} (above_parent {parent = parent} is above) x at = let from = parent_from (fin.get g.parts b) parent is in tree.given b from.0 from.1

    -- no part has the next birth
    pub none_next : fin.get g.parts g.next_birth ≡ None
    none_next = by (fin.get g.parts g.next_birth) refl
      where
        by : (o : Option (Spot T)) → fin.get g.parts g.next_birth ≡ o → fin.get g.parts g.next_birth ≡ None
        by None is = is
        by (Some x) is = absurd (omega (arith, tree.given g.next_birth x is))

    -- the part under a handle and those below it are gone, and all others as they were
    module _ (new : Grove T) (top : Handle) (part : Spot T) (live : spot g top ≡ Some part)
        (gone : (b : ℕ) → IsAbove parents top.birth b → fin.get new.parts b ≡ None) (kept : (b : ℕ) → ¬ IsAbove parents top.birth b → fin.get new.parts b ≡ fin.get g.parts b) where
      abbrev top_is : fin.get g.parts top.birth ≡ Some part
      top_is = (spot-get g top part live).0

      not_live : (b : ℕ) → fin.get g.parts b ≡ None → ¬ IsAbove parents top.birth b
      not_live b none above = elim (above_cases above) [
        | inl same ↦ let wrong : None ≡ Some part = sym none ∙ ap (fin.get g.parts) same ∙ top_is in cc
        | inr over ↦ let wrong : None ≡ Some over.parent = sym (ap (option_and_then (λ (s : Spot T). s.parent)) none) ∙ over.is in cc
      ]

      abbrev Either : ℕ → Type 0
      Either b = (IsUnder g part b × (fin.get new.parts b ≡ None)) ⊎ ((¬ IsUnder g part b) × (fin.get new.parts b ≡ fin.get g.parts b))

      pub either : (b : ℕ) → Either b
      either b = by (fin.get g.parts b) refl
        where
          by : (o : Option (Spot T)) → fin.get g.parts b ≡ o → Either b
          by None none = inr ((λ under. let wrong : None ≡ Some under.part = sym none ∙ under.live in cc), kept b (not_live b none))
          by (Some y) is = elim (is_above top.birth (suc b) b (omega arith)) [
            | inl above ↦ let path = under_above above part y top_is is in inl (record { part = y; live = is; rest = path.0; path = path.1 }, gone b above)
            | inr out ↦ inr ((λ under. out (above_under top.birth part top_is (suc b) b under.part (omega arith) under.live under.rest under.path)), kept b out)
          ]

      -- after the root nothing is live
      pub emptied : top.birth ≡ 0 → new.parts ≡ fin.empty
      emptied root = same_births new.parts fin.empty (λ b. nothing b (fin.get g.parts b) refl ∙ sym (fin.get-empty nat_cmp b))
        where
          nothing : (b : ℕ) (o : Option (Spot T)) → fin.get g.parts b ≡ o → fin.get new.parts b ≡ None
          nothing b None none = kept b (not_live b none) ∙ none
          nothing b (Some y) is = gone b (subst (λ a. IsAbove parents a b) (sym root) (rooted (suc b) b y (omega arith) is))

      absent : (h : Handle) → fin.get new.parts h.birth ≡ None → spot new h ≡ None
      absent h none = ap (option_and_then (λ (s : Spot T). cond (eqb s.slot h.slot) (Some s) None)) none

      -- what was dropped is gone, and what was gone before stays gone
      pub gone_under : new.next_birth ≡ g.next_birth → (other : Handle) → IsAbove parents top.birth other.birth → IsGone new other
      gone_under next other above = record { absent = absent other (gone other.birth above); given = omega (arith, next, live_under above part top_is) }

      pub gone_before : new.next_birth ≡ g.next_birth → (other : Handle) → IsGone g other → IsGone new other
      gone_before next other was = record {
        absent = elim (is_above top.birth (suc other.birth) other.birth (omega arith)) [
          | inl above ↦ absent other (gone other.birth above)
          | inr out ↦ ap (option_and_then (λ (s : Spot T). cond (eqb s.slot other.slot) (Some s) None)) (kept other.birth out) ∙ was.absent
        ];
        given = omega (arith, next, was.given);
      }

  -- what is gone stays gone as a part grows
  pub gone_grown : (old new : Grove T) (parent kid : Handle) (name : Name) (value : T) → Grows old new parent name value kid → (other : Handle) → IsGone old other → IsGone new other
  gone_grown old new parent kid name value grown other was = record {
    absent =
        ap (option_and_then (λ (s : Spot T). cond (eqb s.slot other.slot) (Some s) None)) (ap (λ m. fin.get m other.birth) grown.parts ∙ get-insert_other old.parts kid.birth _ other.birth (omega (arith, grown.birth, was.given)))
        ∙ was.absent;
    given = omega (arith, grown.next, was.given);
  }

  pub gone_same : (old new : Grove T) → new ≡ old → (other : Handle) → IsGone old other → IsGone new other
  gone_same old new same other was = subst (λ g. IsGone g other) (sym same) was
