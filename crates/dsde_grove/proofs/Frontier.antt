-- The work list of a drop: parts that stand for all that is still to be taken out.
use Rattle.std.proofs.Common.{◌≡◌, ◌≢◌, ◌⊎◌, ℕ, zero, suc, ◌+◌, ◌<◌, ◌≤◌, List, [], ◌∷◌, ◌++◌, length, length-append, map, Contains, Option, Some, None, refl, sym, ap, subst, ◌∙◌, inl, inr, arith}
use Rattle.std.specs.List.{AllPairs}
use Rattle.std.specs.Ordering.{nat_cmp}
use Rattle.std.specs.FinMap as fin
use Rattle.std.proofs.lemmas.Bool.{cases_eq}
use Rattle.dsde_grove.proofs.Listed.{listed_later, listed_cases}
use Rattle.dsde_bank.specs.declared.handle.Handle.{Handle}
use Rattle.dsde_bank.specs.Bank.{Bank}
use Rattle.dsde_bank.proofs.Births.{get-remove_same, get-remove_other, len-remove_old}
use Rattle.dsde_grove.specs.Grove.{IsAbove}
use Rattle.dsde_grove.specs.Grove.IsAbove.{itself, above_parent}
use Rattle.dsde_grove.specs.Inside.{parent_in, IsLinked, IsListed, TakesAll}
use Rattle.dsde_grove.specs.declared.part.Part.{Part}
use Rattle.dsde_grove.specs.Part.{Kid}
use Rattle.dsde_grove.proofs.Trees.{Held}
use Rattle.dsde_grove.proofs.Above.{above_cases, above_trans, above_le, parent_falls, parent_of-placed, through_kid}

-- the handle stands in the list
abbrev pub In : Handle → List Handle → Type 0
In h [] = ⊥
In h (x ∷ xs) = (x ≡ h) ⊎ In h xs

pub in_left : (h : Handle) (xs ys : List Handle) → In h xs → In h (xs ++ ys)
in_left h [] ys there = absurd there
in_left h (x ∷ xs) ys (inl here) = inl here
in_left h (x ∷ xs) ys (inr there) = inr (in_left h xs ys there)

pub in_right : (h : Handle) (xs ys : List Handle) → In h ys → In h (xs ++ ys)
in_right h [] ys there = there
in_right h (x ∷ xs) ys there = inr (in_right h xs ys there)

pub in_cases : (h : Handle) (xs ys : List Handle) → In h (xs ++ ys) → In h xs ⊎ In h ys
in_cases h [] ys there = inr there
in_cases h (x ∷ xs) ys (inl here) = inl (inl here)
in_cases h (x ∷ xs) ys (inr there) = elim (in_cases h xs ys there) [ inl left ↦ inl (inr left) | inr right ↦ inr right ]

abbrev pub handle_of : Kid → Handle
handle_of kid = kid.handle

pub in_handles : (h : Handle) (kids : List Kid) → In h (map handle_of kids) → (kid : Kid) × Contains kids kid × (kid.handle ≡ h)
in_handles h [] there = absurd there
in_handles h (k ∷ ks) (inl here) = (k, (zero, omega arith, refl), here)
in_handles h (k ∷ ks) (inr there) = let later = in_handles h ks there in (later.0, listed_later k later.0 ks later.1, later.2)

pub length_handles : (kids : List Kid) → length (map handle_of kids) ≡ length kids
length_handles [] = refl
length_handles (k ∷ ks) = ap suc (length_handles ks)

pub handles_in : (kid : Kid) (kids : List Kid) → Contains kids kid → In kid.handle (map handle_of kids)
handles_in kid [] listed = absurd (omega (arith, listed.1))
handles_in kid (k ∷ ks) listed = elim (listed_cases k kid ks listed) [ inl here ↦ inl (ap handle_of here) | inr there ↦ inr (handles_in kid ks there) ]

module _ (parents : ℕ → Option Handle) where
  -- neither part lies above the other
  pub record AreFree (x y : Handle) : Type 0 where
    pub below : ¬ IsAbove parents x.birth y.birth
    pub above : ¬ IsAbove parents y.birth x.birth

  -- no part of the list lies above another
  abbrev pub AreApart : List Handle → Type 0
  AreApart [] = Unit {0}
  AreApart (x ∷ xs) = ((y : Handle) → In y xs → AreFree x y) × AreApart xs

  pub apart_append : (xs ys : List Handle) → AreApart xs → AreApart ys → ((x y : Handle) → In x xs → In y ys → AreFree x y) → AreApart (xs ++ ys)
  apart_append [] ys left right cross = right
  apart_append (x ∷ xs) ys left right cross = (
    λ y there. elim (in_cases y xs ys there) [ inl in_xs ↦ left.0 y in_xs | inr in_ys ↦ cross x y (inl refl) in_ys ],
    apart_append xs ys left.1 right (λ a b in_xs in_ys. cross a b (inr in_xs) in_ys),
  )

  pub apart_left : (xs ys : List Handle) → AreApart (xs ++ ys) → AreApart xs
  apart_left [] ys apart = tt
  apart_left (x ∷ xs) ys apart = (λ y there. apart.0 y (in_left y xs ys there), apart_left xs ys apart.1)

  pub apart_cross : (xs ys : List Handle) (x y : Handle) → AreApart (xs ++ ys) → In x xs → In y ys → AreFree x y
  apart_cross [] ys x y apart in_xs in_ys = absurd in_xs
  apart_cross (z ∷ xs) ys x y apart (inl here) in_ys = subst (λ (w : Handle). AreFree w y) here (apart.0 y (in_right y xs ys in_ys))
  apart_cross (z ∷ xs) ys x y apart (inr there) in_ys = apart_cross xs ys x y apart.1 there in_ys

module _ {T : Type 0} where
  -- a part in its slot under its birth
  abbrev pub IsLive : Held T → Handle → Type 0
  IsLive held h = (part : Part T) × (fin.get held h.birth ≡ Some (h.slot, part))

  some_placed : (x y : ℕ × Part T) → Some x ≡ Some y → x ≡ y
  some_placed x y e = cc

  same_slot : (held : Held T) (h k : Handle) (p q : Part T) → fin.get held h.birth ≡ Some (h.slot, p) → fin.get held k.birth ≡ Some (k.slot, q) → h.birth ≡ k.birth → (h.slot ≡ k.slot) × (p ≡ q)
  same_slot held h k p q hs ks births =
      let same = some_placed (h.slot, p) (k.slot, q) (sym hs ∙ ap (fin.get held) births ∙ ks) in (ap (λ z. z.0) same, ap (λ z. z.1) same)

  pub some_part : (held : Held T) (b : ℕ) (x : ℕ × Part T) → fin.get held b ≡ Some x → 1 ≤ fin.len held
  some_part held b x is = elim (cases_eq (fin.len held) 0) [
    | inl none ↦ let nothing : None ≡ Some x = sym (ap (λ m. fin.get m b) (fin.empty_of_len held none) ∙ fin.get-empty nat_cmp b) ∙ is in absurd (cc)
    | inr some ↦ omega (arith, some)
  ]

  -- parts of a list that are apart and live are no more than all parts
  pub length-apart : (parents : ℕ → Option Handle) (held : Held T) (w : List Handle) → ((h : Handle) → In h w → IsLive held h) → AreApart parents w → length w ≤ fin.len held
  length-apart parents held [] live apart = omega arith
  length-apart parents held (x ∷ xs) live apart =
      let first = live x (inl refl) in
      let rest : length xs ≤ fin.len (fin.remove held x.birth) = length-apart parents (fin.remove held x.birth) xs
      (λ h there.
      let part = live h (inr there) in
      let other : h.birth ≢ x.birth = λ same. (apart.0 h there).below (subst (λ b. IsAbove parents b h.birth) same itself) in
      (part.0, get-remove_other held x.birth h.birth other ∙ part.1))
      apart.1 in
      omega (arith, rest, len-remove_old held x.birth _ first.1, some_part held x.birth _ first.1)

  -- what is left of a tree while the part of birth `top` and those below it are taken out
  pub record IsFrontier (tree now : Held T) (top : ℕ) (w : List Handle) : Type 0 where
    pub live : (h : Handle) → In h w → IsLive now h
    pub apart : AreApart (parent_in tree) w
    pub tops : (h : Handle) → In h w → IsAbove (parent_in tree) top h.birth
    pub same : (b : ℕ) (x : ℕ × Part T) → fin.get now b ≡ Some x → fin.get tree b ≡ Some x
    pub outside : (b : ℕ) → ¬ IsAbove (parent_in tree) top b → fin.get now b ≡ fin.get tree b
    pub covered : (b : ℕ) (x : ℕ × Part T) → fin.get now b ≡ Some x → IsAbove (parent_in tree) top b → (h : Handle) × In h w × IsAbove (parent_in tree) h.birth b
    pub reach : (b : ℕ) (x : ℕ × Part T) (h : Handle) → fin.get tree b ≡ Some x → In h w → IsAbove (parent_in tree) h.birth b → fin.get now b ≡ Some x

  pub frontier-start : (tree : Held T) (top : Handle) → IsLive tree top → IsFrontier tree tree top.birth (top ∷ [])
  frontier-start tree top live = record {
    live = λ h there. elim there [ inl here ↦ subst (IsLive tree) here live | inr none ↦ absurd none ];
    apart = (λ y none. absurd none, tt);
    tops = λ h there. elim there [ inl here ↦ subst (λ (k : Handle). IsAbove (parent_in tree) top.birth k.birth) here itself | inr none ↦ absurd none ];
    same = λ b x is. is;
    outside = λ b other. refl;
    covered = λ b x is above. (top, inl refl, above);
    reach = λ b x h is there above. is;
  }

  pub frontier-end : (old new : Bank (Part T)) (top : Handle) → IsFrontier old.held new.held top.birth [] → new.next_birth ≡ old.next_birth → fin.len new.held ≤ fin.len old.held → TakesAll old new top
  frontier-end old new top f next len = record { gone = gone; kept = f.outside; left = left; next = next; len = len }
    where
      left : (b : ℕ) (x : ℕ × Part T) → fin.get new.held b ≡ Some x → ¬ IsAbove (parent_in old.held) top.birth b
      left b x is above = (f.covered b x is above).1

      gone : (b : ℕ) → IsAbove (parent_in old.held) top.birth b → fin.get new.held b ≡ None
      gone b above = elim (fin.get new.held b) as (λ o. fin.get new.held b ≡ o → fin.get new.held b ≡ None) [
        | None ↦ λ is. is
        | Some x ↦ λ is. absurd (left b x is above)
      ] refl

  -- the last part of the list is taken out, and its kids come in its place
  module _ (tree now : Held T) (next top : ℕ) (w : List Handle) (x : Handle) (part : Part T) (lawful : IsLinked tree next)
      (f : IsFrontier tree now top (w ++ x ∷ [])) (at : fin.get now x.birth ≡ Some (x.slot, part)) where
    abbrev after : Held T
    after = fin.remove now x.birth

    abbrev kids : List Handle
    kids = map handle_of part.kids

    was : fin.get tree x.birth ≡ Some (x.slot, part)
    was = f.same x.birth (x.slot, part) at

    abbrev parents : ℕ → Option Handle
    parents = parent_in tree

    in_x : In x (w ++ x ∷ [])
    in_x = in_right x w (x ∷ []) (inl refl)

    listed : (h : Handle) → In h kids → (kid : Kid) × (kid.handle ≡ h) × IsListed tree x.birth (x.slot, part) kid
    listed h there = let kid = in_handles h part.kids there in (kid.0, kid.2, lawful.down x.birth (x.slot, part) kid.0 was kid.1)

    -- a kid lies below the part, and is born later
    kid_parent : (h : Handle) → In h kids → parents h.birth ≡ Some x
    kid_parent h there =
        let kid = listed h there in
        ap (λ (k : Handle). parent_in tree k.birth) (sym kid.1) ∙ parent_of-placed tree kid.0.handle.birth (kid.0.handle.slot, kid.2.below) kid.2.live ∙ kid.2.parent

    kid_above : (h : Handle) → In h kids → IsAbove parents x.birth h.birth
    kid_above h there = above_parent (kid_parent h there) itself

    later : (h : Handle) → In h kids → x.birth < h.birth
    later h there = parent_falls tree next lawful h.birth x (kid_parent h there)

    le : {a b : ℕ} → IsAbove parents a b → a ≤ b
    le above = above_le (parent_falls tree next lawful) above

    -- none of the others is the part
    other_birth : (h : Handle) → In h w → h.birth ≢ x.birth
    other_birth h there same = (apart_cross parents w (x ∷ []) h x f.apart there (inl refl)).below (subst (λ b. IsAbove parents b x.birth) (sym same) itself)

    live_after : (h : Handle) → In h (w ++ kids) → IsLive after h
    live_after h there =
        elim (in_cases h w kids there) [
          | inl in_w ↦
              let part = f.live h (in_left h w (x ∷ []) in_w) in
              (part.0, get-remove_other now x.birth h.birth (other_birth h in_w) ∙ part.1)
          | inr in_kids ↦
              let kid = listed h in_kids in
              let placed = subst (λ (k : Handle). fin.get tree k.birth ≡ Some (k.slot, kid.2.below)) kid.1 kid.2.live in
              let apart : h.birth ≢ x.birth = omega (arith, later h in_kids) in
              (kid.2.below, get-remove_other now x.birth h.birth apart ∙ f.reach h.birth (h.slot, kid.2.below) x placed in_x (kid_above h in_kids))
        ]

    -- the parts above a kid are the kid itself, and those above its parent
    above_kid : (a : ℕ) (h : Handle) → In h kids → IsAbove parents a h.birth → (h.birth ≡ a) ⊎ IsAbove parents a x.birth
    above_kid a h there above =
        elim (above_cases above) [
          | inl here ↦ inl here
          | inr up ↦
              let same : up.parent ≡ x = some_handle up.parent x (sym up.is ∙ kid_parent h there) in
              inr (subst (λ (p : Handle). IsAbove parents a p.birth) same up.above)
        ]
      where
        some_handle : (p q : Handle) → Some p ≡ Some q → p ≡ q
        some_handle p q e = cc

    cross_after : (y h : Handle) → In y w → In h kids → AreFree parents y h
    cross_after y h in_w in_kids = record { below = below; above = above }
      where
        free : AreFree parents y x
        free = apart_cross parents w (x ∷ []) y x f.apart in_w (inl refl)

        above : ¬ IsAbove parents h.birth y.birth
        above up = free.above (above_trans (kid_above h in_kids) up)

        below : ¬ IsAbove parents y.birth h.birth
        below up = elim (above_kid y.birth h in_kids up) [
          | inl same ↦ free.above (subst (λ b. IsAbove parents x.birth b) same (kid_above h in_kids))
          | inr over ↦ free.below over
        ]

    -- two kids of different names do not lie above each other
    two_kids : (h k : Handle) → In h kids → In k kids → h.birth ≢ k.birth → AreFree parents h k
    two_kids h k in_h in_k differ = record {
      below = λ up. elim (above_kid h.birth k in_k up) [ inl same ↦ differ (sym same) | inr over ↦ omega (arith, le over, later h in_h) ];
      above = λ up. elim (above_kid k.birth h in_h up) [ inl same ↦ differ same | inr over ↦ omega (arith, le over, later k in_k) ];
    }

    kids_apart : (some : List Kid) → ((kid : Kid) → Contains some kid → Contains part.kids kid) → AllPairs (λ (a b : Kid). a.name ≢ b.name) some → AreApart parents (map handle_of some)
    kids_apart [] among distinct = tt
    kids_apart (a ∷ rest) among distinct = (first, kids_apart rest (λ kid there. among kid (listed_later a kid rest there)) (λ i j d u v. distinct (suc i) (suc j) d (omega arith) (omega arith)))
      where
        a_in : Contains part.kids a
        a_in = among a (zero, omega arith, refl)

        first : (y : Handle) → In y (map handle_of rest) → AreFree parents a.handle y
        first y there =
            let kid = in_handles y rest there in
            let b_in = among kid.0 (listed_later a kid.0 rest kid.1) in
            let one = lawful.down x.birth (x.slot, part) a was a_in in
            let two = lawful.down x.birth (x.slot, part) kid.0 was b_in in
            let differ : a.handle.birth ≢ kid.0.handle.birth = λ same.
            let parts = same_slot tree a.handle kid.0.handle one.below two.below one.live two.live same in
            let names : a.name ≡ kid.0.name = sym one.named ∙ ap (λ (p : Part T). p.name) parts.1 ∙ two.named in
            distinct zero (suc kid.1.0) kid.0 (omega arith) (omega (arith, kid.1.1)) (names ∙ ap (λ (k : Kid). k.name) (sym kid.1.2)) in
            subst (AreFree parents a.handle) kid.2 (two_kids a.handle kid.0.handle (handles_in a part.kids a_in) (handles_in kid.0 part.kids b_in) differ)

    pub frontier-step : IsFrontier tree after top (w ++ kids)
    frontier-step = record {
      live = live_after;
      apart = apart_append parents w kids (apart_left parents w (x ∷ []) f.apart) (kids_apart part.kids (λ kid there. there) (lawful.apart x.birth (x.slot, part) was)) cross_after;
      tops = λ h there. elim (in_cases h w kids there) [ inl in_w ↦ f.tops h (in_left h w (x ∷ []) in_w) | inr in_kids ↦ above_trans (f.tops x in_x) (kid_above h in_kids) ];
      same = λ b y is. f.same b y (sym (get-remove_other now x.birth b (left b y is)) ∙ is);
      outside = λ b other.
          let apart : b ≢ x.birth = λ same. other (subst (λ c. IsAbove parents top c) (sym same) (f.tops x in_x)) in
          get-remove_other now x.birth b apart ∙ f.outside b other;
      covered = covered;
      reach = reach;
    }
      where
        left : (b : ℕ) (y : ℕ × Part T) → fin.get after b ≡ Some y → b ≢ x.birth
        left b y is same = let none : None ≡ Some y = sym (ap (fin.get (fin.remove now x.birth)) same ∙ get-remove_same now x.birth) ∙ is in absurd (cc)

        covered : (b : ℕ) (y : ℕ × Part T) → fin.get after b ≡ Some y → IsAbove parents top b → (h : Handle) × In h (w ++ kids) × IsAbove parents h.birth b
        covered b y is above =
            let kept = sym (get-remove_other now x.birth b (left b y is)) ∙ is in
            let by = f.covered b y kept above in
            elim (in_cases by.0 w (x ∷ []) by.1) [
              | inl in_w ↦ (by.0, in_left by.0 w kids in_w, by.2)
              | inr last ↦ elim last [
                | inl here ↦
                    let over = subst (λ (h : Handle). IsAbove parents h.birth b) (sym here) by.2 in
                    let kid = through_kid tree next lawful x.birth (x.slot, part) was y (f.same b y kept) over (left b y is) in
                    (kid.0.handle, in_right kid.0.handle w kids (handles_in kid.0 part.kids kid.1), kid.2)
                | inr none ↦ absurd none
              ]
            ]

        reach : (b : ℕ) (y : ℕ × Part T) (h : Handle) → fin.get tree b ≡ Some y → In h (w ++ kids) → IsAbove parents h.birth b → fin.get after b ≡ Some y
        reach b y h is there above =
            elim (in_cases h w kids there) [
              | inl in_w ↦
                  let apart : b ≢ x.birth = λ same. (apart_cross parents w (x ∷ []) h x f.apart in_w (inl refl)).below (subst (λ c. IsAbove parents h.birth c) same above) in
                  get-remove_other now x.birth b apart ∙ f.reach b y h is (in_left h w (x ∷ []) in_w) above
              | inr in_kids ↦
                  let apart : b ≢ x.birth = omega (arith, le above, later h in_kids) in
                  get-remove_other now x.birth b apart ∙ f.reach b y x is in_x (above_trans (kid_above h in_kids) above)
            ]

    -- the list is no longer than the parts that are left
    pub length-step : length (w ++ kids) ≤ fin.len after
    length-step = length-apart parents after (w ++ kids) frontier-step.live frontier-step.apart

    pub length-room : length w + length part.kids ≤ fin.len after
    length-room = omega (arith, length-step, length-append w kids, length_handles part.kids)
