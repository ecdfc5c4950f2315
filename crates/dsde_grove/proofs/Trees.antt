-- Trees stay trees.
use Rattle.std.proofs.Common.{◌≡◌, ◌≢◌, ℕ, suc, ◌<◌, List, Contains, Option, Some, None, Result, Ok, Err, OnOk, OnErr, IsSome, refl, sym, ap, subst, ◌∙◌, inl, inr}
use Rattle.std.specs.Option.{option_map, option_map_or}
use Rattle.std.specs.List.{AllPairs}
use Rattle.std.specs.Ordering.{nat_cmp}
use Rattle.std.specs.FinMap as fin
use Rattle.std.proofs.lemmas.Bool.{cases_eq}
use Rattle.dsde_bank.specs.declared.handle.Handle.{Handle}
use Rattle.dsde_bank.specs.Bank.{Bank, found, with_value}
use Rattle.dsde_bank.proofs.Births.{get-insert_same, get-insert_other, len-insert_old, same_births}
use Rattle.dsde_values.specs.declared.name.Name.{Name}
use Rattle.dsde_grove.specs.Grove.{Spot, root_name, with_value as write}
use Rattle.dsde_grove.specs.Inside.{link, link_of, path_at, spot_in, parts_of, grove_of, IsBelow, IsListed, IsLinked, ChangesKids}
use Rattle.dsde_grove.specs.declared.part.Part.{Part}
use Rattle.dsde_grove.specs.Part.{Kid}
use Rattle.dsde_grove.proofs.Parts.{same_parts, get-found, get-parts_of, spot-found}
use Rattle.dsde_grove.proofs.Paths.{same_paths}

abbrev pub Held : Type 0 → Type 0
Held T = fin.FinMap nat_cmp (ℕ × Part T)

-- a fact of one case of a result
pub on_err : {A E : Type 0} (P : Type 0) (r : Result A E) → P → OnErr r P
on_err P (Ok x) p = tt
on_err P (Err e) p = p

pub ok_then : {A E : Type 0} {P Q : Type 0} (r : Result A E) → (P → Q) → OnOk r P → OnOk r Q
ok_then (Ok x) f p = f p
ok_then (Err e) f p = tt

pub err_then : {A E : Type 0} {P Q : Type 0} (r : Result A E) → (P → Q) → OnErr r P → OnErr r Q
err_then (Ok x) f p = tt
err_then (Err e) f p = f p

pub some_of : {X : Type 0} (o : Option X) → IsSome o → (x : X) × (o ≡ Some x)
some_of None some = absurd (cc)
some_of (Some x) some = (x, refl)

module _ {T : Type 0} where
  -- two parts of one slot, parent, name and list of kids
  pub record AreAlike (x y : ℕ × Part T) : Type 0 where
    pub slot : y.0 ≡ x.0
    pub parent : y.1.parent ≡ x.1.parent
    pub name : y.1.name ≡ x.1.name
    pub kids : y.1.kids ≡ x.1.kids

  -- the same births have parts that are alike
  pub record IsSimilar (old new : Held T) : Type 0 where
    pub there : (b : ℕ) (x : ℕ × Part T) → fin.get old b ≡ Some x → (y : ℕ × Part T) × (fin.get new b ≡ Some y) × AreAlike x y
    pub back : (b : ℕ) (y : ℕ × Part T) → fin.get new b ≡ Some y → (x : ℕ × Part T) × (fin.get old b ≡ Some x) × AreAlike x y

  pub link_from : (o : Option (ℕ × Part T)) (parent : Option Handle) (name : Name) → option_map link o ≡ Some (parent, name) → (x : ℕ × Part T) × (o ≡ Some x) × (x.1.parent ≡ parent) × (x.1.name ≡ name)
  link_from None parent name is = absurd (cc)
  link_from (Some x) parent name is = let both : link x ≡ (parent, name) = cc in (x, refl, ap (λ p. p.0) both, ap (λ p. p.1) both)

  -- a parent is born before its kids
  pub falls : (held : Held T) (next : ℕ) → IsLinked held next → (b : ℕ) (p : Handle) (n : Name) → link_of held b ≡ Some (Some p, n) → p.birth < b
  falls held next tree b p n at = let from = link_from (fin.get held b) (Some p) n at in (tree.up b from.0 p from.1 from.2).later

  -- one place in two maps, at a birth that both have or neither
  pub at_both : (P : Option (ℕ × Part T) → Option (ℕ × Part T) → Type 0) (old new : Held T) (b : ℕ) → P None None
      → ((x y : ℕ × Part T) → fin.get old b ≡ Some x → fin.get new b ≡ Some y → P (Some x) (Some y)) → IsSimilar old new → P (fin.get old b) (fin.get new b)
  at_both P old new b none some similar = by (fin.get old b) refl
    where
      by_new : (o : Option (ℕ × Part T)) → fin.get old b ≡ None → fin.get new b ≡ o → P (fin.get old b) (fin.get new b)
      by_new None u v = subst (λ o. P o (fin.get new b)) (sym u) (subst (P None) (sym v) none)
      by_new (Some y) u v = let from = similar.back b y v in let wrong : None ≡ Some from.0 = sym u ∙ from.1 in absurd (cc)

      by : (o : Option (ℕ × Part T)) → fin.get old b ≡ o → P (fin.get old b) (fin.get new b)
      by None u = by_new (fin.get new b) u refl
      by (Some x) u = let to = similar.there b x u in subst (λ o. P o (fin.get new b)) (sym u) (subst (P (Some x)) (sym to.1) (some x to.0 u to.1))

  same_some : (x y : ℕ × Part T) → Some x ≡ Some y → x ≡ y
  same_some x y e = cc

  pub links-similar : (old new : Held T) → IsSimilar old new → (b : ℕ) → link_of new b ≡ link_of old b
  links-similar old new similar b =
      at_both (λ o n. option_map link n ≡ option_map link o) old new b refl
      (λ x y u v.
      let from = similar.back b y v in
      let same = same_some from.0 x (sym from.1 ∙ u) in
      λ i. Some ((from.2.parent ∙ ap (λ z. z.1.parent) same) i, (from.2.name ∙ ap (λ z. z.1.name) same) i))
      similar

  pub path-similar : (old new : Held T) → IsSimilar old new → (b : ℕ) → path_at new b ≡ path_at old b
  path-similar old new similar b = same_paths (λ _. Unit {0}) (link_of old) (link_of new) (λ c _. links-similar old new similar c) (λ c p n _ _. tt) (suc b) b tt

  -- the same names and handles stand among kids
  pub tree-similar : (old new : Held T) (next : ℕ) → IsLinked old next → IsSimilar old new → IsLinked new next
  tree-similar old new next tree similar = record { given = given; up = up; down = down; apart = apart; root = root }
    where
      root : (b : ℕ) (y : ℕ × Part T) → fin.get new b ≡ Some y → y.1.parent ≡ None → (b ≡ 0) × (y.1.name ≡ root_name)
      root b y is bare =
          let from = similar.back b y is in
          let was = tree.root b from.0 from.1 (sym from.2.parent ∙ bare) in
          (was.0, from.2.name ∙ was.1)

      given : (b : ℕ) (y : ℕ × Part T) → fin.get new b ≡ Some y → b < next
      given b y is = let from = similar.back b y is in tree.given b from.0 from.1

      up : (b : ℕ) (y : ℕ × Part T) (p : Handle) → fin.get new b ≡ Some y → y.1.parent ≡ Some p → IsBelow new b y p
      up b y p is parent =
          let from = similar.back b y is in
          let was = tree.up b from.0 p from.1 (sym from.2.parent ∙ parent) in
          let to = similar.there p.birth (p.slot, was.above) was.live in
          record {
            above = to.0.1;
            live = to.1 ∙ (λ i. Some (to.2.slot i, to.0.1));
            later = was.later;
            listed = subst (λ kids. Contains kids record { name = y.1.name; handle = record { birth = b; slot = y.0 } }) (sym to.2.kids)
                (subst (λ (k : Kid). Contains was.above.kids k) (λ i. record { name = sym from.2.name i; handle = record { birth = b; slot = sym from.2.slot i } }) was.listed);
          }

      down : (b : ℕ) (y : ℕ × Part T) (kid : Kid) → fin.get new b ≡ Some y → Contains y.1.kids kid → IsListed new b y kid
      down b y kid is listed =
          let from = similar.back b y is in
          let was = tree.down b from.0 kid from.1 (subst (λ kids. Contains kids kid) from.2.kids listed) in
          let to = similar.there kid.handle.birth (kid.handle.slot, was.below) was.live in
          record {
            below = to.0.1;
            live = to.1 ∙ (λ i. Some (to.2.slot i, to.0.1));
            parent = to.2.parent ∙ was.parent ∙ (λ i. Some record { birth = b; slot = sym from.2.slot i });
            named = to.2.name ∙ was.named;
          }

      apart : (b : ℕ) (y : ℕ × Part T) → fin.get new b ≡ Some y → AllPairs (λ (k l : Kid). k.name ≢ l.name) y.1.kids
      apart b y is = let from = similar.back b y is in subst (AllPairs (λ (k l : Kid). k.name ≢ l.name)) (sym from.2.kids) (tree.apart b from.0 from.1)

  pub changes-with_value : (bank : Bank (Part T)) (parent : Handle) (part : Part T) (kids : List Kid) (Change : List Kid → List Kid → Type 0) → found bank parent ≡ Some part → Change part.kids kids
      → ChangesKids bank (with_value bank parent (record part { kids = kids })) parent Change
  changes-with_value bank parent part kids Change live changed = record {
    part = part;
    kids = kids;
    was = get-found bank parent part live;
    now = get-insert_same bank.held parent.birth (parent.slot, record part { kids = kids });
    changed = changed;
    others = λ b other. get-insert_other bank.held parent.birth (parent.slot, record part { kids = kids }) b other;
    next = refl;
    len = len-insert_old bank.held parent.birth (parent.slot, record part { kids = kids }) (parent.slot, part) (get-found bank parent part live);
  }

  -- a bank whose parts are those of another
  pub changes-same : (bank new : Bank (Part T)) (parent : Handle) (part : Part T) → found bank parent ≡ Some part → new.held ≡ bank.held → new.next_birth ≡ bank.next_birth → ChangesKids bank new parent (λ kids left. left ≡ kids)
  changes-same bank new parent part live held next = record {
    part = part;
    kids = part.kids;
    was = get-found bank parent part live;
    now = ap (λ m. fin.get m parent.birth) held ∙ get-found bank parent part live;
    changed = refl;
    others = λ b other. ap (λ m. fin.get m b) held;
    next = next;
    len = ap fin.len held;
  }

  -- the kids of a part stay the same
  pub similar-changes : (old new : Bank (Part T)) (parent : Handle) → ChangesKids old new parent (λ kids left. left ≡ kids) → IsSimilar old.held new.held
  similar-changes old new parent c = record { there = there; back = back }
    where
      there : (b : ℕ) (x : ℕ × Part T) → fin.get old.held b ≡ Some x → (y : ℕ × Part T) × (fin.get new.held b ≡ Some y) × AreAlike x y
      there b x is = elim (cases_eq b parent.birth) [
        | inl same ↦
            let here = same_some (parent.slot, c.part) x (sym c.was ∙ ap (fin.get old.held) (sym same) ∙ is) in
            ((parent.slot, record c.part { kids = c.kids }), ap (fin.get new.held) same ∙ c.now, subst (λ z. AreAlike z (parent.slot, record c.part { kids = c.kids })) here record { slot = refl; parent = refl; name = refl; kids = c.changed })
        | inr other ↦ (x, c.others b other ∙ is, record { slot = refl; parent = refl; name = refl; kids = refl })
      ]

      back : (b : ℕ) (y : ℕ × Part T) → fin.get new.held b ≡ Some y → (x : ℕ × Part T) × (fin.get old.held b ≡ Some x) × AreAlike x y
      back b y is = elim (cases_eq b parent.birth) [
        | inl same ↦
            let here = same_some (parent.slot, record c.part { kids = c.kids }) y (sym c.now ∙ ap (fin.get new.held) (sym same) ∙ is) in
            ((parent.slot, c.part), ap (fin.get old.held) same ∙ c.was, subst (AreAlike (parent.slot, c.part)) here record { slot = refl; parent = refl; name = refl; kids = c.changed })
        | inr other ↦ (y, sym (c.others b other) ∙ is, record { slot = refl; parent = refl; name = refl; kids = refl })
      ]

  -- a part gets another value
  pub similar-write : (bank : Bank (Part T)) (handle : Handle) (part new : Part T) → found bank handle ≡ Some part → new.parent ≡ part.parent → new.name ≡ part.name → new.kids ≡ part.kids → IsSimilar bank.held (with_value bank handle new).held
  similar-write bank handle part new live parent name kids = record { there = there; back = back }
    where
      was : fin.get bank.held handle.birth ≡ Some (handle.slot, part)
      was = get-found bank handle part live

      now : fin.get (with_value bank handle new).held handle.birth ≡ Some (handle.slot, new)
      now = get-insert_same bank.held handle.birth (handle.slot, new)

      others : (b : ℕ) → b ≢ handle.birth → fin.get (with_value bank handle new).held b ≡ fin.get bank.held b
      others b other = get-insert_other bank.held handle.birth (handle.slot, new) b other

      alike : AreAlike (handle.slot, part) (handle.slot, new)
      alike = record { slot = refl; parent = parent; name = name; kids = kids }

      there : (b : ℕ) (x : ℕ × Part T) → fin.get bank.held b ≡ Some x → (y : ℕ × Part T) × (fin.get (with_value bank handle new).held b ≡ Some y) × AreAlike x y
      there b x is = elim (cases_eq b handle.birth) [
        | inl same ↦
            let here = same_some (handle.slot, part) x (sym was ∙ ap (fin.get bank.held) (sym same) ∙ is) in
            ((handle.slot, new), ap (fin.get (with_value bank handle new).held) same ∙ now, subst (λ z. AreAlike z (handle.slot, new)) here alike)
        | inr other ↦ (x, others b other ∙ is, record { slot = refl; parent = refl; name = refl; kids = refl })
      ]

      back : (b : ℕ) (y : ℕ × Part T) → fin.get (with_value bank handle new).held b ≡ Some y → (x : ℕ × Part T) × (fin.get bank.held b ≡ Some x) × AreAlike x y
      back b y is = elim (cases_eq b handle.birth) [
        | inl same ↦
            let here = same_some (handle.slot, new) y (sym now ∙ ap (fin.get (with_value bank handle new).held) (sym same) ∙ is) in
            ((handle.slot, part), ap (fin.get bank.held) same ∙ was, subst (AreAlike (handle.slot, part)) here alike)
        | inr other ↦ (y, sym (others b other) ∙ is, record { slot = refl; parent = refl; name = refl; kids = refl })
      ]

  -- what parts show that are alike but for the kids, and whose values are the same
  pub spot-similar : (old new : Held T) → IsSimilar old new → ((b : ℕ) (x y : ℕ × Part T) → fin.get old b ≡ Some x → fin.get new b ≡ Some y → y.1.value ≡ x.1.value) → parts_of new ≡ parts_of old
  spot-similar old new similar values = same_parts old new (λ b.
      at_both (λ o n. option_map (spot_in new b) n ≡ option_map (spot_in old b) o) old new b refl
      (λ x y u v.
      let from = similar.back b y v in
      let same = same_some from.0 x (sym from.1 ∙ u) in
      let slot = from.2.slot ∙ ap (λ z. z.0) same in
      let parent = from.2.parent ∙ ap (λ z. z.1.parent) same in
      let name = from.2.name ∙ ap (λ z. z.1.name) same in
      λ i. Some record { slot = slot i; parent = parent i; name = name i; path = path-similar old new similar b i; value = values b x y u v i })
      similar)

  pub parts-changes : (old new : Bank (Part T)) (parent : Handle) → ChangesKids old new parent (λ kids left. left ≡ kids) → parts_of new.held ≡ parts_of old.held
  parts-changes old new parent c = spot-similar old.held new.held (similar-changes old new parent c) value
    where
      value : (b : ℕ) (x y : ℕ × Part T) → fin.get old.held b ≡ Some x → fin.get new.held b ≡ Some y → y.1.value ≡ x.1.value
      value b x y u v = elim (cases_eq b parent.birth) [
        | inl same ↦
            let old_is = same_some (parent.slot, c.part) x (sym c.was ∙ ap (fin.get old.held) (sym same) ∙ u) in
            let new_is = same_some (parent.slot, record c.part { kids = c.kids }) y (sym c.now ∙ ap (fin.get new.held) (sym same) ∙ v) in
            sym (ap (λ (z : ℕ × Part T). z.1.value) new_is) ∙ ap (λ (z : ℕ × Part T). z.1.value) old_is
        | inr other ↦ ap (λ (z : ℕ × Part T). z.1.value) (same_some y x (sym v ∙ c.others b other ∙ u))
      ]

  pub changes-base : (bank new last : Bank (Part T)) (parent : Handle) (Change : List Kid → List Kid → Type 0) → new.held ≡ bank.held → new.next_birth ≡ bank.next_birth → ChangesKids new last parent Change → ChangesKids bank last parent Change
  changes-base bank new last parent Change held next c = record {
    part = c.part;
    kids = c.kids;
    was = sym (ap (λ m. fin.get m parent.birth) held) ∙ c.was;
    now = c.now;
    changed = c.changed;
    others = λ b other. c.others b other ∙ ap (λ m. fin.get m b) held;
    next = c.next ∙ next;
    len = c.len ∙ ap fin.len held;
  }

  -- a value that is written shows under its handle
  module _ (bank : Bank (Part T)) (handle : Handle) (part : Part T) (value : T) (live : found bank handle ≡ Some part) where
    similar : IsSimilar bank.held (with_value bank handle (record part { value = value })).held
    similar = similar-write bank handle part (record part { value = value }) live refl refl refl

    pub tree-write : (next : ℕ) → IsLinked bank.held next → IsLinked (with_value bank handle (record part { value = value })).held next
    tree-write next tree = tree-similar bank.held (with_value bank handle (record part { value = value })).held next tree similar

    pub len-write : fin.len (with_value bank handle (record part { value = value })).held ≡ fin.len bank.held
    len-write = len-insert_old bank.held handle.birth (handle.slot, record part { value = value }) (handle.slot, part) (get-found bank handle part live)

    pub grove-write : grove_of (with_value bank handle (record part { value = value })) ≡ write (grove_of bank) handle value
    grove-write =
        let after = (with_value bank handle (record part { value = value })).held in
        let is = spot-found bank handle ∙ ap (option_map (λ p. spot_in bank.held handle.birth (handle.slot, p))) live in
        let was = parts_of bank.held in
        let here : Spot T = record (spot_in bank.held handle.birth (handle.slot, part)) { value = value } in
        let written = ap (λ o. option_map_or (λ (s : Spot T). fin.insert was handle.birth (record s { value = value })) o was) is in
        let same : parts_of after ≡ fin.insert was handle.birth here = same_births _ _ (λ q. elim (cases_eq q handle.birth) [
          | inl e ↦
              let placed = ap (fin.get after) e ∙ get-insert_same bank.held handle.birth (handle.slot, record part { value = value }) in
              get-parts_of after q ∙ ap (option_map (spot_in after q)) placed
              ∙ (λ i. Some record { slot = handle.slot; parent = part.parent; name = part.name; path = (path-similar bank.held after similar q ∙ ap (path_at bank.held) e) i; value = value })
              ∙ sym (ap (fin.get (fin.insert was handle.birth here)) e ∙ get-insert_same was handle.birth here)
          | inr other ↦
              get-parts_of after q ∙ ap (option_map (spot_in after q)) (get-insert_other bank.held handle.birth (handle.slot, record part { value = value }) q other)
              ∙ shows after q (path-similar bank.held after similar q) (fin.get bank.held q)
              ∙ sym (get-insert_other was handle.birth here q other ∙ get-parts_of bank.held q)
        ]) in
        λ i. record { parts = (same ∙ sym written) i; next_birth = bank.next_birth }
      where
        shows : (after : Held T) (q : ℕ) → path_at after q ≡ path_at bank.held q → (o : Option (ℕ × Part T)) → option_map (spot_in after q) o ≡ option_map (spot_in bank.held q) o
        shows after q paths None = refl
        shows after q paths (Some x) = λ i. Some record { slot = x.0; parent = x.1.parent; name = x.1.name; path = paths i; value = x.1.value }
