-- A tree with one part more.
use Rattle.std.proofs.Common.{◌≡◌, ◌≢◌, ◌⊎◌, ℕ, suc, ◌+◌, ◌<◌, List, [], ◌∷◌, ◌++◌, length, Contains, Option, Some, None, refl, sym, ap, subst, ◌∙◌, inl, inr, arith}
use Rattle.std.specs.Option.{option_map}
use Rattle.std.specs.Ordering.{nat_cmp}
use Rattle.std.specs.FinMap as fin
use Rattle.std.proofs.lemmas.Bool.{cases_eq}
use Rattle.dsde_bank.specs.declared.handle.Handle.{Handle}
use Rattle.dsde_bank.specs.Bank.{Bank}
use Rattle.dsde_bank.proofs.Births.{same_births, get-insert_same, get-insert_other, len-insert_new}
use Rattle.dsde_values.specs.declared.name.Name.{Name}
use Rattle.dsde_grove.specs.Grove.{Spot, IsKid, root_name, root_spot}
use Rattle.dsde_grove.specs.Inside.{link, link_of, path_at, spot_in, parts_of, grove_of, IsBelow, IsListed, IsLinked, ChangesKids}
use Rattle.dsde_grove.specs.declared.part.Part.{Part}
use Rattle.dsde_grove.specs.Part.{Kid, DifferInName, Puts}
use Rattle.dsde_grove.proofs.Named.{puts_twice}
use Rattle.dsde_grove.proofs.Parts.{get-parts_of, found-get}
use Rattle.dsde_grove.proofs.Paths.{same_paths, path-kid, path-root}
use Rattle.dsde_grove.proofs.Trees.{Held, link_from, falls}
use Rattle.dsde_grove.proofs.KidLemmas.{listing, kid_is}

some_handle : (p q : Handle) → Some p ≡ Some q → p ≡ q
some_handle p q e = cc

module _ {T : Type 0} where
  one_part : (x y : ℕ × Part T) → Some x ≡ Some y → x ≡ y
  one_part x y e = cc

  -- a part with the same kids or more
  record IsCarried (x y : ℕ × Part T) : Type 0 where
    slot : y.0 ≡ x.0
    parent : y.1.parent ≡ x.1.parent
    name : y.1.name ≡ x.1.name
    value : y.1.value ≡ x.1.value
    kids : (k : Kid) → Contains x.1.kids k → Contains y.1.kids k

  carried_same : (x : ℕ × Part T) → IsCarried x x
  carried_same x = record { slot = refl; parent = refl; name = refl; value = refl; kids = λ k listed. listed }

  -- a tree of one part
  module _ (held : Held T) (slot : ℕ) (part : Part T) (is : held ≡ fin.insert fin.empty 0 (slot, part)) (root : part.parent ≡ None) (named : part.name ≡ root_name) (none : part.kids ≡ []) where
    only : (b : ℕ) (x : ℕ × Part T) → fin.get held b ≡ Some x → (b ≡ 0) × (x ≡ (slot, part))
    only b x at = elim (cases_eq b 0) [
      | inl same ↦ (same, one_part x (slot, part) (sym at ∙ ap (λ m. fin.get m b) is ∙ ap (fin.get (fin.insert fin.empty 0 (slot, part))) same ∙ get-insert_same fin.empty 0 (slot, part)))
      | inr other ↦ let nothing : None ≡ Some x = sym (ap (λ m. fin.get m b) is ∙ get-insert_other fin.empty 0 (slot, part) b other ∙ fin.get-empty nat_cmp b) ∙ at in absurd (cc)
    ]

    pub tree-root : IsLinked held 1
    tree-root = record {
      given = λ b x at. omega (arith, (only b x at).0);
      up = λ b x p at parent. let wrong : None ≡ Some p = sym root ∙ ap (λ (z : ℕ × Part T). z.1.parent) (sym (only b x at).1) ∙ parent in absurd (cc);
      down = λ b x k at listed.
          let empty = ap (λ (z : ℕ × Part T). z.1.kids) (only b x at).1 ∙ none in
          absurd (omega (arith, listed.1, ap length empty));
      apart = λ b x at i j d less within same.
          let empty = ap (λ (z : ℕ × Part T). z.1.kids) (only b x at).1 ∙ none in
          absurd (omega (arith, within, ap length empty));
      root = λ b x at _. ((only b x at).0, ap (λ (z : ℕ × Part T). z.1.name) (only b x at).1 ∙ named);
    }

    pub parts-root : parts_of held ≡ fin.insert fin.empty 0 record { slot = slot; parent = None; name = part.name; path = part.name ∷ []; value = part.value }
    parts-root = same_births _ _ (λ q. elim (cases_eq q 0) [
      | inl same ↦
          let at = ap (λ m. fin.get m 0) is ∙ get-insert_same fin.empty 0 (slot, part) in
          let links = ap (option_map link) at ∙ (λ i. Some (root i, part.name)) in
          ap (fin.get (parts_of held)) same ∙ get-parts_of held 0 ∙ ap (option_map (spot_in held 0)) at
          ∙ (λ i. Some record { slot = slot; parent = root i; name = part.name; path = path-root (link_of held) 0 part.name links i; value = part.value })
          ∙ sym (ap (fin.get (fin.insert fin.empty 0 shown)) same ∙ get-insert_same fin.empty 0 shown)
      | inr other ↦
          get-parts_of held q ∙ ap (option_map (spot_in held q)) (ap (λ m. fin.get m q) is ∙ get-insert_other fin.empty 0 (slot, part) q other ∙ fin.get-empty nat_cmp q)
          ∙ sym (get-insert_other fin.empty 0 shown q other ∙ fin.get-empty nat_cmp q)
    ])
      where
        shown : Spot T
        shown = record { slot = slot; parent = None; name = part.name; path = part.name ∷ []; value = part.value }

  -- a part is put into the bank, and then into the list of its parent
  module _ (old : Held T) (next slot : ℕ) (parent : Handle) (part : Part T) (two three : Bank (Part T)) (lawful : IsLinked old next)
      (held : two.held ≡ fin.insert old next (slot, part)) (linked : ChangesKids two three parent (Puts (listing part.name record { birth = next; slot = slot })))
      (below : part.parent ≡ Some parent) (none : part.kids ≡ []) (other_birth : parent.birth ≢ next)
      (free : (k : Kid) → Contains linked.part.kids k → k.name ≢ part.name) where
    abbrev new : Held T
    new = three.held

    abbrev kid : Kid
    kid = listing part.name record { birth = next; slot = slot }

    above_was : fin.get old parent.birth ≡ Some (parent.slot, linked.part)
    above_was = sym (ap (λ m. fin.get m parent.birth) held ∙ get-insert_other old next (slot, part) parent.birth other_birth) ∙ linked.was

    at_new : fin.get new next ≡ Some (slot, part)
    at_new = linked.others next (λ same. other_birth (sym same)) ∙ ap (λ m. fin.get m next) held ∙ get-insert_same old next (slot, part)

    at_other : (b : ℕ) → b ≢ parent.birth → b ≢ next → fin.get new b ≡ fin.get old b
    at_other b u v = linked.others b u ∙ ap (λ m. fin.get m b) held ∙ get-insert_other old next (slot, part) b v

    carried_above : IsCarried (parent.slot, linked.part) (parent.slot, record linked.part { kids = linked.kids })
    carried_above = record {
      slot = refl;
      parent = refl;
      name = refl;
      value = refl;
      kids = λ k listed. linked.changed.kept k listed (free k listed);
    }

    carried : (b : ℕ) (x : ℕ × Part T) → fin.get old b ≡ Some x → (y : ℕ × Part T) × (fin.get new b ≡ Some y) × IsCarried x y
    carried b x is = elim (cases_eq b parent.birth) [
      | inl same ↦
          let here = one_part (parent.slot, linked.part) x (sym above_was ∙ ap (fin.get old) (sym same) ∙ is) in
          ((parent.slot, record linked.part { kids = linked.kids }), ap (fin.get new) same ∙ linked.now, subst (λ z. IsCarried z (parent.slot, record linked.part { kids = linked.kids })) here carried_above)
      | inr other ↦
          let older : b ≢ next = omega (arith, lawful.given b x is) in
          (x, at_other b other older ∙ is, carried_same x)
    ]

    -- where the parts of the new tree come from
    came : (b : ℕ) (y : ℕ × Part T) → fin.get new b ≡ Some y → ((b ≡ next) × (y ≡ (slot, part)))
        ⊎ ((x : ℕ × Part T) × (fin.get old b ≡ Some x) × IsCarried x y × ((k : Kid) → Contains y.1.kids k → Contains x.1.kids k ⊎ ((b ≡ parent.birth) × (x.0 ≡ parent.slot) × (kid ≡ k))) × DifferInName y.1.kids)
    came b y is = elim (cases_eq b next) [
      | inl same ↦ inl (same, one_part y (slot, part) (sym is ∙ ap (fin.get new) same ∙ at_new))
      | inr older ↦ elim (cases_eq b parent.birth) [
        | inl same ↦
            let here = one_part (parent.slot, record linked.part { kids = linked.kids }) y (sym linked.now ∙ ap (fin.get new) (sym same) ∙ is) in
            inr (
              (parent.slot, linked.part),
              ap (fin.get old) same ∙ above_was,
              subst (IsCarried (parent.slot, linked.part)) here carried_above,
              (λ k listed. elim (linked.changed.only k (subst (λ (z : ℕ × Part T). Contains z.1.kids k) (sym here) listed)) [ inl this ↦ inr (same, refl, this) | inr was ↦ inl was.0 ]),
              subst (λ (z : ℕ × Part T). DifferInName z.1.kids) here linked.changed.apart,
            )
        | inr other ↦
            let was = sym (at_other b other older) ∙ is in
            inr (y, was, carried_same y, (λ k listed. inl listed), lawful.apart b y was)
      ]
    ]

    later : parent.birth < next
    later = lawful.given parent.birth (parent.slot, linked.part) above_was

    pub tree-grown : IsLinked new (next + 1)
    tree-grown = record { given = given; up = up; down = down; apart = apart; root = root }
      where
        root : (b : ℕ) (y : ℕ × Part T) → fin.get new b ≡ Some y → y.1.parent ≡ None → (b ≡ 0) × (y.1.name ≡ root_name)
        root b y is bare = elim (came b y is) [
          | inl fresh ↦ let wrong : Some parent ≡ None = sym below ∙ ap (λ (z : ℕ × Part T). z.1.parent) (sym fresh.1) ∙ bare in absurd (cc)
          | inr was ↦ let over = lawful.root b was.0 was.1 (sym was.2.parent ∙ bare) in (over.0, was.2.name ∙ over.1)
        ]

        given : (b : ℕ) (y : ℕ × Part T) → fin.get new b ≡ Some y → b < next + 1
        given b y is = elim (came b y is) [ inl fresh ↦ omega (arith, fresh.0) | inr was ↦ omega (arith, lawful.given b was.0 was.1) ]

        up : (b : ℕ) (y : ℕ × Part T) (p : Handle) → fin.get new b ≡ Some y → y.1.parent ≡ Some p → IsBelow new b y p
        up b y p is up_is = elim (came b y is) [
          | inl fresh ↦
              let p_is : parent ≡ p = some_handle parent p (sym below ∙ ap (λ (z : ℕ × Part T). z.1.parent) (sym fresh.1) ∙ up_is) in
              subst (λ (q : Handle). IsBelow new b y q) p_is record {
                above = record linked.part { kids = linked.kids };
                live = linked.now;
                later = omega (arith, later, fresh.0);
                listed = subst (λ (k : Kid). Contains linked.kids k) (λ i. record { name = (sym fresh.1 i).1.name; handle = record { birth = sym fresh.0 i; slot = (sym fresh.1 i).0 } })
                    linked.changed.there;
              }
          | inr was ↦
              let over = lawful.up b was.0 p was.1 (sym was.2.parent ∙ up_is) in
              let to = carried p.birth (p.slot, over.above) over.live in
              record {
                above = to.0.1;
                live = to.1 ∙ (λ i. Some (to.2.slot i, to.0.1));
                later = over.later;
                listed = subst (λ (k : Kid). Contains to.0.1.kids k) (λ i. record { name = sym was.2.name i; handle = record { birth = b; slot = sym was.2.slot i } }) (to.2.kids _ over.listed);
              }
        ]

        down : (b : ℕ) (y : ℕ × Part T) (k : Kid) → fin.get new b ≡ Some y → Contains y.1.kids k → IsListed new b y k
        down b y k is listed = elim (came b y is) [
          | inl fresh ↦ let empty = ap (λ (z : ℕ × Part T). z.1.kids) fresh.1 ∙ none in absurd (omega (arith, listed.1, ap length empty))
          | inr was ↦ elim (was.3 k listed) [
            | inl older ↦
                let over = lawful.down b was.0 k was.1 older in
                let to = carried k.handle.birth (k.handle.slot, over.below) over.live in
                record {
                  below = to.0.1;
                  live = to.1 ∙ (λ i. Some (to.2.slot i, to.0.1));
                  parent = to.2.parent ∙ over.parent ∙ (λ i. Some record { birth = b; slot = sym was.2.slot i });
                  named = to.2.name ∙ over.named;
                }
            | inr last ↦
                subst (IsListed new b y) last.2 record {
                  below = part;
                  live = at_new;
                  parent = below ∙ (λ i. Some record { birth = sym last.0 i; slot = (sym last.1 ∙ sym was.2.slot) i });
                  named = refl;
                }
          ]
        ]

        apart : (b : ℕ) (y : ℕ × Part T) → fin.get new b ≡ Some y → DifferInName y.1.kids
        apart b y is = elim (came b y is) [
          | inl fresh ↦ λ i j d less within same. let empty = ap (λ (z : ℕ × Part T). z.1.kids) fresh.1 ∙ none in absurd (omega (arith, within, ap length empty))
          | inr was ↦ was.4
        ]

  -- the first part of an empty bank
  module _ (old new : Bank (Part T)) (handle : Handle) (part : Part T) (held : new.held ≡ fin.insert old.held handle.birth (handle.slot, part)) (birth : handle.birth ≡ old.next_birth) (next : new.next_birth ≡ old.next_birth + 1)
      (bare : old.held ≡ fin.empty) (first : old.next_birth ≡ 0) (root : part.parent ≡ None) (named : part.name ≡ root_name) (none : part.kids ≡ []) where
    placed_first : new.held ≡ fin.insert fin.empty 0 (handle.slot, part)
    placed_first = held ∙ (λ i. fin.insert (bare i) ((birth ∙ first) i) (handle.slot, part))

    pub tree-planted : IsLinked new.held new.next_birth
    tree-planted = let one : 1 ≡ new.next_birth = omega (arith, next, first) in subst (IsLinked new.held) one (tree-root new.held handle.slot part placed_first root named none)

    pub len-planted : fin.len new.held ≡ 1
    len-planted = ap fin.len placed_first ∙ len-insert_new fin.empty 0 (handle.slot, part) (fin.get-empty nat_cmp 0) ∙ ap (λ n. n + 1) (fin.len-empty nat_cmp (ℕ × Part T))

    pub parts-planted : parts_of new.held ≡ fin.insert fin.empty 0 (root_spot handle part.value)
    parts-planted =
        parts-root new.held handle.slot part placed_first root named none
        ∙ (λ i. fin.insert fin.empty 0 record { slot = handle.slot; parent = None; name = named i; path = named i ∷ []; value = part.value })

  -- the part that is new shows below its parent, and all others as before
  module _ (old : Held T) (next slot : ℕ) (parent : Handle) (part : Part T) (two three : Bank (Part T)) (lawful : IsLinked old next)
      (held : two.held ≡ fin.insert old next (slot, part)) (linked : ChangesKids two three parent (Puts (listing part.name record { birth = next; slot = slot })))
      (below : part.parent ≡ Some parent) (none : part.kids ≡ []) (other_birth : parent.birth ≢ next)
      (free : (k : Kid) → Contains linked.part.kids k → k.name ≢ part.name) where
    abbrev last : Held T
    last = three.held

    was : fin.get old parent.birth ≡ Some (parent.slot, linked.part)
    was = above_was old next slot parent part two three lawful held linked below none other_birth free

    same_link : (b : ℕ) → b ≢ next → link_of last b ≡ link_of old b
    same_link b older = elim (cases_eq b parent.birth) [
      | inl same ↦ ap (link_of last) same ∙ ap (option_map link) linked.now ∙ sym (ap (link_of old) same ∙ ap (option_map link) was)
      | inr other ↦ ap (option_map link) (at_other old next slot parent part two three lawful held linked below none other_birth free b other older)
    ]

    same_path : (b : ℕ) → b ≢ next → path_at last b ≡ path_at old b
    same_path b older = same_paths (λ c. c ≢ next) (link_of old) (link_of last) same_link
        (λ c p n _ at same. let from = link_from (fin.get old c) (Some p) n at in let up = lawful.up c from.0 p from.1 from.2 in omega (arith, lawful.given p.birth _ up.live, same))
        (suc b) b older

    new_path : path_at last next ≡ path_at old parent.birth ++ part.name ∷ []
    new_path =
        let tree = tree-grown old next slot parent part two three lawful held linked below none other_birth free in
        let at = ap (option_map link) (at_new old next slot parent part two three lawful held linked below none other_birth free) ∙ (λ i. Some (below i, part.name)) in
        path-kid (link_of last) (falls last (next + 1) tree) next parent part.name at ∙ ap (λ names. names ++ part.name ∷ []) (same_path parent.birth other_birth)

    shown : Spot T
    shown = record { slot = slot; parent = Some parent; name = part.name; path = path_at old parent.birth ++ part.name ∷ []; value = part.value }

    pub parts-grown : parts_of last ≡ fin.insert (parts_of old) next record { slot = slot; parent = Some parent; name = part.name; path = path_at old parent.birth ++ part.name ∷ []; value = part.value }
    unfolding shown
    parts-grown = same_births _ _ (λ q. elim (cases_eq q next) [
      | inl same ↦
          ap (fin.get (parts_of last)) same ∙ get-parts_of last next ∙ ap (option_map (spot_in last next)) (at_new old next slot parent part two three lawful held linked below none other_birth free)
          ∙ (λ i. Some record { slot = slot; parent = below i; name = part.name; path = new_path i; value = part.value })
          ∙ sym (ap (fin.get (fin.insert (parts_of old) next shown)) same ∙ get-insert_same (parts_of old) next shown)
      | inr older ↦ get-parts_of last q ∙ others q older ∙ sym (get-insert_other (parts_of old) next shown q older ∙ get-parts_of old q)
    ])
      where
        alike : (q : ℕ) → path_at last q ≡ path_at old q → (o : Option (ℕ × Part T)) → option_map (spot_in last q) o ≡ option_map (spot_in old q) o
        alike q paths None = refl
        alike q paths (Some x) = λ i. Some record { slot = x.0; parent = x.1.parent; name = x.1.name; path = paths i; value = x.1.value }

        others : (q : ℕ) → q ≢ next → option_map (spot_in last q) (fin.get last q) ≡ option_map (spot_in old q) (fin.get old q)
        others q older = elim (cases_eq q parent.birth) [
          | inl same ↦
              ap (option_map (spot_in last q)) (ap (fin.get last) same ∙ linked.now)
              ∙ (λ i. Some record { slot = parent.slot; parent = linked.part.parent; name = linked.part.name; path = same_path q older i; value = linked.part.value })
              ∙ sym (ap (option_map (spot_in old q)) (ap (fin.get old) same ∙ was))
          | inr other ↦
              ap (option_map (spot_in last q)) (at_other old next slot parent part two three lawful held linked below none other_birth free q other older) ∙ alike q (same_path q older) (fin.get old q)
        ]

  -- nothing is held under a birth that was not given
  pub not_given : (held : Held T) (next : ℕ) → IsLinked held next → fin.get held next ≡ None
  not_given held next lawful = by (fin.get held next) refl
    where
      by : (o : Option (ℕ × Part T)) → fin.get held next ≡ o → fin.get held next ≡ None
      by None is = is
      by (Some x) is = absurd (omega (arith, lawful.given next x is))

  -- the name of a kid that is not there is free
  pub free_name : (older : Bank (Part T)) (parent : Handle) (name : Name) (part : Part T) → IsLinked older.held older.next_birth → fin.get older.held parent.birth ≡ Some (parent.slot, part) → ((kid : Handle) → ¬ IsKid (grove_of older) parent name kid) → (k : Kid) → Contains part.kids k → k.name ≢ name
  free_name older parent name part lawful was free k listed named =
      let as_named : Contains part.kids (listing name k.handle) = subst (λ (x : Kid). Contains part.kids x) (λ i. listing (named i) k.handle) listed in
      free k.handle (kid_is older older.next_birth lawful parent name part (found-get older parent part was) k.handle as_named)

  -- a place is made among the kids, a part is put into the bank, and then into its place: as if it were put there at once
  pub placed-linked : (zero one two three : Bank (Part T)) (parent : Handle) (name : Name) (first final : Handle) (x : ℕ × Part T) → IsLinked zero.held final.birth → parent.birth ≢ final.birth → ChangesKids zero one parent (Puts (listing name first))
      → two.held ≡ fin.insert one.held final.birth x → ChangesKids two three parent (Puts (listing name final)) → ChangesKids (record two { held = fin.insert zero.held final.birth x }) three parent (Puts (listing name final))
  placed-linked zero one two three parent name first final x lawful other placed held linked = record {
    part = placed.part;
    kids = linked.kids;
    was = get-insert_other zero.held final.birth x parent.birth other ∙ placed.was;
    now = linked.now ∙ (λ i. Some (parent.slot, record ((here i).1) { kids = linked.kids }));
    changed = puts_twice name first final placed.part.kids placed.kids linked.kids placed.changed (subst (λ (z : ℕ × Part T). Puts (listing name final) z.1.kids linked.kids) here linked.changed);
    others = λ b differs. linked.others b differs ∙ ap (λ m. fin.get m b) held ∙ elim (cases_eq b final.birth) [
      | inl same ↦ ap (fin.get (fin.insert one.held final.birth x)) same ∙ get-insert_same one.held final.birth x ∙ sym (ap (fin.get (fin.insert zero.held final.birth x)) same ∙ get-insert_same zero.held final.birth x)
      | inr older ↦ get-insert_other one.held final.birth x b older ∙ placed.others b differs ∙ sym (get-insert_other zero.held final.birth x b older)
    ];
    next = linked.next;
    len = linked.len ∙ ap fin.len held ∙ len-insert_new one.held final.birth x (placed.others final.birth (λ same. other (sym same)) ∙ not_given zero.held final.birth lawful) ∙ ap (λ n. n + 1) placed.len
        ∙ sym (len-insert_new zero.held final.birth x (not_given zero.held final.birth lawful));
  }
    where
      here : ◌≡◌ {A = ℕ × Part T} (parent.slot, linked.part) (parent.slot, record placed.part { kids = placed.kids })
      here = one_part (parent.slot, linked.part) (parent.slot, record placed.part { kids = placed.kids })
          (sym linked.was ∙ ap (λ m. fin.get m parent.birth) held ∙ get-insert_other one.held final.birth x parent.birth other ∙ placed.now)

  pub len-placed : (zero two three : Bank (Part T)) (parent last : Handle) (x : ℕ × Part T) (Change : List Kid → List Kid → Type 0) → IsLinked zero.held last.birth → ChangesKids (record two { held = fin.insert zero.held last.birth x }) three parent Change → fin.len three.held ≡ fin.len zero.held + 1
  len-placed zero two three parent last x Change lawful linked = linked.len ∙ len-insert_new zero.held last.birth x (not_given zero.held last.birth lawful)

  -- a part has grown: a place was made for it, it was put into the bank, and then into its place
  module _ (zero one two three : Bank (Part T)) (parent handle : Handle) (part : Part T) (lawful : IsLinked zero.held handle.birth) (held : two.held ≡ fin.insert one.held handle.birth (handle.slot, part))
      (placed : ChangesKids zero one parent (Puts (listing part.name parent))) (linked : ChangesKids two three parent (Puts (listing part.name handle))) (below : part.parent ≡ Some parent) (none : part.kids ≡ []) (apart : parent.birth ≢ handle.birth)
      (free : (k : Kid) → Contains placed.part.kids k → k.name ≢ part.name) where
    abbrev at_once : Bank (Part T)
    at_once = record two { held = fin.insert zero.held handle.birth (handle.slot, part) }

    whole : ChangesKids at_once three parent (Puts (listing part.name handle))
    whole = placed-linked zero one two three parent part.name parent handle (handle.slot, part) lawful apart placed held linked

    still_free : (k : Kid) → Contains whole.part.kids k → k.name ≢ part.name
    still_free k listed =
        let same = one_part (parent.slot, whole.part) (parent.slot, placed.part) (sym whole.was ∙ get-insert_other zero.held handle.birth (handle.slot, part) parent.birth apart ∙ placed.was) in
        free k (subst (λ (z : ℕ × Part T). Contains z.1.kids k) same listed)

    pub tree-grew : IsLinked three.held (handle.birth + 1)
    tree-grew = tree-grown zero.held handle.birth handle.slot parent part at_once three lawful refl whole below none apart still_free

    pub parts-grew : parts_of three.held ≡ fin.insert (parts_of zero.held) handle.birth record { slot = handle.slot; parent = Some parent; name = part.name; path = path_at zero.held parent.birth ++ part.name ∷ []; value = part.value }
    parts-grew = parts-grown zero.held handle.birth handle.slot parent part at_once three lawful refl whole below none apart still_free

    pub len-grew : fin.len three.held ≡ fin.len zero.held + 1
    len-grew = len-placed zero two three parent handle (handle.slot, part) (Puts (listing part.name handle)) lawful whole
