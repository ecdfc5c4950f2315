-- A tree without one part and those below it.
use Rattle.std.proofs.Common.{◌≡◌, ◌≢◌, ℕ, suc, Contains, Option, Some, None, MatchOption, IfSome, IsSome, is_some, option_and_then, refl, sym, ap, subst, ◌∙◌, inl, inr, arith}
use Rattle.std.specs.Option.{option_map}
use Rattle.std.specs.FinMap as fin
use Rattle.std.proofs.lemmas.Bool.{cases_eq}
use Rattle.dsde_bank.specs.declared.handle.Handle.{Handle}
use Rattle.dsde_bank.specs.Bank.{Bank, found}
use Rattle.dsde_grove.specs.Grove.{Spot, spot, IsAbove, IsTree, DropsSubtree, parent_of}
use Rattle.dsde_grove.specs.Grove.IsAbove.{itself, above_parent}
use Rattle.dsde_values.specs.declared.name.Name.{Name}
use Rattle.dsde_grove.proofs.KidLemmas.{listing, one_kid}
use Rattle.dsde_grove.specs.Inside.{parent_in, link, link_of, path_at, spot_in, parts_of, grove_of, IsBelow, IsListed, IsLinked, TakesAll, ChangesKids}
use Rattle.dsde_grove.specs.declared.part.Part.{Part}
use Rattle.dsde_grove.specs.Part.{Kid, DifferInName, Forgets}
use Rattle.dsde_grove.proofs.Parts.{get-parts_of, found-get}
use Rattle.dsde_grove.proofs.Paths.{same_paths}
use Rattle.dsde_grove.proofs.Trees.{Held, link_from}
use Rattle.dsde_grove.proofs.Shown.{either}
use Rattle.dsde_grove.proofs.Above.{above_cases, above_same, above_le, parent_falls, parent_of-placed}

some_handle : (p q : Handle) → Some p ≡ Some q → p ≡ q
some_handle p q e = cc

module _ {T : Type 0} where
  -- a part that stays: its kids are those that it had, without the top
  pub record Keeps (top : ℕ) (x y : ℕ × Part T) : Type 0 where
    pub slot : y.0 ≡ x.0
    pub parent : y.1.parent ≡ x.1.parent
    pub name : y.1.name ≡ x.1.name
    pub value : y.1.value ≡ x.1.value
    pub kids : (k : Kid) → Contains x.1.kids k → k.handle.birth ≢ top → Contains y.1.kids k
    pub no_others : (k : Kid) → Contains y.1.kids k → Contains x.1.kids k
    pub no_top : (k : Kid) → Contains y.1.kids k → k.handle.birth ≢ top
    pub apart : DifferInName y.1.kids

  -- the parts that the top lies above are gone, and the others stay
  pub record IsPruned (tree new : Held T) (top : ℕ) : Type 0 where
    pub there : (b : ℕ) (x : ℕ × Part T) → fin.get tree b ≡ Some x → ¬ IsAbove (parent_in tree) top b → (y : ℕ × Part T) × (fin.get new b ≡ Some y) × Keeps top x y
    pub back : (b : ℕ) (y : ℕ × Part T) → fin.get new b ≡ Some y → (x : ℕ × Part T) × (fin.get tree b ≡ Some x)
    pub left : (b : ℕ) (y : ℕ × Part T) → fin.get new b ≡ Some y → ¬ IsAbove (parent_in tree) top b

  one_some : (x y : ℕ × Part T) → Some x ≡ Some y → x ≡ y
  one_some x y e = cc

  -- no part but its parent lists a part among its kids
  lists_top : (tree : Held T) (next : ℕ) → IsLinked tree next → (top : Handle) (part : Part T) → fin.get tree top.birth ≡ Some (top.slot, part) → (b : ℕ) (x : ℕ × Part T) (k : Kid) → fin.get tree b ≡ Some x → Contains x.1.kids k → k.handle.birth ≡ top.birth
      → (part.parent ≡ Some record { birth = b; slot = x.0 }) × (k.handle ≡ top)
  lists_top tree next lawful top part live b x k is listed same =
      let down = lawful.down b x k is listed in
      let here = one_some (k.handle.slot, down.below) (top.slot, part) (sym down.live ∙ ap (fin.get tree) same ∙ live) in
      (sym (ap (λ (z : ℕ × Part T). z.1.parent) here) ∙ down.parent, λ i. record { birth = same i; slot = (here i).0 })

  pub pruned-root : (old new : Bank (Part T)) (next : ℕ) → IsLinked old.held next → (top : Handle) (part : Part T) → fin.get old.held top.birth ≡ Some (top.slot, part) → part.parent ≡ None → TakesAll old new top → IsPruned old.held new.held top.birth
  pruned-root old new next lawful top part live root t = record {
    there = λ b x is other. (
      x,
      t.kept b other ∙ is,
      record {
        slot = refl;
        parent = refl;
        name = refl;
        value = refl;
        kids = λ k listed _. listed;
        no_others = λ k listed. listed;
        no_top = λ k listed same. let wrong = sym root ∙ (lists_top old.held next lawful top part live b x k is listed same).0 in cc;
        apart = lawful.apart b x is;
      },
    );
    back = λ b y is. (y, sym (t.kept b (t.left b y is)) ∙ is);
    left = t.left;
  }

  pub pruned-kid : (old mid new : Bank (Part T)) (next : ℕ) → IsLinked old.held next → (top parent : Handle) (part : Part T) → fin.get old.held top.birth ≡ Some (top.slot, part) → part.parent ≡ Some parent → TakesAll old mid top
      → ChangesKids mid new parent (Forgets part.name) → IsPruned old.held new.held top.birth
  pruned-kid old mid new next lawful top parent part live below t c = record { there = there; back = back; left = left }
    where
      -- of the kids of the parent the top alone has its name
      named_top : (x : ℕ × Part T) → fin.get old.held parent.birth ≡ Some x → (k : Kid) → Contains x.1.kids k → k.name ≡ part.name → k.handle.birth ≡ top.birth
      named_top x is k listed named =
          let up = lawful.up top.birth (top.slot, part) parent live below in
          let here = one_some (parent.slot, up.above) x (sym up.live ∙ is) in
          let top_listed = subst (λ (z : ℕ × Part T). Contains z.1.kids (listing part.name top)) here up.listed in
          ap (λ (kid : Kid). kid.handle.birth) (one_kid x.1.kids (lawful.apart parent.birth x is) k (listing part.name top) listed top_listed named)

      back : (b : ℕ) (y : ℕ × Part T) → fin.get new.held b ≡ Some y → (x : ℕ × Part T) × (fin.get old.held b ≡ Some x)
      back b y is = elim (cases_eq b parent.birth) [
        | inl same ↦ ((parent.slot, c.part), sym (t.kept b (λ above. t.left parent.birth (parent.slot, c.part) c.was (subst (IsAbove (parent_in old.held) top.birth) same above))) ∙ ap (fin.get mid.held) same ∙ c.was)
        | inr other ↦ let is_mid = sym (c.others b other) ∙ is in (y, sym (t.kept b (t.left b y is_mid)) ∙ is_mid)
      ]

      left : (b : ℕ) (y : ℕ × Part T) → fin.get new.held b ≡ Some y → ¬ IsAbove (parent_in old.held) top.birth b
      left b y is above = elim (cases_eq b parent.birth) [
        | inl same ↦ t.left parent.birth (parent.slot, c.part) c.was (subst (IsAbove (parent_in old.held) top.birth) same above)
        | inr other ↦ t.left b y (sym (c.others b other) ∙ is) above
      ]

      there : (b : ℕ) (x : ℕ × Part T) → fin.get old.held b ≡ Some x → ¬ IsAbove (parent_in old.held) top.birth b → (y : ℕ × Part T) × (fin.get new.held b ≡ Some y) × Keeps top.birth x y
      there b x is out = elim (cases_eq b parent.birth) [
        | inl same ↦
            let mid_is = t.kept b out ∙ is in
            let here = one_some (parent.slot, c.part) x (sym c.was ∙ ap (fin.get mid.held) (sym same) ∙ mid_is) in
            let parent_is : fin.get old.held parent.birth ≡ Some x = ap (fin.get old.held) (sym same) ∙ is in
            let change = subst (λ (z : ℕ × Part T). Forgets part.name z.1.kids c.kids) here c.changed in (
              (parent.slot, record c.part { kids = c.kids }),
              ap (fin.get new.held) same ∙ c.now,
              record {
                slot = ap (λ z. z.0) here;
                parent = ap (λ (z : ℕ × Part T). z.1.parent) here;
                name = ap (λ (z : ℕ × Part T). z.1.name) here;
                value = ap (λ (z : ℕ × Part T). z.1.value) here;
                kids = λ k listed other. change.kept k listed (λ named. other (named_top x parent_is k listed named));
                no_others = λ k listed. (change.only k listed).0;
                no_top = λ k listed at_top.
                    let both = change.only k listed in
                    let down = lawful.down b x k is both.0 in
                    let this = one_some (k.handle.slot, down.below) (top.slot, part) (sym down.live ∙ ap (fin.get old.held) at_top ∙ live) in
                    both.1 (sym down.named ∙ ap (λ (z : ℕ × Part T). z.1.name) this);
                apart = change.apart;
              },
            )
        | inr other ↦ (
          x,
          c.others b other ∙ t.kept b out ∙ is,
          record {
            slot = refl;
            parent = refl;
            name = refl;
            value = refl;
            kids = λ k listed _. listed;
            no_others = λ k listed. listed;
            no_top = λ k listed at_top. other (sym (ap (λ (h : Handle). h.birth) (some_handle parent _ (sym below ∙ (lists_top old.held next lawful top part live b x k is listed at_top).0))));
            apart = lawful.apart b x is;
          },
        )
      ]

  module _ (tree new : Held T) (next top : ℕ) (lawful : IsLinked tree next) (pruned : IsPruned tree new top) where
    abbrev Stays : ℕ → Type 0
    Stays b = ¬ IsAbove (parent_in tree) top b

    stays_up : (b : ℕ) (x : ℕ × Part T) (p : Handle) → fin.get tree b ≡ Some x → x.1.parent ≡ Some p → Stays b → Stays p.birth
    stays_up b x p is parent out above = out (above_parent (parent_of-placed tree b x is ∙ parent) above)

    pub tree-pruned : IsLinked new next
    tree-pruned = record {
      given = λ b y is. let from = pruned.back b y is in lawful.given b from.0 from.1;
      up = up;
      down = down;
      apart = λ b y is.
          let from = pruned.back b y is in
          let to = pruned.there b from.0 from.1 (pruned.left b y is) in
          subst (λ (z : ℕ × Part T). DifferInName z.1.kids) (one_some to.0 y (sym to.1 ∙ is)) to.2.apart;
      root = λ b y is bare.
          let from = kept b y is in
          let was = lawful.root b from.0 from.1 (sym from.2.parent ∙ bare) in
          (was.0, from.2.name ∙ was.1);
    }
      where
        kept : (b : ℕ) (y : ℕ × Part T) → fin.get new b ≡ Some y → (x : ℕ × Part T) × (fin.get tree b ≡ Some x) × Keeps top x y
        kept b y is =
            let from = pruned.back b y is in
            let to = pruned.there b from.0 from.1 (pruned.left b y is) in
            (from.0, from.1, subst (Keeps top from.0) (one_some to.0 y (sym to.1 ∙ is)) to.2)

        up : (b : ℕ) (y : ℕ × Part T) (p : Handle) → fin.get new b ≡ Some y → y.1.parent ≡ Some p → IsBelow new b y p
        up b y p is parent =
            let from = kept b y is in
            let out = pruned.left b y is in
            let was = lawful.up b from.0 p from.1 (sym from.2.parent ∙ parent) in
            let to = pruned.there p.birth (p.slot, was.above) was.live (stays_up b from.0 p from.1 (sym from.2.parent ∙ parent) out) in
            let not_top : b ≢ top = λ same. out (subst (λ t. IsAbove (parent_in tree) t b) same itself) in
            record {
              above = to.0.1;
              live = to.1 ∙ (λ i. Some (to.2.slot i, to.0.1));
              later = was.later;
              listed = subst (λ (k : Kid). Contains to.0.1.kids k) (λ i. record { name = sym from.2.name i; handle = record { birth = b; slot = sym from.2.slot i } }) (to.2.kids _ was.listed not_top);
            }

        down : (b : ℕ) (y : ℕ × Part T) (kid : Kid) → fin.get new b ≡ Some y → Contains y.1.kids kid → IsListed new b y kid
        down b y kid is listed =
            let from = kept b y is in
            let out = pruned.left b y is in
            let was = lawful.down b from.0 kid from.1 (from.2.no_others kid listed) in
            let stays : Stays kid.handle.birth = λ above. elim (above_cases above) [
              | inl same ↦ from.2.no_top kid listed same
              | inr over ↦
                  let parent = some_handle over.parent record { birth = b; slot = from.0.0 } (sym over.is ∙ parent_of-placed tree kid.handle.birth (kid.handle.slot, was.below) was.live ∙ was.parent) in
                  out (subst (λ (h : Handle). IsAbove (parent_in tree) top h.birth) parent over.above)
            ] in
            let to = pruned.there kid.handle.birth (kid.handle.slot, was.below) was.live stays in
            record {
              below = to.0.1;
              live = to.1 ∙ (λ i. Some (to.2.slot i, to.0.1));
              parent = to.2.parent ∙ was.parent ∙ (λ i. Some record { birth = b; slot = sym from.2.slot i });
              named = to.2.name ∙ was.named;
            }

    -- a birth that stays is in both or in neither
    both_or_neither : (P : Option (ℕ × Part T) → Option (ℕ × Part T) → Type 0) (b : ℕ) → Stays b → P None None → ((x y : ℕ × Part T) → Keeps top x y → P (Some x) (Some y)) → P (fin.get tree b) (fin.get new b)
    both_or_neither P b out none some = by (fin.get tree b) refl
      where
        by_new : (o : Option (ℕ × Part T)) → fin.get tree b ≡ None → fin.get new b ≡ o → P (fin.get tree b) (fin.get new b)
        by_new None u v = subst (λ o. P o (fin.get new b)) (sym u) (subst (P None) (sym v) none)
        by_new (Some y) u v = let from = pruned.back b y v in let wrong : None ≡ Some from.0 = sym u ∙ from.1 in absurd (cc)

        by : (o : Option (ℕ × Part T)) → fin.get tree b ≡ o → P (fin.get tree b) (fin.get new b)
        by None u = by_new (fin.get new b) u refl
        by (Some x) u = let to = pruned.there b x u out in subst (λ o. P o (fin.get new b)) (sym u) (subst (P (Some x)) (sym to.1) (some x to.0 to.2))

    links : (b : ℕ) → Stays b → link_of new b ≡ link_of tree b
    links b out = both_or_neither (λ o n. option_map link n ≡ option_map link o) b out refl (λ x y k. λ i. Some (k.parent i, k.name i))

    paths : (b : ℕ) → Stays b → path_at new b ≡ path_at tree b
    paths b out = same_paths Stays (link_of tree) (link_of new) links
        (λ c p n stays at. let from = link_from (fin.get tree c) (Some p) n at in stays_up c from.0 p from.1 from.2 stays)
        (suc b) b out

    pub kept-pruned : (b : ℕ) → Stays b → fin.get (parts_of new) b ≡ fin.get (parts_of tree) b
    kept-pruned b out =
        get-parts_of new b
        ∙ both_or_neither (λ o n. option_map (spot_in new b) n ≡ option_map (spot_in tree b) o) b out refl
        (λ x y k i. Some record { slot = k.slot i; parent = k.parent i; name = k.name i; path = paths b out i; value = k.value i })
        ∙ sym (get-parts_of tree b)

    pub gone-pruned : (b : ℕ) → IsAbove (parent_in tree) top b → fin.get (parts_of new) b ≡ None
    gone-pruned b above = get-parts_of new b ∙ by (fin.get new b) refl
      where
        by : (o : Option (ℕ × Part T)) → fin.get new b ≡ o → option_map (spot_in new b) (fin.get new b) ≡ None
        by None is = ap (option_map (spot_in new b)) is
        by (Some y) is = absurd (pruned.left b y is above)

  parents_shown : (held : Held T) (b : ℕ) (o : Option (ℕ × Part T)) → option_and_then (λ (s : Spot T). s.parent) (option_map (spot_in held b) o) ≡ option_and_then (λ (placed : ℕ × Part T). placed.1.parent) o
  parents_shown held b None = refl
  parents_shown held b (Some x) = refl

  pub parent_of-held : (bank : Bank (Part T)) (b : ℕ) → parent_of (grove_of bank) b ≡ parent_in bank.held b
  parent_of-held bank b = ap (option_and_then (λ (s : Spot T). s.parent)) (get-parts_of bank.held b) ∙ parents_shown bank.held b (fin.get bank.held b)

  pub drops-pruned : (old new : Bank (Part T)) (next : ℕ) (top : Handle) (part : Spot T) → IsLinked old.held next → IsTree (grove_of old) → spot (grove_of old) top ≡ Some part → IsPruned old.held new.held top.birth → new.next_birth ≡ old.next_birth
      → DropsSubtree (grove_of old) (grove_of new) top
  drops-pruned old new next top part lawful tree live pruned same = record {
    gone = gone;
    kept = kept;
    next = same;
    part = part;
    live = live;
    either = either (grove_of old) tree (grove_of new) top part live gone kept;
  }
    where
      gone : (b : ℕ) → IsAbove (parent_of (grove_of old)) top.birth b → fin.get (parts_of new.held) b ≡ None
      gone b above = gone-pruned old.held new.held next top.birth lawful pruned b (above_same (λ c. sym (parent_of-held old c)) above)

      kept : (b : ℕ) → ¬ IsAbove (parent_of (grove_of old)) top.birth b → fin.get (parts_of new.held) b ≡ fin.get (parts_of old.held) b
      kept b out = kept-pruned old.held new.held next top.birth lawful pruned b (λ above. out (above_same (λ c. parent_of-held old c) above))

  -- the top is taken out of the list of its parent, if it has one
  abbrev pub Unlinks : Bank (Part T) → Bank (Part T) → Name → Option Handle → Type 0
  Unlinks mid new name o = MatchOption o (new ≡ mid) (λ above. ChangesKids mid new above (Forgets name))

  pub pruned-any : (old mid new : Bank (Part T)) (next : ℕ) → IsLinked old.held next → (top : Handle) (part : Part T) → fin.get old.held top.birth ≡ Some (top.slot, part) → TakesAll old mid top → Unlinks mid new part.name part.parent → IsPruned old.held new.held top.birth
  pruned-any old mid new next lawful top part live t u = by part.parent refl u
    where
      by : (o : Option Handle) → part.parent ≡ o → Unlinks mid new part.name o → IsPruned old.held new.held top.birth
      by None root same = subst (λ (b : Bank (Part T)). IsPruned old.held b.held top.birth) (sym same) (pruned-root old mid next lawful top part live root t)
      by (Some parent) below c = pruned-kid old mid new next lawful top parent part live below t c

  pub len-unlinked : (mid new : Bank (Part T)) (name : Name) (o : Option Handle) → Unlinks mid new name o → fin.len new.held ≡ fin.len mid.held
  len-unlinked mid new name None same = ap (λ (b : Bank (Part T)). fin.len b.held) same
  len-unlinked mid new name (Some parent) c = c.len

  pub next-unlinked : (mid new : Bank (Part T)) (name : Name) (o : Option Handle) → Unlinks mid new name o → new.next_birth ≡ mid.next_birth
  next-unlinked mid new name None same = ap (λ (b : Bank (Part T)). b.next_birth) same
  next-unlinked mid new name (Some parent) c = c.next

  -- the parent of the top stays
  pub parent_stays : (old mid : Bank (Part T)) (next : ℕ) → IsLinked old.held next → (top : Handle) (part : Part T) → fin.get old.held top.birth ≡ Some (top.slot, part) → TakesAll old mid top → IfSome part.parent (λ above. IsSome (found mid above))
  parent_stays old mid next lawful top part live t = by part.parent refl
    where
      by : (o : Option Handle) → part.parent ≡ o → IfSome o (λ above. IsSome (found mid above))
      by None root = tt
      by (Some parent) below =
          let up = lawful.up top.birth (top.slot, part) parent live below in
          let stays : ¬ IsAbove (parent_in old.held) top.birth parent.birth = λ above. omega (arith, above_le (parent_falls old.held next lawful) above, up.later) in
          ap is_some (found-get mid parent up.above (t.kept parent.birth stays ∙ up.live))
