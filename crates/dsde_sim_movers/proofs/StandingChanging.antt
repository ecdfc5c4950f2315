-- What stands behind a change of structure.
use Rattle.std.proofs.Common.{◌≡◌, ◌⊎◌, ◌↔◌, ℕ, suc, zero, ◌<◌, ◌+◌, Bool, true, false, List, [], ◌∷◌, ◌++◌, length, get_or, Option, Some, None, refl, sym, ap, subst, ◌∙◌, inl, inr, append-nil, append_assoc, arith}
use Rattle.std.specs.Prelude.{if◌then◌else◌}
use Rattle.std.specs.List.{AllByRecursion, Contains, list_any}
use Rattle.std.specs.Cmp.{Equal-is}
use Rattle.std.specs.declared.cmp.Ordering.{Ordering}
use Rattle.std.specs.declared.cmp.Ordering.TheVariants.{Less, Equal}
use Rattle.std.proofs.lemmas.Map.Keys.{sorted_head, sorted_tail}
use Rattle.dsde_values.specs.declared.name.Name.{Name}
use Rattle.dsde_values.specs.declared.path.Path.{Path}
use Rattle.dsde_values.specs.Path.{name_cmp}
use Rattle.dsde_sim_tree.specs.given.formalism.System.{System}
use Rattle.dsde_sim_tree.specs.given.structure.plan_Entry.{Entry}
use Rattle.dsde_sim_tree.specs.given.structure.Gather.{is_same_name}
use Rattle.dsde_sim_tree.specs.given.structure.Survival.{IsInOrder, names, StaysAs}
use Rattle.dsde_sim_tree.specs.given.structure.Survival as entry
use Rattle.dsde_sim_tree.specs.Told.{Told, told, ◌then◌}
use Rattle.dsde_sim_tree.specs.declared.sim.Kid.{Kid}
use Rattle.dsde_sim_tree.specs.declared.sim.Sim.TheViews.{out-Kid}
use Rattle.dsde_sim_tree.specs.Move.{survives, kept, gone, take_named, refill, refilled, change, left_behind}
use Rattle.dsde_sim_tree.specs.Start.{Starter, started_kid, start}
use Rattle.dsde_sim_tree.specs.Tree.{entry_of, parts_of_kids}
use Rattle.dsde_sim_movers.specs.Stands.{IsForward}
use Rattle.dsde_sim_movers.proofs.Brings.{Brings, brings-then, brings-told}
use Rattle.dsde_sim_movers.specs.lemmas.Standing.{KidStands, IsKid, AreKids, kids-behind}
use Rattle.dsde_sim_movers.proofs.Starting.{Starts, kid-starts, start-stands}

abbrev Among : {X : Type 0} → X → List X → Type 0
Among x [] = ⊥
Among x (y ∷ ys) = (x ≡ y) ⊎ Among x ys

among-at : {X : Type 0} (xs : List X) (x : X) (k : ℕ) → k < length xs → get_or xs k x ≡ x → Among x xs
among-at [] x k within is = absurd (omega arith)
among-at (y ∷ xs) x zero within is = inl (sym is)
among-at (y ∷ xs) x (suc k) within is = inr (among-at xs x k (omega arith) is)

among-from : {X : Type 0} (xs : List X) (x : X) → Contains xs x → Among x xs
among-from xs x there = among-at xs x there.0 there.1 there.2

among-right : {X : Type 0} (x : X) (xs ys : List X) → Among x ys → Among x (xs ++ ys)
among-right x [] ys among = among
among-right x (y ∷ xs) ys among = inr (among-right x xs ys among)

each-among : {X : Type 0} (P : X → Type 0) (xs : List X) (x : X) → AllByRecursion P xs → Among x xs → P x
each-among P [] x each among = absurd among
each-among P (y ∷ xs) x each (inl same) = subst P (sym same) each.0
each-among P (y ∷ xs) x each (inr among) = each-among P xs x each.1 among

name-among : (own : Entry) (entries : List Entry) → Among own entries → Among own.name (names entries)
name-among own [] among = absurd among
name-among own (first ∷ entries) (inl same) = inl (ap (λ (e : Entry). e.name) same)
name-among own (first ∷ entries) (inr among) = inr (name-among own entries among)

module _ (one : (name other : Name) → (name_cmp name other ≡ Equal) ↔ (name ≡ other)) (found : (old : Entry) (news : List Entry) → (list_any (entry.survives old) news ≡ true) ↔ ((new : Entry) × Contains news new × StaysAs old new)) where
  not-less : (name other : Name) → name_cmp name other ≡ Less → name ≡ other → ⊥
  not-less name other less same = let equal : name_cmp name other ≡ Equal = (one name other).1 same in clash (sym less ∙ equal)
    where
      clash : (let own : Ordering = Less in own ≡ Equal) → ⊥
      clash is = absurd (cc is)

  -- In a structure one entry has a name.
  same-named : (entries : List Entry) (a b : Entry) → IsInOrder entries → Among a entries → Among b entries → a.name ≡ b.name → a ≡ b
  same-named [] a b order at_a at_b same = absurd at_a
  same-named (first ∷ entries) a b order (inl is_a) (inl is_b) same = is_a ∙ sym is_b
  same-named (first ∷ entries) a b order (inl is_a) (inr at_b) same =
      absurd (not-less first.name b.name (each-among (λ other. name_cmp first.name other ≡ Less) (names entries) b.name (sorted_head name_cmp first.name (names entries) order) (name-among b entries at_b)) (sym (ap (λ (e : Entry). e.name) is_a) ∙ same))
  same-named (first ∷ entries) a b order (inr at_a) (inl is_b) same =
      absurd (not-less first.name a.name (each-among (λ other. name_cmp first.name other ≡ Less) (names entries) a.name (sorted_head name_cmp first.name (names entries) order) (name-among a entries at_a)) (sym (ap (λ (e : Entry). e.name) is_b) ∙ sym same))
  same-named (first ∷ entries) a b order (inr at_a) (inr at_b) same = same-named entries a b (sorted_tail name_cmp first.name (names entries) order) at_a at_b same

  module _ (system : System) (forward : IsForward system) (time left : ℕ) where
    -- a component stays as an entry of these
    record StaysAmong (entries : List Entry) (kid : Kid) : Type 0 where
      entry : Entry
      among : Among entry entries
      stays : StaysAs (entry_of kid) entry

    abbrev Survive : List Entry → List Kid → Type 0
    Survive entries kids = AllByRecursion (λ kid. KidStands system time left kid × StaysAmong entries kid) kids

    kept-survive : (entries : List Entry) (kids : List Kid) → AllByRecursion (KidStands system time left) kids → Survive entries (kept entries kids)
    kept-survive entries [] all = tt
    kept-survive entries (kid ∷ kids) all = by-test (survives entries kid) refl (kept-survive entries kids all.1)
      where
        by-test : (stays : Bool) → survives entries kid ≡ stays → Survive entries (kept entries kids) → Survive entries (if stays then kid ∷ kept entries kids else kept entries kids)
        by-test true stays rest =
            let as_one = (found (entry_of kid) entries).0 stays in
            ((all.0, record { entry = as_one.0; among = among-from entries as_one.0 as_one.1; stays = as_one.2 }), rest)
        by-test false stays rest = rest

    -- A survivor of an entry's name is one of the entry.
    record Taken (all : List Entry) (own : Entry) (taken : Kid × List Kid) : Type 0 where
      is : IsKid system time left own taken.0
      rest : Survive all taken.1

    taken-is : (all : List Entry) (own : Entry) → IsInOrder all → Among own all → (kids : List Kid) (taken : Kid × List Kid) → Survive all kids → take_named own.name kids ≡ Some taken → Taken all own taken
    taken-is all own order at [] taken survive is = absurd (cc is)
    taken-is all own order at (kid ∷ kids) taken survive is = by-name (is_same_name (out-Kid kid).name own.name) refl (take_named own.name kids) (λ rest found. taken-is all own order at kids rest survive.1 found) refl is
      where
        some-is : {A : Type 0} {x y : A} → (let one : Option A = Some x in one ≡ Some y) → x ≡ y
        some-is is = cc

        by-name : (named : Bool) → is_same_name (out-Kid kid).name own.name ≡ named → (later : Option (Kid × List Kid)) →
            ((rest : Kid × List Kid) → take_named own.name kids ≡ Some rest → Taken all own rest) → take_named own.name kids ≡ later →
            (let found : Option (Kid × List Kid) = if named then Some (kid, kids) else (elim later [ Some taken ↦ Some (taken.0, kid ∷ taken.1) | None ↦ None ]) in found ≡ Some taken) → Taken all own taken
        by-name true named later goes is_later is =
            let name : (out-Kid kid).name ≡ own.name = (one (out-Kid kid).name own.name).0 ((Equal-is (name_cmp (out-Kid kid).name own.name)).0 named) in
            let as_one = survive.0.1 in
            let same : as_one.entry ≡ own = same-named all as_one.entry own order as_one.among at (sym as_one.stays.0 ∙ name) in
            subst (Taken all own) (some-is is) (record { is = record { stands = survive.0.0; stays = subst (λ (e : Entry). StaysAs (entry_of kid) e) same as_one.stays }; rest = survive.1 })
        by-name false named (Some rest) goes is_later is =
            let own = goes rest is_later in
            subst (Taken all _) (some-is is) (record { is = own.is; rest = (survive.0, own.rest) })
        by-name false named None goes is_later is = absurd (cc is)

    refill-stands : (starter : Starter) → Starts system forward time left starter → (all : List Entry) (own : Entry) → IsInOrder all → Among own all → (kids : List Kid) (path : Path) (room : ℕ) → Survive all kids →
        Brings (λ one. IsKid system time left own one.0 × Survive all one.1) (refill starter own kids path time room)
    refill-stands starter each all own order at kids path room survive = by-taken (take_named own.name kids) refl
      where
        by-taken : (taken : Option (Kid × List Kid)) → take_named own.name kids ≡ taken →
            (let step : Told (Kid × List Kid × ℕ) = elim taken [ Some taken ↦ told [] (taken.0, taken.1, room) | None ↦ started_kid starter own path time room then (λ one. told [] (one.0, kids, one.1)) ] in
            Brings (λ one. IsKid system time left own one.0 × Survive all one.1) step)
        by-taken (Some taken) is =
            let kept_one = taken-is all own order at kids taken survive is in
            brings-told (λ one. IsKid system time left own one.0 × Survive all one.1) [] (taken.0, taken.1, room) (kept_one.is, kept_one.rest)
        by-taken None is =
            let step = started_kid starter own path time room in
            brings-then (λ one. IsKid system time left own one.0) (λ one. IsKid system time left own one.0 × Survive all one.1) step.events step.end _
            (kid-starts system forward time left starter each own path room)
            (λ one kid. brings-told (λ own_one. IsKid system time left own own_one.0 × Survive all own_one.1) [] (one.0, kids, one.1) (kid, survive))

    refilled-stands : (starter : Starter) → Starts system forward time left starter → (all : List Entry) → IsInOrder all → (before entries : List Entry) → all ≡ before ++ entries →
        (kids : List Kid) (path : Path) (room : ℕ) (done : List Kid) → Survive all kids → AreKids system time left before done →
        Brings (λ one. AreKids system time left all one.0) (refilled starter entries kids path time room done)
    refilled-stands starter each all order before [] is kids path room done survive so_far =
        brings-told (λ one. AreKids system time left all one.0) [] (done, room) (subst (λ (own : List Entry). AreKids system time left own done) (sym (is ∙ append-nil before)) so_far)
    refilled-stands starter each all order before (own ∷ entries) is kids path room done survive so_far =
        let step = refill starter own kids path time room in
        let at : Among own all = subst (λ (list : List Entry). Among own list) (sym is) (among-right own before (own ∷ entries) (inl refl)) in
        brings-then (λ one. IsKid system time left own one.0 × Survive all one.1) (λ one. AreKids system time left all one.0) step.events step.end _
        (refill-stands starter each all own order at kids path room survive)
        (λ one kid. refilled-stands starter each all order (before ++ own ∷ []) entries (is ∙ sym (append_assoc before (own ∷ []) entries)) one.1 path one.2 (done ++ one.0 ∷ []) kid.1
        (kids-behind system time left before own done one.0 so_far kid.0))

  pub change-stands : (system : System) (forward : IsForward system) (time left : ℕ) (entries : List Entry) (kids : List Kid) (path : Path) (room : ℕ) → IsInOrder entries → left ≡ left_behind path →
      AllByRecursion (KidStands system time left) kids → Brings (λ one. AreKids system time left entries one.0) (change system entries kids path time room)
  change-stands system forward time left entries kids path room order is all =
      refilled-stands system forward time left (start system (left_behind path)) (subst (λ (n : ℕ). Starts system forward time left (start system n)) is (start-stands system forward time left)) entries order [] entries refl
      (kept entries kids) path (room + parts_of_kids (gone entries kids)) [] (kept-survive system forward time left entries kids all) (record { stand = tt; stay = tt })
