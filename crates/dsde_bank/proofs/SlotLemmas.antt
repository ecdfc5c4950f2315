-- What the slots of a bank hold, and what changes with one slot.
use Rattle.std.proofs.Common.{◌≡◌, ◌≢◌, ◌⊎◌, ℕ, ◌+◌, ◌-◌, ◌<◌, ◌≤◌, true, false, cond, List, [], ◌∷◌, length, Contains, map, Option, Some, None, option_and_then, is_some, eqb, get_or, count_by, refl, sym, ap, subst, ◌∙◌, inl, inr, arith}
use Rattle.std.proofs.lemmas.Bool.{cases_eq, eq-eqb}
use Rattle.std.proofs.lemmas.Bool.Decides.{eqb_tells}
use Rattle.std.proofs.lemmas.Option.{option_and_then_some}
use Rattle.std.proofs.lemmas.List.Sums.{sum_by-set}
use Rattle.std.specs.Ordering.{nat_cmp, eq_by_cmp}
use Rattle.std.specs.FinMap as fin
use Rattle.std.proofs.lemmas.Cmp.{nat_cmp_total}
use Rattle.slab.specs.Slab as slab
use Rattle.slab.specs.Slab.{Slab, Updates, entries}
use Rattle.slab.proofs.SlabLemmas.{ContainsKey-within, Updates-with_value, Contains-entries, Contains-cons, Contains-cons_cases}
use Rattle.dsde_bank.specs.declared.bank.Entry.{Entry}
use Rattle.dsde_bank.specs.declared.handle.Handle.{Handle}
use Rattle.dsde_bank.specs.Bank.{in_slot, found, with_value, without, IsGone}
use Rattle.dsde_bank.specs.Slots.{by_birth, held_in, bank_of, AreApart, IsSound}
use Rattle.dsde_bank.proofs.Births.{ties_itself, ties_no_other, same_option, same_births, get-insert_same, get-insert_other, get-remove_same, get-remove_other, len-insert_new, len-insert_old, len-remove_old}

module _ {X : Type 0} where
  -- what is found stands in the list
  find-listed : (es : List (ℕ × X)) (k : ℕ) (v : X) → fin.find nat_cmp k es ≡ Some v → Contains es (k, v)
  find-listed [] k v found = absurd (cc)
  find-listed (e ∷ es) k v found =
      elim (cases_eq k e.0) [
        | inl same ↦
            let tied : eq_by_cmp nat_cmp k e.0 ≡ true = subst (λ j. eq_by_cmp nat_cmp k j ≡ true) same (ties_itself k) in
            let first : Some e.1 ≡ Some v = sym (ap (λ b. cond b (Some e.1) (fin.find nat_cmp k es)) tied) ∙ found in
            let value : e.1 ≡ v = cc in
            (0, omega arith, λ i. (sym same i, value i))
        | inr differs ↦
            let later : fin.find nat_cmp k es ≡ Some v = sym (ap (λ b. cond b (Some e.1) (fin.find nat_cmp k es)) (ties_no_other k e.0 differs)) ∙ found in
            Contains-cons e (k, v) es (find-listed es k v later)
      ]

  -- what stands in the list is found, where a key has one value
  listed-find : (es : List (ℕ × X)) (k : ℕ) (v : X) → ((w : X) → Contains es (k, w) → w ≡ v) → Contains es (k, v) → fin.find nat_cmp k es ≡ Some v
  listed-find [] k v one listed = absurd (omega (arith, listed.1))
  listed-find (e ∷ es) k v one listed =
      elim (cases_eq k e.0) [
        | inl same ↦
            let tied : eq_by_cmp nat_cmp k e.0 ≡ true = subst (λ j. eq_by_cmp nat_cmp k j ≡ true) same (ties_itself k) in
            ap (λ b. cond b (Some e.1) (fin.find nat_cmp k es)) tied ∙ ap Some (one e.1 (0, omega arith, λ i. (sym same i, e.1)))
        | inr differs ↦
            ap (λ b. cond b (Some e.1) (fin.find nat_cmp k es)) (ties_no_other k e.0 differs)
            ∙ elim (Contains-cons_cases e (k, v) es listed) [
              | inl here ↦ absurd (differs (sym (ap (λ p. p.0) here)))
              | inr there ↦ listed-find es k v (λ w in_rest. one w (Contains-cons e (k, w) es in_rest)) there
            ]
      ]

module _ {T : Type 0} where
  map-listed : (ps : List (ℕ × Entry T)) (p : ℕ × Entry T) → Contains ps p → Contains (map by_birth ps) (by_birth p)
  map-listed [] p listed = absurd (omega (arith, listed.1))
  map-listed (q ∷ ps) p listed =
      elim (Contains-cons_cases q p ps listed) [
        | inl here ↦ (0, omega arith, ap by_birth here)
        | inr there ↦ Contains-cons _ _ _ (map-listed ps p there)
      ]

  listed-map : (ps : List (ℕ × Entry T)) (q : ℕ × (ℕ × T)) → Contains (map by_birth ps) q → (p : ℕ × Entry T) × Contains ps p × (by_birth p ≡ q)
  listed-map [] q listed = absurd (omega (arith, listed.1))
  listed-map (p ∷ ps) q listed =
      elim (Contains-cons_cases (by_birth p) q (map by_birth ps) listed) [
        | inl here ↦ (p, (0, omega arith, refl), here)
        | inr there ↦ let later = listed-map ps q there in (later.0, Contains-cons p later.0 ps later.1, later.2)
      ]

  -- a birth is held with the slot that has it
  pub held-slot : (s : Slab (Entry T)) (birth slot : ℕ) (value : T) → fin.get (held_in s) birth ≡ Some (slot, value) → slab.get s slot ≡ Some record { birth = birth; value = value }
  held-slot s birth slot value held =
      let found = sym (fin.get-from_entries nat_cmp_total (map by_birth (entries s)) birth) ∙ held in
      let from = listed-map (entries s) (birth, (slot, value)) (find-listed _ birth (slot, value) found) in
      let lies : slab.get s from.0.0 ≡ Some from.0.1 = (Contains-entries s from.0.0 from.0.1).0 from.1 in
      let entry : Some from.0.1 ≡ Some record { birth = birth; value = value } = λ i. Some record { birth = (from.2 i).0; value = (from.2 i).1.1 } in
      ap (slab.get s) (sym (ap (λ p. p.1.0) from.2)) ∙ lies ∙ entry

  pub slot-held : (s : Slab (Entry T)) → AreApart s → (birth slot : ℕ) (value : T) → slab.get s slot ≡ Some record { birth = birth; value = value } → fin.get (held_in s) birth ≡ Some (slot, value)
  slot-held s apart birth slot value lies =
      fin.get-from_entries nat_cmp_total (map by_birth (entries s)) birth
      ∙ listed-find _ birth (slot, value) one (map-listed (entries s) (slot, record { birth = birth; value = value }) ((Contains-entries s slot _).1 lies))
    where
      one : (w : ℕ × T) → Contains (map by_birth (entries s)) (birth, w) → w ≡ (slot, value)
      one w listed =
          let from = listed-map (entries s) (birth, w) listed in
          let other : slab.get s from.0.0 ≡ Some from.0.1 = (Contains-entries s from.0.0 from.0.1).0 from.1 in
          let same : from.0.0 ≡ slot = apart _ _ _ _ other lies (ap (λ p. p.0) from.2) in
          let both : Some from.0.1 ≡ Some record { birth = birth; value = value } = sym other ∙ ap (slab.get s) same ∙ lies in
          let entry : from.0.1 ≡ record { birth = birth; value = value } = cc in
          sym (ap (λ p. p.1) from.2) ∙ (λ i. (same i, (entry i).value))

  -- what a birth finds, from what the slots hold
  held_by : (s : Slab (Entry T)) (birth : ℕ) (o : Option (ℕ × T)) → AreApart s
      → ((slot : ℕ) (value : T) → slab.get s slot ≡ Some record { birth = birth; value = value } → o ≡ Some (slot, value))
      → ((slot : ℕ) (value : T) → o ≡ Some (slot, value) → slab.get s slot ≡ Some record { birth = birth; value = value })
      → fin.get (held_in s) birth ≡ o
  held_by s birth o apart there back = same_option _ o
      (λ placed held. there placed.0 placed.1 (held-slot s birth placed.0 placed.1 held))
      (λ placed known. slot-held s apart birth placed.0 placed.1 (back placed.0 placed.1 known))

  same_entry : (a b : Entry T) → a.birth ≡ b.birth → a.value ≡ b.value → a ≡ b
  same_entry a b births values = λ i. record { birth = births i; value = values i }

  some_entry : (a b : Entry T) → Some a ≡ Some b → a ≡ b
  some_entry a b same = cc

  -- a birth that no slot has is held nowhere
  not_held : (s : Slab (Entry T)) (birth : ℕ) → ((slot : ℕ) (x : Entry T) → slab.get s slot ≡ Some x → x.birth ≢ birth) → fin.get (held_in s) birth ≡ None
  not_held s birth none =
      elim (fin.get (held_in s) birth) as (λ o. fin.get (held_in s) birth ≡ o → fin.get (held_in s) birth ≡ None) [
        | None ↦ λ is. is
        | Some placed ↦ λ is. absurd (none placed.0 _ (held-slot s birth placed.0 placed.1 is) refl)
      ] refl

  -- what a handle finds lies in its slot under its birth
  pub found-lies : (s : Slab (Entry T)) (next : ℕ) (handle : Handle) (value : T) → found (bank_of s next) handle ≡ Some value → slab.get s handle.slot ≡ Some record { birth = handle.birth; value = value }
  found-lies s next handle value is =
      option_and_then_some (in_slot handle.slot) (fin.get (held_in s) handle.birth) value is (λ placed held lies. from placed held lies)
    where
      from : (placed : ℕ × T) → fin.get (held_in s) handle.birth ≡ Some placed → in_slot handle.slot placed ≡ Some value → slab.get s handle.slot ≡ Some record { birth = handle.birth; value = value }
      from placed held lies =
          elim (eqb_tells placed.0 handle.slot) [
            | inl (test, same) ↦
                let here : Some placed.1 ≡ Some value = sym (ap (λ b. cond b (Some placed.1) None) test) ∙ lies in
                let values : placed.1 ≡ value = cc in
                ap (slab.get s) (sym same) ∙ held-slot s handle.birth placed.0 placed.1 held ∙ (λ i. Some record { birth = handle.birth; value = values i })
            | inr (test, _) ↦
                let none : None ≡ Some value = sym (ap (λ b. cond b (Some placed.1) None) test) ∙ lies in
                absurd (cc)
          ]

  -- a handle finds the entry in its slot that has its birth
  pub found-hit : (s : Slab (Entry T)) (next : ℕ) (handle : Handle) (entry : Entry T) → AreApart s → slab.get s handle.slot ≡ Some entry → entry.birth ≡ handle.birth → found (bank_of s next) handle ≡ Some entry.value
  found-hit s next handle entry apart lies births =
      let named : slab.get s handle.slot ≡ Some record { birth = handle.birth; value = entry.value } = lies ∙ (λ i. Some record { birth = births i; value = entry.value }) in
      ap (option_and_then (in_slot handle.slot)) (slot-held s apart handle.birth handle.slot entry.value named)
      ∙ ap (λ b. cond b (Some entry.value) None) (eq-eqb handle.slot handle.slot refl)

  -- a handle finds nothing where its slot has no entry of its birth
  pub found-miss : (s : Slab (Entry T)) (next : ℕ) (handle : Handle) → ((x : Entry T) → slab.get s handle.slot ≡ Some x → x.birth ≢ handle.birth) → found (bank_of s next) handle ≡ None
  found-miss s next handle none =
      elim (found (bank_of s next) handle) as (λ o. found (bank_of s next) handle ≡ o → found (bank_of s next) handle ≡ None) [
        | None ↦ λ is. is
        | Some value ↦ λ is. absurd (none _ (found-lies s next handle value is) refl)
      ] refl

  pub found-vacant : (s : Slab (Entry T)) (next : ℕ) (handle : Handle) → slab.get s handle.slot ≡ None → found (bank_of s next) handle ≡ None
  found-vacant s next handle vacant = found-miss s next handle (λ x lies births. let none : None ≡ Some x = sym vacant ∙ lies in absurd (cc))

  pub found-other : (s : Slab (Entry T)) (next : ℕ) (handle : Handle) (entry : Entry T) → slab.get s handle.slot ≡ Some entry → entry.birth ≢ handle.birth → found (bank_of s next) handle ≡ None
  found-other s next handle entry lies differs =
      found-miss s next handle (λ x found births. differs (ap (λ (e : Entry T). e.birth) (some_entry entry x (sym lies ∙ found)) ∙ births))

  -- what a handle finds, by the entry in its slot
  pub found-entry : (s : Slab (Entry T)) (next : ℕ) (handle : Handle) (entry : Entry T) → AreApart s → slab.get s handle.slot ≡ Some entry → cond (eqb entry.birth handle.birth) (Some entry.value) None ≡ found (bank_of s next) handle
  found-entry s next handle entry apart lies =
      elim (eqb_tells entry.birth handle.birth) [
        | inl (test, same) ↦ ap (λ b. cond b (Some entry.value) None) test ∙ sym (found-hit s next handle entry apart lies same)
        | inr (test, differs) ↦ ap (λ b. cond b (Some entry.value) None) test ∙ sym (found-other s next handle entry lies differs)
      ]

  -- whether a handle finds something, by the entry in its slot
  pub is_some-found : (s : Slab (Entry T)) (next : ℕ) (handle : Handle) (entry : Entry T) → AreApart s → slab.get s handle.slot ≡ Some entry → eqb entry.birth handle.birth ≡ is_some (found (bank_of s next) handle)
  is_some-found s next handle entry apart lies =
      elim (eqb_tells entry.birth handle.birth) [
        | inl (test, same) ↦ test ∙ sym (ap is_some (found-hit s next handle entry apart lies same))
        | inr (test, differs) ↦ test ∙ sym (ap is_some (found-other s next handle entry lies differs))
      ]

  -- a slot gets an entry whose birth no other slot has, and no other birth leaves
  module _ (old new : Slab (Entry T)) (slot : ℕ) (entry : Entry T) (apart : AreApart old)
      (own : (a : ℕ) (x : Entry T) → slab.get old a ≡ Some x → x.birth ≡ entry.birth → a ≡ slot)
      (only : (x : Entry T) → slab.get old slot ≡ Some x → x.birth ≡ entry.birth)
      (updates : Updates old new slot (Some entry)) where
    was : (a : ℕ) (x : Entry T) → slab.get new a ≡ Some x → ((a ≡ slot) × (x ≡ entry)) ⊎ ((a ≢ slot) × (slab.get old a ≡ Some x))
    was a x xs =
        elim (cases_eq a slot) [
          | inl here ↦ inl (here, some_entry x entry (sym xs ∙ ap (slab.get new) here ∙ updates.changed))
          | inr other ↦ inr (other, sym (updates.others a other) ∙ xs)
        ]

    pub apart-put : AreApart new
    apart-put a b x y xs ys same =
        elim (was a x xs) [
          | inl (here, x_is) ↦
              elim (was b y ys) [
                | inl (there, _) ↦ here ∙ sym there
                | inr (other, y_was) ↦ absurd (other (own b y y_was (sym same ∙ ap (λ (e : Entry T). e.birth) x_is)))
              ]
          | inr (other, x_was) ↦
              elim (was b y ys) [
                | inl (_, y_is) ↦ absurd (other (own a x x_was (same ∙ ap (λ (e : Entry T). e.birth) y_is)))
                | inr (_, y_was) ↦ apart a b x y x_was y_was same
              ]
        ]

    pub below-put : (born : ℕ) → entry.birth < born → ((a : ℕ) (x : Entry T) → slab.get old a ≡ Some x → x.birth < born) → (a : ℕ) (x : Entry T) → slab.get new a ≡ Some x → x.birth < born
    below-put born first below a x xs =
        elim (was a x xs) [
          | inl (_, x_is) ↦ omega (arith, ap (λ (e : Entry T). e.birth) x_is)
          | inr (_, x_was) ↦ below a x x_was
        ]

    -- the map gains the value under its birth
    pub held-put : held_in new ≡ fin.insert (held_in old) entry.birth (slot, entry.value)
    held-put = same_births _ _ (λ q. elim (cases_eq q entry.birth) [
      | inl same ↦
          ap (fin.get (held_in new)) same ∙ slot-held new apart-put entry.birth slot entry.value updates.changed
          ∙ sym (get-insert_same (held_in old) entry.birth (slot, entry.value)) ∙ ap (fin.get (fin.insert (held_in old) entry.birth (slot, entry.value))) (sym same)
      | inr other ↦
          held_by new q (fin.get (held_in old) q) apart-put (there q other) (back q other) ∙ sym (get-insert_other (held_in old) entry.birth (slot, entry.value) q other)
    ])
      where
        there : (q : ℕ) → q ≢ entry.birth → (a : ℕ) (value : T) → slab.get new a ≡ Some record { birth = q; value = value } → fin.get (held_in old) q ≡ Some (a, value)
        there q other a value lies =
            elim (was a _ lies) [
              | inl (_, x_is) ↦ absurd (other (ap (λ (e : Entry T). e.birth) x_is))
              | inr (_, x_was) ↦ slot-held old apart q a value x_was
            ]

        back : (q : ℕ) → q ≢ entry.birth → (a : ℕ) (value : T) → fin.get (held_in old) q ≡ Some (a, value) → slab.get new a ≡ Some record { birth = q; value = value }
        back q other a value held =
            let lies = held-slot old q a value held in
            elim (cases_eq a slot) [
              | inl here ↦ absurd (other (only record { birth = q; value = value } (ap (slab.get old) (sym here) ∙ lies)))
              | inr differs ↦ updates.others a differs ∙ lies
            ]

  -- a slot's value is taken out
  module _ (old new : Slab (Entry T)) (slot : ℕ) (entry : Entry T) (apart : AreApart old) (present : slab.get old slot ≡ Some entry)
      (updates : Updates old new slot None) where
    left : (a : ℕ) (x : Entry T) → slab.get new a ≡ Some x → (a ≢ slot) × (slab.get old a ≡ Some x)
    left a x xs =
        elim (cases_eq a slot) [
          | inl here ↦ let none : None ≡ Some x = sym updates.changed ∙ ap (slab.get new) (sym here) ∙ xs in absurd (cc)
          | inr other ↦ (other, sym (updates.others a other) ∙ xs)
        ]

    pub apart-take : AreApart new
    apart-take a b x y xs ys same = apart a b x y (left a x xs).1 (left b y ys).1 same

    pub below-take : (born : ℕ) → ((a : ℕ) (x : Entry T) → slab.get old a ≡ Some x → x.birth < born) → (a : ℕ) (x : Entry T) → slab.get new a ≡ Some x → x.birth < born
    below-take born below a x xs = below a x (left a x xs).1

    -- the map loses the birth
    pub held-take : held_in new ≡ fin.remove (held_in old) entry.birth
    held-take = same_births _ _ (λ q. elim (cases_eq q entry.birth) [
      | inl same ↦
          ap (fin.get (held_in new)) same ∙ not_held new entry.birth (λ a x xs births. (left a x xs).0 (apart a slot x entry (left a x xs).1 present births))
          ∙ sym (get-remove_same (held_in old) entry.birth) ∙ ap (fin.get (fin.remove (held_in old) entry.birth)) (sym same)
      | inr other ↦
          held_by new q (fin.get (held_in old) q) apart-take
          (λ a value lies. slot-held old apart q a value (left a _ lies).1)
          (λ a value held. back q other a value (held-slot old q a value held))
          ∙ sym (get-remove_other (held_in old) entry.birth q other)
    ])
      where
        back : (q : ℕ) → q ≢ entry.birth → (a : ℕ) (value : T) → slab.get old a ≡ Some record { birth = q; value = value } → slab.get new a ≡ Some record { birth = q; value = value }
        back q other a value lies =
            elim (cases_eq a slot) [
              | inl here ↦ absurd (other (ap (λ (e : Entry T). e.birth) (some_entry record { birth = q; value = value } entry (sym lies ∙ ap (slab.get old) here ∙ present))))
              | inr differs ↦ updates.others a differs ∙ lies
            ]

  -- where a handle finds something, its slot has an entry of its birth
  pub entry_of : (s : Slab (Entry T)) (next : ℕ) (handle : Handle) → is_some (found (bank_of s next) handle) ≡ true → (value : T) × (slab.get s handle.slot ≡ Some record { birth = handle.birth; value = value })
  entry_of s next handle some =
      elim (found (bank_of s next) handle) as (λ o. found (bank_of s next) handle ≡ o → (value : T) × (slab.get s handle.slot ≡ Some record { birth = handle.birth; value = value })) [
        | None ↦ λ is. let wrong : false ≡ true = sym (ap is_some is) ∙ some in absurd (cc)
        | Some value ↦ λ is. (value, found-lies s next handle value is)
      ] refl

  pub birth_of : (s : Slab (Entry T)) (next : ℕ) (handle : Handle) (entry : Entry T) → is_some (found (bank_of s next) handle) ≡ true → slab.get s handle.slot ≡ Some entry → entry.birth ≡ handle.birth
  birth_of s next handle entry some lies = let named = entry_of s next handle some in ap (λ (e : Entry T). e.birth) (some_entry entry record { birth = handle.birth; value = named.0 } (sym lies ∙ named.1))

  -- what an entry's slot and birth are, once its handle's value is taken out
  module _ (s new : Slab (Entry T)) (next : ℕ) (handle : Handle) (entry : Entry T) (sound : IsSound s next)
      (lies : slab.get s handle.slot ≡ Some entry) (births : entry.birth ≡ handle.birth)
      (updates : Updates s new handle.slot None) (shorter : slab.slab_len new + 1 ≡ slab.slab_len s) where
    held_less : held_in new ≡ fin.remove (held_in s) handle.birth
    held_less = held-take s new handle.slot entry sound.apart lies updates ∙ ap (fin.remove (held_in s)) births

    was_held : fin.get (held_in s) handle.birth ≡ Some (handle.slot, entry.value)
    was_held = slot-held s sound.apart handle.birth handle.slot entry.value (lies ∙ (λ i. Some record { birth = births i; value = entry.value }))

    pub sound-take : IsSound new next
    sound-take = record {
      apart = apart-take s new handle.slot entry sound.apart lies updates;
      below = below-take s new handle.slot entry sound.apart lies updates next sound.below;
      counted = ap fin.len held_less ∙ len-remove_old (held_in s) handle.birth _ was_held ∙ omega (arith, sound.counted, shorter);
    }

    pub bank-take : slab.slab_len new + 1 ≤ new.capacity → new.capacity ≡ s.capacity → bank_of new next ≡ without (bank_of s next) handle
    bank-take room same =
        let spare : new.capacity - slab.slab_len new ≡ s.capacity - slab.slab_len s + 1 = omega (arith, shorter, room, same) in
        λ i. record { held = held_less i; next_birth = next; spare = spare i }

    pub gone-take : IsGone (bank_of new next) handle
    gone-take = record {
      absent = found-vacant new next handle updates.changed;
      given = omega (arith, sound.below handle.slot entry lies, births);
    }

  -- a value is written under its handle
  module _ (s : Slab (Entry T)) (next : ℕ) (handle : Handle) (entry : Entry T) (value : T) (sound : IsSound s next)
      (lies : slab.get s handle.slot ≡ Some entry) (births : entry.birth ≡ handle.birth) where
    written : Entry T
    written = record { birth = entry.birth; value = value }

    after : Slab (Entry T)
    after = slab.with_value s handle.slot record { birth = entry.birth; value = value }

    updates : Updates s after handle.slot (Some written)
    unfolding after written
    updates = Updates-with_value s handle.slot _ (ap is_some lies)

    own_slot : (a : ℕ) (x : Entry T) → slab.get s a ≡ Some x → x.birth ≡ entry.birth → a ≡ handle.slot
    own_slot a x xs same = sound.apart a handle.slot x entry xs lies same

    only_birth : (x : Entry T) → slab.get s handle.slot ≡ Some x → x.birth ≡ entry.birth
    only_birth x xs = ap (λ (e : Entry T). e.birth) (some_entry x entry (sym xs ∙ lies))

    as_many : slab.slab_len after ≡ slab.slab_len s
    unfolding after
    as_many =
        let within : handle.slot < length s.slots = ContainsKey-within s handle.slot (ap is_some lies) in
        let one : ◌≡◌ {A = ℕ} (cond (is_some (slab.get s handle.slot)) 1 0) 1 = ap (λ o. cond (is_some o) 1 0) lies in
        omega (arith, one, sum_by-set (λ o. cond (is_some o) 1 0) s.slots handle.slot (Some record { birth = entry.birth; value = value }) None within)

    held_same : held_in after ≡ fin.insert (held_in s) handle.birth (handle.slot, value)
    unfolding after written
    held_same = held-put s after handle.slot written sound.apart own_slot only_birth updates ∙ ap (λ b. fin.insert (held_in s) b (handle.slot, value)) births

    pub sound-write : IsSound (slab.with_value s handle.slot record { birth = entry.birth; value = value }) next
    unfolding after written
    sound-write = record {
      apart = apart-put s after handle.slot written sound.apart own_slot only_birth updates;
      below = below-put s after handle.slot written sound.apart own_slot only_birth updates next (sound.below handle.slot entry lies) sound.below;
      counted = ap fin.len held_same ∙ len-insert_old (held_in s) handle.birth (handle.slot, value) (handle.slot, entry.value)
          (slot-held s sound.apart handle.birth handle.slot entry.value (lies ∙ (λ i. Some record { birth = births i; value = entry.value })))
          ∙ sound.counted ∙ sym as_many;
    }

    pub bank-write : bank_of (slab.with_value s handle.slot record { birth = entry.birth; value = value }) next ≡ with_value (bank_of s next) handle value
    unfolding after
    bank-write = λ i. record { held = held_same i; next_birth = next; spare = s.capacity - as_many i }

  -- a new value lies under the next birth
  module _ (s new : Slab (Entry T)) (next slot : ℕ) (value : T) (sound : IsSound s next) (vacant : slab.get s slot ≡ None)
      (updates : Updates s new slot (Some record { birth = next; value = value })) (longer : slab.slab_len new ≡ slab.slab_len s + 1) where
    added : Entry T
    added = record { birth = next; value = value }

    no_slot : (a : ℕ) (x : Entry T) → slab.get s a ≡ Some x → x.birth ≡ added.birth → a ≡ slot
    unfolding added
    no_slot a x xs same = absurd (omega (arith, sound.below a x xs, same))

    no_birth : (x : Entry T) → slab.get s slot ≡ Some x → x.birth ≡ added.birth
    no_birth x xs = let none : None ≡ Some x = sym vacant ∙ xs in absurd (cc)

    pub held-insert : held_in new ≡ fin.insert (held_in s) next (slot, value)
    unfolding added
    held-insert = held-put s new slot added sound.apart no_slot no_birth updates

    pub sound-insert : IsSound new (next + 1)
    unfolding added
    sound-insert = record {
      apart = apart-put s new slot added sound.apart no_slot no_birth updates;
      below = below-put s new slot added sound.apart no_slot no_birth updates (next + 1) (omega arith) (λ a x xs. omega (arith, sound.below a x xs));
      counted = ap fin.len held-insert ∙ len-insert_new (held_in s) next (slot, value) (not_held s next (λ a x lies same. omega (arith, sound.below a x lies, same))) ∙ omega (arith, sound.counted, longer);
    }

  pub sound-empty : (s : Slab (Entry T)) → s.slots ≡ [] → IsSound s 0
  sound-empty s empty = record {
    apart = λ a b x y xs ys same. nothing a x xs;
    below = λ a x xs. nothing a x xs;
    counted = ap (λ (slots : List (Option (Entry T))). fin.len (fin.from_entries {R = nat_cmp} (map by_birth (slab.entries_from 0 slots)))) empty ∙ fin.len-empty nat_cmp (ℕ × T) ∙ sym (ap (count_by is_some) empty);
  }
    where
      nothing : {P : Type 0} (a : ℕ) (x : Entry T) → slab.get s a ≡ Some x → P
      nothing a x xs = let none : None ≡ Some x = sym (ap (λ (slots : List (Option (Entry T))). get_or slots a None) empty) ∙ xs in absurd (cc)
