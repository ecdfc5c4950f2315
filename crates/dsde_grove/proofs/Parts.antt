-- What the parts of a bank show, by birth.
use Rattle.std.proofs.Common.{◌≡◌, ℕ, suc, true, false, cond, ◌&&◌, eqb, List, [], ◌∷◌, length, map, Option, Some, None, option_and_then, is_some, refl, sym, ap, subst, ◌∙◌, inl, inr}
use Rattle.std.specs.Option.{option_map, option_copied, option_copied_mut}
use Rattle.std.specs.Borrow.{Bor, MutBor}
use Rattle.std.specs.Ordering.{nat_cmp, eq_by_cmp, is_lt}
use Rattle.std.specs.FinMap as fin
use Rattle.std.specs.FinMap.Entries.{below_all, is_sorted}
use Rattle.std.proofs.Math.Dec.{T as Holds}
use Rattle.std.proofs.lemmas.Bool.{cases_eq, eq-eqb}
use Rattle.std.proofs.lemmas.Bool.Decides.{eqb_tells}
use Rattle.dsde_bank.specs.declared.handle.Handle.{Handle}
use Rattle.dsde_bank.specs.Bank.{Bank, found}
use Rattle.dsde_bank.proofs.Births.{ties_itself, ties_no_other, same_births}
use Rattle.dsde_grove.specs.Grove.{Spot, spot, value_of}
use Rattle.dsde_grove.specs.Inside.{spot_in, parts_of, grove_of}
use Rattle.dsde_grove.specs.declared.part.Part.{Part}

is_some-mapped : {X Y : Type 0} (f : X → Y) (o : Option X) → is_some (option_map f o) ≡ is_some o
is_some-mapped f None = refl
is_some-mapped f (Some x) = refl

pub none_of : {X : Type 0} (o : Option X) → is_some o ≡ false → o ≡ None
none_of None none = refl
none_of (Some x) none = absurd (cc)

pub is_some-copied : {X : Type 0} (o : Option (Bor X)) → is_some (option_copied o) ≡ is_some o
is_some-copied None = refl
is_some-copied (Some x) = refl

pub is_some-copied_mut : {X : Type 0} (o : Option (MutBor X)) → is_some (option_copied_mut o) ≡ is_some o
is_some-copied_mut None = refl
is_some-copied_mut (Some x) = refl

module _ {X Y : Type 0} (g : ℕ → X → Y) where
  abbrev mapped : List (ℕ × X) → List (ℕ × Y)
  mapped es = map (λ e. (e.0, g e.0 e.1)) es

  find-mapped : (es : List (ℕ × X)) (q : ℕ) → fin.find nat_cmp q (mapped es) ≡ option_map (g q) (fin.find nat_cmp q es)
  find-mapped [] q = refl
  find-mapped (e ∷ es) q =
      elim (cases_eq q e.0) [
        | inl same ↦
            let tied : eq_by_cmp nat_cmp q e.0 ≡ true = subst (λ j. eq_by_cmp nat_cmp q j ≡ true) same (ties_itself q) in
            ap (λ b. cond b (Some (g e.0 e.1)) (fin.find nat_cmp q (mapped es))) tied ∙ ap (λ j. Some (g j e.1)) (sym same)
            ∙ sym (ap (λ b. option_map (g q) (cond b (Some e.1) (fin.find nat_cmp q es))) tied)
        | inr differs ↦
            let apart = ties_no_other q e.0 differs in
            ap (λ b. cond b (Some (g e.0 e.1)) (fin.find nat_cmp q (mapped es))) apart ∙ find-mapped es q
            ∙ sym (ap (λ b. option_map (g q) (cond b (Some e.1) (fin.find nat_cmp q es))) apart)
      ]

  below-mapped : (x : ℕ) (es : List (ℕ × X)) → below_all nat_cmp x (mapped es) ≡ below_all nat_cmp x es
  below-mapped x [] = refl
  below-mapped x (e ∷ es) = ap (λ b. is_lt (nat_cmp x e.0) && b) (below-mapped x es)

  sorted-mapped : (es : List (ℕ × X)) → is_sorted nat_cmp (mapped es) ≡ is_sorted nat_cmp es
  sorted-mapped [] = refl
  sorted-mapped (e ∷ es) = λ i. below-mapped e.0 es i && sorted-mapped es i

  length-mapped : (es : List (ℕ × X)) → length (mapped es) ≡ length es
  length-mapped [] = refl
  length-mapped (e ∷ es) = ap suc (length-mapped es)

module _ {T : Type 0} where
  pub get-parts_of : (held : fin.FinMap nat_cmp (ℕ × Part T)) (q : ℕ) → fin.get (parts_of held) q ≡ option_map (spot_in held q) (fin.get held q)
  get-parts_of held q =
      let sorted = subst Holds (sym (sorted-mapped (spot_in held) (fin.entries held))) (fin.entries_sorted held) in
      fin.get-from_sorted nat_cmp (mapped (spot_in held) (fin.entries held)) q sorted ∙ find-mapped (spot_in held) (fin.entries held) q
      ∙ ap (option_map (spot_in held q)) (sym (fin.get-entries held q))

  pub len-parts_of : (held : fin.FinMap nat_cmp (ℕ × Part T)) → fin.len (parts_of held) ≡ fin.len held
  len-parts_of held =
      let sorted = subst Holds (sym (sorted-mapped (spot_in held) (fin.entries held))) (fin.entries_sorted held) in
      fin.len-entries (parts_of held) ∙ ap length (fin.entries-from_sorted nat_cmp (mapped (spot_in held) (fin.entries held)) sorted)
      ∙ length-mapped (spot_in held) (fin.entries held) ∙ sym (fin.len-entries held)

  pub same_parts : (old new : fin.FinMap nat_cmp (ℕ × Part T)) → ((q : ℕ) → option_map (spot_in new q) (fin.get new q) ≡ option_map (spot_in old q) (fin.get old q)) → parts_of new ≡ parts_of old
  same_parts old new alike = same_births _ _ (λ q. get-parts_of new q ∙ alike q ∙ sym (get-parts_of old q))

  -- what a handle shows is what it finds in the bank
  spot-of : (held : fin.FinMap nat_cmp (ℕ × Part T)) (handle : Handle) (o : Option (ℕ × Part T))
      → option_and_then (λ (part : Spot T). cond (eqb part.slot handle.slot) (Some part) None) (option_map (spot_in held handle.birth) o)
      ≡ option_map (λ part. spot_in held handle.birth (handle.slot, part)) (option_and_then (λ placed. cond (eqb placed.0 handle.slot) (Some placed.1) None) o)
  spot-of held handle None = refl
  spot-of held handle (Some placed) =
      elim (eqb_tells placed.0 handle.slot) [
        | inl (test, same) ↦
            ap (λ b. cond b (Some (spot_in held handle.birth placed)) None) test ∙ ap (λ s. Some (spot_in held handle.birth (s, placed.1))) same
            ∙ sym (ap (λ b. option_map (λ part. spot_in held handle.birth (handle.slot, part)) (cond b (Some placed.1) None)) test)
        | inr (test, _) ↦
            ap (λ b. cond b (Some (spot_in held handle.birth placed)) None) test
            ∙ sym (ap (λ b. option_map (λ part. spot_in held handle.birth (handle.slot, part)) (cond b (Some placed.1) None)) test)
      ]

  pub spot-found : (bank : Bank (Part T)) (handle : Handle) → spot (grove_of bank) handle ≡ option_map (λ part. spot_in bank.held handle.birth (handle.slot, part)) (found bank handle)
  spot-found bank handle =
      ap (option_and_then (λ (part : Spot T). cond (eqb part.slot handle.slot) (Some part) None)) (get-parts_of bank.held handle.birth)
      ∙ spot-of bank.held handle (fin.get bank.held handle.birth)

  pub value_of-found : (bank : Bank (Part T)) (handle : Handle) → value_of (grove_of bank) handle ≡ option_map (λ part. part.value) (found bank handle)
  value_of-found bank handle = ap (option_map (λ part. part.value)) (spot-found bank handle) ∙ twice (found bank handle)
    where
      twice : (o : Option (Part T)) → option_map (λ (s : Spot T). s.value) (option_map (λ part. spot_in bank.held handle.birth (handle.slot, part)) o) ≡ option_map (λ part. part.value) o
      twice None = refl
      twice (Some part) = refl

  -- a handle finds the part that is placed in its slot under its birth
  found-placed : (o : Option (ℕ × Part T)) (slot : ℕ) (part : Part T) → option_and_then (λ placed. cond (eqb placed.0 slot) (Some placed.1) None) o ≡ Some part → o ≡ Some (slot, part)
  found-placed None slot part is = absurd (cc)
  found-placed (Some placed) slot part is =
      elim (eqb_tells placed.0 slot) [
        | inl (test, same) ↦
            let here : Some placed.1 ≡ Some part = sym (ap (λ b. cond b (Some placed.1) None) test) ∙ is in
            let parts : placed.1 ≡ part = cc in
            λ i. Some (same i, parts i)
        | inr (test, _) ↦ let none : None ≡ Some part = sym (ap (λ b. cond b (Some placed.1) None) test) ∙ is in absurd (cc)
      ]

  pub get-found : (bank : Bank (Part T)) (handle : Handle) (part : Part T) → found bank handle ≡ Some part → fin.get bank.held handle.birth ≡ Some (handle.slot, part)
  get-found bank handle part is = found-placed (fin.get bank.held handle.birth) handle.slot part is

  pub found-get : (bank : Bank (Part T)) (handle : Handle) (part : Part T) → fin.get bank.held handle.birth ≡ Some (handle.slot, part) → found bank handle ≡ Some part
  found-get bank handle part is =
      ap (option_and_then (λ placed. cond (eqb placed.0 handle.slot) (Some placed.1) None)) is ∙ ap (λ b. cond b (Some part) None) (eq-eqb handle.slot handle.slot refl)

  -- a handle is live where it finds a part in the bank
  pub live-found : (bank : Bank (Part T)) (handle : Handle) → is_some (spot (grove_of bank) handle) ≡ is_some (found bank handle)
  live-found bank handle = ap is_some (spot-found bank handle) ∙ is_some-mapped (λ part. spot_in bank.held handle.birth (handle.slot, part)) (found bank handle)
