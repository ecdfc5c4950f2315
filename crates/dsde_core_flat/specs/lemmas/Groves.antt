-- What the calls of a grove change, by paths; and that a path finds one part.
use Rattle.std.proofs.Common.{◌≡◌, ◌≢◌, ◌⊎◌, inl, inr, ◌==◌, ℕ, zero, suc, ◌<◌, Bool, true, false, cond, List, [], ◌∷◌, ◌++◌, length, Option, Some, None, option_and_then, refl, sym, ap, ◌∙◌, append_assoc, length-append, arith, eqb-true}
use Rattle.std.specs.Option.{option_map_or}
use Rattle.std.specs.Ordering.{nat_cmp, eq_by_cmp, is_eq}
use Rattle.std.specs.FinMap as map
use Rattle.std.specs.FinMap.{get-insert}
use Rattle.std.specs.Cmp.{nat_cmp_total}
use Rattle.std.proofs.lemmas.Cmp.{tied_itself}
use Rattle.std.proofs.lemmas.Map.Views.{tells_apart}
use Rattle.std.proofs.lemmas.Map.Lookups.{exact_unsigned}
use Rattle.std.proofs.lemmas.List.{append-nil}
use Rattle.dsde_bank.specs.declared.handle.Handle.{Handle}
use Rattle.dsde_values.specs.declared.name.Name.{Name}
use Rattle.dsde_grove.specs.Grove as grove
use Rattle.dsde_grove.specs.Grove.{Grove, spot, in_slot, with_value, root_name, IsTree, IsParent, IsUnder, Grows, DropsSubtree}
use Rattle.dsde_core_flat.specs.declared.spot.Spot.{Spot}
use Rattle.dsde_core_flat.specs.Stands.{ChangesBeneath}
use Rattle.dsde_core_flat.specs.lemmas.Keeping.{spot-got}

-- one change after another
pub changes-twice : (names : List Name) (old mid new : Grove Spot) → ChangesBeneath names old mid → ChangesBeneath names mid new → ChangesBeneath names old new
changes-twice names old mid new one other = record {
  kept = λ birth part is not. other.kept birth part (one.kept birth part is not) not;
  only = λ birth part is not. one.only birth part (other.only birth part is not) not;
}

-- what changes beneath more names changes beneath fewer
pub changes-above : (names more : List Name) (old new : Grove Spot) → ChangesBeneath (names ++ more) old new → ChangesBeneath names old new
changes-above names more old new changes = record {
  kept = λ birth part is not. changes.kept birth part is (λ leads. not (record { rest = more ++ leads.rest; is = leads.is ∙ append_assoc names more leads.rest }));
  only = λ birth part is not. changes.only birth part is (λ leads. not (record { rest = more ++ leads.rest; is = leads.is ∙ append_assoc names more leads.rest }));
}

pub changes-none : (names : List Name) (own : Grove Spot) → ChangesBeneath names own own
changes-none names own = record { kept = λ birth part is not. is; only = λ birth part is not. is }

-- what a map has at a key where another one, or this one, was put in
pub get-there : {X : Type 0} (m : map.FinMap nat_cmp X) (k : ℕ) (v : X) → map.get (map.insert m k v) k ≡ Some v
get-there m k v = get-insert nat_cmp_total m k v k ∙ ap (λ (b : Bool). cond b (Some v) (map.get m k)) (ap is_eq (tied_itself nat_cmp_total k))

skipped : {X : Type 0} (m : map.FinMap nat_cmp X) (k q : ℕ) (v : X) (b : Bool) → eq_by_cmp nat_cmp q k ≡ b → q ≢ k → cond b (Some v) (map.get m q) ≡ map.get m q
skipped m k q v true is apart = absurd (apart (tells_apart exact_unsigned q k is))
skipped m k q v false is apart = refl

pub get-other : {X : Type 0} (m : map.FinMap nat_cmp X) (k q : ℕ) (v : X) → q ≢ k → map.get (map.insert m k v) q ≡ map.get m q
get-other m k q v apart = get-insert nat_cmp_total m k v q ∙ skipped m k q v (eq_by_cmp nat_cmp q k) refl apart

-- a part leaves with all beneath it
pub drop-changes : (old new : Grove Spot) (top : Handle) (drops : DropsSubtree old new top) → ChangesBeneath drops.part.path old new
drop-changes old new top drops = record {
  kept = λ birth part is not. elim (drops.either birth) [
    | inl under ↦ absurd (not (record { rest = under.0.rest; is = ap (λ (p : grove.Spot Spot). p.path) (let one : part ≡ under.0.part = let live : map.get old.parts birth ≡ Some under.0.part = under.0.live in cc in one) ∙ under.0.path }))
    | inr kept ↦ kept.1 ∙ is
  ];
  only = λ birth part is not. elim (drops.either birth) [
    | inl under ↦ absurd (let gone : map.get new.parts birth ≡ None = under.1 in cc)
    | inr kept ↦ sym kept.1 ∙ is
  ];
}

-- a part grows
grown-kept : (old new : Grove Spot) (parent : Handle) (name : Name) (value : Spot) (kid : Handle) → IsTree old → (grows : Grows old new parent name value kid) →
    (birth : ℕ) (part : grove.Spot Spot) → map.get old.parts birth ≡ Some part → map.get new.parts birth ≡ Some part
grown-kept old new parent name value kid tree grows birth part is =
    let below : birth < old.next_birth = tree.given birth part is in
    let apart : birth ≢ kid.birth = λ same. let given : kid.birth ≡ old.next_birth = grows.birth in omega arith in
    ap (λ (m : map.FinMap nat_cmp (grove.Spot Spot)). map.get m birth) grows.parts
    ∙ get-other old.parts kid.birth birth (record { slot = kid.slot; parent = Some parent; name = name; path = grows.above.path ++ name ∷ []; value = value }) apart
    ∙ is

abbrev pub is-known : ℕ → ℕ → Type 0
is-known a b = (a ≡ b) ⊎ (a ≢ b)

pub same-or-not : (a b : ℕ) → is-known a b
same-or-not a b = same-at a b (eq_by_cmp nat_cmp a b) refl
  where
    same-at : (a b : ℕ) (t : Bool) → eq_by_cmp nat_cmp a b ≡ t → is-known a b
    same-at a b true is = inl (tells_apart exact_unsigned a b is)
    same-at a b false is = inr (λ same. let yes : eq_by_cmp nat_cmp a b ≡ true = ap (eq_by_cmp nat_cmp a) (sym same) ∙ ap is_eq (tied_itself nat_cmp_total a) in let wrong : true ≡ false = sym yes ∙ is in cc)

module _ (old new : Grove Spot) (parent : Handle) (name : Name) (value : Spot) (kid : Handle) (tree : IsTree old) (grows : Grows old new parent name value kid) where
  abbrev the_spot : grove.Spot Spot
  the_spot = record { slot = kid.slot; parent = Some parent; name = name; path = grows.above.path ++ name ∷ []; value = value }

  -- what is under the new handle
  pub grown-there : map.get new.parts kid.birth ≡ Some the_spot
  grown-there = ap (λ (m : map.FinMap nat_cmp (grove.Spot Spot)). map.get m kid.birth) grows.parts ∙ get-there old.parts kid.birth the_spot

  grown-other : (birth : ℕ) → birth ≢ kid.birth → map.get new.parts birth ≡ map.get old.parts birth
  grown-other birth apart = ap (λ (m : map.FinMap nat_cmp (grove.Spot Spot)). map.get m birth) grows.parts ∙ get-other old.parts kid.birth birth the_spot apart

  pub grow-changes : ChangesBeneath (grows.above.path ++ name ∷ []) old new
  grow-changes = record {
    kept = λ birth part is not. grown-kept old new parent name value kid tree grows birth part is;
    only = λ birth part is not. elim (same-or-not birth kid.birth) [
      | inl same ↦ absurd (not (record { rest = []; is = ap (λ (p : grove.Spot Spot). p.path) (let one : part ≡ the_spot = let live = grown-there in let its : map.get new.parts birth ≡ Some the_spot = ap (map.get new.parts) same ∙ live in cc in one) ∙ sym (append-nil the_spot.path) }))
      | inr apart ↦ sym (grown-other birth apart) ∙ is
    ];
  }

-- another value lies under a handle
module _ (own : Grove Spot) (handle : Handle) (value : Spot) (part : grove.Spot Spot) (live : spot own handle ≡ Some part) where
  abbrev its : grove.Spot Spot
  its = record part { value = value }

  pub valued : (with_value own handle value).parts ≡ map.insert own.parts handle.birth its
  valued = ap (λ (held : Option (grove.Spot Spot)). option_map_or (λ (p : grove.Spot Spot). map.insert own.parts handle.birth (record p { value = value })) held own.parts) live

  pub valued-there : map.get (with_value own handle value).parts handle.birth ≡ Some its
  valued-there = ap (λ (m : map.FinMap nat_cmp (grove.Spot Spot)). map.get m handle.birth) valued ∙ get-there own.parts handle.birth its

  pub valued-other : (birth : ℕ) → birth ≢ handle.birth → map.get (with_value own handle value).parts birth ≡ map.get own.parts birth
  valued-other birth apart = ap (λ (m : map.FinMap nat_cmp (grove.Spot Spot)). map.get m birth) valued ∙ get-other own.parts handle.birth birth its apart

  pub value-changes : ChangesBeneath part.path own (with_value own handle value)
  value-changes = record {
    kept = λ birth other is not. elim (same-or-not birth handle.birth) [
      | inl same ↦ absurd (not (record { rest = []; is = ap (λ (p : grove.Spot Spot). p.path) (let one : other ≡ part = let its : map.get own.parts birth ≡ Some part = ap (map.get own.parts) same ∙ spot-got own handle part live in cc in one) ∙ sym (append-nil part.path) }))
      | inr apart ↦ valued-other birth apart ∙ is
    ];
    only = λ birth other is not. elim (same-or-not birth handle.birth) [
      | inl same ↦ absurd (not (record { rest = []; is = ap (λ (p : grove.Spot Spot). p.path) (let one : other ≡ its = let here : map.get (with_value own handle value).parts birth ≡ Some its = ap (map.get (with_value own handle value).parts) same ∙ valued-there in cc in one) ∙ sym (append-nil part.path) }))
      | inr apart ↦ sym (valued-other birth apart) ∙ is
    ];
  }

-- two lists with one more item each
snoc-parts : {A : Type 0} (xs ys : List A) (x y : A) → xs ++ x ∷ [] ≡ ys ++ y ∷ [] → (xs ≡ ys) × (x ≡ y)
snoc-parts [] [] x y is = (refl, cc)
snoc-parts [] (b ∷ ys) x y is = absurd (let e : x ∷ [] ≡ b ∷ (ys ++ y ∷ []) = is in let tail : [] ≡ ys ++ y ∷ [] = cc in omega (arith, ap length tail, length-append ys (y ∷ [])))
snoc-parts (a ∷ xs) [] x y is = absurd (let e : a ∷ (xs ++ x ∷ []) ≡ y ∷ [] = is in let tail : xs ++ x ∷ [] ≡ [] = cc in omega (arith, ap length tail, length-append xs (x ∷ [])))
snoc-parts (a ∷ xs) (b ∷ ys) x y is =
    let e : a ∷ (xs ++ x ∷ []) ≡ b ∷ (ys ++ y ∷ []) = is in
    let head : a ≡ b = cc in
    let tail : xs ++ x ∷ [] ≡ ys ++ y ∷ [] = cc in
    let parts = snoc-parts xs ys x y tail in
    let first = parts.0 in
    let last = parts.1 in
    (cc, last)

slot-of : (slot : ℕ) (own part : grove.Spot Spot) (b : Bool) → (own.slot == slot) ≡ b → (let r : Option (grove.Spot Spot) = cond b (Some own) None in r) ≡ Some part → part.slot ≡ slot
slot-of slot own part true test is = let one : own ≡ part = cc in sym (ap (λ (p : grove.Spot Spot). p.slot) one) ∙ eqb-true own.slot slot test
slot-of slot own part false test is = absurd (cc is)

slot-in : (slot : ℕ) (held : Option (grove.Spot Spot)) (part : grove.Spot Spot) → option_and_then (in_slot slot) held ≡ Some part → part.slot ≡ slot
slot-in slot None part is = absurd (cc is)
slot-in slot (Some own) part is = slot-of slot own part (own.slot == slot) refl is

pub spot-slot : (own : Grove Spot) (handle : Handle) (part : grove.Spot Spot) → spot own handle ≡ Some part → part.slot ≡ handle.slot
spot-slot own handle part is = slot-in handle.slot (map.get own.parts handle.birth) part is

module _ (own : Grove Spot) (tree : IsTree own) where
  some-name : (birth : ℕ) (part : grove.Spot Spot) → map.get own.parts birth ≡ Some part → (above : Option Handle) → part.parent ≡ above → 0 < length part.path
  some-name birth part is None root = let r = (tree.root birth part is root).2 in omega (arith, ap length r)
  some-name birth part is (Some parent) up = let u = (tree.up birth part parent is up).path in let v = (tree.up birth part parent is up).above in omega (arith, ap length u, length-append v.path (part.name ∷ []))

  abbrev Above : ℕ → Type 0
  Above n =
      (a b : ℕ) (p q : grove.Spot Spot) → length p.path < n → map.get own.parts a ≡ Some p → map.get own.parts b ≡ Some q → p.path ≡ q.path → a ≡ b

  not-root : (a b : ℕ) (p q : grove.Spot Spot) → map.get own.parts a ≡ Some p → map.get own.parts b ≡ Some q → p.path ≡ q.path → p.parent ≡ None → (parent : Handle) → q.parent ≡ Some parent → ⊥
  not-root a b p q is its same root parent up =
      let r = (tree.root a p is root).2 in
      let u = tree.up b q parent its up in
      let above = some-name parent.birth u.above (spot-got own parent u.above u.live) u.above.parent refl in
      omega (arith, ap length r, ap length same, ap length u.path, length-append u.above.path (q.name ∷ []), above)

  one-handle : (one other : Handle) → one.birth ≡ other.birth → one.slot ≡ other.slot → one ≡ other
  one-handle one other birth slot =
      ap (λ (n : ℕ). let h : Handle = record { birth = n; slot = one.slot } in h) birth ∙ ap (λ (n : ℕ). let h : Handle = record { birth = other.birth; slot = n } in h) slot

  one-at : (n : ℕ) → Above n → (a b : ℕ) (p q : grove.Spot Spot) → length p.path < suc n → map.get own.parts a ≡ Some p → map.get own.parts b ≡ Some q → p.path ≡ q.path →
      (above over : Option Handle) → p.parent ≡ above → q.parent ≡ over → a ≡ b
  one-at n known a b p q below is its same None None root over = (tree.root a p is root).0 ∙ sym (tree.root b q its over).0
  one-at n known a b p q below is its same None (Some parent) root up = absurd (not-root a b p q is its same root parent up)
  one-at n known a b p q below is its same (Some parent) None up root = absurd (not-root b a q p its is (sym same) root parent up)
  one-at n known a b p q below is its same (Some one) (Some other) up over =
      let u = tree.up a p one is up in
      let v = tree.up b q other its over in
      let parts = snoc-parts u.above.path v.above.path p.name q.name (sym u.path ∙ same ∙ v.path) in
      let got = spot-got own one u.above u.live in
      let its_got = spot-got own other v.above v.live in
      let births : one.birth ≡ other.birth = known one.birth other.birth u.above v.above (omega (arith, ap length u.path, length-append u.above.path (p.name ∷ []))) got its_got parts.0 in
      let aboves : u.above ≡ v.above = let e : map.get own.parts other.birth ≡ Some u.above = ap (map.get own.parts) (sym births) ∙ got in cc in
      let slots : one.slot ≡ other.slot = sym (spot-slot own one u.above u.live) ∙ ap (λ (s : grove.Spot Spot). s.slot) aboves ∙ spot-slot own other v.above v.live in
      let handles : one ≡ other = one-handle one other births slots in
      tree.apart a b p q other is its (up ∙ ap (λ (h : Handle). let o : Option Handle = Some h in o) handles) over parts.1

  all-lengths : (n : ℕ) → Above n
  all-lengths zero a b p q below is its same = absurd (omega arith)
  all-lengths (suc n) a b p q below is its same = one-at n (all-lengths n) a b p q below is its same p.parent q.parent refl refl

  -- a path leads to one part
  pub one-path : (a b : ℕ) (p q : grove.Spot Spot) → map.get own.parts a ≡ Some p → map.get own.parts b ≡ Some q → p.path ≡ q.path → a ≡ b
  one-path a b p q is its same = all-lengths (suc (length p.path)) a b p q (omega arith) is its same
