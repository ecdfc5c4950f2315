-- The kids of a part, as their map by name holds them.
use Rattle.std.proofs.Common.{◌≡◌, ◌≢◌, ◌⊎◌, ℕ, zero, suc, ◌<◌, false, List, [], ◌∷◌, length, map, get_or, All, Contains, MatchOption, Option, Some, None, Ordering, refl, sym, ap, subst, ◌∙◌, inl, inr, arith}
use Rattle.std.specs.declared.cmp.Ordering.TheVariants.{Less, Equal, Greater}
use Rattle.std.specs.Ordering.{is_eq}
use Rattle.std.specs.List.{AllByRecursion}
use Rattle.std.specs.List.Sorted.{IsStrictlySortedBy}
use Rattle.std.specs.Map.{keys_of, values_of}
use Rattle.std.specs.BTreeMap as tree
use Rattle.std.specs.BTreeMap.{BTreeMap, IsOrdered, Updates, is_at}
use Rattle.std.proofs.lemmas.Cmp.{tied_itself}
use Rattle.std.proofs.lemmas.List.Kept.{AllPairs-cons}
use Rattle.std.proofs.lemmas.List.Elements.{Contains-get_or}
use Rattle.std.proofs.lemmas.Map.Keys.{sorted_head, sorted_tail}
use Rattle.std.proofs.lemmas.Map.Views.{btree_map_get_iff}
use Rattle.dsde_bank.specs.declared.handle.Handle.{Handle}
use Rattle.dsde_values.specs.declared.name.Name.{Name}
use Rattle.dsde_values.specs.Path.{name_cmp}
use Rattle.dsde_values.proofs.Orders.{name_cmp_total, exact_names}
use Rattle.dsde_grove.specs.Part.{Kid, kid_of, DifferInName, Puts, Forgets}
use Rattle.dsde_grove.proofs.Listed.{listed_cases, listed_later}

abbrev pub Entries : Type 0
Entries = List (Name × Handle)

abbrev pub kids_of : Entries → List Kid
kids_of es = map kid_of es

listed_entry : (es : Entries) (k : Kid) → Contains (kids_of es) k → Contains es (k.name, k.handle)
listed_entry [] k listed = absurd (omega (arith, listed.1))
listed_entry (e ∷ es) k listed = elim (listed_cases (kid_of e) k (kids_of es) listed) [
  | inl here ↦ (zero, omega arith, ap (λ (x : Kid). (x.name, x.handle)) here)
  | inr there ↦ listed_later e (k.name, k.handle) es (listed_entry es k there)
]

entry_listed : (es : Entries) (k : Kid) → Contains es (k.name, k.handle) → Contains (kids_of es) k
entry_listed [] k listed = absurd (omega (arith, listed.1))
entry_listed (e ∷ es) k listed = elim (listed_cases e (k.name, k.handle) es listed) [
  | inl here ↦ (zero, omega arith, ap kid_of here)
  | inr there ↦ listed_later (kid_of e) k (kids_of es) (entry_listed es k there)
]

-- whether two names are one, as the order of names tells
same_name : (n q : Name) → (n ≡ q) ⊎ ((is_at (name_cmp n) q ≡ false) × (n ≢ q))
same_name n q = by (name_cmp n q) refl
  where
    differ : (o : Ordering) → name_cmp n q ≡ o → o ≢ Equal → n ≢ q
    differ o is other same = other (sym is ∙ subst (λ (x : Name). name_cmp n x ≡ Equal) same (tied_itself name_cmp_total n))

    by : (o : Ordering) → name_cmp n q ≡ o → (n ≡ q) ⊎ ((is_at (name_cmp n) q ≡ false) × (n ≢ q))
    by Equal is = inl (exact_names n q is)
    by Less is = inr (ap is_eq is, differ Less is (λ wrong. cc))
    by Greater is = inr (ap is_eq is, differ Greater is (λ wrong. cc))

-- names in order differ
other_names : (n : Name) (es : Entries) → AllByRecursion (λ y. name_cmp n y ≡ Less) (keys_of es) → (k : ℕ) (d : Kid) → k < length (kids_of es) → n ≢ (get_or (kids_of es) k d).name
other_names n [] below k d within = absurd (omega (arith, within))
other_names n (e ∷ es) below zero d within = λ same.
    let equal : name_cmp n e.0 ≡ Equal = subst (λ (q : Name). name_cmp n q ≡ Equal) same (tied_itself name_cmp_total n) in
    let wrong : Less ≡ Equal = sym below.0 ∙ equal in
    cc
other_names n (e ∷ es) below (suc k) d within = other_names n es below.1 k d (omega (arith, within))

pub apart_entries : (es : Entries) → IsStrictlySortedBy name_cmp (keys_of es) → DifferInName (kids_of es)
apart_entries [] ordered = λ i j d less within. absurd (omega (arith, within))
apart_entries (e ∷ es) ordered =
    AllPairs-cons (λ (a b : Kid). a.name ≢ b.name) (kid_of e) (kids_of es) (other_names e.0 es (sorted_head name_cmp e.0 (keys_of es) ordered)) (apart_entries es (sorted_tail name_cmp e.0 (keys_of es) ordered))

pub handles_entries : (es : Entries) → map (λ (k : Kid). k.handle) (kids_of es) ≡ values_of es
handles_entries [] = refl
handles_entries (e ∷ es) = ap (λ l. e.1 ∷ l) (handles_entries es)

pub length_entries : (es : Entries) → length (kids_of es) ≡ length (values_of es)
length_entries [] = refl
length_entries (e ∷ es) = ap suc (length_entries es)

some_handle : (x y : Handle) → Some x ≡ Some y → x ≡ y
some_handle x y e = cc

module _ (m : BTreeMap Name Handle) (ordered : IsOrdered name_cmp m) where
  get_listed : (k : Kid) → Contains (kids_of m.entries) k → tree.get name_cmp m k.name ≡ Some k.handle
  get_listed k listed = (btree_map_get_iff name_cmp_total exact_names m ordered k.name k.handle).1 (listed_entry m.entries k listed)

  listed_get : (k : Kid) → tree.get name_cmp m k.name ≡ Some k.handle → Contains (kids_of m.entries) k
  listed_get k is = entry_listed m.entries k ((btree_map_get_iff name_cmp_total exact_names m ordered k.name k.handle).0 is)

  -- a name that the map does not have is free
  pub free_names : (name : Name) → tree.get name_cmp m name ≡ None → All (λ (k : Kid). k.name ≢ name) (kids_of m.entries)
  free_names name none k d within same =
      let kid = get_or (kids_of m.entries) k d in
      let is = get_listed kid (Contains-get_or (kids_of m.entries) k d within) in
      let wrong : None ≡ Some kid.handle = sym none ∙ ap (tree.get name_cmp m) (sym same) ∙ is in
      cc

  pub find_named : (name : Name) (r : Option Handle) → r ≡ tree.get name_cmp m name → MatchOption r (All (λ (k : Kid). k.name ≢ name) (kids_of m.entries)) (λ h. Contains (kids_of m.entries) record { name = name; handle = h })
  find_named name None is = free_names name (sym is)
  find_named name (Some h) is = listed_get record { name = name; handle = h } (sym is)

module _ (m n : BTreeMap Name Handle) (ordered : IsOrdered name_cmp m) (ordered_new : IsOrdered name_cmp n) (name : Name) where
  pub puts : (handle : Handle) → Updates name_cmp m n name (Some handle) → Puts record { name = name; handle = handle } (kids_of m.entries) (kids_of n.entries)
  puts handle u = record {
    there = listed_get n ordered_new record { name = name; handle = handle } u.1;
    kept = λ k listed other. elim (same_name name k.name) [
      | inl same ↦ absurd (other (sym same))
      | inr differs ↦ listed_get n ordered_new k (u.2 k.name differs.0 ∙ get_listed m ordered k listed)
    ];
    only = λ k listed. elim (same_name name k.name) [
      | inl same ↦
          let handles = some_handle handle k.handle (sym u.1 ∙ ap (tree.get name_cmp n) same ∙ get_listed n ordered_new k listed) in
          inl (λ i. record { name = same i; handle = handles i })
      | inr differs ↦ inr (listed_get m ordered k (sym (u.2 k.name differs.0) ∙ get_listed n ordered_new k listed), λ same. differs.1 (sym same))
    ];
    apart = apart_entries n.entries ordered_new;
  }

  pub forgets : Updates name_cmp m n name None → Forgets name (kids_of m.entries) (kids_of n.entries)
  forgets u = record {
    kept = λ k listed other. elim (same_name name k.name) [
      | inl same ↦ absurd (other (sym same))
      | inr differs ↦ listed_get n ordered_new k (u.2 k.name differs.0 ∙ get_listed m ordered k listed)
    ];
    only = λ k listed. elim (same_name name k.name) [
      | inl same ↦ let wrong : None ≡ Some k.handle = sym u.1 ∙ ap (tree.get name_cmp n) same ∙ get_listed n ordered_new k listed in absurd (cc)
      | inr differs ↦ (listed_get m ordered k (sym (u.2 k.name differs.0) ∙ get_listed n ordered_new k listed), λ same. differs.1 (sym same))
    ];
    apart = apart_entries n.entries ordered_new;
  }

-- what is put twice stands as it was put last
pub puts_twice : (name : Name) (first last : Handle) (a b c : List Kid) → Puts record { name = name; handle = first } a b → Puts record { name = name; handle = last } b c → Puts record { name = name; handle = last } a c
puts_twice name first last a b c one two = record {
  there = two.there;
  kept = λ k listed other. two.kept k (one.kept k listed other) other;
  only = λ k listed. elim (two.only k listed) [
    | inl this ↦ inl this
    | inr was ↦ elim (one.only k was.0) [ inl this ↦ absurd (was.1 (ap (λ (x : Kid). x.name) (sym this))) | inr older ↦ inr older ]
  ];
  apart = two.apart;
}
