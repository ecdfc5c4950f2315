-- Items that are distinct stand at most once, and so a wiring whose networks have their components in order has each name once.
use Rattle.std.proofs.Common.{◌≡◌, ◌+◌, ◌≤◌, ◌==◌, ◌&&◌, Bool, true, false, if◌then◌else◌, List, [], ◌∷◌, map, refl, sym, ap, ◌∙◌, subst, arith, eqb-true, eq-eqb, rules}
use Rattle.std.specs.Cmp.{IsTotalOrder, IsEquivalence}
use Rattle.std.specs.Cmp.Rules.{comparing}
use Rattle.std.specs.List.{AllByRecursion, IsDistinct}
use Rattle.std.proofs.lemmas.Cmp.{eq_by_cmp_equiv}
use Rattle.std.proofs.lemmas.Map.Keys.{IsDistinct-head, IsDistinct-tail, IsDistinct-from_sorted}
use Rattle.dsde_bank.specs.declared.handle.Handle.{Handle}
use Rattle.dsde_values.specs.declared.name.Name.{Name}
use Rattle.dsde_values.specs.Path.{name_cmp}
use Rattle.dsde_routes_wiring.specs.given.structure.Gather.{is_same_name}
use Rattle.dsde_routes_wiring.specs.given.structure.Survival.{AreInOrder}
use Rattle.dsde_routes_wiring.specs.declared.wiring.Wiring.{Wiring}
use Rattle.dsde_routes_wiring.specs.Wired.{Shape, shapes, is_same_handle, IsWired, AreWired}
use Rattle.dsde_repair_walks.specs.Weights.{weight-same}
use Rattle.dsde_repair_walks.specs.Bounds.{count, counted, AreDistinct, OneEach, IsNamed, AreNamed}
use Rattle.dsde_repair_walks.proofs.Each.{each-weaker}

module _ {K : Type 0} {e : K → K → Bool} (laws : IsEquivalence e) where
  none-counted : (x y : K) → e x y ≡ true → (ys : List K) → AllByRecursion (λ z. e y z ≡ false) ys → count (e x) ys ≡ 0
  none-counted x y is [] none = refl
  none-counted x y is (z ∷ ys) none =
      ap (λ (b : Bool). (if b then 1 else 0) + count (e x) ys) (laws.congr x y z is ∙ none.0) ∙ omega (arith, none-counted x y is ys none.1)

  pub distinct-count : (xs : List K) → IsDistinct e xs → (x : K) → count (e x) xs ≤ 1
  distinct-count [] distinct x = omega arith
  distinct-count (y ∷ ys) distinct x = by (e x y) refl (distinct-count ys (IsDistinct-tail e y ys distinct) x) where
    by : (b : Bool) → e x y ≡ b → count (e x) ys ≤ 1 → (if b then 1 else 0) + count (e x) ys ≤ 1
    by true is others = let none = none-counted x y is ys (IsDistinct-head e y ys distinct) in omega arith
    by false is others = omega arith

pub total : IsTotalOrder name_cmp
total = search (comparing, rules)

pub same-names : IsEquivalence is_same_name
same-names = eq_by_cmp_equiv total

pub one-each : (names : List Name) → IsDistinct is_same_name names → OneEach names
one-each names distinct name =
    subst (λ n. n ≤ 1) (weight-same (counted (is_same_name name)) (counted (λ own. is_same_name own name)) (λ own. ap (λ (b : Bool). if b then 1 else 0) (same-names.symm name own)) names)
    (distinct-count same-names names distinct name)

pub ordered-distinct : (names : List Name) → AreInOrder names → IsDistinct is_same_name names
ordered-distinct names order = IsDistinct-from_sorted name_cmp names order

pub wired-named : (wiring : Wiring) → AreWired wiring → AreNamed wiring
wired-named wiring wired =
    each-weaker IsWired IsNamed (λ (net : Shape) (is : IsWired net). one-each (map (λ kid. kid.name) net.kids) (ordered-distinct (map (λ kid. kid.name) net.kids) is.0)) (shapes wiring) wired

-- handles
and-left : (a b : Bool) → (a && b) ≡ true → a ≡ true
and-left true b is = refl
and-left false b is = is

and-right : (a b : Bool) → (a && b) ≡ true → b ≡ true
and-right true b is = is
and-right false b is = absurd (let wrong : false ≡ true = is in cc)

same-handle-is : (one other : Handle) → is_same_handle one other ≡ true → one ≡ other
same-handle-is one other is =
    let births : one.birth ≡ other.birth = eqb-true one.birth other.birth (and-left (one.birth == other.birth) (one.slot == other.slot) is) in
    let slots : one.slot ≡ other.slot = eqb-true one.slot other.slot (and-right (one.birth == other.birth) (one.slot == other.slot) is) in
    λ i. record { birth = births i; slot = slots i }

same-handle-itself : (one : Handle) → is_same_handle one one ≡ true
same-handle-itself one = ap (λ (b : Bool). b && one.slot == one.slot) (eq-eqb one.birth one.birth refl) ∙ eq-eqb one.slot one.slot refl

pub same-handles : IsEquivalence is_same_handle
same-handles = record {
  refl = same-handle-itself;
  symm = λ one other. by one other (is_same_handle one other) (is_same_handle other one) refl refl;
  congr = λ one other third is. ap (λ (own : Handle). is_same_handle own third) (same-handle-is one other is);
}
  where
    flipped : (one other : Handle) → is_same_handle one other ≡ true → is_same_handle other one ≡ true
    flipped one other is = subst (λ (own : Handle). is_same_handle own one ≡ true) (same-handle-is one other is) (same-handle-itself one)

    by : (one other : Handle) (a b : Bool) → is_same_handle one other ≡ a → is_same_handle other one ≡ b → is_same_handle one other ≡ is_same_handle other one
    by one other true b p q = p ∙ sym (flipped one other p)
    by one other false true p q = absurd (let wrong : true ≡ false = sym (flipped other one q) ∙ p in cc)
    by one other false false p q = p ∙ sym q

pub distinct-handles : (handles : List Handle) → IsDistinct is_same_handle handles → AreDistinct handles
distinct-handles handles distinct = distinct-count same-handles handles distinct
