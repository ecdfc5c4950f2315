-- The test of equality is true exactly at equal values.
use Rattle.std.proofs.Common.{◌≡◌, ◌==◌, Bool, true, false, ◌&&◌, List, [], ◌∷◌, map, Decides, refl, sym, ◌∙◌, ap, subst}
use Rattle.std.proofs.lemmas.Bool.Decides.{Decides-eqb, Decides-int_eq}
use Rattle.dsde_values.specs.declared.value.Value.{Value, Value-F, out-Value, roll-Value, fold-roll-Value, map-Value, ind-Value}
use Rattle.dsde_values.specs.declared.value.Value.TheOpen as layer
use Rattle.dsde_values.specs.declared.value.Value.TheViews.{roll-out-Value, out-roll-Value}
use Rattle.dsde_values_equality.specs.Same.{is_same_truth, pass_each, same_step, is_same_value, are_same_values}

-- a test that is true exactly at this value
abbrev IsExact : Value → Type 0
IsExact v = (w : Value) → Decides (is_same_value v w) (v ≡ w)

abbrev Known : Type 0
Known = (v : Value) × IsExact v

abbrev values_of : List Known → List Value
values_of list = map (λ (e : Known). e.0) list

both : {P Q R : Type 0} (x y : Bool) → Decides x P → Decides y Q → (P → Q → R) → (R → P) → (R → Q) → Decides (x && y) R
both true y first second make one other = (λ h. make (first.0 refl) (second.0 h), λ r. second.1 (other r))
both false y first second make one other = (λ h. absurd (let e : false ≡ true = h in cc), λ r. first.1 (one r))

exact-truth : (x y : Bool) → Decides (is_same_truth x y) (x ≡ y)
exact-truth true true = (λ h. refl, λ e. refl)
exact-truth true false = (λ h. cc, λ e. cc)
exact-truth false true = (λ h. cc, λ e. cc)
exact-truth false false = (λ h. refl, λ e. refl)

exact-each : (list : List Known) (others : List Value) → Decides (pass_each (map is_same_value (values_of list)) others) (values_of list ≡ others)
exact-each [] [] = (λ h. refl, λ e. refl)
exact-each [] (w ∷ others) = (λ h. absurd (let e : false ≡ true = h in cc), λ e. absurd (let f : [] ≡ w ∷ others = e in cc))
exact-each (v ∷ list) [] = (λ h. absurd (let e : false ≡ true = h in cc), λ e. absurd (let f : v.0 ∷ values_of list ≡ [] = e in cc))
exact-each (v ∷ list) (w ∷ others) =
    both (is_same_value v.0 w) (pass_each (map is_same_value (values_of list)) others) (v.1 w) (exact-each list others)
    (λ p q. cc) (λ e. let f : v.0 ∷ values_of list ≡ w ∷ others = e in cc) (λ e. let f : v.0 ∷ values_of list ≡ w ∷ others = e in cc)

abbrev opened : Value-F Known → Value-F Value
opened made = map-Value Known Value (λ e. e.0) made

abbrev tests_of : Value-F Known → Value-F (Value → Bool)
tests_of made = map-Value Value (Value → Bool) is_same_value (opened made)

exact-layer : (made : Value-F Known) (seen : Value-F Value) → Decides (same_step (tests_of made) seen) (opened made ≡ seen)
exact-layer (layer.Int a) (layer.Int b) = let d = Decides-int_eq a b in (λ h. ap layer.Int (d.0 h), λ e. d.1 (let f : layer.Int a ≡ layer.Int b = e in cc))
exact-layer (layer.Bool a) (layer.Bool b) = let d = exact-truth a b in (λ h. ap layer.Bool (d.0 h), λ e. d.1 (let f : layer.Bool a ≡ layer.Bool b = e in cc))
exact-layer (layer.Enum a m) (layer.Enum b n) =
    both (a == b) (m == n) (Decides-eqb a b) (Decides-eqb m n) (λ p q. cc)
    (λ e. let f : layer.Enum a m ≡ layer.Enum b n = e in cc) (λ e. let f : layer.Enum a m ≡ layer.Enum b n = e in cc)
exact-layer (layer.Rec a list) (layer.Rec b others) =
    both (a == b) (pass_each (map is_same_value (values_of list)) others) (Decides-eqb a b) (exact-each list others) (λ p q. cc)
    (λ e. let f : layer.Rec a (values_of list) ≡ layer.Rec b others = e in cc) (λ e. let f : layer.Rec a (values_of list) ≡ layer.Rec b others = e in cc)
exact-layer (layer.List list) (layer.List others) =
    let d = exact-each list others in (λ h. ap layer.List (d.0 h), λ e. d.1 (let f : layer.List (values_of list) ≡ layer.List others = e in cc))
exact-layer layer.Nothing layer.Nothing = (λ h. refl, λ e. refl)
exact-layer (layer.Some v) (layer.Some w) =
    let d = v.1 w in (λ h. ap layer.Some (d.0 h), λ e. d.1 (let f : layer.Some v.0 ≡ layer.Some w = e in cc))
exact-layer made seen = (λ h. cc, λ e. cc)

exact-roll : (made : Value-F Known) → IsExact (roll-Value (opened made))
unfolding is_same_value
exact-roll made w =
    let steps : is_same_value (roll-Value (opened made)) w ≡ same_step (tests_of made) (out-Value w) =
    ap (λ (test : Value → Bool). test w) (fold-roll-Value (Value → Bool) (λ tests other. same_step tests (out-Value other)) (opened made)) in
    let d = exact-layer made (out-Value w) in (
      λ h. ap roll-Value (d.0 (sym steps ∙ h)) ∙ roll-out-Value w,
      λ e. steps ∙ d.1 (sym (out-roll-Value (opened made)) ∙ ap out-Value e),
    )

pub exact-value : (v : Value) → IsExact v
exact-value = ind-Value IsExact (λ x y is. subst (λ (z : Value-F Value). IsExact (roll-Value z)) is (exact-roll y))

pub exact-values : (values others : List Value) → Decides (are_same_values values others) (values ≡ others)
exact-values [] [] = (λ h. refl, λ e. refl)
exact-values [] (w ∷ others) = (λ h. absurd (let e : false ≡ true = h in cc), λ e. absurd (let f : [] ≡ w ∷ others = e in cc))
exact-values (v ∷ values) [] = (λ h. absurd (let e : false ≡ true = h in cc), λ e. absurd (let f : v ∷ values ≡ [] = e in cc))
exact-values (v ∷ values) (w ∷ others) =
    both (is_same_value v w) (are_same_values values others) (exact-value v w) (exact-values values others)
    (λ p q. cc) (λ e. let f : v ∷ values ≡ w ∷ others = e in cc) (λ e. let f : v ∷ values ≡ w ∷ others = e in cc)
