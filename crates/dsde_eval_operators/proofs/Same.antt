-- The test of two values says exactly where they are equal.
use Rattle.std.proofs.Common.{◌≡◌, ◌==◌, ℕ, ℤ, pos, negsuc, Bool, true, false, ◌&&◌, List, [], ◌∷◌, map, refl, sym, ◌∙◌, ap, subst, arith, leb, eqb}
use Rattle.std.specs.Prelude.{int_le}
use Rattle.std.proofs.lemmas.Bool.{false≢true}
use borrow.Author.Tests.{leb-true, le-leb, eqb-true, eq-eqb}
use Rattle.dsde_values.specs.declared.value.Value.{Value, Value-F, out-Value, roll-Value, roll-out-Value, out-roll-Value, fold-roll-Value, map-Value, ind-Value}
use Rattle.dsde_values.specs.declared.value.Value.TheOpen as layer
use Rattle.dsde_language.specs.MeaningOperators.{same_parts, same_truth, same_step, same_value}

both : (a b : Bool) → a && b ≡ true → (a ≡ true) × (b ≡ true)
both true b h = (refl, h)
both false b h = absurd (false≢true h)

number_is : (number other : ℤ) → int_le number other && int_le other number ≡ true → number ≡ other
number_is (pos n) (pos m) h = let le = both (leb n m) (leb m n) h in ap pos (omega (arith, leb-true n m le.0, leb-true m n le.1))
number_is (pos n) (negsuc m) h = absurd (false≢true h)
number_is (negsuc n) (pos m) h = absurd (false≢true h)
number_is (negsuc n) (negsuc m) h = let le = both (leb m n) (leb n m) h in ap negsuc (omega (arith, leb-true m n le.0, leb-true n m le.1))

own_least : (n : ℕ) → leb n n ≡ true
own_least n = le-leb n n (omega arith)

own_number : (number : ℤ) → int_le number number && int_le number number ≡ true
own_number (pos n) = ap (λ (b : Bool). b && b) (own_least n)
own_number (negsuc n) = ap (λ (b : Bool). b && b) (own_least n)

truth_is : (truth other : Bool) → same_truth truth other ≡ true → truth ≡ other
truth_is true true h = refl
truth_is true false h = absurd (false≢true h)
truth_is false true h = absurd (false≢true h)
truth_is false false h = refl

own_truth : (truth : Bool) → same_truth truth truth ≡ true
own_truth true = refl
own_truth false = refl

-- a layer of a value, with what each part answers
abbrev answers : Value-F Value → Value-F (Value → Bool)
answers made = map-Value Value (Value → Bool) same_value made

-- the test, by the layers of both values
by_layers : (v w : Value) (made seen : Value-F Value) → roll-Value made ≡ v → out-Value w ≡ seen → same_value v w ≡ same_step (answers made) seen
unfolding same_value
by_layers v w made seen rolls outs =
    ap (λ (u : Value). same_value u w) (sym rolls)
    ∙ ap (λ (test : Value → Bool). test w) (fold-roll-Value (Value → Bool) (λ parts other. same_step parts (out-Value other)) made)
    ∙ ap (same_step (answers made)) outs

-- The test says of a value, exactly, whether it is another.
record IsTested (v : Value) : Type 0 where
  own : same_value v v ≡ true
  only : (w : Value) → same_value v w ≡ true → v ≡ w

abbrev Known : Type 0
Known = (v : Value) × IsTested v

abbrev of_known : List Known → List Value
of_known list = map (λ (e : Known). e.0) list

own_parts : (list : List Known) → same_parts (map same_value (of_known list)) (of_known list) ≡ true
own_parts [] = refl
own_parts (e ∷ list) = ap (λ (b : Bool). b && same_parts (map same_value (of_known list)) (of_known list)) e.1.own ∙ own_parts list

parts_are : (list : List Known) (others : List Value) → same_parts (map same_value (of_known list)) others ≡ true → of_known list ≡ others
parts_are [] [] h = refl
parts_are [] (other ∷ others) h = absurd (false≢true h)
parts_are (e ∷ list) [] h = absurd (false≢true h)
parts_are (e ∷ list) (other ∷ others) h =
    let parts = both (same_value e.0 other) (same_parts (map same_value (of_known list)) others) h in
    ap (λ (first : Value). first ∷ of_known list) (e.1.only other parts.0) ∙ ap (λ (rest : List Value). other ∷ rest) (parts_are list others parts.1)

abbrev layer_of : Value-F Known → Value-F Value
layer_of parts = map-Value Known Value (λ e. e.0) parts

own_layer : (parts : Value-F Known) → same_step (answers (layer_of parts)) (layer_of parts) ≡ true
own_layer (layer.Int number) = own_number number
own_layer (layer.Bool truth) = own_truth truth
own_layer (layer.Enum number variant) = ap (λ (b : Bool). b && eqb variant variant) (eq-eqb number number refl) ∙ eq-eqb variant variant refl
own_layer (layer.Rec number list) = ap (λ (b : Bool). b && same_parts (map same_value (of_known list)) (of_known list)) (eq-eqb number number refl) ∙ own_parts list
own_layer (layer.List list) = own_parts list
own_layer layer.Nothing = refl
own_layer (layer.Some e) = e.1.own

layer_is : (parts : Value-F Known) (seen : Value-F Value) → same_step (answers (layer_of parts)) seen ≡ true → layer_of parts ≡ seen
layer_is (layer.Int number) (layer.Int other) h = ap layer.Int (number_is number other h)
layer_is (layer.Bool truth) (layer.Bool other) h = ap layer.Bool (truth_is truth other h)
layer_is (layer.Enum number variant) (layer.Enum own other) h =
    let parts = both (number == own) (variant == other) h in
    ap (λ (n : ℕ). layer.Enum n variant) (eqb-true number own parts.0) ∙ ap (λ (n : ℕ). layer.Enum own n) (eqb-true variant other parts.1)
layer_is (layer.Rec number list) (layer.Rec own others) h =
    let parts = both (number == own) (same_parts (map same_value (of_known list)) others) h in
    ap (λ (n : ℕ). layer.Rec n (of_known list)) (eqb-true number own parts.0) ∙ ap (λ (items : List Value). layer.Rec own items) (parts_are list others parts.1)
layer_is (layer.List list) (layer.List others) h = ap layer.List (parts_are list others h)
layer_is layer.Nothing layer.Nothing h = refl
layer_is (layer.Some e) (layer.Some other) h = ap layer.Some (e.1.only other h)
layer_is _ _ h = absurd (false≢true h)

tested_layer : (parts : Value-F Known) → IsTested (roll-Value (layer_of parts))
tested_layer parts = record {
  own = by_layers (roll-Value (layer_of parts)) (roll-Value (layer_of parts)) (layer_of parts) (layer_of parts) refl (out-roll-Value (layer_of parts)) ∙ own_layer parts;
  only = λ w h. ap roll-Value (layer_is parts (out-Value w) (sym (by_layers (roll-Value (layer_of parts)) w (layer_of parts) (out-Value w) refl refl) ∙ h)) ∙ roll-out-Value w;
}

tested : (v : Value) → IsTested v
tested = ind-Value IsTested (λ made parts is. subst (λ (m : Value-F Value). IsTested (roll-Value m)) is (tested_layer parts))

-- The test says of two values whether they are equal.
pub same-true : (v w : Value) → same_value v w ≡ true → v ≡ w
same-true v w h = (tested v).only w h

pub true-same : (v w : Value) → v ≡ w → same_value v w ≡ true
true-same v w e = subst (λ (u : Value). same_value v u ≡ true) e (tested v).own

pub same-is : (answer : Bool) (v w : Value) → (answer ≡ true → v ≡ w) → (v ≡ w → answer ≡ true) → answer ≡ same_value v w
same-is true v w is back = sym (true-same v w (is refl))
same-is false v w is back = refused (same_value v w) (λ h. false≢true (back (same-true v w h)))
  where
    refused : (found : Bool) → ¬ (found ≡ true) → false ≡ found
    refused true none = absurd (none refl)
    refused false none = refl
