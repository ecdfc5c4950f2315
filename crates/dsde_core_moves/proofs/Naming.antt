-- Names that are the same, and their order.
use Rattle.std.proofs.Common.{◌≡◌, ◌↔◌, Bool, true, false, IsTrue, refl, sym, ap, ◌∙◌}
use Rattle.std.specs.Ordering.{is_lt}
use Rattle.std.proofs.lemmas.Cmp.{tied_itself}
use Rattle.dsde_values.specs.declared.name.Name.{Name}
use Rattle.dsde_values.specs.Path.{name_cmp}
use Rattle.dsde_routes_wiring.specs.given.structure.Gather.{is_same_name}
use Rattle.dsde_core_flat.specs.lemmas.Names.{name-exact, names-total, same-itself}

-- no name stands before itself
pub not-before : (one other : Name) → one ≡ other → is_lt (name_cmp one other) ≡ false
not-before one other same = ap (λ (name : Name). is_lt (name_cmp one name)) (sym same) ∙ ap is_lt (tied_itself names-total one)

named-by : (one other : Name) (b t : Bool) → (IsTrue b ↔ (one ≡ other)) → is_same_name one other ≡ t → is_same_name one other ≡ b
named-by one other true t is found = ap (is_same_name one) (sym (is.0 refl)) ∙ same-itself one
named-by one other false false is found = found
named-by one other false true is found = absurd (let wrong : false ≡ true = is.1 (name-exact one other found) in cc)

-- a test that tells whether names are the same
pub named : (one other : Name) (b : Bool) → (IsTrue b ↔ (one ≡ other)) → is_same_name one other ≡ b
named one other b is = named-by one other b (is_same_name one other) is refl
