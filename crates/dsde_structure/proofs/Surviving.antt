-- One entry survives as another exactly where both have one name and one model, and the other is soft
-- or has equal arguments.
use Rattle.std.proofs.Common.{◌≡◌, ◌⊎◌, ◌==◌, Bool, true, false, ◌&&◌, ◌||◌, List, refl, ap, inl, inr}
use Rattle.std.specs.Prelude.{◌↔◌}
use Rattle.std.specs.declared.cmp.Ordering.TheVariants.{Equal}
use Rattle.std.specs.Cmp.{Equal-is}
use borrow.Author.Tests.{eqb-true, eq-eqb}
use Rattle.dsde_values.specs.declared.name.Name.{Name}
use Rattle.dsde_values.specs.declared.value.Value.{Value}
use Rattle.dsde_values.specs.Path.{name_cmp}
use Rattle.dsde_language.specs.declared.ids.ModelId.{ModelId}
use Rattle.dsde_values_equality.specs.Same.{are_same_values}
use Rattle.dsde_structure.specs.Gather.{is_same_name}
use Rattle.dsde_structure.specs.declared.plan.Entry.{Entry}
use Rattle.std.specs.List.{list_any, Contains}
use Rattle.dsde_structure.specs.Survival.{survives, StaysAs}
use Rattle.dsde_structure.proofs.Splitting.{among-from, contains-from, any-among, among-any}

three : (x y z : Bool) → (x && y && z) ≡ true → (x ≡ true) × (y ≡ true) × (z ≡ true)
three true true true h = (refl, refl, refl)
three true true false h = absurd (let e : false ≡ true = h in cc)
three true false z h = absurd (let e : false ≡ true = h in cc)
three false y z h = absurd (let e : false ≡ true = h in cc)

one-of : (x y : Bool) → (x || y) ≡ true → (x ≡ true) ⊎ (y ≡ true)
one-of true y h = inl refl
one-of false y h = inr h

or-from : (x y : Bool) → (x ≡ true) ⊎ (y ≡ true) → (x || y) ≡ true
or-from true y either = refl
or-from false y (inl h) = absurd (let e : false ≡ true = h in cc)
or-from false y (inr h) = h

module _ (exact_names : (name other : Name) → (name_cmp name other ≡ Equal) ↔ (name ≡ other)) (exact_values : (values others : List Value) → (are_same_values values others ≡ true) ↔ (values ≡ others)) where
  stays-from-survives : (old new : Entry) → survives old new ≡ true → StaysAs old new
  stays-from-survives old new h =
      let parts = three (is_same_name old.name new.name) (old.model.0 == new.model.0) (new.soft || are_same_values old.args new.args) h in
      let name : old.name ≡ new.name = (exact_names old.name new.name).0 ((Equal-is (name_cmp old.name new.name)).0 parts.0) in
      let number : old.model.0 ≡ new.model.0 = eqb-true old.model.0 new.model.0 parts.1 in
      let model : old.model ≡ new.model = λ i. record { 0 = number i } in (
        name,
        model,
        elim (one-of new.soft (are_same_values old.args new.args) parts.2) [
          | inl soft ↦ inl soft
          | inr same ↦ inr ((exact_values old.args new.args).0 same)
        ],
      )

  survives-from-stays : (old new : Entry) → StaysAs old new → survives old new ≡ true
  survives-from-stays old new stays =
      let name : is_same_name old.name new.name ≡ true = (Equal-is (name_cmp old.name new.name)).1 ((exact_names old.name new.name).1 stays.0) in
      let model : (old.model.0 == new.model.0) ≡ true = eq-eqb old.model.0 new.model.0 (ap (λ (own : ModelId). own.0) stays.1) in
      let free : (new.soft || are_same_values old.args new.args) ≡ true = or-from new.soft (are_same_values old.args new.args) (elim stays.2 [
        | inl soft ↦ inl soft
        | inr same ↦ inr ((exact_values old.args new.args).1 same)
      ]) in
      rw (name, model, free) refl

  pub survives-exactly : (old new : Entry) → (survives old new ≡ true) ↔ StaysAs old new
  survives-exactly old new = (stays-from-survives old new, survives-from-stays old new)

  pub survives-found : (old : Entry) (news : List Entry) → (list_any (survives old) news ≡ true) ↔ ((new : Entry) × Contains news new × StaysAs old new)
  survives-found old news = (
    λ any. let found = any-among (survives old) news any in
        (found.0, contains-from news found.0 found.1, stays-from-survives old found.0 found.2),
    λ there. among-any (survives old) there.0 news (among-from news there.0 there.1) (survives-from-stays old there.0 there.2),
  )
