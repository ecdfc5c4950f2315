-- What comes to a component, as variables.
use Rattle.std.proofs.Common.{◌≡◌, ℕ, ◌<◌, ◌^◌, pos, Bool, true, false, ◌&&◌, ◌||◌, List, [], ◌∷◌, ◌++◌, length, nat_lt, nat_le, refl, ◌∙◌, ap, arith}
use Rattle.std.specs.List.{list_all}
use Rattle.std.proofs.lemmas.Bool.{leb-true}
use Rattle.dsde_sim_tree.specs.given.syntax.decl_Model.{Model}
use Rattle.dsde_values.specs.declared.types.Field.{Field}
use Rattle.dsde_values.specs.declared.types.Ty.{Ty}
use Rattle.dsde_values.specs.declared.types.Ty.TheVariants as ty
use Rattle.dsde_values.specs.declared.types.Types.{Types}
use Rattle.dsde_values.specs.declared.value.Value.{Value}
use Rattle.dsde_values.specs.declared.value.Value.TheVariants as value
use Rattle.dsde_values.specs.Value.{has_type}
use Rattle.dsde_values.specs.When.{IsMoment}
use Rattle.dsde_sim_tree.specs.given.language.Names.{elapsed_name}
use Rattle.dsde_sim_tree.specs.given.language.DeclaredModels.{types_of, Own, body_ins}
use Rattle.dsde_sim_tree.specs.given.language.Statements.{list_fields, input_fields}
use Rattle.dsde_sim_tree.specs.given.language.Meaning.{Vars}
use Rattle.dsde_sim_tree.specs.given.language.Typed.{Typed, Fits, values_in}
use Rattle.dsde_sim_tree.specs.given.formalism.System.{Ports}
use Rattle.dsde_system.specs.Body.{vars_of, lists_of, input_vars, is_flooded}
use Rattle.dsde_system.specs.Fitting.{AreOf, Reach}
use Rattle.dsde_sound_names.specs.given.sound_expressions.lemmas_Values.{typed-int, typed-list}
use Rattle.dsde_sound_structures.proofs.Filling.{fits-append, values-append}

or-false : (a b : Bool) → (a || b) ≡ false → (a ≡ false) × (b ≡ false)
or-false true b h = cc
or-false false b h = (refl, h)

and-both : (a b : Bool) → a ≡ true → b ≡ true → (a && b) ≡ true
and-both a b h k = rw (h, k) refl

few-of : (n : ℕ) → nat_lt 65536 n ≡ false → nat_le n 65536 ≡ true
few-of n h = grind (arith, h)

below : (n : ℕ) → n < 2 ^ 63 → nat_lt n (2 ^ 63) ≡ true
below n h = grind (arith, h)

module _ (types : Types) where
  typed-moment : (number : ℕ) → IsMoment number → Typed types ty.Int (value.Int (pos number))
  typed-moment number moment = typed-int types (pos number) (below number moment)

  have-all : (t : Ty) (values : List Value) → AreOf types t values → list_all (λ v. has_type types v t) values ≡ true
  have-all t [] are = refl
  have-all t (own ∷ values) are = and-both (has_type types own t) (list_all (λ v. has_type types v t) values) are.0.has (have-all t values are.1)

  typed-values : (t : Ty) (values : List Value) → AreOf types t values → nat_lt 65536 (length values) ≡ false → Typed types (ty.List t) (value.List values)
  typed-values t values are few =
      typed-list types t values (record { have = have-all t values are; short = leb-true (length values) 65536 (few-of (length values) few) })

  pub lists-fit : (ins : List Field) (got : Ports) → Reach types ins got → is_flooded got ≡ false → Fits types (vars_of ins (lists_of got)) (list_fields ins)
  lists-fit [] [] reach few = tt
  lists-fit [] (values ∷ got) reach few = absurd reach
  lists-fit (port ∷ ins) [] reach few = absurd reach
  lists-fit (port ∷ ins) (values ∷ got) reach few =
      let both : (nat_lt 65536 (length values) ≡ false) × (is_flooded got ≡ false) = or-false (nat_lt 65536 (length values)) (is_flooded got) few in
      (refl, typed-values port.ty values reach.0 both.0, lists-fit ins got reach.1 both.1)

  pub lists-are : (ins : List Field) (got : Ports) → Reach types ins got → values_in (vars_of ins (lists_of got)) ≡ lists_of got
  lists-are [] [] reach = refl
  lists-are [] (values ∷ got) reach = absurd reach
  lists-are (port ∷ ins) [] reach = absurd reach
  lists-are (port ∷ ins) (values ∷ got) reach = ap (λ (l : List Value). value.List values ∷ l) (lists-are ins got reach.1)

module _ (model : Model) (own : Own) (elapsed : ℕ) (got : Ports) (moment : IsMoment elapsed) (reach : Reach (types_of model) (body_ins model own) got) where
  abbrev last : Vars
  last = record { name = elapsed_name; value = value.Int (pos elapsed) } ∷ []

  pub inputs-fit : is_flooded got ≡ false → Fits (types_of model) (input_vars model own elapsed got) (input_fields (body_ins model own))
  inputs-fit few =
      fits-append (types_of model) (vars_of (body_ins model own) (lists_of got)) last (list_fields (body_ins model own)) (record { name = elapsed_name; ty = ty.Int } ∷ [])
      (lists-fit (types_of model) (body_ins model own) got reach few) (refl, typed-moment (types_of model) elapsed moment, tt)

  pub inputs-are : values_in (input_vars model own elapsed got) ≡ lists_of got ++ value.Int (pos elapsed) ∷ []
  inputs-are =
      values-append (vars_of (body_ins model own) (lists_of got)) last
      ∙ ap (λ (l : List Value). l ++ value.Int (pos elapsed) ∷ []) (lists-are (types_of model) (body_ins model own) got reach)
