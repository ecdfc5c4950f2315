-- Ports of components and networks, and what comes to a part by them.
use Rattle.std.proofs.Common.{◌≡◌, ℕ, true, false, List, [], ◌∷◌, length, Option, Some, slice_get, refl, sym, ap, subst, ◌∙◌, zero, suc}
use Rattle.std.specs.Option.{option_map_or}
use Rattle.dsde_syntax.specs.declared.decl.Decl.{Decl}
use Rattle.dsde_syntax.specs.declared.decl.Decl.TheVariants as decl
use Rattle.dsde_syntax.specs.declared.decl.Model.{Model}
use Rattle.dsde_values.specs.declared.types.Field.{Field}
use Rattle.dsde_values.specs.declared.value.Value.{Value}
use Rattle.dsde_language.specs.declared.ids.ModelId.{ModelId}
use Rattle.dsde_language.specs.DeclaredModels.{types_of, Own, owns_of}
use Rattle.dsde_formalism.specs.declared.leaf.Leaf.{Leaf}
use Rattle.dsde_formalism.specs.System.{Ports}
use Rattle.dsde_sim_starting.specs.given.system.Program.{system, component_at, network_at}
use Rattle.dsde_sim_starting.specs.given.system.Fitting.{FitsInputs, Reach}
use Rattle.dsde_sim_starting.specs.given.system.Plans.{ways, body_ways}
use Rattle.dsde_sim_starting.specs.Fitting.{FitsAtomic}
use Rattle.dsde_sim_starting.specs.lemmas.Stood.{plain-ins}

-- Values come to a part of this model: a list for each of its in ports, of its type.
pub record Receives (model : Model) (number : ℕ) (got : Ports) : Type 0 where
  pub own : Own
  pub found : slice_get (owns_of model.decls) number ≡ Some own
  pub reach : Reach (types_of model) (ways model own false) got

-- what comes to an atomic component is what comes to its body
pub inputs-of : (model : Model) (leaf : Leaf) (got : Ports) → FitsAtomic model leaf → Receives model leaf.model.0 got → FitsInputs model leaf.model.0 got
inputs-of model leaf got fits has = record {
  own = has.own;
  found = has.found;
  reach = subst (λ (ports : List Field). Reach (types_of model) ports got) (plain-ins model leaf.model has.own has.found fits.atomic) has.reach;
}

own-first : (a b : Own) → (let one : Option Own = Some a in one ≡ Some b) → a ≡ b
own-first a b e = cc

-- an atomic model's ports are those of its body
plain-at : (decls : List Decl) (number : ℕ) (own : Own) → slice_get (owns_of decls) number ≡ Some own → own.network ≡ false → own.ports ≡ own.body.ports
plain-at [] number own found atomic = absurd (cc found)
plain-at (decl.Enum name variants ∷ decls) number own found atomic = plain-at decls number own found atomic
plain-at (decl.Rec name fields ∷ decls) number own found atomic = plain-at decls number own found atomic
plain-at (decl.Func name params result stmts value ∷ decls) number own found atomic = plain-at decls number own found atomic
plain-at (decl.Top at name args ∷ decls) number own found atomic = plain-at decls number own found atomic
plain-at (decl.Atomic at name params body ∷ decls) zero own found atomic =
    let first : Own = record { name = name; at = at; network = false; params = params; ports = body.ports; start_at = at; body = body } in
    subst (λ (o : Own). o.ports ≡ o.body.ports) (own-first first own found) refl
plain-at (decl.Atomic at name params body ∷ decls) (suc number) own found atomic = plain-at decls number own found atomic
plain-at (decl.Network at name params ports exec_at body items ∷ decls) zero own found atomic =
    let first : Own = record { name = name; at = at; network = true; params = params; ports = ports; start_at = exec_at; body = body } in
    let is : true ≡ false = ap (λ (o : Own). o.network) (own-first first own found) ∙ atomic in
    absurd (cc is)
plain-at (decl.Network at name params ports exec_at body items ∷ decls) (suc number) own found atomic = plain-at decls number own found atomic

module _ (model : Model) (number : ModelId) (own : Own) (found : slice_get (owns_of model.decls) number.0 ≡ Some own) where
  network-is : (system model).is_network number ≡ own.network
  unfolding system
  network-is = ap (λ (one : Option Own). option_map_or (λ (own : Own). own.network) one false) found

  pub plain : (system model).is_network number ≡ false → own.ports ≡ own.body.ports
  plain atomic = plain-at model.decls number.0 own found (sym network-is ∙ atomic)

  -- a component sends by the out ports of its body, and a network by its own
  pub component-outs : (args : List Value) → ((system model).component number args).outs ≡ length (body_ways model own true)
  unfolding system
  component-outs args = ap (λ (one : Option Own). (component_at model one args).outs) found

  pub network-outs : (args : List Value) → ((system model).network number args).outs ≡ length (ways model own true)
  unfolding system
  network-outs args = ap (λ (one : Option Own). (network_at model one number.0 args).outs) found
