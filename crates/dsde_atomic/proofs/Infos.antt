-- What a model declares of its atomic models and networks, one by one.
use Rattle.std.proofs.Common.{◌≡◌, ◌<◌, ◌≤◌, ◌⊎◌, inl, inr, get_or, arith, ◌++◌, Bool, length, ◌∙◌, ℕ, true, false, if◌then◌else◌, List, [], ◌∷◌, map, refl, sym, ap, append_assoc, Some, None, Option, slice_get}
use Rattle.std.proofs.lemmas.List.{append-nil}
use Rattle.std.proofs.lemmas.Option.{slice_get-map, slice_get_cases}
use Rattle.std.specs.Option.{option_map, option_map_or}
use Rattle.dsde_language.specs.given.syntax.decl_Decl.{Decl}
use Rattle.dsde_language.specs.given.syntax.decl_Decl_TheVariants as decl
use Rattle.dsde_language.specs.given.syntax.decl_Model.{Model}
use Rattle.dsde_language.specs.given.syntax.decl_PortDecl.{PortDecl}
use Rattle.dsde_values.specs.declared.types.Field.{Field}
use Rattle.dsde_values.specs.declared.value.Value.{Value}
use Rattle.dsde_language.specs.declared.ids.ModelId.{ModelId}
use Rattle.dsde_system.specs.Program.{system, component_at, network_at}
use Rattle.dsde_language.specs.declared.known.Known.{Known}
use Rattle.dsde_language.specs.declared.code.Code.{Code}
use Rattle.dsde_language.specs.declared.info.Info.{Info}
use Rattle.dsde_language.specs.DeclaredModels.{whole_of, typed_fields, state_fields, port_fields, Own, owns_of}
use Rattle.dsde_language.specs.NodeModels.{infos_of, infos_from}
use Rattle.dsde_system.specs.given.sound_expressions.Bodies.{BodyStands}

-- what an atomic model or a network declares
abbrev pub info_by : Known → Own → Info
info_by known own = record {
  name = own.name.name;
  at = own.at;
  network = own.network;
  params = typed_fields known own.params;
  ins = port_fields known false (if own.network then own.ports else own.body.ports);
  outs = port_fields known true (if own.network then own.ports else own.body.ports);
  boss_ins = if own.network then port_fields known false own.body.ports else [];
  boss_outs = if own.network then port_fields known true own.body.ports else [];
  states = state_fields known own.body.states;
}

pub infos-by : (known : Known) (infos : List Info) (decls : List Decl) → infos_from known infos decls ≡ infos ++ map (info_by known) (owns_of decls)
infos-by known infos [] = sym (append-nil infos)
infos-by known infos (decl.Enum name variants ∷ decls) = infos-by known infos decls
infos-by known infos (decl.Rec name fields ∷ decls) = infos-by known infos decls
infos-by known infos (decl.Func name params result stmts value ∷ decls) = infos-by known infos decls
infos-by known infos (decl.Top at name args ∷ decls) = infos-by known infos decls
infos-by known infos (decl.Atomic at name params body ∷ decls) =
    let first : Own = record { name = name; at = at; network = false; params = params; ports = body.ports; start_at = at; body = body } in
    infos-by known (infos ++ info_by known first ∷ []) decls
    ∙ append_assoc infos (info_by known first ∷ []) (map (info_by known) (owns_of decls))
infos-by known infos (decl.Network at name params ports exec_at body items ∷ decls) =
    let first : Own = record { name = name; at = at; network = true; params = params; ports = ports; start_at = exec_at; body = body } in
    infos-by known (infos ++ info_by known first ∷ []) decls
    ∙ append_assoc infos (info_by known first ∷ []) (map (info_by known) (owns_of decls))

-- the declaration behind what is declared
found_by : (known : Known) (found : Option Own) (info : Info) → Some info ≡ option_map (info_by known) found → (own : Own) × (found ≡ Some own) × (info ≡ info_by known own)
found_by known None info at = absurd (cc at)
found_by known (Some own) info at = (own, refl, cc at)

pub info-of : (model : Model) (number : ℕ) (info : Info) → Some info ≡ slice_get (infos_of model) number →
    (own : Own) × (slice_get (owns_of model.decls) number ≡ Some own) × (info ≡ info_by (whole_of model) own)
info-of model number info at =
    found_by (whole_of model) (slice_get (owns_of model.decls) number) info
    (at ∙ ap (λ infos. slice_get infos number) (infos-by (whole_of model) [] model.decls)
    ∙ slice_get-map (info_by (whole_of model)) (owns_of model.decls) number)

-- the ports of the body
abbrev pub body_fields : Bool → List Field → List Field → List Field
body_fields network boss own = if network then boss else own

chosen : (known : Known) (out network : Bool) (own body : List PortDecl) →
    body_fields network (if network then port_fields known out body else []) (port_fields known out (if network then own else body)) ≡ port_fields known out body
chosen known out true own body = refl
chosen known out false own body = refl

-- a component has the in ports of its body
pub ins-at : (model : Model) (number : ModelId) (args : List Value) (info : Info) → Some info ≡ slice_get (infos_of model) number.0 →
    ((system model).component number args).ins ≡ length (body_fields info.network info.boss_ins info.ins)
unfolding system
ins-at model number args info at =
    let found = info-of model number.0 info at in
    ap (λ own. (component_at model own args).ins) found.1
    ∙ ap length (sym (chosen (whole_of model) false found.0.network found.0.ports found.0.body.ports))
    ∙ ap (λ (info : Info). length (body_fields info.network info.boss_ins info.ins)) (sym found.2)

-- a component has the out ports of its body
pub outs-at : (model : Model) (number : ModelId) (args : List Value) (info : Info) → Some info ≡ slice_get (infos_of model) number.0 →
    ((system model).component number args).outs ≡ length (body_fields info.network info.boss_outs info.outs)
unfolding system
outs-at model number args info at =
    let found = info-of model number.0 info at in
    ap (λ own. (component_at model own args).outs) found.1
    ∙ ap length (sym (chosen (whole_of model) true found.0.network found.0.ports found.0.body.ports))
    ∙ ap (λ (info : Info). length (body_fields info.network info.boss_outs info.outs)) (sym found.2)

module _ (model : Model) (number : ModelId) (info : Info) (at : Some info ≡ slice_get (infos_of model) number.0) where
  -- what is said of a declaration is said of the one with the number
  pub network-is : (system model).is_network number ≡ info.network
  unfolding system
  network-is =
      let found = info-of model number.0 info at in
      ap (λ (own : Option Own). option_map_or (λ (own : Own). own.network) own false) found.1 ∙ ap (λ (info : Info). info.network) (sym found.2)

  pub network-place : (args : List Value) → ((system model).network number args).at ≡ info.at
  unfolding system
  network-place args =
      let found = info-of model number.0 info at in
      ap (λ own. (network_at model own number.0 args).at) found.1 ∙ ap (λ (info : Info). info.at) (sym found.2)

  own-ports : (out network : Bool) (own : Own) → network ≡ true →
      length (port_fields (whole_of model) out own.ports) ≡ length (port_fields (whole_of model) out (if network then own.ports else own.body.ports))
  own-ports out network own is = ap (λ (b : Bool). length (port_fields (whole_of model) out (if b then own.ports else own.body.ports))) (sym is)

  pub network-ins : (args : List Value) → (system model).is_network number ≡ true → ((system model).network number args).ins ≡ length info.ins
  unfolding system
  network-ins args is =
      let found = info-of model number.0 info at in
      let is_net : found.0.network ≡ true = ap (λ (info : Info). info.network) (sym found.2) ∙ sym network-is ∙ is in
      ap (λ own. (network_at model own number.0 args).ins) found.1 ∙ own-ports false found.0.network found.0 is_net ∙ ap (λ (info : Info). length info.ins) (sym found.2)

  pub network-outs : (args : List Value) → (system model).is_network number ≡ true → ((system model).network number args).outs ≡ length info.outs
  unfolding system
  network-outs args is =
      let found = info-of model number.0 info at in
      let is_net : found.0.network ≡ true = ap (λ (info : Info). info.network) (sym found.2) ∙ sym network-is ∙ is in
      ap (λ own. (network_at model own number.0 args).outs) found.1 ∙ own-ports true found.0.network found.0 is_net ∙ ap (λ (info : Info). length info.outs) (sym found.2)

-- a number below how many there are is that of a declaration
own-there : (model : Model) (number : ℕ) → number < length (infos_of model)
    → ((info : Info) × (number < length (infos_of model)) × (slice_get (infos_of model) number ≡ Some info) × (get_or (infos_of model) number info ≡ info))
    ⊎ ((length (infos_of model) ≤ number) × (slice_get (infos_of model) number ≡ None))
    → (own : Own) × (slice_get (owns_of model.decls) number ≡ Some own)
own-there model number below (inl there) = let found = info-of model number there.0 (sym there.2) in (found.0, found.1)
own-there model number below (inr past) = absurd (omega (arith, below, past.0))

own-below : (model : Model) (number : ℕ) → number < length (infos_of model) → (own : Own) × (slice_get (owns_of model.decls) number ≡ Some own)
own-below model number below = own-there model number below (slice_get_cases (infos_of model) number).1

pub component-place : (model : Model) (number : ModelId) (args : List Value) → number.0 < length (infos_of model) → (code : Code)
    → ((own : Own) → slice_get (owns_of model.decls) number.0 ≡ Some own → BodyStands model own code) → ((system model).component number args).at ≡ code.start_at
unfolding system
component-place model number args below code stands =
    let found = own-below model number.0 below in
    ap (λ own. (component_at model own args).at) found.1 ∙ sym (stands found.0 found.1).start_at
