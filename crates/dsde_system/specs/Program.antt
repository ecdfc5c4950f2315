-- The meaning of a program: a tuple for each of its models and arguments.
use Rattle.std.specs.Prelude.{ℕ, true, false, List, [], ◌∷◌, ◌++◌, length, Option, Some, None, Ok, Err, slice_get, unwrap_or}
use Rattle.std.specs.Option.{option_map_or}
use Rattle.dsde_sound_expressions.specs.given.syntax.expr_Expr.{Expr}
use Rattle.dsde_sound_expressions.specs.given.syntax.decl_Model.{Model}
use Rattle.dsde_sound_expressions.specs.given.syntax.item_Item.{Item}
use Rattle.dsde_sound_expressions.specs.given.syntax.item_ViaKey.{ViaKey}
use Rattle.dsde_sound_expressions.specs.given.syntax.item_ViaPart.{ViaPart}
use Rattle.dsde_executive_plans.specs.given.values.value_Value.{Value}
use Rattle.dsde_sound_expressions.specs.given.faults.kind_Site_TheVariants as site
use Rattle.dsde_sound_expressions.specs.given.faults.end_LeafEnd_TheVariants as leaf_end
use Rattle.dsde_sound_expressions.specs.given.language.DeclaredModels.{top_number, whole_of, port_fields, Own, owns_of, top_in, body_ins, body_outs}
use Rattle.dsde_sound_expressions.specs.given.language.DeclaredStructures.{place_of_items, structures_of, vias_of, first_via}
use Rattle.dsde_executive_plans.specs.given.structure.plan_Plan.{Plan}
use Rattle.dsde_executive_plans.specs.given.structure.plan_Via.{Via}
use Rattle.dsde_sound_expressions.specs.given.language.Functions.{functions_of, mean_of}
use Rattle.dsde_sound_expressions.specs.given.language.Meaning.{Vars}
use Rattle.dsde_sound_expressions.specs.given.language.Outcome.{Outcome, ◌>>=◌, option_of, present}
use Rattle.dsde_executive_plans.specs.Layout as layout
use Rattle.dsde_formalism.specs.System.{State, Component, Network, System, Chosen}
use Rattle.dsde_system.specs.Body.{at_site, inits_from, vars_of, body_vars, due, sends, internal, external, confluent}
use Rattle.dsde_sound_expressions.specs.given.language.DeclaredModels as bodies

-- an atomic model with arguments, or the executive of a network
abbrev pub component : Model → Own → List Value → Component
component model own args = record {
  at = own.start_at;
  ins = length (body_ins model own);
  outs = length (body_outs model own);
  init = at_site site.Init (inits_from model [] own.body.states (vars_of (bodies.param_slots model own) args));
  advance = λ state time. at_site site.Advance (due model own args state time);
  output = λ state. at_site site.Output (sends model own args state);
  internal = λ state. at_site site.Internal (internal model own args state);
  external = λ state elapsed got. at_site site.External (external model own args state elapsed got);
  confluent = confluent model own args;
}

-- nothing that a model has
abbrev pub no_component : Component
no_component = record {
  at = 0;
  ins = 0;
  outs = 0;
  init = Err leaf_end.Memory;
  advance = λ state time. Err leaf_end.Memory;
  output = λ state. Err leaf_end.Memory;
  internal = λ state. Err leaf_end.Memory;
  external = λ state elapsed got. Err leaf_end.Memory;
  confluent = λ state elapsed got. Err leaf_end.Memory;
}

abbrev pub component_at : Model → Option Own → List Value → Component
component_at model found args = elim found [ None ↦ no_component | Some own ↦ component model own args ]

-- the plan of the structure of a network with this number, for a state of its executive
abbrev pub plan_at : Model → Own → ℕ → List Item → List Value → State → Outcome Plan
plan_at model own number items args state =
    layout.structure (place_of_items (whole_of model) own.ports own.body items) (functions_of model) items (first_via model number)
    (body_vars model own args state)

-- a network with arguments
abbrev pub network : Model → Own → ℕ → List Item → List Value → Network
network model own number items args = record {
  at = own.at;
  ins = length (port_fields (whole_of model) false own.ports);
  outs = length (port_fields (whole_of model) true own.ports);
  structure = λ state. at_site site.Structure (plan_at model own number items args state);
}

-- nothing that a model has
abbrev pub no_network : Network
no_network = record { at = 0; ins = 0; outs = 0; structure = λ state. Err leaf_end.Memory }

abbrev pub network_at : Model → Option Own → ℕ → List Value → Network
network_at model found number args = elim found [
  | None ↦ no_network
  | Some own ↦ network model own number (unwrap_or (slice_get (structures_of model.decls) number) []) args
]

-- what a translation sees: its value, and the key of its link, if it has one
abbrev pub key_vars : Option ViaKey → Option Value → Vars
key_vars (Some key) (Some own) = record { name = key.name.name; value = own } ∷ []
key_vars _ _ = []

abbrev pub via_vars : ViaPart → Option Value → Value → Vars
via_vars via key own = record { name = via.value.name; value = own } ∷ key_vars via.key key

-- what a value of type option holds, if it holds something
abbrev pub held_in : Outcome Value → Option Value
held_in (Ok own) = elim (option_of own) [ Ok held ↦ held | Err _ ↦ None ]
held_in (Err _) = None

-- what the translation with a number makes of a value
abbrev pub translated : Model → Via → Value → Option Value
translated model via own = elim (slice_get (vias_of model) via.id.0) [
  | None ↦ None
  | Some part ↦ held_in (mean_of model part.body (via_vars part via.key own))
]

-- the values of expressions that see no name, behind those that are done
abbrev pub args_from : Model → List Value → List Expr → Outcome (List Value)
args_from model done [] = Ok done
args_from model done (arg ∷ args) = mean_of model arg [] >>= (λ own. args_from model (done ++ own ∷ []) args)

-- the model that `top` names, with its arguments
abbrev pub top_of : Model → Outcome Chosen
top_of model =
    present (top_in model.decls) >>= (λ top.
    args_from model [] top.args >>= (λ args. Ok (record { model = top_number model; args = args })))

-- what a program means
unfoldable pub system : Model → System
system model = record {
  is_network = λ number. option_map_or (λ (own : Own). own.network) (slice_get (owns_of model.decls) number.0) false;
  component = λ number args. component_at model (slice_get (owns_of model.decls) number.0) args;
  network = λ number args. network_at model (slice_get (owns_of model.decls) number.0) number.0 args;
  translate = translated model;
  top = at_site site.Top (top_of model);
}
