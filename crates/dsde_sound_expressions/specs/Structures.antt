-- Structures of a model: where the items of its networks stand, in its file and in its tables.
use Rattle.std.specs.Prelude.{◌≡◌, ℕ, ◌<◌, ◌≤◌, Bool, true, false, List, [], length, map, Some, Ok, slice_get}
use Rattle.std.specs.List.{flat_map, list_all}
use Rattle.dsde_language.specs.given.syntax.decl_Model.{Model}
use Rattle.dsde_language.specs.given.syntax.item_Item.{Item}
use Rattle.dsde_language.specs.given.values.types_Field.{Field}
use Rattle.dsde_language.specs.declared.known.Around.{Around}
use Rattle.dsde_language.specs.declared.known.Known.{Known}
use Rattle.dsde_language.specs.declared.signatures.Family.{Family}
use Rattle.dsde_language.specs.declared.signatures.ModelSig.{ModelSig}
use Rattle.dsde_language.specs.declared.signatures.Port.{Port}
use Rattle.dsde_language.specs.Blocks.{inner}
use Rattle.dsde_language.specs.Judge as rules
use Rattle.dsde_language.specs.RuleStructures.{enter, enter_all, item_walk}
use Rattle.dsde_language.specs.declared.make.Make.{Make}
use Rattle.dsde_language.specs.Items.{resolve_items}
use Rattle.dsde_language.specs.DeclaredStructures as nodes
use Rattle.dsde_language.specs.DeclaredModels.{whole_of, port_fields, Own, owns_of, param_slots}
use Rattle.dsde_language.specs.DeclaredStructures.{place_of_items, structures_of, vias_in, vias_of, first_via}
use Rattle.dsde_language.specs.NodeModels.{infos_of, resolved}
use Rattle.dsde_language.specs.Pieces.{Next, Piece}
use Rattle.dsde_language.specs.Names.{with_slots}
use Rattle.dsde_language.specs.Right.{IsRight}
use Rattle.dsde_language.specs.Scopes.{Stands, Sees}
use Rattle.dsde_sound_expressions.specs.Items.{is_proper_item}
use Rattle.dsde_sound_expressions.specs.Places.{KnownAt}
use Rattle.dsde_sound_expressions.specs.Bodies.{body_slots}

-- the items of a structure, from these numbers on
abbrev pub piece_of_items : Model → Own → List Item → Next → Piece (List Make)
piece_of_items model own items next =
    resolve_items (place_of_items (whole_of model) own.ports own.body items) items (body_slots model own) next

-- Ports as the rules know them are these fields, one way and the other.
pub record ArePorts (ports : List Port) (own_ins own_outs : List Field) : Type 0 where
  pub ins : nodes.directed false ports ≡ own_ins
  pub outs : nodes.directed true ports ≡ own_outs

-- The items of a network's structure in which nothing is wrong, over the slots of its body, with what
-- they are resolved to.
pub record IsStructure (model : Model) (own : Own) (items : List Item) (via : ℕ) (makes : List Make) : Type 0 where
  pub around : Around
  pub ports : List Port
  pub execs : List Port
  pub families : List Family
  pub scope : rules.Scope
  pub height : ℕ
  pub next : Next
  pub known : KnownAt model around.known
  pub plain : around.has_elapsed ≡ false
  pub partial : around.is_total ≡ false
  pub proper : list_all is_proper_item items ≡ true
  pub entered : enter_all (map (enter around.known) items) [] ≡ Ok families
  pub judged : inner (map (item_walk (record { around = around; ports = ports; execs = execs; families = families })) items) 0 scope ≡ Ok height
  pub low : height ≤ 512
  pub sees : Sees around.has_elapsed scope (body_slots model own)
  pub own_ports : ArePorts ports (port_fields (whole_of model) false own.ports) (port_fields (whole_of model) true own.ports)
  pub exec_ports : ArePorts execs (port_fields (whole_of model) false own.body.ports) (port_fields (whole_of model) true own.body.ports)
  pub nodes : Stands (resolved model).nodes next.node (piece_of_items model own items next).nodes
  pub vias : Stands (resolved model).vias next.via (piece_of_items model own items next).vias
  pub texts : Stands (vias_of model) next.via (flat_map vias_in items)
  pub at : next.via ≡ via
  pub made : makes ≡ (piece_of_items model own items next).own

-- The network with a number has a structure in which nothing is wrong.
pub record HasStructure (model : Model) (number : ℕ) (own : Own) : Type 0 where
  pub items : List Item
  pub found : slice_get (structures_of model.decls) number ≡ Some items
  pub makes : List Make
  pub coded : slice_get (resolved model).own.makes number ≡ Some makes
  pub is : IsStructure model own items (first_via model number) makes

abbrev pub StructuresStand : Type 0
StructuresStand =
    (model : Model) (number : ℕ) (own : Own) → IsRight model → slice_get (owns_of model.decls) number ≡ Some own → own.network ≡ true
    → HasStructure model number own

-- What is known of a model by its number is what its declaration says: its parameters' types, and its
-- ports in each direction, whose names are distinct.
pub record ModelIs (model : Model) (number : ℕ) (sig : ModelSig) : Type 0 where
  pub below : number < length (infos_of model)
  pub own : Own
  pub found : slice_get (owns_of model.decls) number ≡ Some own
  pub params : sig.params ≡ map (λ (field : Field). field.ty) (param_slots model own)
  pub ports : (out : Bool) → with_slots [] (nodes.directed out sig.ports) ≡ port_fields (whole_of model) out own.ports

-- The ports of one direction have distinct names, those of a model and those of its body.
pub record PortsApart (model : Model) (own : Own) : Type 0 where
  pub ports : (out : Bool) → with_slots [] (port_fields (whole_of model) out own.ports) ≡ port_fields (whole_of model) out own.ports
  pub body : (out : Bool) → with_slots [] (port_fields (whole_of model) out own.body.ports) ≡ port_fields (whole_of model) out own.body.ports

-- The models of a file are known at each place of it, and are what their declarations say.
pub record ModelsAre (model : Model) : Type 0 where
  pub known : (known : Known) → KnownAt model known → known.models ≡ (whole_of model).models
  pub models : (number : ℕ) (sig : ModelSig) → slice_get (whole_of model).models number ≡ Some sig → ModelIs model number sig
  pub apart : (number : ℕ) (own : Own) → slice_get (owns_of model.decls) number ≡ Some own → PortsApart model own

abbrev pub ModelsAreKnown : Type 0
ModelsAreKnown = (model : Model) → IsRight model → ModelsAre model
