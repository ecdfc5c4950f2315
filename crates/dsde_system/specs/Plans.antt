-- What fits a network: its plans, and what its links carry from.
use Rattle.std.specs.Prelude.{◌≡◌, ℕ, Bool, true, false, not, is_some, List, [], ◌∷◌, Option, Some, None, slice_get}
use Rattle.std.specs.List.{AllByRecursion, Contains}
use Rattle.dsde_executive_plans.specs.given.values.Path.{EXEC}
use Rattle.dsde_sound_expressions.specs.given.syntax.decl_Model.{Model}
use Rattle.dsde_sound_expressions.specs.given.syntax.item_ViaKey.{ViaKey}
use Rattle.dsde_sound_expressions.specs.given.syntax.item_ViaPart.{ViaPart}
use Rattle.dsde_executive_plans.specs.given.values.name_Name.{Name}
use Rattle.dsde_executive_plans.specs.given.values.types_Field.{Field}
use Rattle.dsde_executive_plans.specs.given.values.types_Ty.{Ty}
use Rattle.dsde_executive_plans.specs.given.values.types_Types.{Types}
use Rattle.dsde_executive_plans.specs.given.values.value_Value.{Value}
use Rattle.dsde_sound_expressions.specs.given.language.DeclaredModels.{whole_of, types_of, port_fields, Own, owns_of}
use Rattle.dsde_executive_plans.specs.given.structure.plan_End.{End}
use Rattle.dsde_executive_plans.specs.given.structure.plan_Entry.{Entry}
use Rattle.dsde_executive_plans.specs.given.structure.plan_Link.{Link}
use Rattle.dsde_executive_plans.specs.given.structure.plan_Part.{Part}
use Rattle.dsde_executive_plans.specs.given.structure.plan_Part_TheVariants as part
use Rattle.dsde_executive_plans.specs.given.structure.plan_Plan.{Plan}
use Rattle.dsde_executive_plans.specs.given.structure.plan_Via.{Via}
use Rattle.dsde_executive_plans.specs.given.structure.sources_Given.{Given}
use Rattle.dsde_executive_plans.specs.given.structure.sources_Sources.{Sources}
use Rattle.dsde_executive_plans.specs.given.structure.Gather.{Ports}
use Rattle.dsde_executive_plans.specs.given.structure.Gather.{is_same_name}
use Rattle.dsde_executive_plans.specs.given.structure.Survival.{IsInOrder}
use Rattle.dsde_sound_expressions.specs.given.language.Typed.{Typed}
use Rattle.dsde_sound_expressions.specs.given.language.DeclaredStructures.{vias_of}
use Rattle.dsde_sound_expressions.specs.Conditions.{IsVia}
use Rattle.dsde_system.specs.Fitting.{AreOf, FitsArgs}

-- the out ports or the in ports of a model, as those see them that link to it, and those of its body
abbrev pub ways : Model → Own → Bool → List Field
ways model own out = port_fields (whole_of model) out own.ports

abbrev pub body_ways : Model → Own → Bool → List Field
body_ways model own out = port_fields (whole_of model) out own.body.ports

-- The port with a number has this type.
pub record HasPort (ports : List Field) (port : ℕ) (ty : Ty) : Type 0 where
  pub field : Field
  pub found : slice_get ports port ≡ Some field
  pub is : field.ty ≡ ty

-- A component of this name has these ports in a direction.
pub record HasKid (model : Model) (entries : List Entry) (name : Name) (out : Bool) (ports : List Field) : Type 0 where
  pub entry : Entry
  pub among : Contains entries entry
  pub named : entry.name ≡ name
  pub own : Own
  pub found : slice_get (owns_of model.decls) entry.model.0 ≡ Some own
  pub are : ways model own out ≡ ports

-- The ports that an end of a link may be at: a source is an in port of the network or an out port of
-- its executive or of a component, and a target is an out port of the network or an in port of others.
abbrev pub ArePortsOf : Model → Own → List Entry → Bool → Part → List Field → Type 0
ArePortsOf model own entries is_source part.Net ports = ways model own (not is_source) ≡ ports
ArePortsOf model own entries is_source part.Boss ports = body_ways model own is_source ≡ ports
ArePortsOf model own entries is_source (part.Kid name) ports = HasKid model entries name is_source ports

-- An end of a link of a network is at a port of this type.
pub record IsAt (model : Model) (own : Own) (entries : List Entry) (is_source : Bool) (end : End) (ty : Ty) : Type 0 where
  pub ports : List Field
  pub are : ArePortsOf model own entries is_source end.part ports
  pub has : HasPort ports end.port ty

-- the slots of a translation of values of a type, and of a key of a type
abbrev pub via_slots : ViaPart → Ty → Option ViaKey → Ty → List Field
via_slots via ty None key_ty = record { name = via.value.name; ty = ty } ∷ []
via_slots via ty (Some key) key_ty = record { name = via.value.name; ty = ty } ∷ record { name = key.name.name; ty = key_ty } ∷ []

-- A key is there where a translation has one, and has its type.
abbrev pub IsKey : Types → Option ViaKey → Option Value → Ty → Type 0
IsKey types None None ty = Unit {0}
IsKey types (Some key) (Some own) ty = Typed types ty own
IsKey types _ _ ty = ⊥

-- A translation of the model takes values of one type to values of another, with this key.
pub record Takes (model : Model) (via : Via) (from to : Ty) : Type 0 where
  pub text : ViaPart
  pub found : slice_get (vias_of model) via.id.0 ≡ Some text
  pub key_ty : Ty
  pub key : IsKey (types_of model) text.key via.key key_ty
  pub is : IsVia model via.id.0 (is_some via.key) (via_slots text from text.key key_ty) text.body to

-- Values of the source's type become values of the target's type: without a translation they are the same.
abbrev pub Joins : Model → Option Via → Ty → Ty → Type 0
Joins model None from to = from ≡ to
Joins model (Some via) from to = Takes model via from to

-- Both ends of a link are no ports of the network itself.
abbrev pub IsThrough : Part → Part → Type 0
IsThrough part.Net part.Net = Unit {0}
IsThrough _ _ = ⊥

-- A link of a network with these components joins ports that there are, none from the network to itself.
pub record FitsLink (model : Model) (own : Own) (entries : List Entry) (link : Link) : Type 0 where
  pub source : Ty
  pub from : IsAt model own entries true link.from source
  pub target : Ty
  pub to : IsAt model own entries false link.to target
  pub joins : Joins model link.via source target
  pub not_through : IsThrough link.from.part link.to.part → ⊥

abbrev pub FitsEntry : Model → Entry → Type 0
FitsEntry model entry = FitsArgs model entry.model.0 entry.args

-- A plan of a network: its components in the order of their names, which are distinct, with arguments of
-- their parameters' types, and its links.
pub record FitsPlan (model : Model) (own : Own) (plan : Plan) : Type 0 where
  pub order : IsInOrder plan.entries
  pub ordinary : AllByRecursion (λ entry. is_same_name EXEC entry.name ≡ false) plan.entries
  pub entries : AllByRecursion (FitsEntry model) plan.entries
  pub links : AllByRecursion (FitsLink model own plan.entries) plan.links

-- Values at ports have their types; there need not be a list for each of the last ports.
abbrev pub Cover : Types → List Field → Ports → Type 0
Cover types ports [] = Unit {0}
Cover types [] (values ∷ got) = ⊥
Cover types (port ∷ ports) (values ∷ got) = AreOf types port.ty values × Cover types ports got

-- What a component sends has the types of its out ports.
pub record FitsGiven (model : Model) (entries : List Entry) (given : Given) : Type 0 where
  pub ports : List Field
  pub are : HasKid model entries given.name true ports
  pub cover : Cover (types_of model) ports given.ports

-- What links carry from: what the network received, and what its executive and its components send.
pub record FitsSources (model : Model) (own : Own) (entries : List Entry) (sources : Sources) : Type 0 where
  pub net : Cover (types_of model) (ways model own false) sources.net
  pub boss : Cover (types_of model) (body_ways model own true) sources.boss
  pub kids : AllByRecursion (FitsGiven model entries) sources.kids
