-- Components and links of a structure, by the models that the structure gives its components.
use Rattle.std.proofs.Common.{◌≡◌, ℕ, Bool, true, false, not, ◌&&◌, List, Option, Some, unwrap_or, refl, ◌∙◌, ap, slice_get}
use Rattle.dsde_sim_tree.specs.given.names.Table.{named}
use Rattle.dsde_sim_tree.specs.given.syntax.decl_Model.{Model}
use Rattle.dsde_values.specs.declared.name.Name.{Name}
use Rattle.dsde_values.specs.declared.types.Field.{Field}
use Rattle.dsde_values.specs.declared.types.Ty.{Ty}
use Rattle.dsde_sim_tree.specs.given.language.signatures_Family.{Family}
use Rattle.dsde_sim_tree.specs.given.language.RuleTables.{field_name}
use Rattle.dsde_sim_tree.specs.given.language.RuleStructures.{family_named}
use Rattle.dsde_sim_tree.specs.given.language.DeclaredStructures.{model_ports}
use Rattle.dsde_sim_tree.specs.given.language.DeclaredModels.{whole_of, Own, owns_of}
use Rattle.dsde_sim_tree.specs.given.language.Names.{slot_of}
use Rattle.dsde_sim_tree.specs.given.structure.plan_End.{End}
use Rattle.dsde_sim_tree.specs.given.structure.plan_Entry.{Entry}
use Rattle.dsde_sim_tree.specs.given.structure.plan_Part.{Part}
use Rattle.dsde_sim_tree.specs.given.structure.plan_Part_TheVariants as part
use Rattle.dsde_sound_names.specs.given.executive_plans.placed_PlacedLink.{PlacedLink}
use Rattle.dsde_system.specs.Plans.{ways, body_ways, HasPort, Joins, IsThrough, FitsEntry}
use Rattle.dsde_sound_names.specs.given.sound_expressions.lemmas_Places.{Placed, placed}

-- the port of a name
pub port-has : (ports : List Field) (name : List ℕ) (field : Field) → named field_name ports name ≡ Some field → HasPort ports (slot_of ports name) field.ty
port-has ports name field h =
    let p : Placed field_name ports name field = placed field_name ports name field h in
    let slot : slot_of ports name ≡ p.place = ap (λ (o : Option ℕ). unwrap_or o 0) p.found in
    record { field = field; found = ap (λ (n : ℕ). slice_get ports n) slot ∙ p.at; is = refl }

-- A part that is not the network itself where this says so.
abbrev pub NetIs : Bool → Part → Type 0
NetIs true own = Unit {0}
NetIs false part.Net = ⊥
NetIs false part.Boss = Unit {0}
NetIs false (part.Kid name) = Unit {0}

pub not-through : (one other : Part) (a b : Bool) → (a && b) ≡ false → NetIs a one → NetIs b other → IsThrough one other → ⊥
not-through part.Net part.Net true true h here there through = cc h
not-through part.Net part.Net true false h here there through = there
not-through part.Net part.Net false b h here there through = here
not-through part.Net part.Boss a b h here there through = through
not-through part.Net (part.Kid name) a b h here there through = through
not-through part.Boss other a b h here there through = through
not-through (part.Kid name) other a b h here there through = through

module _ (model : Model) (own : Own) (families : List Family) where
  -- the ports of a component of this name, by the model that its identifier has
  pub record KidBy (name : Name) (out : Bool) (ports : List Field) : Type 0 where
    pub family : Family
    pub found : family_named families name.stem ≡ Some family
    pub are : model_ports (whole_of model) out family.model ≡ ports

  abbrev pub PortsBy : Bool → Part → List Field → Type 0
  PortsBy is_source part.Net ports = ways model own (not is_source) ≡ ports
  PortsBy is_source part.Boss ports = body_ways model own is_source ≡ ports
  PortsBy is_source (part.Kid name) ports = KidBy name is_source ports

  -- an end of a link, at a port of this type
  pub record EndBy (is_source : Bool) (end : End) (ty : Ty) : Type 0 where
    pub ports : List Field
    pub are : PortsBy is_source end.part ports
    pub has : HasPort ports end.port ty

  -- a link, whose components need not be there
  pub record LinkBy (placed : PlacedLink) : Type 0 where
    pub source : Ty
    pub from : EndBy true placed.link.from source
    pub target : Ty
    pub to : EndBy false placed.link.to target
    pub joins : Joins model placed.link.via source target
    pub not_through : IsThrough placed.link.from.part placed.link.to.part → ⊥

  -- a component, of the model that its identifier has
  pub record EntryBy (entry : Entry) : Type 0 where
    pub fits : FitsEntry model entry
    pub family : Family
    pub found : family_named families entry.name.stem ≡ Some family
    pub is : entry.model.0 ≡ family.model
    pub kid : Own
    pub kid_is : slice_get (owns_of model.decls) entry.model.0 ≡ Some kid
    pub kid_ports : (out : Bool) → model_ports (whole_of model) out family.model ≡ ways model kid out
