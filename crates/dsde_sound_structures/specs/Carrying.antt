-- What links carry where they fit a network.
use Rattle.std.specs.Prelude.{◌≡◌, false, List, [], length, Option, slice_index_or}
use Rattle.std.specs.List.{AllByRecursion}
use Rattle.dsde_sim_tree.specs.given.syntax.decl_Model.{Model}
use Rattle.dsde_values.specs.declared.arrival.Item.{Item}
use Rattle.dsde_values.specs.declared.types.Field.{Field}
use Rattle.dsde_values.specs.declared.types.Ty.{Ty}
use Rattle.dsde_values.specs.declared.types.Types.{Types}
use Rattle.dsde_values.specs.declared.value.Value.{Value}
use Rattle.dsde_sim_tree.specs.given.language.DeclaredModels.{types_of, Own}
use Rattle.dsde_sim_tree.specs.given.structure.plan_Entry.{Entry}
use Rattle.dsde_sim_tree.specs.given.structure.plan_Link.{Link}
use Rattle.dsde_sim_tree.specs.given.structure.plan_Part.{Part}
use Rattle.dsde_sim_tree.specs.given.structure.plan_Via.{Via}
use Rattle.dsde_sim_tree.specs.given.structure.sources_Sources.{Sources}
use Rattle.dsde_sim_tree.specs.given.structure.Gather.{Ports, from_part, gathered}
use Rattle.dsde_sim_tree.specs.given.structure.Survival.{IsInOrder}
use Rattle.dsde_sim_tree.specs.given.language.Right.{IsRight}
use Rattle.dsde_sim_tree.specs.given.language.Typed.{Typed, AllSent}
use Rattle.dsde_sound_names.specs.given.sound_expressions.Conditions.{CanTranslate, Translated}
use Rattle.dsde_system.specs.Fitting.{AreOf, Reach}
use Rattle.dsde_system.specs.Plans.{ArePortsOf, Cover, FitsLink, FitsSources, Joins, Takes}
use Rattle.dsde_system.specs.Program.{system}
use Rattle.dsde_sim_tree.specs.Output.{by_port}

-- The links of a network with some components, and what they carry from, fit it.
pub record FitsWiring (model : Model) (links : List Link) (sources : Sources) : Type 0 where
  pub own : Own
  pub entries : List Entry
  pub order : IsInOrder entries
  pub joined : AllByRecursion (FitsLink model own entries) links
  pub given : FitsSources model own entries sources

-- What a link carries from has one type, and what it carries another.
pub record Carries (model : Model) (sources : Sources) (link : Link) : Type 0 where
  pub source : Ty
  pub target : Ty
  pub joins : Joins model link.via source target
  pub values : AreOf (types_of model) source (slice_index_or (from_part sources link.from.part) link.from.port [])

abbrev pub WiringCarries : Type 0
WiringCarries = (model : Model) (links : List Link) (sources : Sources) → FitsWiring model links sources → AllByRecursion (Carries model sources) links

-- A value of the type that a translation takes may be translated.
abbrev pub MayTranslate : Type 0
MayTranslate =
    (model : Model) (via : Via) (from to : Ty) (own : Value)
    → Takes model via from to → Typed (types_of model) from own → CanTranslate model via.id.0 via.key own

-- What code makes of it is what the definition makes of it.
abbrev pub TranslatesExactly : Type 0
TranslatesExactly =
    (model : Model) (via : Via) (from to : Ty) (own : Value) (held : Option Value)
    → Takes model via from to → Typed (types_of model) from own → Translated model via.id.0 via.key own held → (system model).translate via own ≡ held

-- What is gathered over links that fit, from sources that fit, has the types of the ports where it comes.
abbrev pub GatheredFit : Type 0
GatheredFit =
    (model : Model) (own : Own) (entries : List Entry) (links : List Link) (sources : Sources) (part : Part) (ports : List Field)
    → IsRight model → IsInOrder entries → AllByRecursion (FitsLink model own entries) links → FitsSources model own entries sources
    → ArePortsOf model own entries false part ports
    → Reach (types_of model) ports (gathered (system model).translate links sources part (length ports))

-- What a body sends by its out ports has their types, port by port.
abbrev pub SentFit : Type 0
SentFit = (types : Types) (outs : List Field) (items : List Item) → AllSent types outs items → Reach types outs (by_port (length outs) items)

abbrev pub ReachCovers : Type 0
ReachCovers = (types : Types) (ports : List Field) (got : Ports) → Reach types ports got → Cover types ports got
