-- What may go along links.
use Rattle.std.specs.Prelude.{◌≡◌, ◌<◌, true, List, [], length, map, Option, Some, None, slice_index_or}
use Rattle.std.specs.List.{All}
use Rattle.dsde_sim_tree.specs.given.syntax.decl_Model.{Model}
use Rattle.dsde_values.specs.declared.types.Ty.{Ty}
use Rattle.dsde_values.specs.declared.value.Value.{Value}
use Rattle.dsde_sim_tree.specs.given.language.DeclaredModels.{types_of}
use Rattle.dsde_sim_tree.specs.given.language.NodeModels.{infos_of}
use Rattle.dsde_sim_tree.specs.given.structure.plan_Link.{Link}
use Rattle.dsde_sim_tree.specs.given.structure.plan_Via.{Via}
use Rattle.dsde_sim_tree.specs.given.structure.sources_Given.{Given}
use Rattle.dsde_sim_tree.specs.given.structure.sources_Sources.{Sources}
use Rattle.dsde_sim_tree.specs.given.structure.Gather.{from_part}
use Rattle.dsde_sim_tree.specs.given.structure.Survival.{AreInOrder}
use Rattle.dsde_sim_tree.specs.given.language.Typed.{Typed}
use Rattle.dsde_sound_structures.specs.given.system.Plans.{Takes}
use Rattle.dsde_sound_structures.specs.given.system.Program.{system}
use Rattle.dsde_sim_tree.specs.declared.sim.Kid.{Kid}
use Rattle.dsde_sim_tree.specs.declared.sim.Net.{Net}
use Rattle.dsde_sim_tree.specs.declared.sim.Sim.{Sim}
use Rattle.dsde_sim_tree.specs.declared.sim.Sim.TheOpen as layer
use Rattle.dsde_sim_tree.specs.declared.sim.Sim.TheViews.{out-Sim, out-Net}
use Rattle.dsde_sim_tree.specs.Tree.{model_of, name_of}

-- A value has the type that a translation takes.
pub record IsTaken (model : Model) (via : Via) (own : Value) : Type 0 where
  pub from : Ty
  pub to : Ty
  pub takes : Takes model via from to
  pub typed : Typed (types_of model) from own

-- A value may go along a link with this translation, or with none.
abbrev pub Passes : Model → Option Via → Value → Type 0
Passes model None own = Unit {0}
Passes model (Some via) own = IsTaken model via own

-- Each value that a link carries from may go along it.
abbrev pub AllPass : Model → Sources → Link → Type 0
AllPass model sources link = All (Passes model link.via) (slice_index_or (from_part sources link.from.part) link.from.port [])

-- What components send stands in the order of their names.
abbrev pub AreSorted : Sources → Type 0
AreSorted sources = AreInOrder (map (λ (given : Given). given.name) sources.kids)

abbrev pub AreSortedKids : List Kid → Type 0
AreSortedKids kids = AreInOrder (map name_of kids)

-- A part is of a model of the program, and a network of one that is a network there.
pub record IsOfModel (model : Model) (own : Sim) : Type 0 where
  pub below : (model_of own).0 < length (infos_of model)
  pub network : (net : Net) → out-Sim own ≡ layer.Net net → (system model).is_network (out-Net net).model ≡ true
