-- What parts that fit a program answer to an output message.
use Rattle.std.specs.Prelude.{◌≡◌, List, map}
use Rattle.std.specs.List.{AllByRecursion}
use Rattle.dsde_language.specs.given.syntax.decl_Model.{Model}
use Rattle.dsde_sim_tree.specs.given.formalism.leaf_Leaf.{Leaf}
use Rattle.dsde_sim_tree.specs.given.formalism.System.{Ports}
use Rattle.dsde_sim_tree.specs.given.structure.sources_Given.{Given}
use Rattle.dsde_sim_tree.specs.given.structure.sources_Sources.{Sources}
use Rattle.dsde_executive.specs.given.system.Plans.{FitsGiven}
use Rattle.dsde_sim_tree.specs.declared.sim.Kid.{Kid}
use Rattle.dsde_sim_tree.specs.declared.sim.Sim.TheViews.{out-Kid}
use Rattle.dsde_sim_tree.specs.Tree.{entry_of}
use Rattle.dsde_sim_starting.specs.Fitting.{FitsBodySent}

-- Components have answered, in their order: each with values of its out ports' types.
pub record AreAsked (model : Model) (kids : List Kid) (given : List Given) : Type 0 where
  pub fits : AllByRecursion (FitsGiven model (map entry_of kids)) given
  pub names : map (λ (own : Given). own.name) given ≡ map (λ (kid : Kid). (out-Kid kid).name) kids

-- The links of a network carry from these.
pub record AreSources (model : Model) (kids : List Kid) (executive : Leaf) (got : Ports) (sources : Sources) : Type 0 where
  pub net : sources.net ≡ got
  pub boss : FitsBodySent model executive.model.0 sources.boss
  pub asked : AreAsked model kids sources.kids
