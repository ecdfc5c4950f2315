-- Trees that stand between two turns: what a start and a turn leave, and what a checkpoint restores. This
-- project's profile.
use Rattle.std.specs.Prelude.{ℕ, suc, ◌≡◌, ◌≤◌, max, true, false, List, [], ◌∷◌, Option, Ok, IfSome}
use Rattle.std.proofs.Common.{inl, inr}
use Rattle.std.specs.List.{AllByRecursion}
use Rattle.dsde_values.specs.declared.arrival.Arrival.{Arrival}
use Rattle.dsde_values.specs.declared.value.Value.{Value}
use Rattle.dsde_values.specs.declared.when.When.{When}
use Rattle.dsde_values.specs.declared.when.When.TheVariants.{At, Never}
use Rattle.dsde_sim_tree.specs.given.language.ids_ModelId.{ModelId}
use Rattle.dsde_sim_tree.specs.given.formalism.leaf_Leaf.{Leaf}
use Rattle.dsde_sim_tree.specs.given.formalism.System.{System, State}
use Rattle.dsde_sim_tree.specs.given.structure.plan_Entry.{Entry}
use Rattle.dsde_sim_tree.specs.given.structure.plan_Link.{Link}
use Rattle.dsde_sim_tree.specs.given.structure.plan_Plan.{Plan}
use Rattle.dsde_sim_tree.specs.given.structure.Survival.{StaysAs, IsInOrder}
use Rattle.dsde_sim_tree.specs.declared.sim.Sim.{Sim}
use Rattle.dsde_sim_tree.specs.declared.sim.Kid.{Kid}
use Rattle.dsde_sim_tree.specs.declared.sim.Net.{Net}
use Rattle.dsde_sim_tree.specs.declared.sim.TheConstants.{DEEPEST}
use Rattle.dsde_sim_tree.specs.declared.sim.Sim.TheFolds.{fold-Sim, fold-Kid, fold-Net}
use Rattle.dsde_sim_tree.specs.declared.sim.Sim.TheOpen.{Sim-F, Net-F, Kid-F}
use Rattle.dsde_sim_tree.specs.declared.sim.Sim.TheOpen as layer
use Rattle.dsde_sim_tree.specs.Spots.{Spot, Shape, spots}
use Rattle.dsde_sim_tree.specs.Tree.{parts, model_of, args_of}
use Rattle.dsde_sim_tree.specs.declared.step.Step.{Step}
use Rattle.dsde_sim_tree.specs.declared.step.TheConstants.{MOST_PARTS}
use Rattle.dsde_sim_tree.specs.Engine.{Engine}
use Rattle.dsde_sim_tree.specs.Turn.{start, advance}

-- how many names the deepest part of a tree has from it on, its own counted
abbrev pub deepest : List ℕ → ℕ
deepest [] = 1
deepest (depth ∷ depths) = max depth (deepest depths)

abbrev pub depth_step : Sim-F ℕ ℕ ℕ → ℕ
depth_step (layer.Leaf leaf) = 1
depth_step (layer.Net net) = net

abbrev pub depth_kid : Kid-F ℕ ℕ ℕ → ℕ
depth_kid kid = kid.sim

abbrev pub depth_net : Net-F ℕ ℕ ℕ → ℕ
depth_net net = suc (deepest net.kids)

abbrev pub depth : Sim → ℕ
depth = fold-Sim ℕ ℕ ℕ depth_step depth_kid depth_net

abbrev pub depth_of_kid : Kid → ℕ
depth_of_kid = fold-Kid ℕ ℕ ℕ depth_step depth_kid depth_net

abbrev pub depth_of_net : Net → ℕ
depth_of_net = fold-Net ℕ ℕ ℕ depth_step depth_kid depth_net

-- not before this time
abbrev pub IsDueLater : ℕ → When → Type 0
IsDueLater time (At next) = time ≤ next
IsDueLater time Never = Unit {0}

-- A component or an executive has had its last event by now, and its next comes after its advance, not
-- before now.
pub record StandsLeaf (system : System) (time : ℕ) (leaf : Leaf) : Type 0 where
  pub last : leaf.last ≤ time
  pub advance : (system.component leaf.model leaf.args).advance leaf.state leaf.last ≡ Ok leaf.next
  pub later : IsDueLater time leaf.next

pub record StandsAtomic (system : System) (time : ℕ) (leaf : Leaf) : Type 0 where
  pub stands : StandsLeaf system time leaf
  pub atomic : system.is_network leaf.model ≡ false
  pub not_boss : leaf.boss ≡ false

-- Each old entry stays as the new one in its place, and there are no others.
abbrev pub StayAs : List Entry → List Entry → Type 0
StayAs [] [] = Unit {0}
StayAs (old ∷ olds) (new ∷ news) = StaysAs old new × StayAs olds news
StayAs _ _ = ⊥

-- Components of these entries and these links have a plan's structure: a component has an entry's name and
-- model, and its arguments too where the entry is not soft.
pub record HasPlan (entries : List Entry) (links : List Link) (plan : Plan) : Type 0 where
  pub stay : StayAs entries plan.entries
  pub links_are : links ≡ plan.links

-- A network has the structure of its executive's state.
pub record StandsShape (system : System) (time : ℕ) (shape : Shape) : Type 0 where
  pub network : system.is_network shape.model ≡ true
  pub boss : StandsLeaf system time shape.boss
  pub is_boss : shape.boss.boss ≡ true
  pub model : shape.boss.model ≡ shape.model
  pub args : shape.boss.args ≡ shape.args
  pub plan : Plan
  pub structure : (system.network shape.model shape.args).structure shape.boss.state ≡ Ok plan
  pub has : HasPlan shape.entries shape.links plan

abbrev pub StandsSpot : System → ℕ → Spot → Type 0
StandsSpot system time (inl leaf) = StandsAtomic system time leaf
StandsSpot system time (inr shape) = StandsShape system time shape

-- A tree stands at a time, with so many names at most from its root on.
pub record StandsIn (system : System) (time left : ℕ) (tree : Sim) : Type 0 where
  pub all : AllByRecursion (StandsSpot system time) (spots tree)
  pub depth : depth tree ≤ left

-- It is of the model that runs, with its arguments, and no path in it has too many names.
pub record StandsTree (system : System) (time : ℕ) (tree : Sim) : Type 0 where
  pub stands : StandsIn system time DEEPEST tree
  pub top : system.top ≡ Ok (record { model = model_of tree; args = args_of tree })

-- and no more parts are alive than may be
pub record Stands (system : System) (time : ℕ) (own : Sim) : Type 0 where
  pub tree : StandsTree system time own
  pub parts : parts own ≤ MOST_PARTS

-- The tree of an engine stands at its time.
abbrev pub StandsEngine : System → Engine → Type 0
StandsEngine system engine = IfSome engine.tree (StandsTree system engine.time)

-- An advance leads on and not back, and the components of a structure stand in the order of their names.
pub record IsForward (system : System) : Type 0 where
  pub later : (model : ModelId) (args : List Value) (state : State) (time : ℕ) (next : When) → (system.component model args).advance state time ≡ Ok next → IsDueLater time next
  pub ordered : (model : ModelId) (args : List Value) (state : State) (plan : Plan) → (system.network model args).structure state ≡ Ok plan → IsInOrder plan.entries

-- not before now
abbrev pub IsNotBefore : ℕ → Option Arrival → Type 0
IsNotBefore time head = IfSome head (λ own. time ≤ own.time)

-- A tree that has started stands, and one that stands does so behind its next turn.
abbrev pub StartStands : Type 0
StartStands = (system : System) → IsForward system → (engine : Engine) → (start system).end ≡ Ok engine → StandsEngine system engine

abbrev pub AdvanceStands : Type 0
AdvanceStands =
    (system : System) → IsForward system → (engine : Engine) (head : Option Arrival) (answer : Step × Engine)
    → StandsEngine system engine → IsNotBefore engine.time head → (advance system engine head).end ≡ Ok answer → StandsEngine system answer.1
