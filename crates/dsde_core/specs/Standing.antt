-- A program at work over a tree that lies in a grove. This project's profile.
use Rattle.std.specs.Prelude.{ℕ, ◌+◌, ◌*◌, ◌≤◌, Bool, true, false, Option, Some, None, IfSome}
use Rattle.dsde_syntax.specs.declared.decl.Model.{Model}
use Rattle.dsde_sim_tree.specs.declared.sim.Sim.{Sim}
use Rattle.dsde_sim_tree.specs.Tree.{parts}
use Rattle.dsde_sim_tree.specs.Engine.{Engine}
use Rattle.dsde_core_moving.specs.given.core_moves.flat_Flat.{Flat}
use Rattle.dsde_core_moving.specs.given.core_moves.Flat.{tree_of}
use Rattle.dsde_core_moving.specs.given.core_moves.Resting.{Rests}

-- a program, the engine that runs it, how many parts were born in it, and how many pairs its schedule has
pub record Standing : Type 0 where
  pub program : Model
  pub engine : Engine
  pub born : ℕ
  pub queued : ℕ

-- The schedule has no more pairs than twice as many as parts are alive, and 64.
abbrev pub HasFewPairs : Standing → Type 0
HasFewPairs own = IfSome own.engine.tree (λ tree. own.queued ≤ 2 * parts tree + 64)

-- the tree, but for one that is given up
abbrev pub tree_if : Bool → Flat → Option Sim
tree_if true flat = None
tree_if false flat = Some (tree_of flat)

-- It rests, but for one that is given up.
abbrev pub RestsIf : Bool → Model → Flat → Type 0
RestsIf true model flat = Unit {0}
RestsIf false model flat = Rests model flat
