-- What an engine's turn costs in looks at parts. This project's profile.
use Rattle.std.specs.Prelude.{◌≡◌, ◌≤◌, ◌+◌, ◌*◌, ℕ, Option, Some}
use Rattle.dsde_syntax.specs.declared.decl.Model.{Model}
use Rattle.dsde_values.specs.declared.arrival.Arrival.{Arrival}
use Rattle.dsde_sim_tree.specs.Engine.{next_of, Engine}
use Rattle.dsde_sim_tree.specs.declared.step.Step.{Step}
use Rattle.dsde_sim_tree.specs.declared.step.Step.TheVariants.{Turned, Quiet}
use Rattle.dsde_sim_tree.specs.Turn.{items_at, turn_time}
use Rattle.dsde_core_outputs.specs.given.system.Program.{system}
use Rattle.dsde_core_moving.specs.given.sim_movers.Work.{turn_entries}
use Rattle.dsde_core_moving.specs.given.core_moves.flat_Flat.{Flat}
use Rattle.dsde_core_moving.specs.given.core_moves.Flat.{tree_of, Stands}
use Rattle.dsde_core_outputs.specs.Rows.{HasRows}

-- A turn of this tree, which lies in a grove with its rows: for so many looks before it and after, pairs in the
-- schedule, and work told. Each pair that is put into the schedule counts 4 more looks, since taking it out again may
-- cost them, and each that leaves 4 less. The rest is paid for by the work that the turn tells, by the entries of the
-- structures that it takes, and by the rows along which values may go: 128 looks for each of them and for the turn.
pub record TurnIsPaid (program : Model) (engine : Engine) (head : Option Arrival) (before after pairs left told all : ℕ) : Type 0 where
  pub flat : Flat
  pub stands : Stands program flat
  pub shown : engine.tree ≡ Some (tree_of flat)
  pub time : ℕ
  pub at : turn_time (next_of engine) head ≡ Some time
  pub rows : ℕ
  pub has : HasRows program flat time (items_at head time) rows
  pub paid : after + 4 * left + 128 * told ≤ before + 4 * pairs + 128 * (all + turn_entries (system program) (tree_of flat) time (items_at head time) + rows + 1)

-- what a step costs: where nothing happens, nothing
abbrev pub IsPaid : Model → Engine → Option Arrival → ℕ → ℕ → ℕ → ℕ → ℕ → ℕ → Step → Type 0
IsPaid program engine head before after pairs left told all (Turned took_input) = TurnIsPaid program engine head before after pairs left told all
IsPaid program engine head before after pairs left told all Quiet = (after ≡ before) × (left ≡ pairs)
