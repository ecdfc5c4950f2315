-- The rows along which values may go in a turn of a tree that lies in a grove.
use Rattle.std.specs.Prelude.{ℕ, List}
use Rattle.dsde_syntax.specs.declared.decl.Model.{Model}
use Rattle.dsde_values.specs.declared.arrival.Item.{Item}
use Rattle.dsde_sim_working.specs.given.system.Program.{system}
use Rattle.dsde_sim_tree.specs.Move.{ins_of}
use Rattle.dsde_sim_tree.specs.Output.{by_port}
use Rattle.dsde_core_parcels.specs.given.core_flat.due_Due.{Due}
use Rattle.dsde_core_parcels.specs.given.core_flat.Due.{AreDue}
use Rattle.dsde_core_parcels.specs.given.core_moves.flat_Flat.{Flat}
use Rattle.dsde_core_parcels.specs.given.core_moves.Flat.{tree_of}
use Rattle.dsde_core_parcels.specs.Counted.{CountsRows}
use Rattle.dsde_core_parcels.specs.Outlets.{turn_outlets}

-- So many rows go from the ports by which those send who are due at a time, and from the ports of the root to which
-- these items come.
pub record HasRows (model : Model) (flat : Flat) (time : ℕ) (items : List Item) (rows : ℕ) : Type 0 where
  pub dues : List Due
  pub due : AreDue flat.grove time dues
  pub all : CountsRows flat.rows (turn_outlets (system model) time flat.grove flat.root (by_port (ins_of (system model) (tree_of flat)) items) dues) rows
