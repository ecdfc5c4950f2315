-- One of those who move.
use Rattle.std.specs.Prelude.{◌≡◌, ℕ, true, if◌then◌else◌, Some}
use Rattle.dsde_values.specs.Path.{root}
use Rattle.dsde_sim_tree.specs.given.formalism.leaf_Leaf.{Leaf}
use Rattle.dsde_sim_tree.specs.declared.step.TheConstants.{MOST_PARTS}
use Rattle.dsde_sim_movers.specs.Movers.{is_called, leaf_at, seat_behind}
use Rattle.dsde_core_moves.specs.declared.flat.Flat.{Flat}
use Rattle.dsde_core_moves.specs.declared.flat.Mover.{Mover}
use Rattle.dsde_core_moves.specs.Flat.{tree_of}

-- At a mover's path stands a component or an executive that is due, or to which something comes.
pub record IsCalled (flat : Flat) (time : ℕ) (mover : Mover) : Type 0 where
  pub leaf : Leaf
  pub sits : leaf_at (seat_behind root mover.path) (tree_of flat) ≡ Some leaf
  pub called : is_called time mover.got (Some leaf) ≡ true

-- how many parts may be born where it moves: none but where it is an executive
abbrev pub most_births : Mover → ℕ
most_births mover = if (seat_behind root mover.path).is_boss then MOST_PARTS else 0
