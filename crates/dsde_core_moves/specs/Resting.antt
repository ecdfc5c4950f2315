-- A tree that lies in a grove, between two turns. This project's profile.
use Rattle.std.specs.Prelude.{◌≡◌, ◌+◌, ◌*◌, ◌≤◌, length}
use Rattle.std.specs.Option.{option_map}
use Rattle.dsde_syntax.specs.declared.decl.Model.{Model}
use Rattle.dsde_queue.specs.Queue.{first_of, time_of}
use Rattle.dsde_sim_tree.specs.Tree.{next_time, parts}
use Rattle.dsde_sim_tree.specs.declared.step.TheConstants.{MOST_PARTS}
use Rattle.dsde_core_flat.specs.Scheduled.{when_of, IsScheduled}
use Rattle.dsde_core_moves.specs.declared.flat.Flat.{Flat}
use Rattle.dsde_core_moves.specs.Flat.{tree_of, Stands}

-- A flat state rests between turns: it stands for its tree, which has no more parts than may be alive; whoever will
-- be due has a pair in the schedule, whose first is that of the next event, and which has no more pairs than twice as
-- many as parts are alive, and 64.
pub record Rests (model : Model) (flat : Flat) : Type 0 where
  pub stands : Stands model flat
  pub within : parts (tree_of flat) ≤ MOST_PARTS
  pub scheduled : IsScheduled flat.grove flat.queue.pairs
  pub next : when_of (option_map time_of (first_of flat.queue.pairs)) ≡ next_time (tree_of flat)
  pub few : length flat.queue.pairs ≤ 2 * parts (tree_of flat) + 64
