-- What a turn of a tree that lies in a grove comes to. This project's profile.
use Rattle.std.specs.Prelude.{Result, Ok, Err}
use Rattle.dsde_sim_tree.specs.declared.fault.TurnEnd.{TurnEnd}
use Rattle.dsde_sim_tree.specs.declared.sim.Sim.{Sim}
use Rattle.dsde_core_moving.specs.given.core_moves.flat_Flat.{Flat}
use Rattle.dsde_core_moving.specs.given.core_moves.Flat.{tree_of}

-- what a turn came to, with the tree that it left
abbrev pub with_turn : {U : Type 0} → Flat → Result U TurnEnd → Result Sim TurnEnd
with_turn flat (Ok done) = Ok (tree_of flat)
with_turn flat (Err end) = Err end
