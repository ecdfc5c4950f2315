-- What a network that lies in a grove becomes where its structure changes.
use Rattle.std.specs.Prelude.{ℕ, List, Result, Ok, Err}
use Rattle.dsde_values.specs.declared.path.Path.{Path}
use Rattle.dsde_structure.specs.declared.plan.Entry.{Entry}
use Rattle.dsde_sim_tree.specs.declared.fault.TurnEnd.{TurnEnd}
use Rattle.dsde_sim_tree.specs.Told.{below}
use Rattle.dsde_grove.specs.Grove.{Grove}
use Rattle.dsde_sim_tree.specs.declared.sim.Kid.{Kid}
use Rattle.dsde_sim_tree.specs.Move.{kept}
use Rattle.dsde_routes_wiring.specs.declared.wiring.WiredKid.{WiredKid}
use Rattle.dsde_core_moves.specs.given.core_flat.spot_Spot.{Spot}
use Rattle.dsde_core_moves.specs.given.core_flat.Grafts.{IsFree}
use Rattle.dsde_core_moves.specs.Chosen.{shown}
use Rattle.dsde_core_moving.specs.Placed.{placed}
use Rattle.dsde_core_moving.specs.declared.changing.Changed.{Changed}

-- A component of an entry's name may grow below the part at a path.
abbrev pub IsRoomAs : Grove Spot → Path → Entry → Type 0
IsRoomAs own path entry = IsFree own (below path entry.name).names

-- what components come to that have started, by what they show
abbrev pub as_shown : Grove Spot → Result (List WiredKid × ℕ) TurnEnd → Result (List Kid × ℕ) TurnEnd
as_shown own (Ok made) = Ok (shown own made.0, made.1)
as_shown own (Err end) = Err end

-- what the components of a network come to that change to these entries: survivors and fresh ones in the
-- order of the entries
abbrev pub changed_to : Grove Spot → List Entry → List Kid → Result Changed TurnEnd → Result (List Kid × ℕ) TurnEnd
changed_to own entries kids (Ok changed) = Ok (placed entries (kept entries kids) (shown own changed.fresh), changed.room)
changed_to own entries kids (Err end) = Err end
