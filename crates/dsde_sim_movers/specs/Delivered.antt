-- A turn that delivers to each part what the links carry to it.
use Rattle.std.specs.Prelude.{◌≡◌, ℕ, List, ◌++◌, Option, IfSome, Result, Ok, Err}
use Rattle.std.specs.List.{flat_map}
use Rattle.dsde_values.specs.declared.arrival.Arrival.{Arrival}
use Rattle.dsde_values.specs.declared.path.Path.{Path}
use Rattle.dsde_sim_tree.specs.given.formalism.System.{System, Ports}
use Rattle.dsde_sim_tree.specs.declared.event.Event.{Event}
use Rattle.dsde_sim_tree.specs.declared.fault.TurnEnd.{TurnEnd}
use Rattle.dsde_sim_tree.specs.declared.sim.Sim.{Sim}
use Rattle.dsde_sim_tree.specs.Output.{by_port}
use Rattle.dsde_sim_tree.specs.Move.{ins_of}
use Rattle.dsde_sim_tree.specs.Engine.{Engine, next_of}
use Rattle.dsde_sim_tree.specs.Turn.{items_at, turn_time}
use Rattle.dsde_sim_movers.specs.Places.{ReachNoneAdded, ReachOnly, paths}
use Rattle.dsde_sim_movers.specs.Deliveries.{brought, received}

-- This was told of all that was to be told: the whole of it, or up to a fault or want of memory some of
-- it from the front.
abbrev pub UpTo : {A X : Type 0} → Result A TurnEnd → List X → List X → Type 0
UpTo (Ok value) told all = told ≡ all
UpTo {A} {X} (Err end) told all = (rest : List X) × (all ≡ told ++ rest)

-- The events of a turn of this tree, to whose root this comes: they reach only parts of the tree, and
-- none after it was added; and the values that they bring to a port of a part are those that the links
-- of the tree carry to it, up to a fault or want of memory.
pub record IsDelivered {A : Type 0} (system : System) (tree : Sim) (time : ℕ) (got : Ports) (events : List Event) (end : Result A TurnEnd) : Type 0 where
  pub places : ReachOnly (paths tree) events
  pub calm : ReachNoneAdded events
  pub received : (path : Path) (port : ℕ) → UpTo end (flat_map (brought path port) events) (received system tree path port time got)

-- So are the events of the turn that an engine takes next with this head of the input, if it takes one.
abbrev pub IsTurnDelivered : {A : Type 0} → System → Engine → Option Arrival → List Event → Result A TurnEnd → Type 0
IsTurnDelivered system engine head events end =
    IfSome engine.tree (λ tree. IfSome (turn_time (next_of engine) head) (λ time.
    IsDelivered system tree time (by_port (ins_of system tree) (items_at head time)) events end))
