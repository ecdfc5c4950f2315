-- Those who move in a turn of a tree that lies in a grove.
use Rattle.std.specs.Prelude.{◌≡◌, ◌<◌, ◌^◌, ℕ, false, List, length, map, option_to_list, Contains, Result, Ok, Err}
use Rattle.std.specs.List.{AllByRecursion}
use Rattle.dsde_bank.specs.declared.handle.Handle.{Handle}
use Rattle.dsde_syntax.specs.declared.decl.Model.{Model}
use Rattle.dsde_values.specs.declared.arrival.Item.{Item}
use Rattle.dsde_values.specs.Path.{root}
use Rattle.dsde_sim_changing.specs.given.system.Program.{system}
use Rattle.dsde_sim_changing.specs.given.system.Fitting.{FitsInputs}
use Rattle.dsde_core_flat.specs.given.sim_movers.Turns.{turn_movers}
use Rattle.dsde_core_flat.specs.given.sim_movers.Orders.{is_above}
use Rattle.dsde_sim_tree.specs.given.formalism.System.{Ports}
use Rattle.dsde_sim_tree.specs.declared.fault.TurnEnd.{TurnEnd}
use Rattle.dsde_sim_tree.specs.Output.{by_port}
use Rattle.dsde_queue.specs.Queue.{Queue}
use Rattle.dsde_core_flat.specs.declared.due.Due.{Due}
use Rattle.dsde_core_flat.specs.Due as due
use Rattle.dsde_core_moves.specs.declared.flat.Flat.{Flat}
use Rattle.dsde_core_moves.specs.declared.flat.Mover.{Mover}
use Rattle.dsde_core_moves.specs.Flat.{delivery_of, leaf_of, tree_of, IsThere}
use Rattle.dsde_core_moves.specs.declared.phase.Movers.{Movers}
use Rattle.dsde_core_moves.specs.declared.phase.Movers.TheVariants as movers
use Rattle.dsde_core_moves.specs.declared.phase.Phase.{Phase}
use Rattle.dsde_core_moves.specs.declared.phase.Sent.{Sent}
use Rattle.dsde_core_moves.specs.declared.phase.Sent.TheVariants as sent

-- whose handle
abbrev pub handle_of : Mover → Handle
handle_of mover = mover.handle

-- The one is no executive beneath whose network the other stands.
abbrev pub Spares : Mover → Mover → Type 0
Spares own other = is_above root (delivery_of own) (delivery_of other) ≡ false

-- What a mover receives fits it.
pub record FitsMover (model : Model) (flat : Flat) (mover : Mover) : Type 0 where
  pub got : FitsInputs model (leaf_of flat mover).model.0 mover.got
  pub few : length mover.got < 2 ^ 32

-- These are the movers of a turn with these items of input, in path order, each where it lies.
pub record AreMovers (model : Model) (flat : Flat) (time : ℕ) (items : List Item) (list : List Mover) : Type 0 where
  pub all : map delivery_of list ≡ turn_movers (system model) (tree_of flat) time items
  pub there : AllByRecursion (IsThere flat) list
  pub fit : AllByRecursion (FitsMover model flat) list

-- a flat state with another schedule
abbrev pub with_queue : Flat → Queue → Flat
with_queue flat queue = record flat { queue = queue }

-- what the root sends, port by port
abbrev pub ports_of : Sent → Ports
ports_of (sent.Ports ports) = ports
ports_of (sent.Items ports items) = by_port ports items

abbrev pub sent_of : Result Phase TurnEnd → Result Ports TurnEnd
sent_of (Ok phase) = Ok (ports_of phase.sent)
sent_of (Err end) = Err end

-- all who move
abbrev pub list_of : Movers → List Mover
list_of (movers.One first) = option_to_list first
list_of (movers.Many list) = list

-- Those who are due are among those who move.
abbrev pub Wait : List Due → List Mover → Type 0
Wait dues movers = (handle : Handle) → Contains (map due.handle_of dues) handle → Contains (map handle_of movers) handle
