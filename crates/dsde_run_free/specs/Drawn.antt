-- A program at work whose turns move in an order that is drawn.
use Rattle.std.specs.Prelude.{◌≡◌, ℕ, List, ◌∷◌, ◌++◌, Option, Ok, IfSome}
use Rattle.std.specs.List.Sorted.{IsPermutation}
use Rattle.dsde_syntax.specs.declared.decl.Model.{Model}
use Rattle.dsde_values.specs.declared.arrival.Arrival.{Arrival}
use Rattle.dsde_values.specs.Path.{root}
use Rattle.dsde_sim_tree.specs.given.formalism.System.{System}
use Rattle.dsde_sim_tree.specs.declared.event.Event.{Event}
use Rattle.dsde_sim_tree.specs.declared.sim.Sim.{Sim}
use Rattle.dsde_sim_movers.specs.Deliveries.{Delivery}
use Rattle.dsde_sim_movers.specs.Movers.{leaf_at, move_each, seat_behind}
use Rattle.dsde_sim_tree.specs.declared.step.Step.{Step}
use Rattle.dsde_sim_tree.specs.Engine.{Engine}
use Rattle.dsde_sim_tree.specs.Turn.{advance}
use Rattle.dsde_order.specs.Free.{Drawing}

-- a program, and the engine and the generator that run it
pub record Drawn : Type 0 where
  pub program : Model
  pub drawing : Drawing

-- the engine and the generator as those of this program
abbrev pub drawn : Model → Drawing → Drawn
drawn program drawing = record { program = program; drawing = drawing }

-- the engine beside a generator
abbrev pub engine_of : Drawing → Engine
engine_of own = own.engine

-- Where the turn in path order does not fault either, it is such a step and comes to this engine, and its
-- events are these up to their order.
abbrev pub AgreesWithPathOrder : System → Engine → Option Arrival → Step → Engine → List Event → Type 0
AgreesWithPathOrder system before head step after events =
    (other : Step × Engine) → (advance system before head).end ≡ Ok other → (other ≡ (step, after)) × IsPermutation (advance system before head).events events

-- Whoever moves has its seat in a tree, if one has: it is of the model that its delivery says.
abbrev pub HasSeat : Sim → Delivery → Type 0
HasSeat tree own = IfSome (leaf_at (seat_behind root own.path) tree) (λ leaf. leaf.model ≡ own.model)

-- So each does behind the moves of those before it.
abbrev pub AreSeated : System → ℕ → List Delivery → Sim → ℕ → Type 0
AreSeated system time order tree room =
    (before later : List Delivery) (own : Delivery) (after : Sim) (left : ℕ) → order ≡ before ++ own ∷ later →
    (move_each system root time before tree room).end ≡ Ok (after, left) → HasSeat after own
