-- What a turn of an engine takes, and when it is. This project's profile.
use Rattle.std.specs.Prelude.{ℕ, ◌+◌, ◌≡◌, Bool, if◌then◌else◌, Option, Some, Ok}
use Rattle.dsde_values.specs.declared.arrival.Arrival.{Arrival}
use Rattle.dsde_formalism.specs.System.{System}
use Rattle.dsde_sim_tree.specs.declared.step.Step.TheVariants.{Turned}
use Rattle.dsde_sim_tree.specs.Engine.{Engine, next_of}
use Rattle.dsde_sim_tree.specs.Turn.{advance, is_taken, turn_time}

-- An engine took a turn: at the time that comes next, with the head where it is at that time.
pub record Turns (engine : Engine) (head : Option Arrival) (took : Bool) (after : Engine) : Type 0 where
  pub time : ℕ
  pub next : turn_time (next_of engine) head ≡ Some time
  pub at : after.time ≡ time
  pub takes : took ≡ is_taken head time
  pub counted : after.turn ≡ engine.turn + 1
  pub taken : after.taken ≡ engine.taken + (if took then 1 else 0)

abbrev pub TurnsAreTaken : Type 0
TurnsAreTaken = (system : System) (engine : Engine) (head : Option Arrival) (took : Bool) (after : Engine) → (advance system engine head).end ≡ Ok (Turned took, after) → Turns engine head took after
