-- What a turn of an engine leaves, in whatever order its parts move.
use Rattle.std.specs.Prelude.{◌+◌, ◌≡◌, ◌≤◌, Bool, true, Option, Some, None}
use Rattle.dsde_values.specs.declared.arrival.Arrival.{Arrival}
use Rattle.dsde_sim_tree.specs.declared.step.Step.{Step}
use Rattle.dsde_sim_tree.specs.declared.step.Step.TheVariants.{Turned, Quiet}
use Rattle.dsde_sim_tree.specs.Engine.{Engine}

-- A turn is not later than its head, and at the head's time where it takes it.
abbrev pub IsTimely : Option Arrival → Engine → Bool → Type 0
IsTimely (Some head) after took_input = (after.time ≤ head.time) × (took_input ≡ true → after.time ≡ head.time)
IsTimely None after took_input = Unit {0}

-- One turn more is done, at its time.
pub record IsTurned (before after : Engine) (head : Option Arrival) (took_input : Bool) : Type 0 where
  pub counted : after.turn ≡ before.turn + 1
  pub timely : IsTimely head after took_input

-- A turn was taken; or there is no head, and the state is as it was.
abbrev pub StepsOn : {State : Type 0} → (State → Engine) → State → State → Option Arrival → Step → Type 0
StepsOn engine before after head (Turned took_input) = IsTurned (engine before) (engine after) head took_input
StepsOn engine before after head Quiet = (head ≡ None) × (after ≡ before)
