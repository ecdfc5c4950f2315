-- When the turns of an engine are. This project's profile.
use Rattle.std.specs.Prelude.{◌≡◌, ℕ, Option, Some, IfSome}
use Rattle.dsde_syntax.specs.declared.decl.Model.{Model}
use Rattle.dsde_values.specs.declared.arrival.Arrival.{Arrival}
use Rattle.dsde_values.specs.When.{IsMoment}
use Rattle.dsde_sound_runs.specs.given.sim_starting.Fitting.{FitsTree}
use Rattle.dsde_sim_tree.specs.Engine.{Engine, next_of}
use Rattle.dsde_sim_tree.specs.Turn.{turn_time}

-- The next turn of an engine that has a tree of the program is at a moment of a run, if the head comes at one.
abbrev pub TurnsAreInTime : Type 0
TurnsAreInTime =
    (model : Model) (engine : Engine) (head : Option Arrival) (time : ℕ)
    → IfSome engine.tree (FitsTree model) → IfSome head (λ own. IsMoment own.time) → turn_time (next_of engine) head ≡ Some time → IsMoment time
