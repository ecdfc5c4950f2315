-- What statements leave: what there is behind them, or where and why they stopped.
use Rattle.std.specs.Prelude.{Option, Some, None, Result, Ok, Err}
use Rattle.dsde_language.specs.Outcome.{Halt, Outcome}

-- what there was where statements stopped, and why
pub record Stopped (S : Type 0) : Type 0 where
  pub state : S
  pub halt : Halt

-- what there is behind statements, or where they stopped
abbrev pub Flow : Type 0 → Type 0 → Type 0
Flow S A = Result A (Stopped S)

abbrev pub stopped : {S A : Type 0} → S → Halt → Flow S A
stopped state halt = Err (record { state = state; halt = halt })

-- an outcome over what there is
abbrev pub over : {S A : Type 0} → S → Outcome A → Flow S A
over state (Ok value) = Ok value
over state (Err halt) = stopped state halt

-- what there is at either end, after a change
abbrev pub inside : {S : Type 0} → (S → S) → Flow S S → Flow S S
inside change (Ok state) = Ok (change state)
inside change (Err end) = stopped (change end.state) end.halt

-- an outcome of statements whose state no one sees
abbrev pub lifted : {S : Type 0} → Flow S S → Outcome S
lifted (Ok state) = Ok state
lifted (Err end) = Err end.halt

-- why statements stopped, if they did
abbrev pub why : {S A : Type 0} → Flow S A → Option Halt
why (Ok value) = None
why (Err end) = Some end.halt
