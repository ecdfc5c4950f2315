-- What contracts see of the sinks in memory.
use Rattle.std.specs.Prelude.{ℕ, List}
use Rattle.dsde_io.specs.declared.calls.Calls.{Calls}

-- A sink whose writes may fail: the bytes that it holds, and its calls.
pub record MemorySinkState : Type 0 where
  pub written : List ℕ
  pub calls : Calls

-- A sink whose writes do not fail, with the number of its calls.
pub record SureSinkState : Type 0 where
  pub written : List ℕ
  pub calls : ℕ
