-- What contracts see of the shelves in memory.
use Rattle.std.specs.Prelude.{ℕ, List}
use Rattle.dsde_io.specs.declared.calls.Calls.{Calls}
use Rattle.dsde_io.specs.declared.stored.Stored.{Stored}

-- A shelf whose calls may fail: what it holds, and its calls.
pub record MemoryShelfState : Type 0 where
  pub contents : List Stored
  pub calls : Calls

-- A shelf whose calls do not fail, with the number of its calls.
pub record SureShelfState : Type 0 where
  pub contents : List Stored
  pub calls : ℕ
