-- What contracts see of the sources in memory.
use Rattle.std.specs.Prelude.{ℕ, List}
use Rattle.dsde_io.specs.declared.calls.Calls.{Calls}

-- A source whose reads may fail: the bytes that are left, the most that one read gives, the calls.
pub record MemorySourceState : Type 0 where
  pub left : List ℕ
  pub largest : ℕ
  pub calls : Calls

-- A source whose reads do not fail, with the number of its calls.
pub record SureSourceState : Type 0 where
  pub left : List ℕ
  pub largest : ℕ
  pub calls : ℕ
