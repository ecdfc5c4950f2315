-- What contracts see of a source over a reader and of a sink over a writer.
use Rattle.std.specs.Prelude.{ℕ, ◌-◌, Bool, List, length, take, Option, Some, None}
use Rattle.std.specs.Option.{option_map}

-- A source: the bytes that the reader will give, where it tells them, and the reads that failed.
pub record StreamSourceState : Type 0 where
  pub left : Option (List ℕ)
  pub faults : ℕ

-- A sink: the bytes that it handed on, where the writer tells what it holds; whether a flush
-- failed, after which nothing is written; and the writes that failed.
pub record StreamSinkState : Type 0 where
  pub written : Option (List ℕ)
  pub broken : Bool
  pub faults : ℕ

-- what a writer holds but for the last bytes, where a flush of so many failed
abbrev pub handed_on : Option ℕ → Option (List ℕ) → Option (List ℕ)
handed_on None held = held
handed_on (Some count) held = option_map (λ bytes. take (length bytes - count) bytes) held
