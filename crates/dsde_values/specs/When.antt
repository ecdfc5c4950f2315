-- Moments of a run.
use Rattle.std.specs.Prelude.{ℕ, ◌<◌, ◌^◌}

-- a moment of a run, of which 2^63 - 1 is the last
abbrev pub IsMoment : ℕ → Type 0
IsMoment time = time < 2 ^ 63
