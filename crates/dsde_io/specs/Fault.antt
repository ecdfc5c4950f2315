-- Faults of the outside, which each object counts.
use Rattle.std.specs.Prelude.{ℕ, ◌+◌, ◌-◌, ◌^◌, ◌≤◌, min}

-- one more, up to the last number that a count reaches
abbrev pub one_more : ℕ → ℕ
one_more count = min (count + 1) (2 ^ 64 - 1)

-- The count rose, or it stands at the last number that it reaches.
abbrev pub Rose : ℕ → ℕ → Type 0
Rose before after = one_more before ≤ after
