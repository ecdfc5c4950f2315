use Rattle.std.proofs.Common.{take}
use Rattle.dsde_io.specs.Stored.{AreDistinct}
use Rattle.dsde_io.proofs.entries.has_distinct_names.Given as goal

abbrev pub invariant-loop-place : goal.invariant-loop-place
invariant-loop-place l = AreDistinct (take l.place l.contents)
