use Rattle.std.proofs.Common.{◌≡◌, take, None}
use Rattle.dsde_io.specs.Stored.{bytes_under}
use Rattle.dsde_io.proofs.entries.place_of.Given as goal

abbrev pub invariant-loop-place : goal.invariant-loop-place
invariant-loop-place l = bytes_under (take l.place l.contents) l.name ≡ None
