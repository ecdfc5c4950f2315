-- Room was kept for as many nodes as were counted.
use Rattle.std.proofs.Common.{◌≡◌, ◌+◌, length}
use Rattle.dsde_program_layout.specs.Lay.{rooms}
use Rattle.dsde_program_expressions.proofs.table.rooms.Given as goal

abbrev pub invariant-loop-place : goal.invariant-loop-place
invariant-loop-place l = (l.nodes ≡ rooms l._place l.fn.nodes) × (length l.nodes ≡ length l.fn.nodes + l._place)
