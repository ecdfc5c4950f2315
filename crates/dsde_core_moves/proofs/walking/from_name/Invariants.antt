use Rattle.std.proofs.Common.{◌≡◌, length}
use Rattle.dsde_sim_changing.specs.Heads.{from_name}
use Rattle.dsde_core_moves.proofs.walking.from_name.Given as goal

abbrev pub invariant-loop-first : goal.invariant-loop-first
invariant-loop-first l = from_name l.name l.rest ≡ from_name l.name l.entries

abbrev pub decreases-loop-first : goal.decreases-loop-first
decreases-loop-first l = length l.rest
