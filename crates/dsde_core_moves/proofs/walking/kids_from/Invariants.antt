use Rattle.std.proofs.Common.{◌≡◌, length}
use Rattle.dsde_core_moves.specs.Compared.{kids_from}
use Rattle.dsde_core_moves.proofs.walking.kids_from.Given as goal

abbrev pub invariant-loop-first : goal.invariant-loop-first
invariant-loop-first l = kids_from l.name l.rest ≡ kids_from l.name l.kids

abbrev pub decreases-loop-first : goal.decreases-loop-first
decreases-loop-first l = length l.rest
