use Rattle.std.proofs.Common.{sym}
use Rattle.dsde_core_moves.proofs.Naming.{not-before}
use Rattle.dsde_core_moves.proofs.walking.is_before.Goals as goal

pub returns-then-is_same : goal.returns-then-is_same
returns-then-is_same c = sym (not-before c.args.name.now c.args.other.now (c.is_same.ensures.0 c.if-is_same.true))
