use Rattle.std.proofs.Common.{◌≡◌, ◌+◌, length}
use Rattle.dsde_structure.specs.Survival.{compared, joined, IsInOrder}
use Rattle.dsde_structure.proofs.survival.compare_plans.Given as goal

abbrev pub invariant-loop-change : goal.invariant-loop-change
invariant-loop-change l =
    (joined l.change (compared l.olds l.news) ≡ compared l.fn.old.entries l.fn.new.entries) × IsInOrder l.olds × IsInOrder l.news

abbrev pub decreases-loop-change : goal.decreases-loop-change
decreases-loop-change l = length l.olds + length l.news
