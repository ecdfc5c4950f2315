use Rattle.std.proofs.Common.{◌≡◌, ◌+◌, ◌++◌, length, map}
use Rattle.dsde_grove.proofs.Frontier.{handle_of}
use Rattle.dsde_grove.proofs.kids.Kids.push_to.Given as goal

abbrev pub invariant-loop-handle : goal.invariant-loop-handle
invariant-loop-handle l =
    (l.work.items ++ l.handle-iterator ≡ l.initial.work.items ++ map handle_of l.self)
    × (l.work.spare + length l.self ≡ l.initial.work.spare + length l.handle-iterator)
