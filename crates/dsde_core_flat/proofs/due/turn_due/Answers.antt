use Rattle.std.proofs.Common.{◌≡◌, ◌+◌, ◌*◌, ℕ, None, List, length, map, IsPermutation, sym, ap, subst, ◌∙◌, arith}
use Rattle.std.proofs.lemmas.List.Sorted.{length_permutation}
use Rattle.dsde_bank.specs.declared.handle.Handle.{Handle}
use Rattle.dsde_queue.specs.Queue.{handles}
use Rattle.dsde_core_flat.specs.Scheduled.{IsScheduledBut}
use Rattle.dsde_core_flat.specs.declared.due.Due.{Due}
use Rattle.dsde_core_flat.specs.Due.{due_after, at_time, handle_of}
use Rattle.dsde_core_flat.proofs.Taking.{taken-due, taken-left}
use Rattle.dsde_core_flat.proofs.due.turn_due.Goals as goal

pub returns-clause-due : goal.returns-clause-due
returns-clause-due g c =
    taken-due c.args.grove.now c.args.time c.requires.tree c.args.queue.now.pairs c.requires.scheduled c.requires.ordered c.in_ok-sorted.sorted.items
    (subst (λ (list : List Due). IsPermutation list c.in_ok-sorted.sorted.items) c.in_ok-list.ensures.list c.in_ok-sorted.ensures.same) c.in_ok-sorted.ensures.order

pub returns-clause-left : goal.returns-clause-left
returns-clause-left g c =
    subst (λ (pairs : List (ℕ × Handle)). IsScheduledBut c.args.grove.now (map handle_of c.in_ok-sorted.sorted.items) pairs) (sym c.in_ok-list.ensures.pairs)
    (taken-left c.args.grove.now c.args.time c.requires.tree c.args.queue.now.pairs c.requires.scheduled c.requires.ordered c.in_ok-sorted.sorted.items
    (subst (λ (list : List Due). IsPermutation list c.in_ok-sorted.sorted.items) c.in_ok-list.ensures.list c.in_ok-sorted.ensures.same) c.in_ok-sorted.ensures.order)

pub returns-clause-ticks : goal.returns-clause-ticks
returns-clause-ticks g c =
    omega (arith, c.in_ok-list.ensures.ticks, length_permutation c.in_ok-list.list.items c.in_ok-sorted.sorted.items c.in_ok-sorted.ensures.same)
