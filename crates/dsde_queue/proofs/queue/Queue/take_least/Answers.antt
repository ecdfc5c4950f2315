use Rattle.std.proofs.Common.{◌++◌, ◌<◌, All, length, sym, ap, subst, ◌∙◌, append-nil, arith}
use Rattle.dsde_queue.specs.Queue.{handles, IsOrdered}
use Rattle.dsde_queue.proofs.Order.{Pair}
use Rattle.dsde_queue.proofs.Due.{IsTaking-start, due_of-first, later_than_due-first, none_left, left_later, one_due}
use Rattle.dsde_queue.proofs.queue.Queue.take_least.Goals as goal

pub loop-handle-init : goal.loop-handle-init
loop-handle-init c =
    let first = sym c.in_ok-time.ensures.first in
    IsTaking-start _ _ c.args.self.now c.args.due.now first c.in_ok-time.ensures.ordered

pub push_reserved-requires : goal.push_reserved-requires
push_reserved-requires c =
    let first = sym c.in_ok-time.ensures.first in
    let due = due_of-first c.args.self.now.pairs _ _ first in
    let some = one_due _ _ c.loop-handle.self.pairs _ c.in-Some.ensures.taken.pairs in
    record { room = omega (arith, some, ap length due, c.requires.room, c.loop-handle.invariant.due_room) }

pub returns-clause-taken : goal.returns-clause-taken
returns-clause-taken c =
    let inv = c.loop-handle.invariant in
    let left = none_left _ c.loop-handle.self.pairs c.in_default.ensures.ordered inv.none_earlier c.in_default.ensures.taken.0 in
    ap (λ q. q.pairs) c.in_default.ensures.taken.1 ∙ sym left.1 ∙ inv.others ∙ sym (later_than_due-first c.args.self.now.pairs _ _ (sym c.in_ok-time.ensures.first))

pub returns-clause-room : goal.returns-clause-room
returns-clause-room c =
    let inv = c.loop-handle.invariant in
    let left = none_left _ c.loop-handle.self.pairs c.in_default.ensures.ordered inv.none_earlier c.in_default.ensures.taken.0 in
    let due = due_of-first c.args.self.now.pairs _ _ (sym c.in_ok-time.ensures.first) in
    omega (arith, ap (λ q. q.spare) c.in_default.ensures.taken.1, ap length left.0, ap length due, inv.room)

pub returns-clause-due : goal.returns-clause-due
returns-clause-due c =
    let inv = c.loop-handle.invariant in
    let left = none_left _ c.loop-handle.self.pairs c.in_default.ensures.ordered inv.none_earlier c.in_default.ensures.taken.0 in
    let due = due_of-first c.args.self.now.pairs _ _ (sym c.in_ok-time.ensures.first) in
    sym (append-nil c.loop-handle.due.items) ∙ ap (λ l. c.loop-handle.due.items ++ handles l) (sym left.0) ∙ inv.taken ∙ ap (λ l. c.args.due.now.items ++ handles l) (sym due)

pub returns-clause-due_room : goal.returns-clause-due_room
returns-clause-due_room c =
    let inv = c.loop-handle.invariant in
    let left = none_left _ c.loop-handle.self.pairs c.in_default.ensures.ordered inv.none_earlier c.in_default.ensures.taken.0 in
    let due = due_of-first c.args.self.now.pairs _ _ (sym c.in_ok-time.ensures.first) in
    omega (arith, ap length left.0, ap length due, inv.due_room)

pub returns-clause-left : goal.returns-clause-left
returns-clause-left c = subst IsOrdered (sym (ap (λ q. q.pairs) c.in_default.ensures.taken.1)) c.in_default.ensures.ordered

pub returns-clause-later : goal.returns-clause-later
returns-clause-later c =
    subst (All (λ (pair : Pair). c.in_ok-time.time < pair.0)) (sym (ap (λ q. q.pairs) c.in_default.ensures.taken.1))
    (left_later _ c.loop-handle.self.pairs c.in_default.ensures.ordered c.loop-handle.invariant.none_earlier c.in_default.ensures.taken.0)
