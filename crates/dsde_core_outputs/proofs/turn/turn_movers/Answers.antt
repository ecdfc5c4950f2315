use Rattle.std.proofs.Common.{◌+◌, ◌*◌, ◌≤◌, ℕ, List, length, map, sym, subst, arith, rules, IsNone}
use Rattle.dsde_bank.specs.declared.handle.Handle.{Handle}
use Rattle.dsde_values.specs.Path.{root}
use Rattle.dsde_core_parcels.specs.given.core_flat.Due as due
use Rattle.dsde_core_parcels.specs.given.core_flat.Scheduled.{IsScheduledBut}
use Rattle.dsde_core_outputs.proofs.Paying.{lone-paid, net-paid}
use Rattle.dsde_core_outputs.proofs.Waiting.{stands-with, waits-by}
use Rattle.dsde_core_outputs.proofs.turn.turn_movers.Goals as goal

pub net_movers-requires-clause-stands : goal.net_movers-requires-clause-stands
net_movers-requires-clause-stands g c = stands-with c.args.program.now c.args.flat.now c.turn_due.new.queue c.requires.stands

pub root_movers-requires-clause-stands : goal.root_movers-requires-clause-stands
root_movers-requires-clause-stands g c = stands-with c.args.program.now c.args.flat.now c.pass_due.new.queue c.requires.stands

pub returns-clause-waits : goal.returns-clause-waits
returns-clause-waits g c = waits-by c.args.flat.now.grove c.in_ok-due.due.items c.turn_due.new.queue.pairs c.in_ok-due.ensures.left c.net_movers.result c.net_movers.ensures.wait

pub returns-then-is_none-clause-waits : goal.returns-then-is_none-clause-waits
returns-then-is_none-clause-waits g c =
    let a = c.args in
    let none : IsNone a.flat.now.wiring = search rules in
    let dues = c.lone_due_wait.ensures a.flat.now.grove a.time a.flat.now.queue.pairs root c.requires.stands.tree c.requires.scheduled c.requires.ordered (c.lone_components_move.ensures.dues a.program.now a.flat.now a.time c.requires.stands none) in
    waits-by a.flat.now.grove dues.0 c.pass_due.new.queue.pairs
    (subst (λ (pairs : List (ℕ × Handle)). IsScheduledBut a.flat.now.grove (map due.handle_of dues.0) pairs) (sym c.pass_due.ensures.pairs) dues.2) c.root_movers.result (c.root_movers.ensures.wait dues.0 dues.1)

pub returns-clause-paid : goal.returns-clause-paid
returns-clause-paid g c =
    let a = c.args in
    net-paid a.program.now a.flat.now c.turn_due.new.queue a.time a.items.now (length c.in_ok-due.due.items) a.looks.now c.turn_due.new.looks c.net_movers.new.looks (length a.flat.now.queue.pairs) (length c.turn_due.new.queue.pairs) c.net_movers.result
    c.in_ok-due.ensures.ticks c.net_movers.ensures.many c.net_movers.ensures.ticks

pub returns-then-is_none-clause-paid : goal.returns-then-is_none-clause-paid
returns-then-is_none-clause-paid g c =
    let a = c.args in
    let none : IsNone a.flat.now.wiring = search rules in
    let dues = c.lone_due_wait.ensures a.flat.now.grove a.time a.flat.now.queue.pairs root c.requires.stands.tree c.requires.scheduled c.requires.ordered (c.lone_components_move.ensures.dues a.program.now a.flat.now a.time c.requires.stands none) in
    let less : a.looks.now + 4 * length c.pass_due.new.queue.pairs ≤ a.looks.now + 4 * length a.flat.now.queue.pairs + 65 * length dues.0 = omega (arith, c.pass_due.ensures.shorter) in
    lone-paid a.program.now a.flat.now c.pass_due.new.queue a.time a.items.now (length dues.0) a.looks.now a.looks.now c.root_movers.new.looks (length a.flat.now.queue.pairs) (length c.pass_due.new.queue.pairs) c.root_movers.result
    less (c.root_movers.ensures.many dues.0 dues.1) c.root_movers.ensures.ticks (c.root_movers.ensures.rows dues.0 dues.1)
