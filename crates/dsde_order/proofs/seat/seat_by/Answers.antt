use Rattle.std.proofs.Common.{ap, sym}
use Rattle.dsde_sim_movers.specs.Movers.{Seat}
use Rattle.dsde_sim_movers.specs.lemmas.Named.{exact-by}
use Rattle.dsde_order.proofs.Seats.{by-boss, by-plain}
use Rattle.dsde_order.proofs.seat.seat_by.Goals as goal

pub returns-then-is_executive-clause-names : goal.returns-then-is_executive-clause-names
returns-then-is_executive-clause-names c = sym (ap (λ (seat : Seat). seat.names) (by-boss c.orders_are_total.ensures.names (exact-by c.one_name.ensures) c.args.names.now c.args.front.now c.args.last.now c.is_executive.result c.requires c.is_executive.ensures c.if-is_executive.true))

pub returns-then-is_executive-clause-boss : goal.returns-then-is_executive-clause-boss
returns-then-is_executive-clause-boss c = sym (ap (λ (seat : Seat). seat.is_boss) (by-boss c.orders_are_total.ensures.names (exact-by c.one_name.ensures) c.args.names.now c.args.front.now c.args.last.now c.is_executive.result c.requires c.is_executive.ensures c.if-is_executive.true))

pub returns-else-is_executive-clause-names : goal.returns-else-is_executive-clause-names
returns-else-is_executive-clause-names c = sym (ap (λ (seat : Seat). seat.names) (by-plain c.orders_are_total.ensures.names (exact-by c.one_name.ensures) c.args.names.now c.args.front.now c.args.last.now c.is_executive.result c.requires c.is_executive.ensures c.if-is_executive.false))

pub returns-else-is_executive-clause-boss : goal.returns-else-is_executive-clause-boss
returns-else-is_executive-clause-boss c = sym (ap (λ (seat : Seat). seat.is_boss) (by-plain c.orders_are_total.ensures.names (exact-by c.one_name.ensures) c.args.names.now c.args.front.now c.args.last.now c.is_executive.result c.requires c.is_executive.ensures c.if-is_executive.false))
