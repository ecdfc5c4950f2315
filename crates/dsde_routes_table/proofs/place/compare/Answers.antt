use Rattle.std.proofs.Common.{◌≡◌, sym, subst, false, true}
use Rattle.std.specs.Bool.{IsTrue}
use Rattle.dsde_routes_table.proofs.Ordered.{up-to, not-same}
use Rattle.dsde_routes_table.proofs.place.compare.Goals as goal

pub returns-else-are_same_rows : goal.returns-else-are_same_rows
returns-else-are_same_rows c = (
  up-to c.args.own.now c.args.row.now c.compare_targets.result (sym c.compare_targets.ensures) c.in_default.not-Less,
  not-same c.args.row.now c.args.own.now (λ is. let wrong : false ≡ true = subst IsTrue c.if-are_same_rows.false (c.are_same_rows.ensures.1 is) in absurd (cc)),
)
