use Rattle.std.proofs.Common.{◌∙◌, ◌+◌, ap, sym, drop}
use Rattle.std.specs.FinSet as set
use Rattle.dsde_routes_wiring.specs.Sets.{Rows}
use Rattle.dsde_routes.specs.Passing.{rows_by}
use Rattle.dsde_routes.specs.Putting.{put_all}
use Rattle.dsde_routes.proofs.Flows.{rows-more, rows-none, ticked}
use Rattle.dsde_routes.proofs.flowing.put_rows.Goals as goal

pub loop-passing-preserved : goal.loop-passing-preserved
loop-passing-preserved g c = (
  ap (λ (table : Rows). put_all table (rows_by c.args.target (drop (c.loop-passing.passing-index + 1) c.args.list.now))) (c.in_ok-insert_row.ensures.rows ∙ ap (set.insert c.loop-passing.table) c.in_ok-row.ensures)
      ∙ sym (rows-more c.args.target c.loop-passing.table c.args.list.now c.loop-passing.passing-index c.passing-item.result c.loop-passing-test.true c.passing-item.is)
      ∙ c.loop-passing.invariant.0,
  ticked c.loop-passing.table c.in_ok-row.row c.insert_row.new.self c.in_ok-insert_row.field-0 c.loop-passing.changes c.insert_row.new.changes c.args.changes.now (set.len c.args.table.now)
      c.in_ok-insert_row.ensures.rows c.in_ok-insert_row.ensures.is_new c.in_ok-insert_row.ensures.ticks c.loop-passing.invariant.1,
)

pub returns-clause-rows : goal.returns-clause-rows
returns-clause-rows g c = rows-none c.args.target c.loop-passing.table _ c.args.list.now c.loop-passing.passing-index c.loop-passing-test.false c.loop-passing.invariant.0
