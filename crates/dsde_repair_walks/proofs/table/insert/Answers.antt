use Rattle.std.proofs.Common.{◌∙◌, ap}
use Rattle.std.specs.FinSet as set
use Rattle.dsde_routes_wiring.specs.Sets.{Rows, row_cmp-total}
use Rattle.dsde_repair_walks.proofs.Finding.{ok-map}
use Rattle.dsde_repair_walks.proofs.Ticking.{put-in}
use Rattle.dsde_repair_walks.proofs.table.insert.Goals as goal

pub returns-clause-has : goal.returns-clause-has
returns-clause-has g c =
    ok-map c.insert_row.result _ _
    (λ is other. ap (λ (rows : Rows). set.contains rows other) is ∙ set.contains-insert row_cmp-total c.args.table.now c.args.row other)
    c.insert_row.ensures.rows

pub returns-clause-ticks : goal.returns-clause-ticks
returns-clause-ticks g c =
    put-in c.insert_row.result c.args.table.now c.insert_row.new.self c.args.row c.args.changes.now c.insert_row.new.changes
    c.insert_row.ensures.rows c.insert_row.ensures.is_new c.insert_row.ensures.kept c.insert_row.ensures.ticks c.insert_row.ensures.no_tick
