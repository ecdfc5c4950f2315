use Rattle.std.proofs.Common.{◌≡◌, ◌&&◌, not, Bool, true, false, refl, ◌∙◌, ap}
use Rattle.std.specs.FinSet as set
use Rattle.dsde_routes_wiring.specs.Rows.{is_same_row}
use Rattle.dsde_routes_wiring.specs.Sets.{Rows, row_cmp-total}
use Rattle.dsde_repair_walks.proofs.Ticking.{taken-out}
use Rattle.dsde_repair_walks.proofs.table.remove.Goals as goal

turned : (a b : Bool) → (a && b) ≡ (b && a)
turned true true = refl
turned true false = refl
turned false true = refl
turned false false = refl

pub returns-clause-has : goal.returns-clause-has
returns-clause-has g c other =
    ap (λ (rows : Rows). set.contains rows other) c.remove_row.ensures.rows
    ∙ set.contains-remove row_cmp-total c.args.table.now c.args.row.now other
    ∙ turned (not (is_same_row other c.args.row.now)) (set.contains c.args.table.now other)

pub returns-clause-ticks : goal.returns-clause-ticks
returns-clause-ticks g c =
    taken-out c.args.table.now c.remove_row.new.self c.args.row.now c.remove_row.result c.args.changes.now c.remove_row.new.changes
    c.remove_row.ensures.rows c.remove_row.ensures.was_there c.remove_row.ensures.ticks
