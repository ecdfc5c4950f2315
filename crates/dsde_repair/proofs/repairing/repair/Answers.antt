use Rattle.std.proofs.Common.{◌++◌, List, ap, sym, ◌∙◌, subst}
use Rattle.std.specs.List.{flat_map}
use Rattle.dsde_routes_wiring.specs.declared.row.Row.{Row}
use Rattle.dsde_routes_wiring.specs.Touched.{handles_of, handles_of_kid}
use Rattle.dsde_routes_wiring.specs.Wired.{AreWired}
use Rattle.dsde_repair_walks.proofs.Counting.{distinct-handles}
use Rattle.dsde_repair.specs.Change.{rows_in, rows_out}
use Rattle.dsde_repair.proofs.Changing.{ok-const, after-wired, table-repaired, ticks-repaired}
use Rattle.dsde_repair.proofs.repairing.repair.Goals as goal

pub returns-clause-wiring : goal.returns-clause-wiring
returns-clause-wiring g c = ok-const c.insert_all.result _ c.in_ok-change.ensures.wiring

pub returns-clause-wired : goal.returns-clause-wired
returns-clause-wired g c = ok-const c.insert_all.result _ (subst AreWired (sym c.in_ok-change.ensures.wiring.3) (after-wired c.args.place.now c.args.gone.now c.args.fresh c.in_ok-change.ensures.wiring.0 c.args.links c.args.wiring.now c.requires.there c.requires.wired c.in_ok-change.ensures.wiring.1 c.in_ok-change.ensures.wiring.2 c.requires.links c.requires.below))

pub returns-clause-table : goal.returns-clause-table
returns-clause-table g c =
    table-repaired c.insert_all.result c.args.place.now c.args.gone.now c.args.fresh c.in_ok-change.ensures.wiring.0 c.args.links c.args.wiring.now c.change.new.wiring
    c.requires.there c.requires.wired (distinct-handles (handles_of c.args.wiring.now ++ flat_map handles_of_kid c.args.fresh) c.requires.distinct)
    c.in_ok-change.ensures.wiring.1 c.in_ok-change.ensures.wiring.2 c.in_ok-change.ensures.wiring.3 c.requires.links c.requires.below
    c.as_slice-3.result.now c.change.new.new
    (c.as_slice-3.ensures ∙ c.in_ok-change.ensures.old ∙ ap (λ (rows : List Row). rows ++ rows_out c.args.place.now c.args.gone.now c.args.wiring.now) c.room_for-old.ensures)
    (c.in_ok-change.ensures.new ∙ ap (λ (rows : List Row). rows ++ rows_in c.args.place.now c.args.fresh c.change.new.wiring) c.room_for-new.ensures)
    c.args.table.now c.remove_all.new.table c.insert_all.new.table c.requires.table c.remove_all.ensures.has c.insert_all.ensures.has

pub returns-clause-ticks : goal.returns-clause-ticks
returns-clause-ticks g c =
    ticks-repaired c.insert_all.result c.args.place.now c.args.gone.now c.args.fresh c.in_ok-change.ensures.wiring.0 c.args.links c.args.wiring.now c.change.new.wiring
    c.requires.there c.requires.wired (distinct-handles (handles_of c.args.wiring.now ++ flat_map handles_of_kid c.args.fresh) c.requires.distinct)
    c.in_ok-change.ensures.wiring.1 c.in_ok-change.ensures.wiring.2 c.in_ok-change.ensures.wiring.3 c.requires.links c.requires.below
    c.as_slice-3.result.now c.change.new.new
    (c.as_slice-3.ensures ∙ c.in_ok-change.ensures.old ∙ ap (λ (rows : List Row). rows ++ rows_out c.args.place.now c.args.gone.now c.args.wiring.now) c.room_for-old.ensures)
    (c.in_ok-change.ensures.new ∙ ap (λ (rows : List Row). rows ++ rows_in c.args.place.now c.args.fresh c.change.new.wiring) c.room_for-new.ensures)
    c.args.table.now c.remove_all.new.table c.insert_all.new.table c.requires.table c.remove_all.ensures.has c.insert_all.ensures.has
    c.args.changes.now c.remove_all.new.changes c.insert_all.new.changes c.remove_all.ensures.ticks c.insert_all.ensures.ticks
