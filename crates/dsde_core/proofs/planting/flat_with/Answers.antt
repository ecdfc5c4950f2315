use Rattle.std.proofs.Common.{◌∙◌, ◌≤◌, length, ap, arith}
use Rattle.dsde_sim_tree.specs.Tree.{parts}
use Rattle.dsde_core_moving.specs.given.core_moves.flat_Flat.{Flat}
use Rattle.dsde_core_moving.specs.given.core_moves.Flat.{rows_of}
use Rattle.dsde_core.proofs.Planted.{own-names, rests}
use Rattle.dsde_core.proofs.planting.flat_with.Goals as goal

pub plant-requires-clause-names : goal.plant-requires-clause-names
plant-requires-clause-names g c = own-names c.requires.fits.0 c.args.sim c.requires.fits.1

pub plant-requires-clause-births : goal.plant-requires-clause-births
plant-requires-clause-births g c =
    let within : parts c.args.sim ≤ 131072 = c.requires.within in
    omega (arith, within)

pub returns-clause-rests : goal.returns-clause-rests
returns-clause-rests g c =
    let made = c.in_ok-grove.field-0 in
    let flat : Flat = record { root = made.root; grove = made.grove; queue = c.due_time.new.queue; rows = c.in_ok-rows.rows; wiring = made.wiring } in
    rests flat c.args.sim c.due_time.result (length c.compact_schedule.new.queue.pairs) c.in_ok-grove.ensures.stands c.in_ok-grove.ensures.tree (c.in_ok-rows.ensures ∙ ap rows_of c.as_ref.ensures.value) c.requires.within
    c.due_time.ensures.scheduled c.due_time.ensures.time c.due_time.ensures.least c.due_time.ensures.shorter c.compact_schedule.ensures.few
