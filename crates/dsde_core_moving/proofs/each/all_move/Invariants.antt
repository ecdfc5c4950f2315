use Rattle.std.proofs.Common.{◌+◌, ◌*◌, ◌≤◌, length, map}
use Rattle.dsde_values.specs.Path.{root}
use Rattle.dsde_sim_starting.specs.given.system.Program.{system}
use Rattle.dsde_sim_movers.specs.Work.{entries_each, work}
use Rattle.dsde_core_moves.specs.Flat.{delivery_of, tree_of}
use Rattle.dsde_core_moving.proofs.Going.{Gone}
use Rattle.dsde_core_moving.proofs.each.all_move.Given as goal

abbrev pub invariant-loop-mover : goal.invariant-loop-mover
invariant-loop-mover g l =
    Gone l.program l.time l.fn.flat l.fn.movers l.fn.room l.fn.events l.mover-iterator.rest.items l.flat l.room l.events
    × (l.looks + 4 * length l.flat.queue.pairs + 16 * work l.fn.events + 4 * entries_each (system l.program) root l.time (map delivery_of l.mover-iterator.rest.items) (tree_of l.flat) l.room
    ≤ l.fn.looks + 4 * length l.fn.flat.queue.pairs + 16 * work l.events + 4 * entries_each (system l.program) root l.time (map delivery_of l.fn.movers) (tree_of l.fn.flat) l.fn.room)
    × (length l.fn.movers + work l.fn.events ≤ length l.mover-iterator.rest.items + work l.events)
