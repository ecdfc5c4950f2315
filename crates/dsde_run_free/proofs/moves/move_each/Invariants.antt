use Rattle.dsde_run.specs.given.system.Program.{system}
use Rattle.dsde_run_free.proofs.Moving.{Gone}
use Rattle.dsde_run_free.proofs.moves.move_each.Given as goal

abbrev pub invariant-loop-mover : goal.invariant-loop-mover
invariant-loop-mover l = Gone l.program (system l.program) l.time l.fn.order l.fn.tree l.fn.room l.fn.events l.mover-iterator.rest.items l.tree l.room l.events
