use Rattle.std.proofs.Common.{◌+◌, ◌*◌, length}
use Rattle.dsde_repair.proofs.through.+through.Given as goal

abbrev pub decreases-add_through : goal.decreases-add_through
decreases-add_through l = 2 * length l.place.now

abbrev pub decreases-add_beneath : goal.decreases-add_beneath
decreases-add_beneath l = 2 * length l.rest.now + 1
