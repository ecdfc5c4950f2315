use Rattle.std.proofs.Common.{◌*◌, ◌+◌}
use Rattle.dsde_image_rows.proofs.Kids.{HaveRestored}
use Rattle.dsde_image_rows.proofs.walk.+restoring.Given as goal

abbrev pub decreases-restored : goal.decreases-restored
decreases-restored l = 5 * l.left

abbrev pub decreases-restored_net : goal.decreases-restored_net
decreases-restored_net l = 5 * l.left + 4

abbrev pub decreases-with_boss : goal.decreases-with_boss
decreases-with_boss l = 5 * l.left + 3

abbrev pub decreases-restored_kids : goal.decreases-restored_kids
decreases-restored_kids l = 5 * l.left + 2

abbrev pub decreases-restored_kid : goal.decreases-restored_kid
decreases-restored_kid l = 5 * l.left + 1

abbrev pub invariant-restored_kids-loop-entry : goal.invariant-restored_kids-loop-entry
invariant-restored_kids-loop-entry l =
    HaveRestored l.walk.program.now l.walk.version l.walk.time l.left l.path l.fn.entries (l.fn.here.rows.now, l.fn.here.room) l.done (l.here.rows.now, l.here.room) l.entry-iterator.rest.items
