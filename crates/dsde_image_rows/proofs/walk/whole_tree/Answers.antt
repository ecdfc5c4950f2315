use Rattle.std.proofs.Common.{false}
use Rattle.dsde_sim_tree.specs.declared.step.TheConstants.{MOST_PARTS}
use Rattle.dsde_sound_structures.specs.given.system.Program.{system}
use Rattle.dsde_image_rows.specs.Script.{script}
use Rattle.dsde_image_rows.specs.Walks.{HasLocation}
use Rattle.dsde_image_rows.proofs.Lasting.{first-of-last}
use Rattle.dsde_image_rows.proofs.walk.whole_tree.Goals as goal

pub left_over-requires : goal.left_over-requires
left_over-requires c =
    let left = c.left_are_last.ensures (system c.args.walk.now.program.now) (script c.args.walk.now.program.now) c.args.walk.now.version c.args.walk.now.time c.args.left false _ c.args.args c.in_ok-root.root (c.args.rows.now, MOST_PARTS) (c.in_ok-tree.tree, (c.restored.new.here.rows.now, c.restored.new.here.room)) c.in_ok-tree.ensures.walks in
    first-of-last (HasLocation c.args.walk.now.version) c.args.rows.now left.0 c.restored.new.here.rows.now _ c.in-Some.row.now left.1 c.in-Some.ensures.cases.0 c.requires.locations
