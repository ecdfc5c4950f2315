use Rattle.std.proofs.Common.{ap, ◌∙◌}
use Rattle.dsde_values.specs.declared.path.Path.{Path}
use Rattle.dsde_sim_tree.specs.Told.{to_boss}
use Rattle.dsde_image.specs.declared.image.Body.TheVariants as body
use Rattle.dsde_image.specs.declared.image.Standing.{Standing}
use Rattle.dsde_image_rows.specs.Script.{script}
use Rattle.dsde_image_rows.specs.Listed.{row_at}
use Rattle.dsde_image_rows.proofs.Rows.{as-put}
use Rattle.dsde_image_rows.proofs.listing.put_boss.Goals as goal

pub returns : goal.returns
returns c =
    as-put c.put_row.result c.args.listed.now c.put_row.new.listed _ _
    (ap (λ (path : Path). row_at (script c.args.program.now) c.args.version path c.args.leaf.now.model (body.Executive c.in_ok-standing.standing)) c.in_ok-path.ensures
    ∙ ap (λ (standing : Standing). row_at (script c.args.program.now) c.args.version (to_boss c.args.path.now) c.args.leaf.now.model (body.Executive standing)) c.in_ok-standing.ensures)
    c.put_row.ensures
