use Rattle.std.proofs.Common.{List, ℕ, ap, ◌∙◌}
use Rattle.dsde_image.specs.declared.image.Body.TheVariants as body
use Rattle.dsde_image.specs.declared.image.Standing.{Standing}
use Rattle.dsde_image_rows.specs.Rows.{texts}
use Rattle.dsde_image_rows.specs.Script.{script}
use Rattle.dsde_image_rows.specs.Listed.{row_at}
use Rattle.dsde_image_rows.proofs.Rows.{as-put}
use Rattle.dsde_image_rows.proofs.listing.put_atomic.Goals as goal

pub returns : goal.returns
returns c =
    let own = row_at (script c.args.program.now) c.args.version c.args.path.now c.args.leaf.now.model in
    as-put c.put_row.result c.args.listed.now c.put_row.new.listed _ _
    (ap (λ (args : List (List ℕ)). own (body.Atomic args c.in_ok-standing.standing)) c.in_ok-args.ensures ∙ ap (λ (standing : Standing). own (body.Atomic (texts (script c.args.program.now) c.args.leaf.now.args) standing)) c.in_ok-standing.ensures)
    c.put_row.ensures
