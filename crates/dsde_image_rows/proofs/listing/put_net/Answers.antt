use Rattle.std.proofs.Common.{List, ℕ, ap}
use Rattle.dsde_image.specs.declared.image.Body.TheVariants as body
use Rattle.dsde_image_rows.specs.Script.{script}
use Rattle.dsde_image_rows.specs.Listed.{row_at}
use Rattle.dsde_image_rows.proofs.Rows.{as-put}
use Rattle.dsde_image_rows.proofs.listing.put_net.Goals as goal

pub returns : goal.returns
returns c =
    as-put c.put_row.result c.args.listed.now c.put_row.new.listed _ _ (ap (λ (args : List (List ℕ)). row_at (script c.args.program.now) c.args.version c.args.path.now c.args.model (body.Net args)) c.in_ok-args.ensures) c.put_row.ensures
