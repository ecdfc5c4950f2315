use Rattle.dsde_image_rows.proofs.LastNames.{last-ok}
use Rattle.dsde_image_rows.proofs.locations.last_text.Goals as goal

pub returns-in-Some : goal.returns-in-Some
returns-in-Some c =
    last-ok c.name_text.result c.args.path.now.names c.as_slice.result.now c.in-Some.field-0-1.now c.in-Some.name.now c.as_slice.ensures c.in-Some.ensures.cases.0 c.name_text.ensures
