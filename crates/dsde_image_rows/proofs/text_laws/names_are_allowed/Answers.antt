use Rattle.dsde_image_rows.proofs.Allowed.{names-allowed}
use Rattle.dsde_image_rows.proofs.text_laws.names_are_allowed.Goals as goal

pub returns : goal.returns
returns c = names-allowed c.expressions_agree.ensures c.functions_agree.ensures c.known_is_within.ensures c.structures_stand.ensures
