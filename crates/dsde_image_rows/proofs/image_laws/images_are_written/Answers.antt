use Rattle.dsde_image_rows.proofs.Written.{tree-written}
use Rattle.dsde_image_rows.proofs.image_laws.images_are_written.Goals as goal

pub returns : goal.returns
returns c = λ model right time tree fits stands. tree-written c.components_are_called.ensures c.texts_are_ascii.ensures.names c.texts_are_ascii.ensures.values model right time tree fits stands
