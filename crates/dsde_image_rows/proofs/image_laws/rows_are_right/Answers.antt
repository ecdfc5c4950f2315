use Rattle.dsde_image_rows.proofs.RowsOfTrees.{tree-has}
use Rattle.dsde_image_rows.proofs.image_laws.rows_are_right.Goals as goal

pub returns : goal.returns
returns c = λ model right version time tree fits stands. tree-has c.components_are_called.ensures c.names_are_allowed.ensures model right version time tree fits stands
