use Rattle.dsde_image.specs.Form.{SpellsRow}
use Rattle.dsde_image.proofs.Each.{Owes}
use Rattle.dsde_image.proofs.names.with_names.Given as goal

abbrev pub invariant-loop-row : goal.invariant-loop-row
invariant-loop-row l = Owes SpellsRow l.row-items l.row-index
