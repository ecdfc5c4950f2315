use Rattle.std.proofs.Common.{◌≡◌, take}
use Rattle.dsde_image_rows.specs.Rows.{texts}
use Rattle.dsde_image_rows.specs.Script.{script}
use Rattle.dsde_image_rows.proofs.writing.texts.Given as goal

abbrev pub invariant-loop-value : goal.invariant-loop-value
invariant-loop-value l = l.own ≡ texts (script l.program) (take l.value-index l.value-items)
