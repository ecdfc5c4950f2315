use Rattle.std.proofs.Common.{◌≡◌, length}
use Rattle.dsde_image_rows.specs.Walk.{texts_eq}
use Rattle.dsde_image_rows.proofs.writing.are_same.Given as goal

abbrev pub invariant-loop-text : goal.invariant-loop-text
invariant-loop-text l = texts_eq l.texts l.others ≡ texts_eq l.fn.texts l.fn.others

abbrev pub decreases-loop-text : goal.decreases-loop-text
decreases-loop-text l = length l.texts
