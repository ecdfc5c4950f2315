use Rattle.std.proofs.Common.{◌≡◌, length}
use Rattle.dsde_image_rows.specs.Values.{spelled_value, values_by}
use Rattle.dsde_image_rows.proofs.WholeTexts.{behind}
use Rattle.dsde_image_rows.proofs.reading.values_of.Given as goal

abbrev pub invariant-loop-field : goal.invariant-loop-field
invariant-loop-field l = behind l.values (values_by (spelled_value l.types) l.fields l.texts) ≡ values_by (spelled_value l.types) l.fn.fields l.fn.texts

abbrev pub decreases-loop-field : goal.decreases-loop-field
decreases-loop-field l = length l.fields
