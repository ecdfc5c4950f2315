use Rattle.std.proofs.Common.{◌≡◌, drop}
use Rattle.dsde_language.specs.Types.{deepest}
use Rattle.dsde_check_tables.proofs.text.deepest.Given as goal

abbrev pub invariant-loop-field : goal.invariant-loop-field
invariant-loop-field l = deepest l.depths l.depth (drop l.field-index l.fields) ≡ deepest l.depths 0 l.fields
