use Rattle.std.proofs.Common.{◌≡◌, [], drop}
use Rattle.dsde_language.specs.RuleTables.{text_fields}
use Rattle.dsde_check_tables.proofs.text.made_rec.Given as goal

abbrev pub invariant-loop-field : goal.invariant-loop-field
invariant-loop-field l = text_fields l.words l.fields (drop l.field-index l.typed) ≡ text_fields l.words [] l.typed
