use Rattle.std.proofs.Common.{◌≡◌, drop}
use Rattle.dsde_language.specs.RuleTables.{used_typed}
use Rattle.dsde_check_tables.proofs.words.used_typed.Given as goal

abbrev pub invariant-loop-part : goal.invariant-loop-part
invariant-loop-part l = used_typed l.words (drop l.part-index l.parts) ≡ used_typed l.fn.words l.parts
