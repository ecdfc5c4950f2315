use Rattle.std.proofs.Common.{◌≡◌, drop}
use Rattle.dsde_language.specs.RuleTables.{used_words}
use Rattle.dsde_check_tables.proofs.words.used_words.Given as goal

abbrev pub invariant-loop-decl : goal.invariant-loop-decl
invariant-loop-decl l = used_words l.words (drop l.decl-index l.decls) ≡ used_words l.fn.words l.decls
