use Rattle.std.proofs.Common.{◌≡◌, drop}
use Rattle.dsde_language.specs.RuleTables.{declared_words}
use Rattle.dsde_check_tables.proofs.words.declared_words.Given as goal

abbrev pub invariant-loop-decl : goal.invariant-loop-decl
invariant-loop-decl l = declared_words l.words (drop l.decl-index l.decls) ≡ declared_words l.fn.words l.decls
