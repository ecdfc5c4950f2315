use Rattle.std.proofs.Common.{◌≡◌, drop}
use Rattle.dsde_language.specs.RuleTables.{models_from}
use Rattle.dsde_check_tables.proofs.text.add_models.Given as goal

abbrev pub invariant-loop-decl : goal.invariant-loop-decl
invariant-loop-decl l = models_from l.words l.models (drop l.decl-index l.decls) ≡ models_from l.words l.fn.models l.decls
