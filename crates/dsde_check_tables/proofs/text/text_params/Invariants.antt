use Rattle.std.proofs.Common.{◌≡◌, ◌++◌, drop}
use Rattle.dsde_language.specs.RuleTables.{text_params}
use Rattle.dsde_check_tables.proofs.text.text_params.Given as goal

abbrev pub invariant-loop-param : goal.invariant-loop-param
invariant-loop-param l = l.types ++ text_params l.words (drop l.param-index l.params) ≡ text_params l.words l.params
