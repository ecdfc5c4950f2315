use Rattle.std.proofs.Common.{◌≡◌, [], drop}
use Rattle.dsde_language.specs.RuleTables.{with_names}
use Rattle.dsde_check_tables.proofs.text.made_enum.Given as goal

abbrev pub invariant-loop-id : goal.invariant-loop-id
invariant-loop-id l = with_names l.names (drop l.id-index l.variants) ≡ with_names [] l.variants
