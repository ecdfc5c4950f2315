use Rattle.std.proofs.Common.{◌≡◌, ◌++◌, drop}
use Rattle.dsde_program_infos.proofs.types.variants.Given as goal

abbrev pub invariant-loop-word : goal.invariant-loop-word
invariant-loop-word l = l.variants ++ drop l.word-index l.names ≡ l.names
