use Rattle.std.proofs.Common.{◌≡◌, ◌++◌, drop, length}
use Rattle.dsde_language.specs.DeclaredModels.{defs_from}
use Rattle.dsde_program_infos.proofs.types.add_defs.Given as goal

abbrev pub invariant-loop-word : goal.invariant-loop-word
invariant-loop-word l =
    l.defs ++ defs_from (drop (length l.yielded) l.words) (drop (length l.yielded) l.types) ≡ l.fn.defs ++ defs_from l.words l.types
