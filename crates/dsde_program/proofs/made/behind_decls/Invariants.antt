-- What the rest lays behind what was laid so far is what all lay.
use Rattle.std.proofs.Common.{◌≡◌, drop}
use Rattle.dsde_program.specs.Behind.{behind_decls}
use Rattle.dsde_program.proofs.made.behind_decls.Given as goal

abbrev pub invariant-loop-decl : goal.invariant-loop-decl
invariant-loop-decl l =
    behind_decls l.structures (drop l.decl-index l.decls) l.made ≡ behind_decls l.structures l.decls l.fn.made
