use Rattle.std.proofs.Common.{◌≡◌, drop}
use Rattle.dsde_language.specs.DeclaredModels.{with_funcs}
use Rattle.dsde_program_infos.proofs.whole.with_funcs.Given as goal

abbrev pub invariant-loop-decl : goal.invariant-loop-decl
invariant-loop-decl l = with_funcs l.known (drop l.decl-index l.decls) ≡ with_funcs l.fn.known l.decls
