use Rattle.std.proofs.Common.{◌≡◌, drop}
use Rattle.dsde_language.specs.Rules.{decls_rule}
use Rattle.dsde_check.proofs.whole.decls_rule.Given as goal

abbrev pub invariant-loop-decl : goal.invariant-loop-decl
invariant-loop-decl l = decls_rule l.known (drop l.decl-index l.decls) ≡ decls_rule l.fn.known l.decls
