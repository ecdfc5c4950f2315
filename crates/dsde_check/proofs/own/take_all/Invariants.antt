use Rattle.std.proofs.Common.{◌≡◌, drop}
use Rattle.dsde_language.specs.Rules.{apart_all}
use Rattle.dsde_check.proofs.own.take_all.Given as goal

abbrev pub invariant-loop-decl : goal.invariant-loop-decl
invariant-loop-decl l = apart_all l.names (drop l.decl-index l.decls) ≡ apart_all l.fn.names l.decls
