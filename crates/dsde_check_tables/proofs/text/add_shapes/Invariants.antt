use Rattle.std.proofs.Common.{◌≡◌, drop}
use Rattle.dsde_language.specs.RuleTables.{shapes_from}
use Rattle.dsde_check_tables.proofs.text.add_shapes.Given as goal

abbrev pub invariant-loop-decl : goal.invariant-loop-decl
invariant-loop-decl l = shapes_from l.words l.shapes (drop l.decl-index l.decls) ≡ shapes_from l.words l.fn.shapes l.decls
