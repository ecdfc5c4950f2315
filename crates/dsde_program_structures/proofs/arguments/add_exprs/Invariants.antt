-- What the rest lays behind what was laid so far is what all lay.
use Rattle.std.proofs.Common.{◌≡◌, ◌++◌, drop}
use Rattle.dsde_program_expressions.specs.given.program_layout.LayItems.{lay_all}
use Rattle.dsde_program_structures.proofs.arguments.add_exprs.Given as goal

abbrev pub invariant-loop-own : goal.invariant-loop-own
invariant-loop-own l =
    (l.numbers ++ (lay_all l.resolver (drop l.own-index l.exprs) l.scope l.tables).own ≡ l.fn.numbers ++ (lay_all l.resolver l.exprs l.fn.scope l.fn.tables).own)
    × ((lay_all l.resolver (drop l.own-index l.exprs) l.scope l.tables).tables ≡ (lay_all l.resolver l.exprs l.fn.scope l.fn.tables).tables)
    × ((lay_all l.resolver (drop l.own-index l.exprs) l.scope l.tables).scope ≡ (lay_all l.resolver l.exprs l.fn.scope l.fn.tables).scope)
    × (l.scope ≡ l.fn.scope)
