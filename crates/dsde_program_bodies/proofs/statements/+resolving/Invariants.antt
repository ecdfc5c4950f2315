-- What the rest lays behind what was laid so far is what all lay.
use Rattle.std.proofs.Common.{◌≡◌, ◌++◌, ◌≤◌, drop, take, length}
use Rattle.dsde_program_expressions.specs.given.program_layout.LayStatements.{lay_stmts}
use Rattle.dsde_program_bodies.specs.Parts.{lay_arms}
use Rattle.dsde_program_bodies.proofs.statements.+resolving.Given as goal

abbrev pub invariant-stmts-loop-each : goal.invariant-stmts-loop-each
invariant-stmts-loop-each l =
    (l.acts ++ (lay_stmts l.resolver l.outs (drop l.each-index l.stmts) l.scope l.tables).own ≡ (lay_stmts l.resolver l.outs l.stmts l.fn.scope l.fn.tables).own)
    × ((lay_stmts l.resolver l.outs (drop l.each-index l.stmts) l.scope l.tables).tables ≡ (lay_stmts l.resolver l.outs l.stmts l.fn.scope l.fn.tables).tables)
    × ((lay_stmts l.resolver l.outs (drop l.each-index l.stmts) l.scope l.tables).scope ≡ (lay_stmts l.resolver l.outs l.stmts l.fn.scope l.fn.tables).scope)
    × (length l.fn.tables.blocks ≤ length l.tables.blocks)
    × (take (length l.fn.scope) l.scope ≡ l.fn.scope)

abbrev pub invariant-lay_arms-loop-arm : goal.invariant-lay_arms-loop-arm
invariant-lay_arms-loop-arm l =
    (l.found ++ (lay_arms l.resolver l.outs (drop l.arm-index l.arms) l.scope l.tables).own ≡ (lay_arms l.resolver l.outs l.arms l.fn.scope l.fn.tables).own)
    × ((lay_arms l.resolver l.outs (drop l.arm-index l.arms) l.scope l.tables).tables ≡ (lay_arms l.resolver l.outs l.arms l.fn.scope l.fn.tables).tables)
    × ((lay_arms l.resolver l.outs (drop l.arm-index l.arms) l.scope l.tables).scope ≡ (lay_arms l.resolver l.outs l.arms l.fn.scope l.fn.tables).scope)
    × (length l.fn.tables.blocks ≤ length l.tables.blocks)
    × (l.scope ≡ l.fn.scope)
