-- What the rest lays behind what was laid so far is what all lay.
use Rattle.std.proofs.Common.{◌≡◌, ◌++◌, drop, take, length}
use Rattle.dsde_program_expressions.specs.given.program_layout.LayItems.{lay_items}
use Rattle.dsde_program_structures.specs.Parts.{lay_arms}
use Rattle.dsde_program_structures.proofs.items.+resolving.Given as goal

abbrev pub invariant-items-loop-own : goal.invariant-items-loop-own
invariant-items-loop-own l =
    (l.makes ++ (lay_items l.place (drop l.own-index l.items) l.scope l.tables).own ≡ (lay_items l.place l.items l.fn.scope l.fn.tables).own)
    × ((lay_items l.place (drop l.own-index l.items) l.scope l.tables).tables ≡ (lay_items l.place l.items l.fn.scope l.fn.tables).tables)
    × ((lay_items l.place (drop l.own-index l.items) l.scope l.tables).scope ≡ (lay_items l.place l.items l.fn.scope l.fn.tables).scope)
    × (take (length l.fn.scope) l.scope ≡ l.fn.scope)

abbrev pub invariant-arms-loop-own : goal.invariant-arms-loop-own
invariant-arms-loop-own l =
    (l.found ++ (lay_arms l.place (drop l.own-index l.arms) l.scope l.tables).own ≡ (lay_arms l.place l.arms l.fn.scope l.fn.tables).own)
    × ((lay_arms l.place (drop l.own-index l.arms) l.scope l.tables).tables ≡ (lay_arms l.place l.arms l.fn.scope l.fn.tables).tables)
    × ((lay_arms l.place (drop l.own-index l.arms) l.scope l.tables).scope ≡ (lay_arms l.place l.arms l.fn.scope l.fn.tables).scope)
    × (l.scope ≡ l.fn.scope)
