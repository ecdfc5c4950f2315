use Rattle.std.proofs.Common.{◌≡◌, ◌++◌, drop}
use Rattle.std.specs.List.{flat_map, enumerate_from}
use Rattle.dsde_values.specs.declared.name.Name.{Name}
use Rattle.dsde_structure.specs.declared.plan.Part.TheVariants as part
use Rattle.dsde_routes_wiring.specs.Numbers.{number_if, numbers_named, numbers_at}
use Rattle.dsde_routes_wiring.proofs.index.Index.of.Given as goal

abbrev pub invariant-loop-number : goal.invariant-loop-number
invariant-loop-number l = (name : Name) → numbers_named l.index.kids name ++ flat_map (number_if l.side (part.Kid name)) (enumerate_from l.number (drop l.number l.links)) ≡ numbers_at l.side (part.Kid name) l.links
