use Rattle.std.proofs.Common.{◌≡◌, ◌++◌, drop}
use Rattle.dsde_values.specs.declared.name.Name.{Name}
use Rattle.dsde_routes_wiring.specs.given.structure.plan_Part_TheVariants as part
use Rattle.dsde_routes.specs.Passing.{come_of, from_parts, passing}
use Rattle.dsde_routes.specs.Putting.{comes_to}
use Rattle.dsde_routes.proofs.comes.carried.Given as goal

abbrev pub invariant-loop-number : goal.invariant-loop-number
invariant-loop-number l =
    (l.comes.boss ++ passing (from_parts (come_of l.come) l.boss l.kids) l.number (drop l.number l.links) part.Boss ≡ passing (from_parts (come_of l.come) l.boss l.kids) 0 l.links part.Boss)
    × ((name : Name) → comes_to l.comes name ++ passing (from_parts (come_of l.come) l.boss l.kids) l.number (drop l.number l.links) (part.Kid name) ≡ passing (from_parts (come_of l.come) l.boss l.kids) 0 l.links (part.Kid name))
