use Rattle.std.proofs.Common.{◌≡◌, ◌++◌, drop}
use Rattle.std.specs.List.{flat_map, enumerate_from}
use Rattle.dsde_routes_wiring.specs.Numbers.{number_if, numbers_at}
use Rattle.dsde_routes_wiring.proofs.links.numbers.Given as goal

abbrev pub invariant-loop-number : goal.invariant-loop-number
invariant-loop-number l = l.numbers ++ flat_map (number_if l.side l.part) (enumerate_from l.number (drop l.number l.links)) ≡ numbers_at l.side l.part l.links
