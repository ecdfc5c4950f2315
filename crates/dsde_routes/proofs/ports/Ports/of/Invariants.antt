use Rattle.std.proofs.Common.{◌≡◌, ℕ, ◌++◌, drop}
use Rattle.std.specs.List.{flat_map, enumerate_from}
use Rattle.dsde_routes.specs.Ports.{number_if, numbers_of, numbers_at}
use Rattle.dsde_routes.proofs.ports.Ports.of.Given as goal

abbrev pub invariant-loop-number : goal.invariant-loop-number
invariant-loop-number l = (port : ℕ) → numbers_of l.ports port ++ flat_map (number_if port) (enumerate_from l.number (drop l.number l.list)) ≡ numbers_at port l.list
