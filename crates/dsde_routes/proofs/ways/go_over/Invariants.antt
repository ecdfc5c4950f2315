use Rattle.std.proofs.Common.{◌≡◌, ◌++◌, map, drop}
use Rattle.std.specs.List.{flat_map}
use Rattle.dsde_routes_wiring.specs.Ways.{onward}
use Rattle.dsde_routes.specs.Passing.{at_port}
use Rattle.dsde_routes.specs.Ports.{way_at}
use Rattle.dsde_routes.proofs.ways.go_over.Given as goal

abbrev pub invariant-loop-own : goal.invariant-loop-own
invariant-loop-own l =
    l.ways ++ map (λ way. at_port l.link.to.port (onward l.number l.link way)) (flat_map (way_at l.come) (drop l.own-index l.numbers))
    ≡ l.fn.ways ++ map (λ way. at_port l.link.to.port (onward l.number l.link way)) (flat_map (way_at l.come) l.numbers)
