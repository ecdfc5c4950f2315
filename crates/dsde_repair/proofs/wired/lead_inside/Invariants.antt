use Rattle.std.proofs.Common.{drop}
use Rattle.std.specs.List.{AllByRecursion}
use Rattle.dsde_routes_wiring.specs.Wired.{LeadsInside}
use Rattle.dsde_repair.proofs.wired.lead_inside.Given as goal

abbrev pub invariant-loop-link : goal.invariant-loop-link
invariant-loop-link l = AllByRecursion LeadsInside (drop l.link-index l.links) → AllByRecursion LeadsInside l.links
