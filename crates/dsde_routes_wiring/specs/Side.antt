-- The ends of a link.
use Rattle.dsde_structure.specs.declared.plan.End.{End}
use Rattle.dsde_structure.specs.declared.plan.Link.{Link}
use Rattle.dsde_routes_wiring.specs.declared.side.Side.{Side}
use Rattle.dsde_routes_wiring.specs.declared.side.Side.TheVariants.{Out, Into}

-- the end of a link at which a way stands that comes out over it, or goes in, and the other end
abbrev pub near : Side → Link → End
near Out link = link.to
near Into link = link.from

abbrev pub far : Side → Link → End
far Out link = link.from
far Into link = link.to
