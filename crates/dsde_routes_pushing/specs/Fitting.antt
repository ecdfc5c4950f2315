-- Traffic that fits a wiring.
use Rattle.std.specs.Prelude.{◌≡◌, ℕ, ◌<◌, true, List}
use Rattle.std.specs.List.{AllByRecursion}
use Rattle.dsde_routes_wiring.specs.given.structure.plan_Link.{Link}
use Rattle.dsde_routes_wiring.specs.given.structure.plan_Part.{Part}
use Rattle.dsde_routes_wiring.specs.given.structure.plan_Part_TheVariants as part
use Rattle.dsde_routes_wiring.specs.given.structure.Gather.{is_part}
use Rattle.dsde_routes_wiring.specs.declared.wiring.Wiring.{Wiring}
use Rattle.dsde_routes_wiring.specs.Wired.{Shape, shapes}
use Rattle.dsde_routes_pushing.specs.Carried.{Traffic}

-- each link to a part leads to one of so many ports
abbrev pub LeadWithin : ℕ → Part → List Link → Type 0
LeadWithin ports end links = AllByRecursion (λ link. is_part link.to.part end ≡ true → link.to.port < ports) links

-- links lead to ports that there are
abbrev pub HasPorts : Traffic → Shape → Type 0
HasPorts traffic net =
    LeadWithin (traffic.outs net.me) part.Net net.links
    × LeadWithin (traffic.ins net.boss) part.Boss net.links
    × AllByRecursion (λ kid. LeadWithin (traffic.ins kid.handle) (part.Kid kid.name) net.links) net.kids

-- so do those of each network of a wiring
abbrev pub HavePorts : Traffic → Wiring → Type 0
HavePorts traffic wiring = AllByRecursion (HasPorts traffic) (shapes wiring)
