-- What is found of what was sent, behind an addition.
use Rattle.std.specs.Prelude.{if◌then◌else◌, List, Option, Some, None}
use Rattle.dsde_values.specs.declared.name.Name.{Name}
use Rattle.dsde_routes_wiring.specs.given.structure.Gather.{is_same_name}
use Rattle.dsde_routes.specs.declared.sent.Sent.{Sent}
use Rattle.dsde_routes.specs.Passing.{found}

-- the first one of a name stays
abbrev pub added : Name → Sent → List (Name × Sent) → Name → Option Sent
added name sent kids other = elim (found kids other) [
  | Some own ↦ Some own
  | None ↦ if is_same_name name other then Some sent else None
]
