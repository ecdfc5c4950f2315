-- What is found of what the components of a network send.
use Rattle.std.specs.Prelude.{◌≡◌, ℕ, List, map, Option, Some, None}
use Rattle.dsde_values.specs.declared.name.Name.{Name}
use Rattle.dsde_routes_wiring.specs.Ways.{Ways, sent_by}
use Rattle.dsde_routes_wiring.specs.Flatten.{KidFlow}
use Rattle.dsde_routes.specs.declared.sent.Sent.{Sent}
use Rattle.dsde_routes.specs.Passing.{found, ways_out}

-- the ways out of components, by name
abbrev pub sent_of : List KidFlow → Name → Ways
sent_of kids name = sent_by (map (λ kid. kid.sent) kids) name

-- what lies under each name is what the component of that name sends
abbrev pub Sends : List (Name × Sent) → List KidFlow → Type 0
Sends sents kids = (name : Name) (port : ℕ) → ways_out (found sents name) port ≡ sent_of kids name port

-- what is found, or else what others send
abbrev pub or_else : Option Sent → Ways → Ways
or_else None others = others
or_else (Some sent) others = ways_out (Some sent)

-- the same of all, where these stand for the first ones and others are left
abbrev pub SendsSoFar : List (Name × Sent) → List KidFlow → List KidFlow → Type 0
SendsSoFar sents all rest = (name : Name) (port : ℕ) → or_else (found sents name) (sent_of rest name) port ≡ sent_of all name port
