-- What links carry to an end: link by link, in the order of the structure, the source's values in
-- their order, translated. The formalism leaves the order open (F. J. Barros, "Abstract Simulators
-- for the DSDE Formalism", WSC 1998); that it is the order of links is this project's profile.
use Rattle.std.specs.Prelude.{ℕ, ◌==◌, ◌&&◌, Bool, true, false, List, [], ◌∷◌, Option, Some, None, map, filter, slice_index_or, if◌then◌else◌}
use Rattle.std.specs.List.{flat_map, filter_map, range_with_len}
use Rattle.std.specs.Ordering.{eq_by_cmp}
use Rattle.dsde_values.specs.declared.name.Name.{Name}
use Rattle.dsde_values.specs.declared.value.Value.{Value}
use Rattle.dsde_values.specs.Path.{name_cmp}
use Rattle.dsde_structure.specs.declared.plan.End.{End}
use Rattle.dsde_structure.specs.declared.plan.Link.{Link}
use Rattle.dsde_structure.specs.declared.plan.Part.{Part}
use Rattle.dsde_structure.specs.declared.plan.Part.TheVariants as part
use Rattle.dsde_structure.specs.declared.plan.Via.{Via}
use Rattle.dsde_structure.specs.declared.sources.Given.{Given}
use Rattle.dsde_structure.specs.declared.sources.Sources.{Sources}

-- what translations make of values; a value of which none is made is dropped
abbrev pub Translation : Type 0
Translation = Via → Value → Option Value

-- the values at each port
abbrev pub Ports : Type 0
Ports = List (List Value)

abbrev pub is_same_name : Name → Name → Bool
is_same_name = eq_by_cmp name_cmp

abbrev pub is_part : Part → Part → Bool
is_part part.Net part.Net = true
is_part part.Boss part.Boss = true
is_part (part.Kid name) (part.Kid other) = is_same_name name other
is_part _ _ = false

abbrev pub is_end : End → End → Bool
is_end end other = is_part end.part other.part && end.port == other.port

-- what the component of this name sends
abbrev pub sent_by : List Given → Name → Ports
sent_by [] name = []
sent_by (given ∷ others) name = if is_same_name given.name name then given.ports else sent_by others name

-- what links carry from a part: what a network received, what its executive or a component sends
abbrev pub from_part : Sources → Part → Ports
from_part sources part.Net = sources.net
from_part sources part.Boss = sources.boss
from_part sources (part.Kid name) = sent_by sources.kids name

-- what a link makes of a value
abbrev pub through : Translation → Link → Value → Option Value
through translate link own = elim link.via [ None ↦ Some own | Some via ↦ translate via own ]

-- what a link carries
abbrev pub carried : Translation → Sources → Link → List Value
carried translate sources link =
    filter_map (through translate link) (slice_index_or (from_part sources link.from.part) link.from.port [])

-- what comes to an end, link by link
abbrev pub gather : Translation → List Link → Sources → End → List Value
gather translate links sources end = flat_map (carried translate sources) (filter (λ link. is_end link.to end) links)

-- what comes to a part, port by port
abbrev pub gathered : Translation → List Link → Sources → Part → ℕ → Ports
gathered translate links sources part ports =
    map (λ port. gather translate links sources (record { part = part; port = port })) (range_with_len 0 ports)
