-- What a walk over a wiring gives: ways and rows with the numbers of their links alone.
use Rattle.std.specs.Prelude.{ℕ, Bool, true, false, List, [], ◌∷◌, ◌++◌, map, slice_get, Some, None}
use Rattle.std.specs.List.{flat_map}
use Rattle.std.specs.Option.{option_to_list}
use Rattle.dsde_bank.specs.declared.handle.Handle.{Handle}
use Rattle.dsde_routes_wiring.specs.given.structure.plan_End.{End}
use Rattle.dsde_routes_wiring.specs.given.structure.plan_Link.{Link}
use Rattle.dsde_routes_wiring.specs.declared.row.Row.{Row}
use Rattle.dsde_routes_wiring.specs.declared.side.Side.{Side}
use Rattle.dsde_routes_wiring.specs.declared.side.Side.TheVariants.{Out, Into}
use Rattle.dsde_routes_wiring.specs.declared.wiring.WiredKid.{WiredKid}
use Rattle.dsde_routes_wiring.specs.declared.wiring.Wiring.{Wiring}
use Rattle.dsde_routes_wiring.specs.declared.wiring.WiredKid.TheViews.{out-Wiring}
use Rattle.dsde_routes_wiring.specs.Routes as route
use Rattle.dsde_routes_wiring.specs.Routes.{Ways, rank_of, own, no_ways, inner_of_kid, around_of, step_from, ways_by, at_end}
use Rattle.dsde_repair_walks.specs.declared.way.Way.{Way}

-- a way without the networks of its links
abbrev pub ranked : route.Way → Way
ranked way = record { handle = way.handle; port = way.port; rank = rank_of way.steps; chain = way.chain }

abbrev pub extended_way : Side → ℕ → Link → Way → Way
extended_way Out number link way = record way { rank = number ∷ way.rank; chain = way.chain ++ option_to_list link.via }
extended_way Into number link way = record way { rank = way.rank ++ number ∷ []; chain = option_to_list link.via ++ way.chain }

abbrev pub met_row : Way → Way → Row
met_row before after = record { source = before.handle; source_port = before.port; target = after.handle; target_port = after.port; rank = after.rank ++ before.rank; chain = before.chain ++ after.chain }

abbrev pub met_rows : Way → List Way → List Row
met_rows before afters = map (met_row before) afters

abbrev pub crossed_rows : ℕ → Link → List Way → List Way → List Row
crossed_rows number link befores afters = flat_map (λ before. met_rows (extended_way Out number link before) afters) befores

-- a network's own ports: sources and targets, or not
abbrev pub beyond : Bool → Handle → Ways
beyond true me = own me
beyond false me = no_ways

-- the way of a part that is its own source and target
abbrev pub own_way : Handle → ℕ → Way
own_way handle port = record { handle = handle; port = port; rank = []; chain = [] }

-- what comes of the link of a number
abbrev pub link_at : {X : Type 0} → (ℕ × Link → List X) → List Link → ℕ → List X
link_at each links number = elim (slice_get links number) [ None ↦ [] | Some link ↦ each (number, link) ]

-- the ways over a link
abbrev pub ways_over : Side → Wiring → ℕ → ℕ × Link → List Way
ways_over side net port link = map ranked (ways_by side (around_of no_ways net) port (step_from (out-Wiring net).me link))

abbrev pub ways_at : Side → Wiring → End → List Way
ways_at side net end = map ranked (at_end side (around_of no_ways net) end)

abbrev pub kid_ways : Side → WiredKid → ℕ → List Way
kid_ways side kid port = map ranked ((inner_of_kid kid).1.ways side port)
