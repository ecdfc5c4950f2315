-- The numbers of links by the parts at their ends.
use Rattle.std.specs.Prelude.{◌≡◌, ℕ, List, [], ◌∷◌, if◌then◌else◌, unwrap_or}
use Rattle.std.specs.List.{flat_map, enumerate_from}
use Rattle.std.specs.BTreeMap.{get, BTreeMap}
use Rattle.dsde_values.specs.declared.name.Name.{Name}
use Rattle.dsde_values.specs.Path.{name_cmp}
use Rattle.dsde_structure.specs.declared.plan.Link.{Link}
use Rattle.dsde_structure.specs.declared.plan.Part.{Part}
use Rattle.dsde_structure.specs.declared.plan.Part.TheVariants as part
use Rattle.dsde_structure.specs.Gather.{is_part}
use Rattle.dsde_routes_wiring.specs.declared.side.Side.{Side}
use Rattle.dsde_routes_wiring.specs.declared.side.Side.TheVariants.{Out, Into}
use Rattle.dsde_routes_wiring.specs.declared.index.Index.{Index}
use Rattle.dsde_routes_wiring.specs.declared.links.Ends.{Ends}
use Rattle.dsde_routes_wiring.specs.Side.{near}

abbrev pub number_if : Side → Part → ℕ × Link → List ℕ
number_if side own link = if is_part (near side link.1).part own then link.0 ∷ [] else []

-- the numbers of the links with an end on this side at a part, in their order
abbrev pub numbers_at : Side → Part → List Link → List ℕ
numbers_at side own links = flat_map (number_if side own) (enumerate_from 0 links)

-- what an index has at a component
abbrev pub numbers_named : BTreeMap Name (List ℕ) → Name → List ℕ
numbers_named kids name = unwrap_or (get name_cmp kids name) []

-- an index of links by their ends on a side
abbrev pub IsIndex : Side → List Link → Index → Type 0
IsIndex side links index = (name : Name) → numbers_named index.kids name ≡ numbers_at side (part.Kid name) links

-- an index of links by both ends
abbrev pub AreEnds : List Link → Ends → Type 0
AreEnds links ends = IsIndex Into links ends.from × IsIndex Out links ends.to
