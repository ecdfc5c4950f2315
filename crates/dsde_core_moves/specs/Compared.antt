-- Components that lie in a grove, compared with the entries of a structure.
use Rattle.std.specs.Prelude.{◌≡◌, ◌==◌, ◌&&◌, ◌||◌, Bool, false, if◌then◌else◌, is_some, List, [], ◌∷◌, map, Option, Some, None}
use Rattle.std.specs.Ordering.{is_lt}
use Rattle.dsde_values.specs.declared.name.Name.{Name}
use Rattle.dsde_values.specs.declared.value.Value.{Value}
use Rattle.dsde_values.specs.Path.{name_cmp}
use Rattle.dsde_routes_wiring.specs.given.values_equality.Same.{are_same_values}
use Rattle.dsde_language.specs.declared.ids.ModelId.{ModelId}
use Rattle.dsde_routes_wiring.specs.given.structure.plan_Entry.{Entry}
use Rattle.dsde_routes_wiring.specs.given.structure.Gather.{is_same_name}
use Rattle.dsde_core_flat.specs.given.grove.Grove.{Grove, value_of}
use Rattle.dsde_sim_tree.specs.Tree.{entry_of}
use Rattle.dsde_sim_tree.specs.Move.{survives}
use Rattle.dsde_routes_wiring.specs.declared.wiring.WiredKid.{WiredKid}
use Rattle.dsde_routes_wiring.specs.declared.wiring.WiredKid.TheViews.{out-WiredKid}
use Rattle.dsde_core_flat.specs.declared.spot.Spot.{Spot}
use Rattle.dsde_core_flat.specs.declared.spot.Spot.TheVariants as spot
use Rattle.dsde_core_flat.specs.Shown.{kid_under}
use Rattle.dsde_core_flat.specs.Stands.{is_net}
use Rattle.dsde_core_moves.specs.Chosen.{shown}

-- What lies under the handle of a component is a network exactly where something is wired beneath it.
pub record IsHeld (own : Grove Spot) (kid : WiredKid) : Type 0 where
  pub value : Spot
  pub held : value_of own (out-WiredKid kid).handle ≡ Some value
  pub kind : is_net value ≡ is_some (out-WiredKid kid).below

-- the entries that components of a network have by themselves
abbrev pub entries_of : Grove Spot → List WiredKid → List Entry
entries_of own kids = map entry_of (shown own kids)

-- for each component, whether it survives a change to these entries
abbrev pub tests_of : Grove Spot → List Entry → List WiredKid → List Bool
tests_of own entries kids = map (λ kid. survives entries (kid_under (value_of own) kid)) kids

-- a model is an entry's, and the entry is soft or has these arguments
abbrev pub is_as : ModelId → List Value → Entry → Bool
is_as model args entry = model.0 == entry.model.0 && (entry.soft || are_same_values args entry.args)

-- so is what lies under a handle
abbrev pub lies_as : Option Spot → Entry → Bool
lies_as (Some (spot.Leaf leaf)) entry = is_as leaf.model leaf.args entry
lies_as (Some (spot.Net model args)) entry = is_as model args entry
lies_as None entry = false

-- a component has an entry's name and is as it is
abbrev pub stays_as : Grove Spot → WiredKid → Entry → Bool
stays_as own kid entry = is_same_name (out-WiredKid kid).name entry.name && lies_as (value_of own (out-WiredKid kid).handle) entry

-- it stays as the first of these entries, and the first of these components stays as an entry
abbrev pub is_first_entry : Grove Spot → WiredKid → List Entry → Bool
is_first_entry own kid [] = false
is_first_entry own kid (entry ∷ entries) = stays_as own kid entry

abbrev pub is_first_kid : Grove Spot → List WiredKid → Entry → Bool
is_first_kid own [] entry = false
is_first_kid own (kid ∷ kids) entry = stays_as own kid entry

-- the components from a name on
abbrev pub kids_from : Name → List WiredKid → List WiredKid
kids_from name [] = []
kids_from name (kid ∷ kids) = if is_lt (name_cmp (out-WiredKid kid).name name) then kids_from name kids else (kid ∷ kids)
