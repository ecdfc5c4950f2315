-- Components that pass tests, and the others.
use Rattle.std.specs.Prelude.{Bool, true, false, List, [], ◌∷◌, map}
use Rattle.dsde_core_flat.specs.given.grove.Grove.{Grove, value_of}
use Rattle.dsde_sim_tree.specs.declared.sim.Kid.{Kid}
use Rattle.dsde_routes_wiring.specs.declared.wiring.WiredKid.{WiredKid}
use Rattle.dsde_core_flat.specs.declared.spot.Spot.{Spot}
use Rattle.dsde_core_flat.specs.Shown.{kid_under}

-- of these the ones that pass, and the others
abbrev pub chosen : {A : Type 0} → List Bool → List A → List A
chosen (true ∷ tests) (x ∷ xs) = x ∷ chosen tests xs
chosen (false ∷ tests) (x ∷ xs) = chosen tests xs
chosen _ _ = []

abbrev pub lost : {A : Type 0} → List Bool → List A → List A
lost (true ∷ tests) (x ∷ xs) = lost tests xs
lost (false ∷ tests) (x ∷ xs) = x ∷ lost tests xs
lost _ _ = []

-- what components show
abbrev pub shown : Grove Spot → List WiredKid → List Kid
shown own kids = map (kid_under (value_of own)) kids
