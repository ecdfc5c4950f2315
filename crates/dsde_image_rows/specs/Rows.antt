-- The image of a tree of simulators: a row for each part, a network before its executive, and these before
-- its components in the order of their names. This project's profile.
use Rattle.std.specs.Prelude.{ℕ, List, [], ◌∷◌, map, Option}
use Rattle.std.specs.List.{flat_map}
use Rattle.dsde_values.specs.declared.path.Path.{Path}
use Rattle.dsde_values.specs.declared.value.Value.{Value}
use Rattle.dsde_sim_movers.specs.given.language.ids_ModelId.{ModelId}
use Rattle.dsde_sim_movers.specs.given.formalism.leaf_Leaf.{Leaf}
use Rattle.dsde_sim_movers.specs.given.formalism.System.{State}
use Rattle.dsde_sim_movers.specs.given.sim_tree.Told.{below, to_boss}
use Rattle.dsde_sim_movers.specs.given.sim_tree.sim_Kid.{Kid}
use Rattle.dsde_sim_movers.specs.given.sim_tree.sim_Net.{Net}
use Rattle.dsde_sim_movers.specs.given.sim_tree.sim_Sim.{Sim}
use Rattle.dsde_sim_movers.specs.given.sim_tree.sim_Sim_TheFolds.{fold-Sim, fold-Kid, fold-Net}
use Rattle.dsde_sim_movers.specs.given.sim_tree.sim_Sim_TheOpen.{Sim-F, Net-F, Kid-F}
use Rattle.dsde_sim_movers.specs.given.sim_tree.sim_Sim_TheOpen as layer
use Rattle.dsde_image.specs.Image.{location_of}
use Rattle.dsde_image.specs.declared.image.Body.TheVariants as body
use Rattle.dsde_image.specs.declared.image.Row.{Row}
use Rattle.dsde_image.specs.declared.image.Standing.{Standing}
use Rattle.dsde_image.specs.declared.image.Version.{Version}

-- How the parts of a system are written: the names of its models, its values, and, for a model, the values
-- of its parameters and of its state variables that texts spell, if they spell one each.
pub record Script : Type 0 where
  pub model : ModelId → List ℕ
  pub value : Value → List ℕ
  pub args : ModelId → List (List ℕ) → Option (List Value)
  pub state : ModelId → List (List ℕ) → Option State

abbrev pub texts : Script → List Value → List (List ℕ)
texts script values = map script.value values

abbrev pub standing_of : Script → Leaf → Standing
standing_of script leaf = record { state = texts script leaf.state; last = leaf.last; next = leaf.next }

abbrev pub atomic_row : Script → Version → Path → Leaf → Row
atomic_row script version path leaf =
    record { location = location_of version path; model = script.model leaf.model; body = body.Atomic (texts script leaf.args) (standing_of script leaf) }

-- the executive of the network at a path
abbrev pub boss_row : Script → Version → Path → Leaf → Row
boss_row script version path leaf =
    record { location = location_of version (to_boss path); model = script.model leaf.model; body = body.Executive (standing_of script leaf) }

abbrev pub net_row : Script → Version → Path → ModelId → List Value → Row
net_row script version path model args =
    record { location = location_of version path; model = script.model model; body = body.Net (texts script args) }

-- the rows of a part at a path
abbrev pub Listing : Type 0
Listing = Path → List Row

abbrev pub rows_step : Script → Version → Sim-F Listing Listing Listing → Listing
rows_step script version (layer.Leaf leaf) path = atomic_row script version path leaf ∷ []
rows_step script version (layer.Net net) path = net path

abbrev pub rows_kid : Kid-F Listing Listing Listing → Listing
rows_kid kid path = kid.sim (below path kid.name)

abbrev pub rows_net : Script → Version → Net-F Listing Listing Listing → Listing
rows_net script version net path =
    net_row script version path net.model net.args ∷ boss_row script version path net.boss ∷ flat_map (λ kid. kid path) net.kids

abbrev pub rows : Script → Version → Sim → Listing
rows script version = fold-Sim Listing Listing Listing (rows_step script version) rows_kid (rows_net script version)

abbrev pub rows_of_kid : Script → Version → Kid → Listing
rows_of_kid script version = fold-Kid Listing Listing Listing (rows_step script version) rows_kid (rows_net script version)

abbrev pub rows_of_net : Script → Version → Net → Listing
rows_of_net script version = fold-Net Listing Listing Listing (rows_step script version) rows_kid (rows_net script version)
