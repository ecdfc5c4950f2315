-- What the rows of a tree are at an atomic component, a network and a component of one.
use Rattle.std.proofs.Common.{◌≡◌, List, [], ◌∷◌, ◌++◌, map, refl, sym, ap, ◌∙◌}
use Rattle.std.specs.List.{flat_map}
use Rattle.dsde_values.specs.declared.path.Path.{Path}
use Rattle.dsde_sim_movers.specs.given.formalism.leaf_Leaf.{Leaf}
use Rattle.dsde_sim_movers.specs.given.sim_tree.Told.{below}
use Rattle.dsde_sim_movers.specs.given.sim_tree.sim_Kid.{Kid}
use Rattle.dsde_sim_movers.specs.given.sim_tree.sim_Net.{Net}
use Rattle.dsde_sim_movers.specs.given.sim_tree.sim_Sim.{Sim}
use Rattle.dsde_sim_movers.specs.given.sim_tree.sim_Sim_TheFolds.{fold-roll-Sim, fold-roll-Kid, fold-roll-Net}
use Rattle.dsde_sim_movers.specs.given.sim_tree.sim_Sim_TheOpen as layer
use Rattle.dsde_sim_movers.specs.given.sim_tree.sim_Sim_TheVariants as sim
use Rattle.dsde_sim_movers.specs.given.sim_tree.sim_Sim_TheViews.{out-Kid, out-Net, roll-out-Kid, roll-out-Net, rolls-Leaf, rolls-Net}
use Rattle.dsde_image.specs.declared.image.Row.{Row}
use Rattle.dsde_image.specs.declared.image.Version.{Version}
use Rattle.dsde_image_rows.specs.Rows.{Script, Listing, rows_step, rows_kid, rows_net, rows, rows_of_kid, rows_of_net, atomic_row, net_row, boss_row}

flat_map-map : {X Y Z : Type 0} (f : Y → List Z) (g : X → Y) (xs : List X) → flat_map f (map g xs) ≡ flat_map (λ x. f (g x)) xs
flat_map-map f g [] = refl
flat_map-map f g (x ∷ xs) = ap (λ rest. f (g x) ++ rest) (flat_map-map f g xs)

module _ (script : Script) (version : Version) where
  pub rows-Leaf : (leaf : Leaf) (path : Path) → rows script version (sim.Leaf leaf) path ≡ atomic_row script version path leaf ∷ []
  rows-Leaf leaf path =
      ap (λ (tree : Sim). rows script version tree path) (sym (rolls-Leaf leaf))
      ∙ ap (λ (listing : Listing). listing path) (fold-roll-Sim Listing Listing Listing (rows_step script version) rows_kid (rows_net script version) (layer.Leaf leaf))

  pub rows-Net : (net : Net) (path : Path) → rows script version (sim.Net net) path
      ≡ net_row script version path (out-Net net).model (out-Net net).args ∷ boss_row script version path (out-Net net).boss ∷ flat_map (λ kid. rows_of_kid script version kid path) (out-Net net).kids
  rows-Net net path =
      ap (λ (tree : Sim). rows script version tree path) (sym (rolls-Net net))
      ∙ ap (λ (listing : Listing). listing path) (fold-roll-Sim Listing Listing Listing (rows_step script version) rows_kid (rows_net script version) (layer.Net net))
      ∙ ap (λ (n : Net). rows_of_net script version n path) (sym (roll-out-Net net))
      ∙ ap (λ (listing : Listing). listing path) (fold-roll-Net Listing Listing Listing (rows_step script version) rows_kid (rows_net script version) (out-Net net))
      ∙ ap (λ (own : List Row). net_row script version path (out-Net net).model (out-Net net).args ∷ boss_row script version path (out-Net net).boss ∷ own)
      (flat_map-map (λ (listing : Listing). listing path) (rows_of_kid script version) (out-Net net).kids)

  pub rows-kid : (kid : Kid) (path : Path) → rows_of_kid script version kid path ≡ rows script version (out-Kid kid).sim (below path (out-Kid kid).name)
  rows-kid kid path =
      ap (λ (k : Kid). rows_of_kid script version k path) (sym (roll-out-Kid kid))
      ∙ ap (λ (listing : Listing). listing path) (fold-roll-Kid Listing Listing Listing (rows_step script version) rows_kid (rows_net script version) (out-Kid kid))
