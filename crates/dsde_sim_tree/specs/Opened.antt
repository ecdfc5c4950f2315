-- What follows of the definitions of trees at an atomic component, a network and a component of one.
use Rattle.std.proofs.Common.{◌≡◌, ℕ, ◌++◌, inl, inr, List, [], ◌∷◌, map, refl, sym, ap, ◌∙◌}
use Rattle.std.proofs.lemmas.Simd.{map-map}
use Rattle.std.specs.List.{flat_map}
use Rattle.dsde_values.specs.declared.path.Path.{Path}
use Rattle.dsde_formalism.specs.declared.leaf.Leaf.{Leaf}
use Rattle.dsde_formalism.specs.System.{System, Ports}
use Rattle.dsde_formalism.specs.given.structure.plan_Link.{Link}
use Rattle.dsde_formalism.specs.given.structure.sources_Sources.{Sources}
use Rattle.dsde_sim_tree.specs.Told.{Told, told, ◌then◌}
use Rattle.dsde_sim_tree.specs.declared.sim.Kid.{Kid}
use Rattle.dsde_sim_tree.specs.declared.sim.Net.{Net}
use Rattle.dsde_sim_tree.specs.declared.sim.Sim.{Sim}
use Rattle.dsde_sim_tree.specs.declared.sim.Sim.TheVariants as sim
use Rattle.dsde_sim_tree.specs.declared.sim.Sim.TheOpen as layer
use Rattle.dsde_sim_tree.specs.declared.sim.Sim.TheFolds.{para-roll-Sim, para-roll-Kid, para-roll-Net}
use Rattle.dsde_sim_tree.specs.declared.sim.Sim.TheViews.{out-Kid, out-Net, roll-out-Kid, roll-out-Net, rolls-Leaf, rolls-Net}
use Rattle.dsde_sim_tree.specs.Output.{KidAnswer, kid_output}
use Rattle.dsde_sim_tree.specs.Move.{Moves, KidMoves, NetMoves, move_step, move_kid, move_net, move, kid_move, net_move, move_leaf_at, moved_kid, net_moves}
use Rattle.dsde_sim_tree.specs.Spots.{Spot, Shape, shape_of, spots_step, kid_spots, net_spots, spots, spots_of_kid, spots_of_net}

pub spots-Leaf : (leaf : Leaf) → spots (sim.Leaf leaf) ≡ inl leaf ∷ []
spots-Leaf leaf = ap spots (sym (rolls-Leaf leaf)) ∙ para-roll-Sim (List Spot) (List Spot) (List Spot) spots_step kid_spots net_spots (layer.Leaf leaf)

pub spots-Net : (net : Net) → spots (sim.Net net) ≡ spots_of_net net
spots-Net net = ap spots (sym (rolls-Net net)) ∙ para-roll-Sim (List Spot) (List Spot) (List Spot) spots_step kid_spots net_spots (layer.Net net)

pub spots-kid : (kid : Kid) → spots_of_kid kid ≡ spots (out-Kid kid).sim
spots-kid kid = ap spots_of_kid (sym (roll-out-Kid kid)) ∙ para-roll-Kid (List Spot) (List Spot) (List Spot) spots_step kid_spots net_spots (out-Kid kid)

abbrev pair : Kid → Kid × List Spot
pair kid = (kid, spots_of_kid kid)

first-map : (kids : List Kid) → map (λ (kid : Kid × List Spot). kid.0) (map pair kids) ≡ kids
first-map [] = refl
first-map (kid ∷ kids) = ap (λ (own : List Kid). kid ∷ own) (first-map kids)

flat-map : (kids : List Kid) → flat_map (λ (kid : Kid × List Spot). kid.1) (map pair kids) ≡ flat_map spots_of_kid kids
flat-map [] = refl
flat-map (kid ∷ kids) = ap (λ (own : List Spot). spots_of_kid kid ++ own) (flat-map kids)

-- the shape of a network
abbrev pub shape_in : Net → Shape
shape_in net = shape_of (out-Net net).model (out-Net net).args (out-Net net).boss (out-Net net).kids (out-Net net).links

pub spots-net : (net : Net) → spots_of_net net ≡ inr (shape_in net) ∷ flat_map spots_of_kid (out-Net net).kids
spots-net net =
    ap spots_of_net (sym (roll-out-Net net))
    ∙ para-roll-Net (List Spot) (List Spot) (List Spot) spots_step kid_spots net_spots (out-Net net)
    ∙ ap (λ (kids : List Kid). inr (shape_of (out-Net net).model (out-Net net).args (out-Net net).boss kids (out-Net net).links) ∷ flat_map (λ (kid : Kid × List Spot). kid.1) (map pair (out-Net net).kids)) (first-map (out-Net net).kids)
    ∙ ap (λ (own : List Spot). inr (shape_in net) ∷ own) (flat-map (out-Net net).kids)

-- an atomic component, and a network, as a part
abbrev pub as_leaf : ℕ → Leaf → Told (Sim × ℕ)
as_leaf room leaf = told [] (sim.Leaf leaf, room)

abbrev pub as_net : Net × ℕ → Told (Sim × ℕ)
as_net net = told [] (sim.Net net.0, net.1)

module _ (system : System) where
  pub move-Leaf : (leaf : Leaf) (path : Path) (time : ℕ) (got : Ports) (room : ℕ) →
      move system (sim.Leaf leaf) path time got room ≡ (move_leaf_at system leaf path time got then as_leaf room)
  move-Leaf leaf path time got room =
      ap (λ (s : Sim). move system s path time got room) (sym (rolls-Leaf leaf))
      ∙ ap (λ (moves : Moves). moves path time got room) (para-roll-Sim Moves KidMoves NetMoves (move_step system) (move_kid system) (move_net system) (layer.Leaf leaf))

  pub move-Net : (net : Net) (path : Path) (time : ℕ) (got : Ports) (room : ℕ) →
      move system (sim.Net net) path time got room ≡ (net_move system net path time got room then as_net)
  move-Net net path time got room =
      ap (λ (s : Sim). move system s path time got room) (sym (rolls-Net net))
      ∙ ap (λ (moves : Moves). moves path time got room) (para-roll-Sim Moves KidMoves NetMoves (move_step system) (move_kid system) (move_net system) (layer.Net net))

  pub kid_move-opens : (kid : Kid) (path : Path) (time : ℕ) (links : List Link) (sources : Sources) (room : ℕ) →
      kid_move system kid path time links sources room
      ≡ moved_kid system (out-Kid kid).name (out-Kid kid).sim (move system (out-Kid kid).sim) path time links sources room
  kid_move-opens kid path time links sources room =
      ap (λ (k : Kid). kid_move system k path time links sources room) (sym (roll-out-Kid kid))
      ∙ ap (λ (moves : KidMoves). moves path time links sources room) (para-roll-Kid Moves KidMoves NetMoves (move_step system) (move_kid system) (move_net system) (out-Kid kid))

  abbrev with_move : Kid → Kid × KidMoves
  with_move kid = (kid, kid_move system kid)

  pub net_move-opens : (net : Net) (path : Path) (time : ℕ) (got : Ports) (room : ℕ) →
      net_move system net path time got room
      ≡ net_moves system (out-Net net).model (out-Net net).args (out-Net net).boss (map (kid_output system) (out-Net net).kids) (map (kid_move system) (out-Net net).kids) (out-Net net).links path time got room
  net_move-opens net path time got room =
      ap (λ (n : Net). net_move system n path time got room) (sym (roll-out-Net net))
      ∙ ap (λ (moves : NetMoves). moves path time got room) (para-roll-Net Moves KidMoves NetMoves (move_step system) (move_kid system) (move_net system) (out-Net net))
      ∙ ap (λ (answers : List KidAnswer). net_moves system (out-Net net).model (out-Net net).args (out-Net net).boss answers (map (λ (kid : Kid × KidMoves). kid.1) (map with_move (out-Net net).kids)) (out-Net net).links path time got room)
      (map-map (λ (kid : Kid × KidMoves). kid_output system kid.0) with_move (out-Net net).kids)
      ∙ ap (λ (moves : List KidMoves). net_moves system (out-Net net).model (out-Net net).args (out-Net net).boss (map (kid_output system) (out-Net net).kids) moves (out-Net net).links path time got room)
      (map-map (λ (kid : Kid × KidMoves). kid.1) with_move (out-Net net).kids)
