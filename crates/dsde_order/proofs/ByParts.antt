-- What the move of a part is, by what the part is.
use Rattle.std.proofs.Common.{◌≡◌, ◌∙◌, ℕ, ◌+◌, ◌<◌, ◌≤◌, ◌^◌, true, false, List, [], Some, IfSome, refl, sym, ap, subst, arith}
use Rattle.std.specs.List.{AllByRecursion}
use Rattle.dsde_syntax.specs.declared.decl.Model.{Model}
use Rattle.dsde_values.specs.declared.path.Path.{Path}
use Rattle.dsde_language.specs.declared.ids.ModelId.{ModelId}
use Rattle.dsde_sim_tree.specs.given.formalism.leaf_Leaf.{Leaf}
use Rattle.dsde_sim_tree.specs.given.formalism.System.{Ports, System}
use Rattle.dsde_sim_moving.specs.given.system.Fitting.{FitsInputs}
use Rattle.dsde_sim_tree.specs.declared.event.Event.{Event}
use Rattle.dsde_sim_tree.specs.Told.{Told, told, ◌then◌}
use Rattle.dsde_sim_moving.specs.given.sim_telling.lemmas_GoingOn.{GoesOn, goes-begin}
use Rattle.dsde_sim_tree.specs.declared.sim.Net.{Net}
use Rattle.dsde_sim_tree.specs.declared.sim.Sim.{Sim}
use Rattle.dsde_sim_tree.specs.declared.sim.Sim.TheVariants as sim
use Rattle.dsde_sim_tree.specs.declared.sim.Sim.TheViews.{out-Net, out-Sim}
use Rattle.dsde_sim_tree.specs.Move.{boss_moves}
use Rattle.dsde_sim_tree.specs.Opened.{as_net}
use Rattle.dsde_sim_tree.specs.Opened.{shape_in}
use Rattle.dsde_sim_tree.specs.Tree.{args_of, model_of, parts, parts_of_kids}
use Rattle.dsde_sim_movers.specs.lemmas.Opened.{parts-Net}
use Rattle.dsde_sim_moving.specs.Fitting.{FitsKid, FitsShape, FitsTree}
use Rattle.dsde_sim_moving.specs.Fits.{net-kids, net-shape, net-tree}
use Rattle.dsde_sim_movers.specs.lemmas.Spotting.{args-whole, model-whole}
use Rattle.dsde_sim_movers.specs.Movers.{leaf_in, moves, moves_in}
use Rattle.dsde_sim_movers.specs.lemmas.Seats.{boss-at-whole, boss-moves-whole, out-Leaf, out-Net-of, whole-of}
use Rattle.dsde_order.specs.Seating.{FitsSeat}

-- a step that is another has gone nowhere yet
pub goes-as : {A : Type 0} (whole rest : Told A) (old : List Event) → whole ≡ rest → GoesOn whole rest old old
goes-as {A} whole rest old is = subst (λ (step : Told A). GoesOn whole step old old) is (goes-begin whole old)

module _ (system : System) (path : Path) (time : ℕ) (got : Ports) (room : ℕ) where
  pub net-stays-put : (net : Net) → moves system false path time got (sim.Net net) room ≡ told [] (sim.Net net, room)
  net-stays-put net = ap (moves_in system false path time got (sim.Net net) room) (out-Net-of net)

  pub leaf-stays-put : (leaf : Leaf) → moves system true path time got (sim.Leaf leaf) room ≡ told [] (sim.Leaf leaf, room)
  leaf-stays-put leaf = ap (moves_in system true path time got (sim.Leaf leaf) room) (out-Leaf leaf)

  pub boss-moves-net : (net : Net) → moves system true path time got (sim.Net net) room
      ≡ (boss_moves system (out-Net net).model (out-Net net).args (out-Net net).boss (out-Net net).links (out-Net net).kids path time got room then as_net)
  boss-moves-net net =
      ap (λ (tree : Sim). moves system true path time got tree room) (whole-of net)
      ∙ boss-moves-whole system path time got (out-Net net).model (out-Net net).args (out-Net net).boss (out-Net net).kids (out-Net net).links room

pub leaf-seat : (model : Model) (leaf : Leaf) (got : Ports) → FitsSeat model [] false got (sim.Leaf leaf) → FitsInputs model leaf.model.0 got
leaf-seat model leaf got fits = subst (λ opened. IfSome (leaf_in false opened) (λ own. FitsInputs model own.model.0 got)) (out-Leaf leaf) fits

pub boss-seat : (model : Model) (net : Net) (got : Ports) → FitsSeat model [] true got (sim.Net net) → FitsInputs model (out-Net net).boss.model.0 got
boss-seat model net got fits = subst (λ opened. IfSome (leaf_in true opened) (λ own. FitsInputs model own.model.0 got)) (out-Net-of net) fits

-- the model and the arguments of a network
net-model : (net : Net) → model_of (sim.Net net) ≡ (out-Net net).model
net-model net = ap model_of (whole-of net) ∙ model-whole (out-Net net).model (out-Net net).args (out-Net net).boss (out-Net net).kids (out-Net net).links

net-args : (net : Net) → args_of (sim.Net net) ≡ (out-Net net).args
net-args net = ap args_of (whole-of net) ∙ args-whole (out-Net net).model (out-Net net).args (out-Net net).boss (out-Net net).kids (out-Net net).links

pub same-model : (net after : Net) → (out-Net after).model ≡ (out-Net net).model → model_of (sim.Net after) ≡ model_of (sim.Net net)
same-model net after is = net-model after ∙ is ∙ sym (net-model net)

pub same-args : (net after : Net) → (out-Net after).args ≡ (out-Net net).args → args_of (sim.Net after) ≡ args_of (sim.Net net)
same-args net after is = net-args after ∙ is ∙ sym (net-args net)

pub kids-few : (net : Net) (room : ℕ) → parts (sim.Net net) + room < 2 ^ 64 → parts_of_kids (out-Net net).kids + room < 2 ^ 64
kids-few net room few = let counted = parts-Net net in omega (arith, counted, few)

module _ (model : Model) (net : Net) (fits : FitsTree model (sim.Net net)) where
  pub shape : FitsShape model (shape_in net)
  shape = net-shape model net (net-tree model net fits)

  pub kids : AllByRecursion (FitsKid model) (out-Net net).kids
  kids = net-kids model net (net-tree model net fits)

  pub boss-got : (got : Ports) → FitsSeat model [] true got (sim.Net net) → FitsInputs model (out-Net net).model.0 got
  boss-got got seat = subst (λ (number : ModelId). FitsInputs model number.0 got) shape.boss_is.model (boss-seat model net got seat)
