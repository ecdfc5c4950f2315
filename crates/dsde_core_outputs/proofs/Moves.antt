-- A component that is the whole model is the one that moves.
use Rattle.std.proofs.Common.{◌≡◌, ℕ, ◌<◌, ◌^◌, List, length, map, sym, ap, subst, ◌∙◌}
use Rattle.dsde_syntax.specs.declared.decl.Model.{Model}
use Rattle.dsde_values.specs.declared.arrival.Item.{Item}
use Rattle.dsde_values.specs.Path.{root}
use Rattle.dsde_language.specs.declared.ids.ModelId.{ModelId}
use Rattle.dsde_sim_tree.specs.given.formalism.leaf_Leaf.{Leaf}
use Rattle.dsde_sim_tree.specs.given.formalism.Leaf.{component_of}
use Rattle.dsde_sim_tree.specs.given.formalism.System.{Ports, System}
use Rattle.dsde_sim_working.specs.given.system.Fitting.{FitsInputs}
use Rattle.dsde_sim_working.specs.given.system.Program.{system}
use Rattle.dsde_sim_working.specs.given.sound_structures.Carrying.{SentFit}
use Rattle.dsde_sim_tree.specs.declared.sim.Sim.{Sim}
use Rattle.dsde_sim_tree.specs.declared.sim.Sim.TheVariants as sim
use Rattle.dsde_sim_tree.specs.Output.{by_port}
use Rattle.dsde_sim_tree.specs.Tree.{model_of}
use Rattle.dsde_sim_working.specs.given.sim_starting.Fitting.{FitsGot}
use Rattle.dsde_sim_working.specs.given.sim_starting.lemmas_Stood.{inputs-of, model-leaf}
use Rattle.dsde_sim_working.specs.given.sim_movers.Movers.{movers}
use Rattle.dsde_sim_working.specs.given.sim_movers.Turns.{turn_movers}
use Rattle.dsde_sim_working.specs.given.sim_movers.Walk.{called_one}
use Rattle.dsde_sim_working.specs.Working.{FitsItems}
use Rattle.dsde_sim_working.specs.lemmas.Receiving.{got-fits}
use Rattle.dsde_core_parcels.specs.given.core_flat.Shown.{leaf_in}
use Rattle.dsde_core_parcels.specs.given.core_moves.flat_Flat.{Flat}
use Rattle.dsde_core_parcels.specs.given.core_moves.flat_Mover.{Mover}
use Rattle.dsde_core_parcels.specs.given.core_moves.Flat.{delivery_of, tree_of, IsThere, Stands}
use Rattle.dsde_core_parcels.specs.given.core_moves.Movers.{AreMovers, FitsMover}
use Rattle.dsde_core_outputs.specs.Alone.{one_called, IsAlone}
use Rattle.dsde_core_outputs.proofs.AloneCalling.{all-called, delivered, mover}
use Rattle.dsde_core_outputs.proofs.Whole.{fits, ins-leaf, stands-alone, tree-fits, tree-is}

module _ (model : Model) (flat : Flat) (stands : Stands model flat) (leaf : Leaf) (alone : IsAlone flat leaf) (time : ℕ) (items : List Item) (come : FitsItems model (model_of (tree_of flat)).0 items)
    (got : Ports) (got_is : got ≡ by_port (component_of (system model) leaf).ins items) (few : length got < 2 ^ 32) (law : SentFit) (walked : movers (system model) (sim.Leaf leaf) root time got ≡ called_one leaf root time got) where
  abbrev S : System
  S = system model

  abbrev own : Mover
  own = mover leaf flat.root root time got

  there : IsThere flat own
  there = let at = (stands-alone flat leaf alone model stands).live.0 in record { part = at.part; live = at.live; path = at.path; kind = at.kind }

  got-fits-leaf : FitsGot model leaf.model.0 got
  got-fits-leaf =
      let here : FitsItems model (model_of (sim.Leaf leaf)).0 items = subst (λ (tree : Sim). FitsItems model (model_of tree).0 items) (tree-is flat leaf alone) come in
      subst (λ (number : ModelId). FitsGot model number.0 got) (model-leaf leaf)
      (got-fits model (sim.Leaf leaf) (tree-fits flat leaf alone model stands) law items here (component_of S leaf).ins got (ins-leaf S leaf) got_is few)

  fits-own : FitsMover model flat own
  fits-own = record {
    got = subst (λ (one : Leaf). FitsInputs model one.model.0 got) (sym (ap leaf_in alone.held)) (inputs-of model leaf got (fits flat leaf alone model stands) got-fits-leaf);
    few = few;
  }

  moves : map delivery_of (one_called leaf flat.root root time got) ≡ turn_movers S (tree_of flat) time items
  moves =
      delivered leaf flat.root root time got
      ∙ sym walked
      ∙ ap (λ (ports : Ports). movers S (sim.Leaf leaf) root time ports) (got_is ∙ ap (λ (ports : ℕ). by_port ports items) (sym (ins-leaf S leaf)))
      ∙ ap (λ (tree : Sim). turn_movers S tree time items) (sym (tree-is flat leaf alone))

  pub are-movers : AreMovers model flat time items (one_called leaf flat.root root time got)
  are-movers = record {
    all = moves;
    there = all-called leaf flat.root root time got (IsThere flat) there;
    fit = all-called leaf flat.root root time got (FitsMover model flat) fits-own;
  }
