-- A turn is its movers, one after another.
use Rattle.std.proofs.Common.{◌≡◌, ℕ, ◌-◌, List, [], ◌∷◌, Result, Ok, Err, refl, ap}
use Rattle.dsde_values.specs.declared.arrival.Item.{Item}
use Rattle.dsde_values.specs.declared.path.Path.{Path}
use Rattle.dsde_values.specs.Path.{root}
use Rattle.dsde_sim_tree.specs.given.formalism.System.{System, Ports}
use Rattle.dsde_sim_tree.specs.declared.event.Event.TheVariants.{Turn}
use Rattle.dsde_sim_tree.specs.declared.fault.TurnEnd.{TurnEnd}
use Rattle.dsde_sim_tree.specs.Told.{Told, quietly, telling, ◌then◌}
use Rattle.dsde_sim_tree.specs.declared.sim.Sim.{Sim}
use Rattle.dsde_sim_tree.specs.Move.{ins_of, move}
use Rattle.dsde_sim_tree.specs.Output.{by_port, output, outs_from}
use Rattle.dsde_sim_tree.specs.Tree.{parts}
use Rattle.dsde_sim_tree.specs.declared.step.TheConstants.{MOST_PARTS}
use Rattle.dsde_sim_tree.specs.Turn.{without_room, move_phase, turn}
use Rattle.dsde_sim_movers.specs.Names.{IsNamed}
use Rattle.dsde_sim_movers.specs.Movers.{move_each, movers}
use Rattle.dsde_sim_movers.specs.Turns.{turn_movers, free_phase, free_turn}

module _ (system : System)
    (by_movers : (tree : Sim) (path : Path) (time : ℕ) (got sent : Ports) (room : ℕ) → IsNamed tree → output system tree path time ≡ Ok sent →
    move system tree path time got room ≡ move_each system path time (movers system tree path time got) tree room) where
  phase-by : (tree : Sim) (time : ℕ) (got : Ports) → IsNamed tree → (sent : Result Ports TurnEnd) → output system tree root time ≡ sent →
      (quietly sent then move_phase system tree time got) ≡ (quietly sent then free_phase system tree time (movers system tree root time got))
  phase-by tree time got placed (Ok sent) is =
      ap (λ (step : Told (Sim × ℕ)). telling (outs_from 0 sent) (step then without_room)) (by_movers tree root time got sent (MOST_PARTS - parts tree) placed is)
  phase-by tree time got placed (Err end) is = refl

  pub turn-by : (tree : Sim) (number time : ℕ) (items : List Item) → IsNamed tree → turn system tree number time items ≡ free_turn system tree number time items (turn_movers system tree time items)
  turn-by tree number time items placed =
      ap (λ (step : Told Sim). telling (Turn number time ∷ []) step) (phase-by tree time (by_port (ins_of system tree) items) placed (output system tree root time) refl)
