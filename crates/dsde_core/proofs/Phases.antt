-- A turn where a tree lies in a grove is that of the tree.
use Rattle.std.proofs.Common.{◌≡◌, ◌∙◌, ℕ, ◌-◌, ◌≤◌, arith, List, [], ◌∷◌, ◌++◌, map, Result, Ok, Err, sym, ap, subst}
use Rattle.std.proofs.lemmas.List.Sums.{sum_by-append}
use Rattle.dsde_values.specs.declared.arrival.Item.{Item}
use Rattle.dsde_values.specs.Path.{root}
use Rattle.dsde_sim_tree.specs.given.formalism.System.{Ports, System}
use Rattle.dsde_sim_tree.specs.declared.event.Event.{Event}
use Rattle.dsde_sim_tree.specs.declared.event.Event.TheVariants.{Turn}
use Rattle.dsde_sim_tree.specs.declared.fault.TurnEnd.{TurnEnd}
use Rattle.dsde_sim_tree.specs.Told.{quietly, telling, Comes, Tells, Told, ◌then◌}
use Rattle.dsde_core_moving.specs.given.sim_telling.lemmas_GoingOn.{ends, goes-begin, goes-end, goes-ok, goes-step, goes-stops, goes-told, tail, GoesOn}
use Rattle.dsde_sim_tree.specs.declared.sim.Sim.{Sim}
use Rattle.dsde_sim_tree.specs.Output.{output, outs_from}
use Rattle.dsde_sim_tree.specs.Tree.{parts}
use Rattle.dsde_sim_tree.specs.declared.step.TheConstants.{MOST_PARTS}
use Rattle.dsde_sim_tree.specs.Turn.{turn, without_room}
use Rattle.dsde_core_moving.specs.given.sim_movers.Deliveries.{Delivery}
use Rattle.dsde_core_moving.specs.given.sim_movers.Movers.{move_each}
use Rattle.dsde_core_moving.specs.given.sim_movers.Names.{IsNamed}
use Rattle.dsde_core_moving.specs.given.sim_movers.Turns.{free_phase, free_turn, turn_movers}
use Rattle.dsde_core_moving.specs.given.sim_movers.Work.{entries_each, turn_entries, work, work_of}
use Rattle.dsde_core_moving.specs.given.core_moves.flat_Flat.{Flat}
use Rattle.dsde_core_moving.specs.given.core_moves.flat_Mover.{Mover}
use Rattle.dsde_core_moving.specs.given.core_moves.Flat.{delivery_of, tree_of}

abbrev pub TurnsMoveOneByOne : Type 0
TurnsMoveOneByOne = (own : System) (tree : Sim) (number time : ℕ) (items : List Item) → IsNamed tree → turn own tree number time items ≡ free_turn own tree number time items (turn_movers own tree time items)

module _ (own : System) (tree : Sim) (number time : ℕ) (items : List Item) (named : IsNamed tree) (law : TurnsMoveOneByOne) (old pushed : List Event) (is : pushed ≡ old ++ Turn number time ∷ []) where
  abbrev whole : Told Sim
  whole = turn own tree number time items

  abbrev pub phase : Ports → Told Sim
  phase = free_phase own tree time (turn_movers own tree time items)

  begun : GoesOn whole (quietly (output own tree root time) then phase) old pushed
  begun =
      goes-told whole (quietly (output own tree root time) then phase) (Turn number time ∷ []) old old pushed
      (subst (λ (rest : Told Sim). GoesOn whole rest old old) (law own tree number time items named) (goes-begin whole old)) is

  pub sent-err : (result : Result Sim TurnEnd) (end : TurnEnd) → result ≡ Err end → Comes (output own tree root time) (let r : Result Ports TurnEnd = Err end in r) → Tells whole old pushed result
  sent-err result end at comes = ends result end at whole (output own tree root time) phase old pushed begun comes

  pub moved : (sent : Ports) (new : List Event) (result : Result Sim TurnEnd) → Comes (output own tree root time) (Ok sent) → Tells (phase sent) pushed new result → Tells whole old new result
  moved sent new result comes tells = tail whole (phase sent) old pushed new result (goes-ok whole (output own tree root time) phase old pushed sent begun comes) tells

  pub phase-is : (mid : Flat) → tree_of mid ≡ tree → (movers : List Mover) → map delivery_of movers ≡ turn_movers own (tree_of mid) time items → (sent : Ports) → free_phase own (tree_of mid) time (map delivery_of movers) sent ≡ phase sent
  phase-is mid same movers all sent =
      ap (λ (order : List Delivery). free_phase own (tree_of mid) time order sent) all
      ∙ ap (λ (one : Sim). free_phase own one time (turn_movers own one time items) sent) same

-- what is told behind events is no less work
pub told-more : (old more new : List Event) → new ≡ old ++ more → work old ≤ work new
told-more old more new is = let all = ap work is ∙ sum_by-append work_of old more in omega (arith, all)

-- the entries that a turn's movers take
pub entries-same : (own : System) (time : ℕ) (items : List Item) (tree mid : Sim) (movers : List Delivery) → mid ≡ tree → movers ≡ turn_movers own mid time items →
    entries_each own root time movers mid (MOST_PARTS - parts mid) ≡ turn_entries own tree time items
entries-same own time items tree mid movers same all =
    ap (λ (list : List Delivery). entries_each own root time list mid (MOST_PARTS - parts mid)) all ∙ ap (λ (one : Sim). turn_entries own one time items) same

-- the move phase
module _ (own : System) (flat : Flat) (time : ℕ) (order : List Delivery) (sent : Ports) (old told_outs : List Event) (is : told_outs ≡ old ++ outs_from 0 sent) (room : ℕ) (room_is : room ≡ MOST_PARTS - parts (tree_of flat)) where
  abbrev all : Told Sim
  all = free_phase own (tree_of flat) time order sent

  abbrev step : Told (Sim × ℕ)
  step = move_each own root time order (tree_of flat) room

  begins : GoesOn all (step then without_room) old told_outs
  begins =
      goes-told all (step then without_room) (outs_from 0 sent) old old told_outs
      (subst (λ (n : ℕ). GoesOn all (telling (outs_from 0 sent) (move_each own root time order (tree_of flat) n then without_room)) old old) (sym room_is) (goes-begin all old)) is

  pub phase-err : (end : TurnEnd) (new : List Event) → Tells step told_outs new (Err end) → Tells all old new (Err end)
  phase-err end new tells = goes-stops all step without_room old told_outs new end begins tells

  pub phase-ok : (after : Sim) (left : ℕ) (new : List Event) → Tells step told_outs new (Ok (after, left)) → Tells all old new (Ok after)
  phase-ok after left new tells = goes-end all after old new (goes-step all step without_room old told_outs new (after, left) begins tells.0 tells.1)
