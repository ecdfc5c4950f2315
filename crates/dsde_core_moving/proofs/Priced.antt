-- What movers cost: by the work that they tell, and by the entries of the structures that executives take.
use Rattle.std.proofs.Common.{◌≡◌, ◌∙◌, ℕ, ◌+◌, ◌*◌, ◌≤◌, true, List, ◌∷◌, length, map, Some, Result, Ok, Err, OnOk, ap, sym, arith}
use Rattle.dsde_values.specs.declared.path.Path.{Path}
use Rattle.dsde_values.specs.Path.{root}
use Rattle.dsde_syntax.specs.declared.decl.Model.{Model}
use Rattle.dsde_sim_tree.specs.given.formalism.leaf_Leaf.{Leaf}
use Rattle.dsde_sim_tree.specs.given.formalism.leaf_MoveKind.{MoveKind}
use Rattle.dsde_sim_tree.specs.given.formalism.Leaf.{kind_of}
use Rattle.dsde_sim_tree.specs.given.formalism.System.{System}
use Rattle.dsde_structure.specs.declared.plan.Plan.{Plan}
use Rattle.dsde_sim_tree.specs.declared.event.Event.{Event}
use Rattle.dsde_sim_tree.specs.declared.fault.TurnEnd.{TurnEnd}
use Rattle.dsde_sim_tree.specs.Told.{Told, Tells}
use Rattle.dsde_sim_tree.specs.declared.sim.Net.{Net}
use Rattle.dsde_sim_tree.specs.declared.sim.Sim.{Sim}
use Rattle.dsde_sim_tree.specs.declared.sim.Sim.TheVariants as sim
use Rattle.dsde_sim_tree.specs.declared.sim.Sim.TheViews.{out-Net}
use Rattle.dsde_sim_tree.specs.Move.{take_move}
use Rattle.dsde_sim_tree.specs.Start.{structure_of}
use Rattle.dsde_sim_movers.specs.Deliveries.{Delivery}
use Rattle.dsde_sim_movers.specs.Movers.{move_one, path_behind, seat_behind}
use Rattle.dsde_sim_movers.specs.Parts.{part_at}
use Rattle.dsde_sim_movers.specs.Work.{entries_each, entries_one, TakesStructure}
use Rattle.dsde_core_moves.specs.declared.flat.Flat.{Flat}
use Rattle.dsde_core_moves.specs.declared.flat.Mover.{Mover}
use Rattle.dsde_core_moves.specs.Flat.{delivery_of, leaf_of, tree_of, IsThere, Stands}
use Rattle.dsde_core_moving.specs.Restructured.{with_room}
use Rattle.dsde_core_moving.specs.Executive.{place_of, IsExecutive}
use Rattle.dsde_core_moving.proofs.Owning.{its, net, net-there}
use Rattle.dsde_core_moving.proofs.Stepped.{kind-is, taken-is}

-- the entries of those who are left, where one of them has moved
pub entries-next : (S : System) (time : ℕ) (own : Mover) (later rest : List Mover) (tree next : Sim) (room after : ℕ) → rest ≡ own ∷ later → (move_one S root time (delivery_of own) tree room).end ≡ Ok (next, after) →
    entries_each S root time (map delivery_of rest) tree room ≡ entries_one S root time (delivery_of own) tree + entries_each S root time (map delivery_of later) next after
entries-next S time own later rest tree next room after is ends =
    ap (λ (list : List Mover). entries_each S root time (map delivery_of list) tree room) is
    ∙ ap (λ (end : Result (Sim × ℕ) TurnEnd). entries_one S root time (delivery_of own) tree + (elim end [ Ok after ↦ entries_each S root time (map delivery_of later) after.0 after.1 | Err end ↦ 0 ])) ends

-- what is said of executives that move
abbrev pub Takes : System → Type 0
Takes S = (tree after : Sim) (own : Net) (kind : MoveKind) (path : Path) (time : ℕ) (delivery : Delivery) (room left : ℕ) →
    (seat_behind path delivery.path).is_boss ≡ true → part_at (seat_behind path delivery.path).names tree ≡ Some (sim.Net own) → kind_of (out-Net own).boss time delivery.ports ≡ Some kind →
    (move_one S path time delivery tree room).end ≡ Ok (after, left) →
    TakesStructure S own kind (path_behind path (seat_behind path delivery.path).names) time delivery.ports (entries_one S path time delivery tree)

module _ (S : System) (model : Model) (flat : Flat) (mover : Mover) (stands : Stands model flat) (there : IsThere flat mover) (at : IsExecutive flat mover) (time : ℕ) (kind : MoveKind) (is_kind : kind_of (leaf_of flat mover) time mover.got ≡ Some kind) where
  abbrev tree : Sim
  tree = tree_of flat

  -- an executive's step, by the structure that it takes
  pub executive-work : Takes S → (room : ℕ) (result : Result ℕ TurnEnd) (new_flat : Flat) (old new : List Event) (before looks after fewer more told all : ℕ) →
      Tells (move_one S root time (delivery_of mover) tree room) old new (with_room new_flat result) → looks ≤ before + 2 →
      ((own : Net) (moved : Leaf) (plan : Plan) → part_at (place_of mover) tree ≡ Some (sim.Net own) → (take_move S (leaf_of flat mover) kind mover.path time mover.got).end ≡ Ok moved →
      structure_of S (out-Net own).model (out-Net own).args moved (path_behind root (place_of mover)) ≡ Ok plan →
      OnOk result (after + 6 + 4 * more + 16 * told ≤ looks + 4 * fewer + 16 * all + 4 * length plan.entries)) →
      OnOk result (after + 4 * more + 16 * told ≤ before + 4 * fewer + 16 * all + 4 * entries_one S root time (delivery_of mover) tree)
  executive-work law room (Err end) new_flat old new before looks after fewer more told all tells few known = tt
  executive-work law room (Ok left) new_flat old new before looks after fewer more told all tells few known =
      let own = net model flat mover stands there at in
      let here = net-there model flat mover stands there at in
      let takes = law tree (tree_of new_flat) own kind root time (delivery_of mover) room left (its model flat mover stands there at).executive here (kind-is S model flat mover stands there at time kind is_kind) tells.1 in
      let worked = known own takes.moved takes.plan here (ap (λ (step : Told Leaf). step.end) (sym (taken-is S model flat mover stands there at time kind is_kind)) ∙ takes.moves) takes.follows in
      omega (arith, few, worked, takes.all)
