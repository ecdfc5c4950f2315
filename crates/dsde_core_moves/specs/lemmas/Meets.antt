-- The step of a component, told of groves, is its step told of trees.
use Rattle.std.proofs.Common.{◌≡◌, ℕ, false, List, [], ◌++◌, Option, Some, None, Result, Ok, Err, refl, sym, ap, subst, ◌∙◌}
use Rattle.std.specs.List.{AllByRecursion}
use Rattle.std.proofs.lemmas.List.{append-nil}
use Rattle.dsde_bank.specs.declared.handle.Handle.{Handle}
use Rattle.dsde_values.specs.declared.name.Name.{Name}
use Rattle.dsde_values.specs.declared.path.Path.{Path}
use Rattle.dsde_values.specs.Path.{root}
use Rattle.dsde_sim_tree.specs.given.formalism.leaf_Leaf.{Leaf}
use Rattle.dsde_sim_tree.specs.given.formalism.leaf_MoveKind.{MoveKind}
use Rattle.dsde_sim_tree.specs.given.formalism.System.{System, Ports}
use Rattle.dsde_sim_tree.specs.given.formalism.Leaf.{kind_of}
use Rattle.dsde_sim_tree.specs.declared.event.Event.{Event}
use Rattle.dsde_sim_tree.specs.declared.fault.TurnEnd.{TurnEnd}
use Rattle.dsde_sim_tree.specs.Told.{Told, told, ◌then◌, Tells}
use Rattle.dsde_core_flat.specs.given.grove.Grove as grove
use Rattle.dsde_core_flat.specs.given.grove.Grove.{Grove, IsTree, spot, value_of, with_value}
use Rattle.dsde_sim_tree.specs.declared.sim.Sim.{Sim}
use Rattle.dsde_sim_tree.specs.declared.sim.Sim.TheVariants as sim
use Rattle.dsde_sim_tree.specs.Move.{take_move, move_leaf_at}
use Rattle.dsde_core_flat.specs.given.sim_movers.Parts as movers
use Rattle.dsde_core_flat.specs.given.sim_movers.Names as law
use Rattle.dsde_core_flat.specs.declared.spot.Spot.{Spot}
use Rattle.dsde_core_flat.specs.declared.spot.Spot.TheVariants as variant
use Rattle.dsde_routes_wiring.specs.declared.wiring.Wiring.{Wiring}
use Rattle.dsde_core_flat.specs.Shown.{leaf_in, part_under}
use Rattle.dsde_core_flat.specs.lemmas.Beneath.{IsNoBoss}
use Rattle.dsde_core_flat.specs.Stands.{is_net, StandsFor}
use Rattle.dsde_core_flat.specs.lemmas.Component.{component-is, component-stands}
use Rattle.dsde_core_moves.specs.Moved.{put_under}
use Rattle.dsde_core_moves.specs.lemmas.Seen.{seen-ok}

-- the leaf that was put
pub record Put (own : Grove Spot) (handle : Handle) (step : Told Leaf) (old new : List Event) (after : Grove Spot) : Type 0 where
  pub leaf : Leaf
  pub tells : Tells step old new (Ok leaf)
  pub is : after ≡ with_value own handle (variant.Leaf leaf)

pub put-at : (own : Grove Spot) (handle : Handle) (events : List Event) (end : Result Leaf TurnEnd) (old new : List Event) (after : Grove Spot) →
    (let step : Told Leaf = record { events = events; end = end } in Tells (step then put_under own handle) old new (Ok after)) → (let step : Told Leaf = record { events = events; end = end } in Put own handle step old new after)
put-at own handle events (Ok leaf) old new after tells =
    let e : Ok (with_value own handle (variant.Leaf leaf)) ≡ Ok after = tells.1 in
    record { leaf = leaf; tells = (tells.0 ∙ ap (λ (es : List Event). old ++ es) (append-nil events), refl); is = (let one : with_value own handle (variant.Leaf leaf) ≡ after = cc in sym one) }
put-at own handle events (Err end) old new after tells = absurd (let wrong : Err end ≡ Ok after = tells.1 in cc)

module _ (system : System) (old : Grove Spot) (top : Handle) (wiring : Option Wiring) (tree : Sim) (names : List Name) (handle : Handle) (part : grove.Spot Spot)
    (is_tree : IsTree old) (stands : StandsFor old top wiring tree) (named : law.IsNamed tree) (live : spot old handle ≡ Some part) (at : part.path ≡ root.names ++ names)
    (none : AllByRecursion IsNoBoss names) (atomic : is_net part.value ≡ false) (leaf : Leaf) (there : movers.part_at names tree ≡ Some (sim.Leaf leaf)) where
  abbrev pub tree_of : Grove Spot → Sim
  tree_of own = part_under (value_of own) top wiring

  -- the tree with a leaf where the names lead, and the room
  abbrev pub moved_to : ℕ → Leaf → Sim × ℕ
  moved_to room after = (movers.with_part names (sim.Leaf after) tree, room)

  -- what the flat state tells and comes to is what the tree tells and comes to
  pub component-meets : (kind : MoveKind) (path : Path) (time : ℕ) (got : Ports) (room : ℕ) (before after : List Event) (new : Grove Spot) → kind_of leaf time got ≡ Some kind →
      Tells (take_move system (leaf_in (value_of old handle)) kind path time got then put_under old handle) before after (Ok new) →
      StandsFor new top wiring (tree_of new)
      × Tells {A = Sim × ℕ} (move_leaf_at system leaf path time got then (λ moved. told [] (moved_to room moved))) before after (Ok (tree_of new, room))
  component-meets kind path time got room before after new is_kind tells =
      let step = take_move system (leaf_in (value_of old handle)) kind path time got in
      let put = put-at old handle step.events step.end before after new tells in
      let behind = component-stands old top wiring tree names handle part is_tree stands named live at none atomic put.leaf in
      let new_stands : StandsFor new top wiring (movers.with_part names (sim.Leaf put.leaf) tree) = subst (λ (g : Grove Spot). StandsFor g top wiring (movers.with_part names (sim.Leaf put.leaf) tree)) (sym put.is) behind in
      let same : leaf_in (value_of old handle) ≡ leaf = component-is old top wiring tree names handle part is_tree stands named live at leaf there in
      let moves : step ≡ move_leaf_at system leaf path time got =
      ap (λ (l : Leaf). take_move system l kind path time got) same ∙ sym (ap (λ (k : Option MoveKind). elim k [ Some own ↦ take_move system leaf own path time got | None ↦ told [] leaf ]) is_kind) in
      let seen = seen-ok step (moved_to room) before after put.leaf put.tells in (
        subst (StandsFor new top wiring) (sym new_stands.shows) new_stands,
        subst (λ (t : Sim). Tells {A = Sim × ℕ} (move_leaf_at system leaf path time got then (λ moved. told [] (moved_to room moved))) before after (Ok (t, room))) (sym new_stands.shows)
            (subst (λ (s : Told Leaf). Tells {A = Sim × ℕ} (s then (λ moved. told [] (moved_to room moved))) before after (Ok (moved_to room put.leaf))) moves seen),
      )
