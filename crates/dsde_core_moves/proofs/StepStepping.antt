-- The step of an atomic component where it lies is its step in the tree.
use Rattle.std.proofs.Common.{◌≡◌, ◌≢◌, inl, inr, ℕ, true, false, List, [], length, drop, Option, Some, None, Result, Ok, Err, OnOk, IsSome, refl, sym, ap, subst, ◌∙◌}
use Rattle.std.specs.Option.{option_map}
use Rattle.std.specs.List.{AllByRecursion}
use Rattle.std.specs.FinMap as map
use Rattle.std.proofs.lemmas.List.{append-nil}
use Rattle.dsde_bank.specs.declared.handle.Handle.{Handle}
use Rattle.dsde_values.specs.declared.name.Name.{Name}
use Rattle.dsde_values.specs.declared.path.Path.{Path}
use Rattle.dsde_values.specs.Path.{root}
use Rattle.dsde_syntax.specs.declared.decl.Model.{Model}
use Rattle.dsde_language.specs.declared.ids.ModelId.{ModelId}
use Rattle.dsde_sim_tree.specs.given.formalism.leaf_Leaf.{Leaf}
use Rattle.dsde_sim_tree.specs.given.formalism.leaf_MoveKind.{MoveKind}
use Rattle.dsde_sim_tree.specs.given.formalism.System.{System, Ports}
use Rattle.dsde_sim_tree.specs.given.formalism.Leaf.{kind_of}
use Rattle.dsde_sim_changing.specs.given.system.Fitting.{FitsLeaf}
use Rattle.dsde_sim_changing.specs.given.system.Program.{system}
use Rattle.dsde_sim_tree.specs.declared.event.Event.{Event}
use Rattle.dsde_sim_tree.specs.declared.fault.TurnEnd.{TurnEnd}
use Rattle.dsde_sim_tree.specs.declared.fault.TurnEnd.TheVariants as turn_end
use Rattle.dsde_sim_tree.specs.Told.{Told, told, ◌then◌, IsCut, Tells}
use Rattle.dsde_sim_changing.specs.given.sim_telling.lemmas_GoingOn.{cut-append}
use Rattle.dsde_core_flat.specs.given.grove.Grove as grove
use Rattle.dsde_core_flat.specs.given.grove.Grove.{Grove, IsTree, spot, value_of, with_value}
use Rattle.dsde_queue.specs.Queue.{Queue}
use Rattle.dsde_sim_tree.specs.declared.sim.Sim.{Sim}
use Rattle.dsde_sim_tree.specs.declared.sim.Sim.TheVariants as sim
use Rattle.dsde_sim_tree.specs.Move.{take_move, move_leaf_at}
use Rattle.dsde_sim_tree.specs.Spots.{spots}
use Rattle.dsde_core_flat.specs.given.sim_movers.lemmas_Opened.{args-Leaf, model-Leaf}
use Rattle.dsde_sim_changing.specs.given.sim_starting.Fitting.{FitsAtomic, FitsSpot}
use Rattle.dsde_sim_changing.specs.given.sim_starting.lemmas_Fits.{leaf-tree, tree-leaf}
use Rattle.dsde_core_flat.specs.given.sim_movers.Movers.{leaf_at, move_at, move_one, path_behind, seat_behind, seat_of, Seat}
use Rattle.dsde_core_flat.specs.given.sim_movers.Names.{IsNamed}
use Rattle.dsde_core_flat.specs.given.sim_movers.Parts.{part_at, with_part}
use Rattle.dsde_core_flat.specs.given.sim_movers.lemmas_Seats.{drop-front}
use Rattle.dsde_core_flat.specs.given.sim_movers.lemmas_Spotting.{spots-at, spots-with, IsAlike}
use Rattle.dsde_core_flat.specs.declared.spot.Spot.{Spot}
use Rattle.dsde_core_flat.specs.declared.spot.Spot.TheVariants as variant
use Rattle.dsde_core_flat.specs.Scheduled.{held_leaf}
use Rattle.dsde_core_flat.specs.Shown.{leaf_in}
use Rattle.dsde_core_flat.specs.Places.{part_places}
use Rattle.dsde_core_flat.specs.Stands.{is_net, Leads, StandsFor}
use Rattle.dsde_core_flat.specs.lemmas.Beneath.{places-beneath, IsNoBoss}
use Rattle.dsde_core_flat.specs.lemmas.Growing.{among}
use Rattle.dsde_core_flat.specs.lemmas.Groves.{same-or-not, spot-slot, valued-other}
use Rattle.dsde_core_flat.specs.lemmas.Keeping.{spot-got, spot-same}
use Rattle.dsde_core_flat.specs.lemmas.Moves.{moved-spot, moved-value}
use Rattle.dsde_core_flat.specs.lemmas.Component.{component-is, component-stands}
use Rattle.dsde_core_flat.specs.lemmas.Fitting.{tree-named}
use Rattle.dsde_core_moves.specs.Moved.{after, put_under, StaysOf}
use Rattle.dsde_core_moves.specs.lemmas.Meets.{component-meets, put-at, Put}
use Rattle.dsde_core_moves.specs.declared.flat.Flat.{Flat}
use Rattle.dsde_core_moves.specs.declared.flat.Mover.{Mover}
use Rattle.dsde_core_moves.specs.Flat.{delivery_of, leaf_of, tree_of, with_tree, IsComponent, IsThere, Stands}
use Rattle.dsde_core_moves.proofs.Sitting.{none-boss, seat-component, sits, Sits}
use Rattle.dsde_core_moves.proofs.Keeping.{value-other}

-- a step that ends behind a view ends behind any other
stop-any : {A B C : Type 0} (events : List Event) (end : Result A TurnEnd) (view : A → B) (next : A → Told C) (old new : List Event) (e : TurnEnd) →
    (let step : Told A = record { events = events; end = end } in Tells (step then (λ v. told [] (view v))) old new (Err e)) →
    (let step : Told A = record { events = events; end = end } in Tells (step then next) old new (Err e))
stop-any {A} {B} {C} events (Ok value) view next old new (turn_end.Fault path site kind place) tells = absurd (let wrong : Ok (view value) ≡ Err (turn_end.Fault path site kind place) = tells.1 in cc)
stop-any events (Ok value) view next old new turn_end.Memory tells =
    cut-append old events (next value).events new (subst (λ (es : List Event). IsCut old es new) (append-nil events) tells)
stop-any {A} {B} {C} events (Err x) view next old new (turn_end.Fault path site kind place) tells =
    let is : x ≡ turn_end.Fault path site kind place = cc in (tells.0, ap (λ (t : TurnEnd). let r : Result C TurnEnd = Err t in r) is)
stop-any events (Err x) view next old new turn_end.Memory tells = tells

-- a leaf that is held
held-as : (part : grove.Spot Spot) → is_net part.value ≡ false → (leaf : Leaf) × (part.value ≡ variant.Leaf leaf)
held-as part kind = by part.value kind
  where
    by : (value : Spot) → is_net value ≡ false → (leaf : Leaf) × (value ≡ variant.Leaf leaf)
    by (variant.Leaf leaf) is = (leaf, refl)
    by (variant.Net model args) is = absurd (let wrong : true ≡ false = is in cc)

module _ (model : Model) (flat : Flat) (mover : Mover) (stands : Stands model flat) (there : IsThere flat mover) (at : IsComponent flat mover) where
  abbrev tree : Sim
  tree = tree_of flat

  -- its path leads on from the root
  leads : Leads root.names there.part.path
  leads =
      let got = spot-got flat.grove mover.handle there.part there.live in
      among flat.grove root.names mover.handle.birth there.part got (part_places flat.root root flat.wiring) stands.stands.live (places-beneath flat.root root flat.wiring) (stands.stands.only mover.handle.birth there.part got)

  abbrev names : List Name
  names = leads.rest

  path-is : mover.path ≡ path_behind root names
  path-is = ap (λ (own : List Name). let path : Path = record { names = own } in path) (sym there.path ∙ leads.is)

  named : IsNamed tree
  named = tree-named model tree stands.fits

  seat-there : seat_behind root mover.path ≡ seat_of names
  seat-there = ap (λ (path : Path). seat_of (drop (length root.names) path.names)) path-is ∙ ap seat_of (drop-front root.names names)

  its : Sits (seat_of names) tree at.leaf
  its = sits model (seat_of names) tree at.leaf stands.fits (ap (λ (seat : Seat). leaf_at seat tree) (sym seat-there) ∙ at.sits) at.atomic

  seat-is : seat_of names ≡ record { names = names; is_boss = false }
  seat-is = seat-component names its.component

  part-there : part_at names tree ≡ Some (sim.Leaf at.leaf)
  part-there = ap (λ (seat : Seat). part_at seat.names tree) (sym seat-is) ∙ its.there

  none : AllByRecursion IsNoBoss names
  none = none-boss names (sim.Leaf at.leaf) tree named part-there

  leaf-is : leaf_of flat mover ≡ at.leaf
  leaf-is = component-is flat.grove flat.root flat.wiring tree names mover.handle there.part stands.tree stands.stands named there.live leads.is at.leaf part-there

  fits-atomic : FitsAtomic model at.leaf
  fits-atomic = leaf-tree model at.leaf (record { all = spots-at (FitsSpot model) names (sim.Leaf at.leaf) tree stands.fits.all part-there })

  pub leaf-fits : FitsLeaf model (leaf_of flat mover)
  leaf-fits = subst (FitsLeaf model) (sym leaf-is) fits-atomic.fits

  pub leaf-live : IsSome (held_leaf (value_of flat.grove mover.handle))
  leaf-live =
      let held = held-as there.part there.kind in
      let is : value_of flat.grove mover.handle ≡ Some (variant.Leaf held.0) = ap (option_map (λ (p : grove.Spot Spot). p.value)) there.live ∙ ap (λ (v : Spot). let o : Option Spot = Some v in o) held.1 in
      subst (λ (o : Option Spot). IsSome (held_leaf o)) (sym is) refl

  module _ (time : ℕ) (kind : MoveKind) (is_kind : kind_of (leaf_of flat mover) time mover.got ≡ Some kind)
      (law : (path : Path) (time : ℕ) (names : List Name) (got : Ports) (tree : Sim) (room : ℕ) (leaf : Leaf) → leaf_at (record { names = names; is_boss = false }) tree ≡ Some leaf →
      move_at (system model) path time (record { names = names; is_boss = false }) got tree room
      ≡ (move_leaf_at (system model) leaf (path_behind path names) time got then (λ moved. told [] (with_part names (sim.Leaf moved) tree, room)))) where
    abbrev S : System
    S = system model

    kind-is : kind_of at.leaf time mover.got ≡ Some kind
    kind-is = ap (λ (l : Leaf). kind_of l time mover.got) (sym leaf-is) ∙ is_kind

    abbrev taken : Told Leaf
    taken = take_move S (leaf_of flat mover) kind mover.path time mover.got

    abbrev moved_to : ℕ → Leaf → Told (Sim × ℕ)
    moved_to room moved = told [] (with_part names (sim.Leaf moved) tree, room)

    step-is : (room : ℕ) → move_one S root time (delivery_of mover) tree room ≡ (move_leaf_at S at.leaf mover.path time mover.got then moved_to room)
    step-is room =
        ap (λ (seat : Seat). move_at S root time seat mover.got tree room) (seat-there ∙ seat-is)
        ∙ law root time names mover.got tree room at.leaf (ap (λ (seat : Seat). leaf_at seat tree) (sym (seat-there ∙ seat-is)) ∙ at.sits)
        ∙ ap (λ (path : Path). move_leaf_at S at.leaf path time mover.got then moved_to room) (sym path-is)

    moves-is : move_leaf_at S at.leaf mover.path time mover.got ≡ taken
    moves-is =
        ap (λ (k : Option MoveKind). elim k [ Some own ↦ take_move S at.leaf own mover.path time mover.got | None ↦ told [] at.leaf ]) kind-is
        ∙ ap (λ (l : Leaf). take_move S l kind mover.path time mover.got) (sym leaf-is)

    taken-is : (room : ℕ) → move_one S root time (delivery_of mover) tree room ≡ (taken then moved_to room)
    taken-is room = step-is room ∙ ap (λ (step : Told Leaf). step then moved_to room) moves-is

    abbrev put_step : Told (Grove Spot)
    put_step = taken then put_under flat.grove mover.handle

    module _ (own : Grove Spot) (queue : Queue) (old new : List Event) where
      abbrev next_flat : Flat
      next_flat = record { root = flat.root; grove = own; queue = queue; rows = flat.rows; wiring = flat.wiring }

      -- what the code told is what the tree tells
      pub told-by : {U : Type 0} (result : Result U TurnEnd) → Tells put_step old new (after result own) → (room : ℕ) →
          Tells (move_one S root time (delivery_of mover) tree room) old new (with_tree next_flat room result)
      told-by (Ok done) tells room =
          subst (λ (step : Told (Sim × ℕ)). Tells step old new (Ok (tree_of next_flat, room))) (sym (step-is room))
          (component-meets S flat.grove flat.root flat.wiring tree names mover.handle there.part stands.tree stands.stands named there.live leads.is none there.kind at.leaf part-there kind mover.path time mover.got room old new own kind-is tells).1
      told-by (Err end) tells room =
          subst (λ (step : Told (Sim × ℕ)). Tells step old new (Err end)) (sym (taken-is room))
          (stop-any taken.events taken.end (λ (l : Leaf). with_value flat.grove mover.handle (variant.Leaf l)) (moved_to room) old new end tells)

      module _ (tells : Tells put_step old new (Ok own)) (fits : FitsLeaf model (leaf_in (value_of own mover.handle))) (stays : StaysOf (leaf_of flat mover) (leaf_in (value_of own mover.handle))) (is_tree : IsTree own) where
        put : Put flat.grove mover.handle taken old new own
        put = put-at flat.grove mover.handle taken.events taken.end old new own tells

        held-new : leaf_in (value_of own mover.handle) ≡ put.leaf
        held-new = ap (λ (g : Grove Spot). leaf_in (value_of g mover.handle)) put.is ∙ ap leaf_in (moved-value flat.grove mover.handle put.leaf there.part there.live)

        same-model : put.leaf.model ≡ at.leaf.model
        same-model = ap (λ (l : Leaf). l.model) (sym held-new) ∙ stays.model ∙ ap (λ (l : Leaf). l.model) leaf-is

        atomic-new : FitsAtomic model put.leaf
        atomic-new = record {
          fits = subst (FitsLeaf model) held-new fits;
          atomic = ap (λ (m : ModelId). (system model).is_network m) same-model ∙ fits-atomic.atomic;
          component = ap (λ (l : Leaf). l.boss) (sym held-new) ∙ stays.boss ∙ ap (λ (l : Leaf). l.boss) leaf-is ∙ at.atomic;
        }

        alike : IsAlike (sim.Leaf put.leaf) (sim.Leaf at.leaf)
        alike = record {
          model = model-Leaf put.leaf ∙ same-model ∙ sym (model-Leaf at.leaf);
          args = args-Leaf put.leaf ∙ ap (λ (l : Leaf). l.args) (sym held-new) ∙ stays.args ∙ ap (λ (l : Leaf). l.args) leaf-is ∙ sym (args-Leaf at.leaf);
        }

        behind : StandsFor own flat.root flat.wiring (with_part names (sim.Leaf put.leaf) tree)
        behind = subst (λ (g : Grove Spot). StandsFor g flat.root flat.wiring (with_part names (sim.Leaf put.leaf) tree)) (sym put.is)
            (component-stands flat.grove flat.root flat.wiring tree names mover.handle there.part stands.tree stands.stands named there.live leads.is none there.kind put.leaf)

        pub stands-new : Stands model next_flat
        stands-new = record {
          stands = subst (StandsFor own flat.root flat.wiring) (sym behind.shows) behind;
          fits = record {
            all = subst (λ (t : Sim). AllByRecursion (FitsSpot model) (spots t)) (sym behind.shows)
                (spots-with (FitsSpot model) names (sim.Leaf put.leaf) (sim.Leaf at.leaf) tree stands.fits.all part-there (tree-leaf model put.leaf atomic-new).all alike);
          };
          tree = is_tree;
          rows = stands.rows;
        }

        -- the others are where they were
        pub others-there : (other : Mover) → IsThere flat other → IsThere next_flat other
        others-there other its_there = elim (same-or-not other.handle.birth mover.handle.birth) [
          | inl same ↦
              let got : map.get flat.grove.parts mover.handle.birth ≡ Some its_there.part = ap (map.get flat.grove.parts) (sym same) ∙ spot-got flat.grove other.handle its_there.part its_there.live in
              let mine : map.get flat.grove.parts mover.handle.birth ≡ Some there.part = spot-got flat.grove mover.handle there.part there.live in
              let one : its_there.part ≡ there.part = cc in
              let slots : other.handle.slot ≡ mover.handle.slot = sym (spot-slot flat.grove other.handle its_there.part its_there.live) ∙ ap (λ (p : grove.Spot Spot). p.slot) one ∙ spot-slot flat.grove mover.handle there.part there.live in
              let handles : other.handle ≡ mover.handle = λ i. record { birth = same i; slot = slots i } in
              record {
                part = record there.part { value = variant.Leaf put.leaf };
                live = ap (λ (g : Grove Spot). spot g other.handle) put.is ∙ ap (spot (with_value flat.grove mover.handle (variant.Leaf put.leaf))) handles ∙ moved-spot flat.grove mover.handle put.leaf there.part there.live;
                path = ap (λ (p : grove.Spot Spot). p.path) (sym one) ∙ its_there.path;
                kind = refl;
              }
          | inr apart ↦
              let new_grove = with_value flat.grove mover.handle (variant.Leaf put.leaf) in
              let got : map.get new_grove.parts other.handle.birth ≡ Some its_there.part = valued-other flat.grove mover.handle (variant.Leaf put.leaf) there.part there.live other.handle.birth apart ∙ spot-got flat.grove other.handle its_there.part its_there.live in
              record {
                part = its_there.part;
                live = ap (λ (g : Grove Spot). spot g other.handle) put.is ∙ spot-same flat.grove new_grove other.handle its_there.part its_there.live got ∙ its_there.live;
                path = its_there.path;
                kind = its_there.kind;
              }
        ]

      abbrev Kept : {U : Type 0} → Result U TurnEnd → Type 0
      Kept result = OnOk result (FitsLeaf model (leaf_in (value_of own mover.handle))) × OnOk result (StaysOf (leaf_of flat mover) (leaf_in (value_of own mover.handle))) × OnOk result (IsTree own)

      pub stands-by : {U : Type 0} (result : Result U TurnEnd) → Tells put_step old new (after result own) → Kept result → OnOk result (Stands model next_flat)
      stands-by (Ok done) tells kept = stands-new tells kept.0 kept.1 kept.2
      stands-by (Err end) tells kept = tt

      pub others-by : {U : Type 0} (result : Result U TurnEnd) → Tells put_step old new (after result own) → Kept result → OnOk result ((other : Mover) → IsThere flat other → IsThere next_flat other)
      others-by (Ok done) tells kept = others-there tells kept.0 kept.1 kept.2
      others-by (Err end) tells kept = tt

      -- no part is born
      pub births-by : {U : Type 0} (result : Result U TurnEnd) → Tells put_step old new (after result own) → OnOk result (own.next_birth ≡ flat.grove.next_birth)
      births-by (Ok done) tells = ap (λ (g : Grove Spot). g.next_birth) (put-at flat.grove mover.handle taken.events taken.end old new own tells).is
      births-by (Err end) tells = tt

      -- under each other handle lies what lay there
      pub kept-by : {U : Type 0} (result : Result U TurnEnd) → Tells put_step old new (after result own) → OnOk result ((handle : Handle) → handle ≢ mover.handle → value_of own handle ≡ value_of flat.grove handle)
      kept-by (Ok done) tells = λ handle apart.
          let put = put-at flat.grove mover.handle taken.events taken.end old new own tells in
          ap (λ (g : Grove Spot). value_of g handle) put.is ∙ value-other flat.grove mover.handle (variant.Leaf put.leaf) there.part there.live handle apart
      kept-by (Err end) tells = tt
