-- What the step of an executive tells where it lies is what it tells in the tree.
use Rattle.std.proofs.Common.{◌≡◌, ◌∙◌, ℕ, ◌+◌, ◌*◌, ◌≤◌, ◌<◌, ◌^◌, true, List, [], length, Option, Some, None, Result, Ok, Err, OnOk, append-nil, sym, ap, subst, arith}
use Rattle.dsde_values.specs.declared.name.Name.{Name}
use Rattle.dsde_values.specs.declared.path.Path.{Path}
use Rattle.dsde_values.specs.declared.value.Value.{Value}
use Rattle.dsde_values.specs.Path.{root}
use Rattle.dsde_syntax.specs.declared.decl.Model.{Model}
use Rattle.dsde_language.specs.declared.ids.ModelId.{ModelId}
use Rattle.dsde_sim_tree.specs.given.formalism.leaf_Leaf.{Leaf}
use Rattle.dsde_sim_tree.specs.given.formalism.leaf_MoveKind.{MoveKind}
use Rattle.dsde_sim_tree.specs.given.formalism.Leaf.{kind_of}
use Rattle.dsde_sim_tree.specs.given.formalism.System.{Ports, System}
use Rattle.dsde_structure.specs.declared.plan.Link.{Link}
use Rattle.dsde_structure.specs.declared.plan.Plan.{Plan}
use Rattle.dsde_sim_starting.specs.given.system.Fitting.{FitsLeaf}
use Rattle.dsde_sim_tree.specs.declared.event.Event.{Event}
use Rattle.dsde_sim_tree.specs.declared.fault.TurnEnd.{TurnEnd}
use Rattle.dsde_sim_tree.specs.declared.fault.TurnEnd.TheVariants as turn_end
use Rattle.dsde_sim_tree.specs.Told.{to_boss, told, ◌then◌, IsCut, Tells, Told}
use Rattle.dsde_sim_starting.specs.given.sim_telling.lemmas_GoingOn.{goes-begin, goes-step, goes-stops, tail, GoesOn}
use Rattle.dsde_grove.specs.Grove.{value_of, with_value, Grove, IsTree}
use Rattle.dsde_queue.specs.Queue.{Queue}
use Rattle.dsde_sim_tree.specs.declared.sim.Kid.{Kid}
use Rattle.dsde_sim_tree.specs.declared.sim.Net.{Net}
use Rattle.dsde_sim_tree.specs.declared.sim.Sim.{Sim}
use Rattle.dsde_sim_tree.specs.declared.sim.Sim.TheVariants as sim
use Rattle.dsde_sim_tree.specs.declared.sim.Sim.TheOpen.{Net-F}
use Rattle.dsde_sim_tree.specs.declared.sim.Sim.TheViews.{out-Net}
use Rattle.dsde_sim_tree.specs.Move.{after_boss, boss_moves, gone, take_move}
use Rattle.dsde_sim_tree.specs.Start.{net_of, structure_of}
use Rattle.dsde_sim_tree.specs.Tree.{parts, parts_of_kids}
use Rattle.dsde_sim_movers.specs.Movers.{move_at, move_one, path_behind, Seat}
use Rattle.dsde_sim_movers.specs.Parts.{part_at, with_part}
use Rattle.dsde_sim_movers.specs.lemmas.Seats.{whole-of}
use Rattle.dsde_sim_movers.specs.lemmas.Steps.{same-ok, then-assoc, then-same}
use Rattle.dsde_core_moves.specs.given.core_flat.spot_Spot.{Spot}
use Rattle.dsde_core_moves.specs.given.core_flat.spot_Spot_TheVariants as variant
use Rattle.dsde_core_moves.specs.given.core_flat.Shown.{leaf_in}
use Rattle.dsde_core_moves.specs.given.core_flat.Stands.{ChangesBeneath}
use Rattle.dsde_core_moves.specs.given.core_flat.lemmas_Moves.{moved-value}
use Rattle.dsde_core_moves.specs.Moved.{put_under, StaysOf}
use Rattle.dsde_core_moves.specs.lemmas.Meets.{put-at, Put}
use Rattle.dsde_core_moves.specs.declared.flat.Flat.{Flat}
use Rattle.dsde_core_moves.specs.declared.flat.Mover.{Mover}
use Rattle.dsde_core_moves.specs.Flat.{delivery_of, leaf_of, tree_of, IsThere, Stands}
use Rattle.dsde_core_moving.specs.Executive.{followed, IsExecutive, IsExecutiveAt}
use Rattle.dsde_core_moving.proofs.Again.{net-one, with-again}
use Rattle.dsde_core_moving.proofs.Moved.{executive-moved, net_moved, next-birth, next_flat, opened-moved, parts-moved, stands-moved, tree-moved}
use Rattle.dsde_core_moving.proofs.Owning.{leaf-is, net, net-there, path, path-under, place, seat-is}

-- a step that ends behind a view has ended before it
unseen : {A B : Type 0} (events : List Event) (end : Result A TurnEnd) (view : A → B) (old new : List Event) (e : TurnEnd) →
    (let step : Told A = record { events = events; end = end } in Tells (step then (λ v. told [] (view v))) old new (Err e)) → (let step : Told A = record { events = events; end = end } in Tells step old new (Err e))
unseen {A} {B} events (Ok value) view old new (turn_end.Fault path site kind place) tells = absurd (let wrong : Ok (view value) ≡ Err (turn_end.Fault path site kind place) = tells.1 in cc)
unseen events (Ok value) view old new turn_end.Memory tells = subst (λ (es : List Event). IsCut old es new) (append-nil events) tells
unseen {A} {B} events (Err x) view old new (turn_end.Fault path site kind place) tells =
    let is : x ≡ turn_end.Fault path site kind place = cc in (tells.0, ap (λ (t : TurnEnd). let r : Result A TurnEnd = Err t in r) is)
unseen events (Err x) view old new turn_end.Memory tells = tells

-- the looks of all, with those of the move
looks-all : {T E : Type 0} (result : Result T E) (before looks after old mid new kids entries left : ℕ) → looks ≤ before + 4 → mid ≡ old → OnOk result (after + 4 * mid ≤ looks + 2 + 2 * kids + 2 * entries + 6 * left + 4 * new) → OnOk result (after + 4 * old ≤ before + 6 + 2 * kids + 2 * entries + 6 * left + 4 * new)
looks-all (Ok value) before looks after old mid new kids entries left few same counted = omega (arith, few, same, counted)
looks-all (Err end) before looks after old mid new kids entries left few same counted = tt

-- the work of all, with that of the move
pub work-all : {T E : Type 0} (result : Result T E) (before looks after fewer pairs more told mid all entries : ℕ) → looks ≤ before + 4 → pairs ≤ fewer + 1 → mid ≡ told + 1 →
    OnOk result (after + 4 * more + 16 * mid ≤ looks + 2 + 4 * pairs + 16 * all + 4 * entries) → OnOk result (after + 6 + 4 * more + 16 * told ≤ before + 4 * fewer + 16 * all + 4 * entries)
work-all (Ok value) before looks after fewer pairs more told mid all entries few one same worked = omega (arith, few, one, same, worked)
work-all (Err end) before looks after fewer pairs more told mid all entries few one same worked = tt

births-all : {T E : Type 0} (result : Result T E) (new mid old room count was : ℕ) → mid ≡ old → count ≡ was → OnOk result (new ≤ mid + room + count) → OnOk result (new ≤ old + room + was)
births-all (Ok value) new mid old room count was same parts born = omega (arith, same, parts, born)
births-all (Err end) new mid old room count was same parts born = tt

births-same : (mid old room count was : ℕ) → mid ≡ old → count ≡ was → old + room + was < 2 ^ 64 → mid + room + count < 2 ^ 64
births-same mid old room count was same parts few = omega (arith, same, parts, few)

module _ (S : System) (model : Model) (flat : Flat) (mover : Mover) (stands : Stands model flat) (there : IsThere flat mover) (at : IsExecutive flat mover) (time : ℕ) (kind : MoveKind) (is_kind : kind_of (leaf_of flat mover) time mover.got ≡ Some kind) where
  abbrev pub tree : Sim
  tree = tree_of flat

  abbrev pub its_net : Net
  its_net = net model flat mover stands there at

  abbrev pub its_place : List Name
  its_place = place model flat mover stands there at

  abbrev pub its_path : Path
  its_path = path model flat mover stands there at

  abbrev pub taken : Told Leaf
  taken = take_move S (leaf_of flat mover) kind mover.path time mover.got

  abbrev pub as_tree : Net × ℕ → Told (Sim × ℕ)
  as_tree after = told [] (with_part its_place (sim.Net after.0) tree, after.1)

  abbrev pub next_of : ℕ → Leaf → Told (Sim × ℕ)
  next_of room moved = after_boss S (out-Net its_net).model (out-Net its_net).args (out-Net its_net).kids its_path time room moved then as_tree

  pub kind-is : kind_of (out-Net its_net).boss time mover.got ≡ Some kind
  kind-is = ap (λ (l : Leaf). kind_of l time mover.got) (sym (leaf-is model flat mover stands there at)) ∙ is_kind

  pub taken-is : take_move S (out-Net its_net).boss kind (to_boss its_path) time mover.got ≡ taken
  taken-is =
      ap (λ (l : Leaf). take_move S l kind (to_boss its_path) time mover.got) (sym (leaf-is model flat mover stands there at))
      ∙ ap (λ (p : Path). take_move S (leaf_of flat mover) kind p time mover.got) (sym (path-under model flat mover stands there at))

  module _ (law : (path : Path) (time : ℕ) (names : List Name) (got : Ports) (tree : Sim) (room : ℕ) (number : ModelId) (args : List Value) (boss : Leaf) (kids : List Kid) (links : List Link) → part_at names tree ≡ Some (sim.Net (net_of number args boss kids links)) →
      move_at S path time (record { names = names; is_boss = true }) got tree room
      ≡ (boss_moves S number args boss links kids (path_behind path names) time got room then (λ after. told [] (with_part names (sim.Net after.0) tree, after.1)))) (room : ℕ) where
    abbrev pub whole : Told (Sim × ℕ)
    whole = move_one S root time (delivery_of mover) tree room

    steps : whole ≡ (boss_moves S (out-Net its_net).model (out-Net its_net).args (out-Net its_net).boss (out-Net its_net).links (out-Net its_net).kids its_path time mover.got room then as_tree)
    steps =
        ap (λ (seat : Seat). move_at S root time seat mover.got tree room) (seat-is model flat mover stands there at)
        ∙ law root time its_place mover.got tree room (out-Net its_net).model (out-Net its_net).args (out-Net its_net).boss (out-Net its_net).kids (out-Net its_net).links
        (net-there model flat mover stands there at ∙ ap (λ (s : Sim). let found : Option Sim = Some s in found) (whole-of its_net))

    whole-is : whole ≡ (taken then next_of room)
    whole-is =
        steps
        ∙ ap (λ (found : Option MoveKind).
        (let step : Told (Net × ℕ) = elim found [
          | Some own ↦ take_move S (out-Net its_net).boss own (to_boss its_path) time mover.got then after_boss S (out-Net its_net).model (out-Net its_net).args (out-Net its_net).kids its_path time room
          | None ↦ told [] (net_of (out-Net its_net).model (out-Net its_net).args (out-Net its_net).boss (out-Net its_net).kids (out-Net its_net).links, room)
        ] in step) then as_tree) kind-is
        ∙ then-assoc (take_move S (out-Net its_net).boss kind (to_boss its_path) time mover.got) (after_boss S (out-Net its_net).model (out-Net its_net).args (out-Net its_net).kids its_path time room) as_tree
        ∙ ap (λ (step : Told Leaf). step then next_of room) taken-is

    goes : (old : List Event) → GoesOn whole (taken then next_of room) old old
    goes old = subst (λ (step : Told (Sim × ℕ)). GoesOn whole step old old) whole-is (goes-begin whole old)

    -- its move ends the step
    pub stops-here : (old new : List Event) (end : TurnEnd) → Tells (taken then put_under flat.grove mover.handle) old new (Err end) → Tells whole old new (Err end)
    stops-here old new end tells =
        goes-stops whole taken (next_of room) old old new end (goes old) (unseen taken.events taken.end (λ (l : Leaf). with_value flat.grove mover.handle (variant.Leaf l)) old new end tells)

    -- it has moved
    module _ (own : Grove Spot) (queue : Queue) (old mid : List Event) (tells : Tells (taken then put_under flat.grove mover.handle) old mid (Ok own)) where
      abbrev pub put : Put flat.grove mover.handle taken old mid own
      put = put-at flat.grove mover.handle taken.events taken.end old mid own tells

      abbrev pub moved_flat : Flat
      moved_flat = next_flat model flat mover stands there at put.leaf own queue put.is

      held-new : leaf_in (value_of own mover.handle) ≡ put.leaf
      held-new = ap (λ (g : Grove Spot). leaf_in (value_of g mover.handle)) put.is ∙ ap leaf_in (moved-value flat.grove mover.handle put.leaf there.part there.live)

      pub stands-mid : FitsLeaf model (leaf_in (value_of own mover.handle)) → StaysOf (leaf_of flat mover) (leaf_in (value_of own mover.handle)) → IsTree own → Stands model moved_flat
      stands-mid fits stays is_tree =
          stands-moved model flat mover stands there at put.leaf own queue put.is (subst (FitsLeaf model) held-new fits) (subst (StaysOf (leaf_of flat mover)) held-new stays) is_tree

      pub births-mid : flat.grove.next_birth + room + parts tree < 2 ^ 64 → own.next_birth + room + parts (tree_of moved_flat) < 2 ^ 64
      births-mid few =
          births-same own.next_birth flat.grove.next_birth room (parts (tree_of moved_flat)) (parts tree) (next-birth model flat mover stands there at put.leaf own queue put.is) (parts-moved model flat mover stands there at put.leaf own queue put.is) few

      abbrev pub rest : Path → Told (Sim × ℕ)
      rest found = followed S (tree_of moved_flat) its_place found (net_moved model flat mover stands there at put.leaf) time room

      rest-is : next_of room put.leaf ≡ rest its_path
      rest-is =
          let step : Told (Net × ℕ) = after_boss S (out-Net its_net).model (out-Net its_net).args (out-Net its_net).kids its_path time room put.leaf in
          then-same step as_tree (λ after. told [] (with_part its_place (sim.Net after.0) (tree_of moved_flat), after.1))
          (λ after. ap (λ (t : Sim). told [] (t, after.1))
          (sym (ap (with_part its_place (sim.Net after.0)) (tree-moved model flat mover stands there at put.leaf own queue put.is)
          ∙ with-again its_place (sim.Net after.0) (sim.Net (net_moved model flat mover stands there at put.leaf)) tree)))
          ∙ ap (λ (n : Net-F Sim Kid Net). after_boss S n.model n.args n.kids its_path time room n.boss then (λ after. told [] (with_part its_place (sim.Net after.0) (tree_of moved_flat), after.1)))
          (sym (opened-moved model flat mover stands there at put.leaf))

      pub births-behind : (new : ℕ) (result : Result ℕ TurnEnd) → OnOk result (new ≤ own.next_birth + room + parts (tree_of moved_flat)) → OnOk result (new ≤ flat.grove.next_birth + room + parts tree)
      births-behind new result born =
          births-all result new own.next_birth flat.grove.next_birth room (parts (tree_of moved_flat)) (parts tree) (next-birth model flat mover stands there at put.leaf own queue put.is) (parts-moved model flat mover stands there at put.leaf own queue put.is) born

      -- at the path of its network, as the code finds it
      module _ (found : Path) (found_is : found ≡ its_path) where
        abbrev pub moved_at : IsExecutiveAt moved_flat mover.handle found
        moved_at = executive-moved model flat mover stands there at put.leaf own queue put.is found found_is

        -- what follows is told behind its move
        pub told-behind : (new : List Event) (result : Result (Sim × ℕ) TurnEnd) → Tells (rest found) mid new result → Tells whole old new result
        told-behind new result follows =
            tail whole (next_of room put.leaf) old mid new result
            (goes-step whole taken (next_of room) old old mid put.leaf (goes old) put.tells.0 put.tells.1)
            (subst (λ (step : Told (Sim × ℕ)). Tells step mid new result) (ap rest found_is ∙ sym rest-is) follows)

        pub beneath-behind : {T : Type 0} (new : Grove Spot) (result : Result T TurnEnd) → OnOk result (ChangesBeneath found.names own new) → OnOk result (ChangesBeneath its_path.names own new)
        beneath-behind new result beneath = subst (λ (p : Path). OnOk result (ChangesBeneath p.names own new)) found_is beneath

        abbrev pub Looked : Net-F Sim Kid Net → Plan → ℕ → ℕ → ℕ → ℕ → Type 0
        Looked n plan before after old_births new_births = after + 4 * old_births ≤ before + 2 * length n.kids + 2 * length plan.entries + 6 * parts_of_kids (gone plan.entries n.kids) + 4 * new_births

        -- the plan of the whole is the one that follows
        pub planned-behind : (other : Net) (moved : Leaf) (plan : Plan) → part_at its_place tree ≡ Some (sim.Net other) → taken.end ≡ Ok moved → structure_of S (out-Net other).model (out-Net other).args moved its_path ≡ Ok plan →
            structure_of S (out-Net moved_at.net).model (out-Net moved_at.net).args (out-Net moved_at.net).boss found ≡ Ok plan
        planned-behind other moved plan is ends structure =
            let one : its_net ≡ other = net-one its_net other (sym (net-there model flat mover stands there at) ∙ is) in
            let leaf : put.leaf ≡ moved = same-ok put.leaf moved (sym put.tells.1 ∙ ends) in
            ap (λ (p : Path). structure_of S (out-Net moved_at.net).model (out-Net moved_at.net).args (out-Net moved_at.net).boss p) found_is
            ∙ ap (λ (n : Net-F Sim Kid Net). structure_of S n.model n.args n.boss its_path) (opened-moved model flat mover stands there at put.leaf)
            ∙ ap (λ (l : Leaf). structure_of S (out-Net its_net).model (out-Net its_net).args l its_path) leaf
            ∙ ap (λ (n : Net). structure_of S (out-Net n).model (out-Net n).args moved its_path) one
            ∙ structure

        -- the looks of all
        pub looked-behind : (other : Net) (moved : Leaf) (plan : Plan) (before looks after births : ℕ) (result : Result ℕ TurnEnd) → part_at its_place tree ≡ Some (sim.Net other) → taken.end ≡ Ok moved →
            structure_of S (out-Net other).model (out-Net other).args moved its_path ≡ Ok plan → looks ≤ before + 4 →
            ((p : Plan) → structure_of S (out-Net moved_at.net).model (out-Net moved_at.net).args (out-Net moved_at.net).boss found ≡ Ok p → OnOk result (Looked (out-Net moved_at.net) p (looks + 2) after own.next_birth births)) →
            OnOk result (Looked (out-Net other) plan (before + 6) after flat.grove.next_birth births)
        looked-behind other moved plan before looks after births result is ends structure few known =
            let one : its_net ≡ other = net-one its_net other (sym (net-there model flat mover stands there at) ∙ is) in
            let shown = opened-moved model flat mover stands there at put.leaf in
            let kids : (out-Net moved_at.net).kids ≡ (out-Net other).kids = ap (λ (n : Net-F Sim Kid Net). n.kids) shown ∙ ap (λ (n : Net). (out-Net n).kids) one in
            let counted : OnOk result (after + 4 * own.next_birth ≤ looks + 2 + 2 * length (out-Net other).kids + 2 * length plan.entries + 6 * parts_of_kids (gone plan.entries (out-Net other).kids) + 4 * births) =
            subst (λ (ks : List Kid). OnOk result (after + 4 * own.next_birth ≤ looks + 2 + 2 * length ks + 2 * length plan.entries + 6 * parts_of_kids (gone plan.entries ks) + 4 * births)) kids (known plan (planned-behind other moved plan is ends structure)) in
            looks-all result before looks after flat.grove.next_birth own.next_birth births (length (out-Net other).kids) (length plan.entries) (parts_of_kids (gone plan.entries (out-Net other).kids)) few
            (next-birth model flat mover stands there at put.leaf own queue put.is) counted
