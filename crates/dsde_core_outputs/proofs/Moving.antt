-- Who is called moves, and nobody else.
use Rattle.std.proofs.Common.{◌≡◌, ◌↔◌, ℕ, ◌<◌, ◌||◌, Bool, true, false, List, [], ◌∷◌, map, cond, is_eq, Option, Some, None, Ordering, Less, IsPermutation, IsSorted, refl, sym, ap, subst, ◌∙◌, inl, inr, arith}
use Rattle.std.specs.Prelude.{Contains}
use Rattle.std.specs.List.{AllByRecursion, IsDistinct, flat_map, range_with_len}
use Rattle.std.specs.List.Sorted.{IsStrictlySortedBy}
use Rattle.std.specs.Option.{option_map}
use Rattle.std.specs.Ordering.{eq_by_cmp, on}
use Rattle.std.proofs.lemmas.Cmp.{eq_by_cmp_equiv}
use Rattle.std.proofs.lemmas.List.Sorted.{Contains-permutation, IsPermutation-sym}
use Rattle.std.proofs.lemmas.Map.Keys.{IsDistinct-IsPermutation, IsDistinct-cons, sorted_head, sorted_tail}
use Rattle.dsde_bank.specs.declared.handle.Handle.{Handle}
use Rattle.dsde_syntax.specs.declared.decl.Model.{Model}
use Rattle.dsde_values.specs.declared.arrival.Item.{Item}
use Rattle.dsde_values.specs.declared.name.Name.{Name}
use Rattle.dsde_values.specs.declared.path.Path.{Path}
use Rattle.dsde_values.specs.Path.{path_cmp, root}
use Rattle.dsde_sim_tree.specs.given.formalism.leaf_Leaf.{Leaf}
use Rattle.dsde_sim_tree.specs.given.formalism.Leaf.{component_of, has_come, is_due}
use Rattle.dsde_sim_tree.specs.given.formalism.System.{Ports, System}
use Rattle.dsde_sim_working.specs.given.system.Program.{system}
use Rattle.dsde_grove.specs.Grove.{Grove, IsTree, value_of}
use Rattle.dsde_sim_tree.specs.declared.sim.Net.{Net}
use Rattle.dsde_sim_tree.specs.declared.sim.Sim.{Sim}
use Rattle.dsde_sim_tree.specs.declared.sim.Sim.TheVariants as sim
use Rattle.dsde_sim_tree.specs.Move.{ins_of}
use Rattle.dsde_sim_tree.specs.Output.{by_port}
use Rattle.dsde_sim_working.specs.given.sim_movers.Deliveries.{Delivery}
use Rattle.dsde_sim_working.specs.given.sim_movers.Places.{leaves_from}
use Rattle.dsde_sim_working.specs.given.sim_movers.Movers.{leaf_at, path_behind, seat_of, AreInPathOrder}
use Rattle.dsde_core_parcels.specs.given.routes_wiring.wiring_Wiring.{Wiring}
use Rattle.dsde_core_parcels.specs.given.routes_pushing.lemmas_Ascending.{ascends}
use Rattle.dsde_core_parcels.specs.given.routes_pushing.lemmas_Lists.{among-behind, among-flat, among-from, among-front, contains-from, distinct-append, distinct-nil, each-among, flat-among, Among, Ascend}
use Rattle.dsde_core_parcels.specs.given.core_flat.spot_Spot.{Spot}
use Rattle.dsde_core_parcels.specs.given.core_flat.spot_Spot_TheVariants as variant
use Rattle.dsde_core_parcels.specs.given.core_flat.Grafts.{path_at}
use Rattle.dsde_core_parcels.specs.given.core_flat.Places.{part_places, Place}
use Rattle.dsde_core_parcels.specs.given.core_flat.Scheduled.{held_leaf, is_next}
use Rattle.dsde_core_parcels.specs.given.core_flat.Shown.{leaf_in}
use Rattle.dsde_core_parcels.specs.given.core_flat.Stands.{StandsAt}
use Rattle.dsde_core_parcels.specs.given.core_flat.lemmas_Moves.{one-handle-at}
use Rattle.dsde_core_parcels.specs.given.core_flat.lemmas_Names.{path-exact}
use Rattle.dsde_core_parcels.specs.given.core_flat.due_Due.{Due}
use Rattle.dsde_core_parcels.specs.given.core_flat.Due.{due_cmp, IsDue}
use Rattle.dsde_core_parcels.specs.declared.inbox.Inbox.{Inbox}
use Rattle.dsde_core_parcels.specs.Inboxes.{spread}
use Rattle.dsde_core_parcels.specs.Brought.{brought, Rise}
use Rattle.dsde_core_parcels.specs.Delivered.{brought_to, IsCalled}
use Rattle.dsde_core_parcels.specs.Traffic.{handle_in}
use Rattle.dsde_core_parcels.specs.lemmas.TrafficHeld.{leaf-held}
use Rattle.dsde_core_parcels.specs.given.core_moves.flat_Mover.{Mover}
use Rattle.dsde_core_parcels.specs.given.core_moves.Flat.{delivery_of}
use Rattle.dsde_core_parcels.specs.Calling.{called, due_mover, if_come, mover_cmp, mover_with, told_as, told_by}
use Rattle.dsde_core_parcels.specs.lemmas.Dues.{among-map, due-held, map-among}
use Rattle.dsde_core_parcels.specs.lemmas.Pathwise.{mover_cmp-ranks, mover_cmp-total}
use Rattle.dsde_core_outputs.specs.Called.{IsLiveMover}
use Rattle.dsde_core_outputs.specs.Filled.{AreFilled}
use Rattle.dsde_core_outputs.proofs.Bringing.{inbox-or-none, none-comes, spread-brings, HasInbox}
use Rattle.dsde_core_parcels.specs.lemmas.Leaves.{paths_at, place-with, tree-leaves, HasPlace}
use Rattle.dsde_core_parcels.specs.lemmas.Living.{live-with, path-live, place-path, seat-at}
use Rattle.dsde_core_outputs.proofs.Members.{due-lives, is-told, of-either, told-is, told-lives, IsTold}
use Rattle.dsde_core_outputs.proofs.Standing.{each-own, handle-at, lives}
use Rattle.dsde_core_outputs.proofs.CalledTaking.{each-due}

-- who has one path is under one handle
one-handle : (own : Grove Spot) → IsTree own → (one other : Mover) → IsLiveMover own one → IsLiveMover own other → one.path ≡ other.path → one.handle ≡ other.handle
one-handle own tree one other first second same =
    let a = live-with own one.handle (variant.Leaf first.leaf) first.held in
    let b = live-with own other.handle (variant.Leaf second.leaf) second.held in
    let paths = ap (λ (path : Path). path.names) (sym (path-live own one.handle a.0 a.1) ∙ sym first.path ∙ same ∙ second.path ∙ path-live own other.handle b.0 b.1) in
    one-handle-at own tree one.handle other.handle a.0 b.0 a.1 b.1 paths

one-leaf : (one other : Leaf) → Some (variant.Leaf one) ≡ Some (variant.Leaf other) → one ≡ other
one-leaf one other is = let e : (let held : Option Spot = Some (variant.Leaf one) in held) ≡ Some (variant.Leaf other) = is in cc

abbrev is_tied : Mover → Mover → Bool
is_tied = eq_by_cmp mover_cmp

not-tied : (own : Grove Spot) → IsTree own → (one other : Mover) → IsLiveMover own one → IsLiveMover own other → (one.handle ≡ other.handle → ⊥) → (b : Bool) → is_tied one other ≡ b → b ≡ false
not-tied own tree one other first second apart true is = absurd (apart (one-handle own tree one other first second (path-exact one.path other.path is)))
not-tied own tree one other first second apart false is = refl

abbrev by_path : Delivery → Delivery → Ordering
by_path = on (λ own. own.path) path_cmp

order-behind : (mover : Mover) (later : List Mover) → AllByRecursion (λ (other : Mover). mover_cmp mover other ≡ Less) later → AllByRecursion (λ (other : Delivery). by_path (delivery_of mover) other ≡ Less) (map delivery_of later)
order-behind mover [] less = tt
order-behind mover (other ∷ later) less = (less.0, order-behind mover later less.1)

order-delivered : (list : List Mover) → Ascend mover_cmp mover_cmp-total (λ mover. mover) list → AreInPathOrder (map delivery_of list)
unfolding IsStrictlySortedBy
order-delivered [] up = tt
order-delivered (mover ∷ list) up = (order-behind mover list up.0, order-delivered list up.1)

module _ (model : Model) (own : Grove Spot) (top : Handle) (wiring : Wiring) (net : Net) (time : ℕ) (items : List Item) (due : List Due) (inboxes : List Inbox) (filled : AreFilled model own top wiring net time items due inboxes) where
  abbrev S : System
  S = system model

  abbrev tree : Sim
  tree = sim.Net net

  abbrev got : Ports
  got = by_port (ins_of S tree) items

  abbrev handle : Path → Handle
  handle = handle_in top wiring

  pub each : AllByRecursion (IsDue own time) due
  each = each-due own time due filled.are_due

  module _ (rise : Rise inboxes) (apart : AllByRecursion (λ (inbox : Inbox). (ports : ℕ) → spread ports inbox.gets ≡ map (brought inboxes inbox.target) (range_with_len 0 ports)) inboxes) where
    -- what a mover receives is what the inboxes bring
    pub record IsBroughtTo (mover : Mover) : Type 0 where
      pub leaf : Leaf
      pub held : value_of own mover.handle ≡ Some (variant.Leaf leaf)
      pub path : mover.path ≡ path_at own mover.handle
      pub model_is : mover.model ≡ leaf.model
      pub got_is : mover.got ≡ map (brought inboxes mover.handle) (range_with_len 0 (component_of S leaf).ins)
      pub called : (is_due leaf time || has_come mover.got) ≡ true

    due-brought : (one : Due) → Among one due → IsBroughtTo (due_mover S own inboxes one)
    due-brought one among =
        let is = each-among (IsDue own time) due one each among in
        let held = due-held own time one.handle is.next in
        let there : leaf_in (value_of own one.handle) ≡ held.0 = ap leaf_in held.1 in
        record {
          leaf = held.0;
          held = held.1;
          path = is.path;
          model_is = ap (λ (leaf : Leaf). leaf.model) there;
          got_is = spread-brings one.handle (component_of S (leaf_in (value_of own one.handle))).ins inboxes ∙ ap (λ (leaf : Leaf). map (brought inboxes one.handle) (range_with_len 0 (component_of S leaf).ins)) there;
          called = ap (λ (b : Bool). b || has_come (due_mover S own inboxes one).got) held.2;
        }

    told-brought : (inbox : Inbox) → Among inbox inboxes → (mover : Mover) → IsTold S own time inbox mover → IsBroughtTo mover
    told-brought inbox among mover told =
        let there : leaf_in (value_of own inbox.target) ≡ told.leaf = ap leaf_in told.held in
        let ports = (component_of S (leaf_in (value_of own inbox.target))).ins in
        let brings = each-among (λ (inbox : Inbox). (ports : ℕ) → spread ports inbox.gets ≡ map (brought inboxes inbox.target) (range_with_len 0 ports)) inboxes inbox apart among in
        subst IsBroughtTo (sym told.is) (record {
          leaf = told.leaf;
          held = told.held;
          path = refl;
          model_is = ap (λ (leaf : Leaf). leaf.model) there;
          got_is = brings ports ∙ ap (λ (leaf : Leaf). map (brought inboxes inbox.target) (range_with_len 0 (component_of S leaf).ins)) there;
          called = ap (λ (b : Bool). b || has_come (mover_with S own inbox.target (path_at own inbox.target) inbox.gets).got) told.waits ∙ ap (λ (own_mover : Mover). has_come own_mover.got) (sym told.is) ∙ told.come;
        })

    pub either-brought : (mover : Mover) → Among mover (called S own time due inboxes) → IsBroughtTo mover
    either-brought mover among = elim (of-either S own time due inboxes mover among) [
      | inl is ↦ subst IsBroughtTo (sym is.is) (due-brought is.due_one is.among)
      | inr is ↦ told-brought is.inbox is.among mover is.told
    ]

    -- so it is called
    delivered : (mover : Mover) (is : IsBroughtTo mover) → handle mover.path ≡ mover.handle → delivery_of mover ≡ brought_to S handle inboxes mover.path is.leaf
    delivered mover is own_handle =
        λ i. record {
          path = mover.path;
          model = is.model_is i;
          ports = (is.got_is ∙ ap (λ (target : Handle). map (brought inboxes target) (range_with_len 0 (component_of S is.leaf).ins)) (sym own_handle)) i;
        }

    handle-of : (mover : Mover) (is : IsBroughtTo mover) → handle mover.path ≡ mover.handle
    handle-of mover is =
        ap handle is.path ∙ handle-at model own top wiring net time got filled.carry mover.handle is.leaf (lives model own top wiring net time got filled.carry mover.handle is.leaf is.held)

    mover-called : (mover : Mover) → IsBroughtTo mover → IsCalled S handle tree time inboxes (delivery_of mover)
    mover-called mover is =
        let its = lives model own top wiring net time got filled.carry mover.handle is.leaf is.held in
        record {
          names = its.names;
          path = is.path ∙ its.path;
          leaf = is.leaf;
          there = its.there;
          is = delivered mover is (handle-of mover is);
          called = is.called;
        }

    -- and who is called is among them
    abbrev ats : List Place
    ats = part_places top root (Some wiring)

    module _ (paths : (names : List Name) (leaf : Leaf) → leaf_at (seat_of names) tree ≡ Some leaf → Contains (leaves_from tree root) (path_behind root names)) (delivery : Delivery) (is : IsCalled S handle tree time inboxes delivery) where
      found : HasPlace (path_behind root is.names) ats
      found =
          let among = among-from (leaves_from tree root) (path_behind root is.names) (paths is.names is.leaf is.there) in
          let leaves : leaves_from tree root ≡ paths_at ats = ap (λ (part : Sim). leaves_from part root) (sym filled.carry.stands.shows) ∙ tree-leaves (value_of own) top root (Some wiring) in
          place-with (path_behind root is.names) ats (subst (Among (path_behind root is.names)) leaves among)

      abbrev at : Place
      at = found.at

      stands_at : StandsAt own at
      stands_at = each-among (StandsAt own) ats at filled.carry.stands.live found.among

      held : value_of own at.handle ≡ Some (variant.Leaf is.leaf)
      held =
          let there = leaf-held own at stands_at found.kind in
          let seat = seat-at own top (Some wiring) tree filled.carry.stands filled.carry.named at found.among found.kind is.names found.is in
          let same : Some there.0 ≡ Some is.leaf = sym (ap (λ (spot : Option Spot). Some (leaf_in spot)) there.1) ∙ sym seat ∙ is.there in
          there.1 ∙ ap (λ (one : Option Leaf). option_map (λ (leaf : Leaf). variant.Leaf leaf) one) same

      path-here : delivery.path ≡ at.path
      path-here = is.path ∙ sym found.is

      path-of : at.path ≡ path_at own at.handle
      path-of = place-path own at stands_at

      handle-here : handle delivery.path ≡ at.handle
      handle-here = ap handle path-here ∙ each-among (λ (at : Place). handle at.path ≡ at.handle) ats at (each-own model own top wiring net time got filled.carry) found.among

      same-delivery : (mover : Mover) → IsBroughtTo mover → mover.handle ≡ at.handle → mover.path ≡ delivery.path → delivery_of mover ≡ delivery
      same-delivery mover brought_is handles same_path =
          let leaves : Some (variant.Leaf brought_is.leaf) ≡ Some (variant.Leaf is.leaf) = sym brought_is.held ∙ ap (value_of own) handles ∙ held in
          let leaf : brought_is.leaf ≡ is.leaf = one-leaf brought_is.leaf is.leaf leaves in
          delivered mover brought_is (handle-of mover brought_is) ∙ (λ i. brought_to S handle inboxes (same_path i) (leaf i)) ∙ sym is.is

      -- Somebody who is called has this delivery.
      pub record HasMover : Type 0 where
        pub mover : Mover
        pub among : Among mover (called S own time due inboxes)
        pub same : delivery_of mover ≡ delivery

      mover-due : is_due is.leaf time ≡ true → HasMover
      mover-due now =
          let one : Due = record { path = delivery.path; handle = at.handle } in
          let is_it : IsDue own time one = record { next = ap (λ (spot : Option Spot). is_next spot time) held ∙ now; path = path-here ∙ path-of } in
          let there = among-from due one ((filled.are_due.each one).1 is_it) in
          record {
            mover = due_mover S own inboxes one;
            among = among-front (due_mover S own inboxes one) (map (due_mover S own inboxes) due) (flat_map (told_by S own time) inboxes) (among-map (due_mover S own inboxes) one due there);
            same = same-delivery (due_mover S own inboxes one) (due-brought one there) refl refl;
          }

      ports-here : delivery.ports ≡ map (brought inboxes at.handle) (range_with_len 0 (component_of S is.leaf).ins)
      ports-here = ap (λ (own_delivery : Delivery). own_delivery.ports) is.is ∙ ap (λ (target : Handle). map (brought inboxes target) (range_with_len 0 (component_of S is.leaf).ins)) handle-here

      mover-told : is_due is.leaf time ≡ false → has_come delivery.ports ≡ true → HasInbox at.handle inboxes → HasMover
      mover-told waits come has =
          let inbox = has.inbox in
          let mover = mover_with S own inbox.target (path_at own inbox.target) inbox.gets in
          let its : value_of own inbox.target ≡ Some (variant.Leaf is.leaf) = ap (value_of own) has.is ∙ held in
          let ports = (component_of S (leaf_in (value_of own inbox.target))).ins in
          let brings = each-among (λ (inbox : Inbox). (ports : ℕ) → spread ports inbox.gets ≡ map (brought inboxes inbox.target) (range_with_len 0 ports)) inboxes inbox apart has.among in
          let same : mover.got ≡ delivery.ports =
          brings ports
          ∙ (λ i. map (brought inboxes (has.is i)) (range_with_len 0 (component_of S (leaf_in (its i))).ins))
          ∙ sym ports-here in
          let told = told-is S own time inbox is.leaf its waits (ap has_come same ∙ come) in
          let among = among-behind mover (map (due_mover S own inboxes) due) (flat_map (told_by S own time) inboxes) (flat-among (told_by S own time) mover inbox inboxes has.among told) in
          record {
            mover = mover;
            among = among;
            same = same-delivery mover (either-brought mover among) has.is (ap (path_at own) has.is ∙ sym path-of ∙ sym path-here);
          }

      mover-by : (now : Bool) → is_due is.leaf time ≡ now → HasMover
      mover-by true now = mover-due now
      mover-by false waits =
          let come : has_come delivery.ports ≡ true = sym (ap (λ (b : Bool). b || has_come delivery.ports) waits) ∙ is.called in
          elim (inbox-or-none at.handle inboxes) [
            | inl has ↦ mover-told waits come has
            | inr others ↦ absurd (let wrong : true ≡ false = sym come ∙ ap has_come ports-here ∙ none-comes at.handle (range_with_len 0 (component_of S is.leaf).ins) inboxes others in cc)
          ]

      pub called-mover : HasMover
      called-mover = mover-by (is_due is.leaf time) refl

    -- no two are tied
    tree-is : IsTree own
    tree-is = filled.carry.tree

    due-untied : (one : Due) (later : List Due) → AllByRecursion (λ (other : Due). due_cmp one other ≡ Less) later → AllByRecursion (λ (other : Mover). is_tied (due_mover S own inboxes one) other ≡ false) (map (due_mover S own inboxes) later)
    due-untied one [] less = tt
    due-untied one (other ∷ later) less = (ap is_eq less.0, due-untied one later less.1)

    due-distinct : (list : List Due) → IsStrictlySortedBy due_cmp list → IsDistinct is_tied (map (due_mover S own inboxes) list)
    due-distinct [] order = distinct-nil is_tied
    due-distinct (one ∷ list) order =
        IsDistinct-cons is_tied (due_mover S own inboxes one) (map (due_mover S own inboxes) list) (due-untied one list (sorted_head due_cmp one list order)) (due-distinct list (sorted_tail due_cmp one list order))

    one-come : (mover : Mover) (b : Bool) → IsDistinct is_tied (cond b (mover ∷ []) [])
    one-come mover true = IsDistinct-cons is_tied mover [] tt (distinct-nil is_tied)
    one-come mover false = distinct-nil is_tied

    one-due : (mover : Mover) (b : Bool) → IsDistinct is_tied (cond b [] (if_come mover))
    one-due mover true = distinct-nil is_tied
    one-due mover false = one-come mover (has_come mover.got)

    one-told : (mover : Mover) (leaf : Option Leaf) → IsDistinct is_tied (told_as leaf time mover)
    one-told mover None = distinct-nil is_tied
    one-told mover (Some leaf) = one-due mover (is_due leaf time)

    told-handle : (inbox : Inbox) (mover : Mover) → IsTold S own time inbox mover → mover.handle ≡ inbox.target
    told-handle inbox mover told = ap (λ (own_mover : Mover). own_mover.handle) told.is

    told-distinct : (boxes : List Inbox) → Rise boxes → IsDistinct is_tied (flat_map (told_by S own time) boxes)
    told-distinct [] rise = distinct-nil is_tied
    told-distinct (inbox ∷ boxes) rise =
        distinct-append is_tied (told_by S own time inbox) (flat_map (told_by S own time) boxes)
        (one-told (mover_with S own inbox.target (path_at own inbox.target) inbox.gets) (held_leaf (value_of own inbox.target))) (told-distinct boxes rise.1)
        (λ x y here there.
        let first = is-told S own time inbox x here in
        let later = among-flat (told_by S own time) y boxes there in
        let second = is-told S own time later.0 y later.2 in
        let less = each-among (λ (other : Inbox). inbox.target.birth < other.target.birth) boxes later.0 rise.0 later.1 in
        not-tied own tree-is x y (told-lives S own time due inboxes inbox x first) (told-lives S own time due inboxes later.0 y second)
        (λ same.
        let births : inbox.target.birth ≡ later.0.target.birth = ap (λ (one : Handle). one.birth) (sym (told-handle inbox x first) ∙ same ∙ told-handle later.0 y second) in
        absurd (omega (arith, less, births)))
        (is_tied x y) refl)

    pub called-distinct : IsDistinct is_tied (called S own time due inboxes)
    called-distinct =
        distinct-append is_tied (map (due_mover S own inboxes) due) (flat_map (told_by S own time) inboxes) (due-distinct due filled.are_due.order) (told-distinct inboxes rise)
        (λ x y here there.
        let first = map-among (due_mover S own inboxes) x due here in
        let later = among-flat (told_by S own time) y inboxes there in
        let second = is-told S own time later.0 y later.2 in
        let is = each-among (IsDue own time) due first.0 each first.1 in
        let held = due-held own time first.0.handle is.next in
        not-tied own tree-is x y (subst (IsLiveMover own) (sym first.2) (due-lives S own time due inboxes first.0 is)) (told-lives S own time due inboxes later.0 y second)
        (λ same.
        let handles : first.0.handle ≡ later.0.target = ap (λ (mover : Mover). mover.handle) (sym first.2) ∙ same ∙ told-handle later.0 y second in
        let leaves : Some (variant.Leaf held.0) ≡ Some (variant.Leaf second.leaf) = sym held.1 ∙ ap (value_of own) handles ∙ second.held in
        let wrong : true ≡ false = sym held.2 ∙ ap (λ (leaf : Leaf). is_due leaf time) (one-leaf held.0 second.leaf leaves) ∙ second.waits in
        cc)
        (is_tied x y) refl)

    flips : (one other : Mover) → is_tied one other ≡ is_tied other one
    flips one other = (eq_by_cmp_equiv mover_cmp-total).symm one other

    module _ (list : List Mover) (same : IsPermutation (called S own time due inboxes) list) (sorted : IsSorted mover_cmp list) where
      pub in-path-order : AreInPathOrder (map delivery_of list)
      in-path-order =
          order-delivered list (ascends mover_cmp mover_cmp-total mover_cmp-ranks list sorted (IsDistinct-IsPermutation is_tied flips (called S own time due inboxes) list same called-distinct))

      pub those : (paths : (names : List Name) (leaf : Leaf) → leaf_at (seat_of names) tree ≡ Some leaf → Contains (leaves_from tree root) (path_behind root names)) → (delivery : Delivery) → Contains (map delivery_of list) delivery ↔ IsCalled S handle tree time inboxes delivery
      those paths delivery = (
        λ there.
            let found = map-among delivery_of delivery list (among-from (map delivery_of list) delivery there) in
            let among = among-from (called S own time due inboxes) found.0 (Contains-permutation list (called S own time due inboxes) found.0 (IsPermutation-sym (called S own time due inboxes) list same) (contains-from list found.0 found.1)) in
            subst (IsCalled S handle tree time inboxes) (sym found.2) (mover-called found.0 (either-brought found.0 among)),
        λ is.
            let has = called-mover paths delivery is in
            let among = among-from list has.mover (Contains-permutation (called S own time due inboxes) list has.mover same (contains-from (called S own time due inboxes) has.mover has.among)) in
            contains-from (map delivery_of list) delivery (subst (λ (one : Delivery). Among one (map delivery_of list)) has.same (among-map delivery_of has.mover list among)),
      )
