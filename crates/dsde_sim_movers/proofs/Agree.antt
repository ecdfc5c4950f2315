-- Lawful orders of one list of movers come to the same.
use Rattle.std.proofs.Common.{◌≡◌, ℕ, ◌-◌, true, false, List, [], ◌∷◌, ◌++◌, Result, Ok, Err, sym, ◌∙◌, ap, subst, append-nil, inl, inr, ◌↔◌, IsPermutation}
use Rattle.std.proofs.lemmas.List.Sorted.{IsPermutation-refl, IsPermutation-append_right, IsPermutation-cons, IsPermutation-trans}
use Rattle.std.specs.Cmp.{IsTotalOrder}
use Rattle.std.specs.List.{AllByRecursion}
use Rattle.dsde_values.specs.declared.arrival.Item.{Item}
use Rattle.dsde_values.specs.declared.name.Name.{Name}
use Rattle.dsde_values.specs.declared.path.Path.{Path}
use Rattle.dsde_values.specs.Path.{root, name_cmp}
use Rattle.dsde_sim_tree.specs.given.formalism.System.{System, Ports}
use Rattle.dsde_sim_tree.specs.given.structure.Gather.{is_same_name}
use Rattle.dsde_sim_tree.specs.declared.event.Event.{Event}
use Rattle.dsde_sim_tree.specs.declared.event.Event.TheVariants.{Turn}
use Rattle.dsde_sim_tree.specs.declared.fault.TurnEnd.{TurnEnd}
use Rattle.dsde_sim_tree.specs.Told.{quietly, ◌then◌}
use Rattle.dsde_sim_tree.specs.declared.sim.Sim.{Sim}
use Rattle.dsde_sim_tree.specs.Move.{ins_of}
use Rattle.dsde_sim_tree.specs.Output.{by_port, output, outs_from}
use Rattle.dsde_sim_tree.specs.Tree.{parts}
use Rattle.dsde_sim_tree.specs.declared.step.TheConstants.{MOST_PARTS}
use Rattle.dsde_sim_tree.specs.Turn.{without_room}
use Rattle.dsde_sim_movers.specs.Deliveries.{Delivery, deliveries}
use Rattle.dsde_sim_movers.specs.Movers.{move_one, move_each, is_mover, movers}
use Rattle.dsde_sim_movers.specs.Orders.{is_above, IsDrawn, IsLawful, IsOrderOf}
use Rattle.dsde_sim_movers.specs.Turns.{turn_movers, free_phase, free_turn}
use Rattle.dsde_sim_movers.specs.lemmas.Steps.{same-ok, never-ok, split-then}
use Rattle.dsde_sim_movers.proofs.Chains.{comes-one, Chain, chain-from, one-steady, StandApart, to-front}
use Rattle.dsde_sim_movers.specs.lemmas.Named.{same_name, IsPlaced}
use Rattle.dsde_sim_movers.proofs.Pairs.{Related, ArePaired, paired-filter, lawful-from-paired, pairs-up}

module _ {A : Type 0} (P : A → Type 0) where
  pub all-drop : (before : List A) (own : A) (after : List A) → AllByRecursion P (before ++ own ∷ after) → AllByRecursion P (before ++ after)
  all-drop [] own after all = all.1
  all-drop (other ∷ before) own after all = (all.0, all-drop before own after all.1)

  all-put : (before : List A) (own : A) (after : List A) → P own → AllByRecursion P (before ++ after) → AllByRecursion P (before ++ own ∷ after)
  all-put [] own after here all = (here, all)
  all-put (other ∷ before) own after here all = (all.0, all-put before own after here all.1)

  pub all-here : (before : List A) (own : A) (after : List A) → AllByRecursion P (before ++ own ∷ after) → P own
  all-here [] own after all = all.0
  all-here (other ∷ before) own after all = all-here before own after all.1

  all-front : (before after : List A) → AllByRecursion P (before ++ after) → AllByRecursion P before
  all-front [] after all = tt
  all-front (other ∷ before) after all = (all.0, all-front before after all.1)

-- what holds of each of an order holds of each
order-all : (P : Delivery → Type 0) (all order : List Delivery) → IsOrderOf all order → AllByRecursion P order → AllByRecursion P all
order-all P all [] is each = subst (AllByRecursion P) (sym is) tt
order-all P all (own ∷ order) is each =
    subst (AllByRecursion P) (sym is.2) (all-put P is.0 own is.1 each.0 (order-all P (is.0 ++ is.1) order is.3 each.1))

-- what holds of each holds of each of an order
pub all-order : (P : Delivery → Type 0) (all order : List Delivery) → IsOrderOf all order → AllByRecursion P all → AllByRecursion P order
all-order P all [] is each = tt
all-order P all (own ∷ order) is each =
    let own_each : AllByRecursion P (is.0 ++ own ∷ is.1) = subst (AllByRecursion P) is.2 each in
    (all-here P is.0 own is.1 own_each, all-order P (is.0 ++ is.1) order is.3 (all-drop P is.0 own is.1 own_each))

-- lawful orders are those that are drawn
drawn-from : (path : Path) (all order : List Delivery) → IsOrderOf all order → IsLawful path order → IsDrawn path all order
drawn-from path all [] is lawful = is
drawn-from path all (own ∷ order) is lawful =
    (is.0, is.1, is.2, order-all (λ other. is_above path own other ≡ false) (is.0 ++ is.1) order is.3 lawful.0, drawn-from path (is.0 ++ is.1) order is.3 lawful.1)

order-drawn : (path : Path) (all order : List Delivery) → IsDrawn path all order → IsOrderOf all order
order-drawn path all [] is = is
order-drawn path all (own ∷ order) is = (is.0, is.1, is.2, order-drawn path (is.0 ++ is.1) order is.4)

law-drawn : (path : Path) (all order : List Delivery) → IsDrawn path all order → IsLawful path order
law-drawn path all [] is = tt
law-drawn path all (own ∷ order) is =
    (all-order (λ other. is_above path own other ≡ false) (is.0 ++ is.1) order (order-drawn path (is.0 ++ is.1) order is.4) is.3, law-drawn path (is.0 ++ is.1) order is.4)

pub drawn-lawful : (path : Path) (all order : List Delivery) → (IsOrderOf all order × IsLawful path order) ↔ IsDrawn path all order
drawn-lawful path all order = (λ both. drawn-from path all order both.0 both.1, λ is. (order-drawn path all order is, law-drawn path all order is))

module _ (path : Path) where
  pub paired-drop : (before : List Delivery) (own : Delivery) (after : List Delivery) → ArePaired path (before ++ own ∷ after) → ArePaired path (before ++ after)
  paired-drop [] own after paired = paired.1
  paired-drop (other ∷ before) own after paired = (all-drop (Related path other) before own after paired.0, paired-drop before own after paired.1)

  pub related-before : (before : List Delivery) (own : Delivery) (after : List Delivery) → ArePaired path (before ++ own ∷ after) → AllByRecursion (λ other. Related path other own) before
  related-before [] own after paired = tt
  related-before (other ∷ before) own after paired = (all-here (Related path other) before own after paired.0, related-before before own after paired.1)

module _ (total : IsTotalOrder name_cmp) (exact : (name other : Name) → is_same_name name other ≡ true → name ≡ other) (system : System) (path : Path) (time : ℕ) where
  same : (name : Name) → is_same_name name name ≡ true
  same = same_name total

  abbrev Chains : List Delivery → Sim → List Event → Sim → Type 0
  Chains = Chain system path time

  apart-before : (own : Delivery) (before : List Delivery) → AllByRecursion (λ other. Related path other own) before → AllByRecursion (λ other. is_above path own other ≡ false) before →
      AllByRecursion (λ other. StandApart system path time other own) before
  apart-before own [] related not_above = tt
  apart-before own (other ∷ before) related not_above = (one related.0 not_above.0, apart-before own before related.1 not_above.1)
    where
      one : Related path other own → is_above path own other ≡ false → StandApart system path time other own
      one (inl apart) below = apart
      one (inr under) below = absurd (let e : true ≡ false = sym under.above ∙ below in cc)

  -- a list in which each pair is apart or has its executive behind, and a lawful order of it
  pub agree : (list order : List Delivery) → ArePaired path list → IsOrderOf list order → IsLawful path order → (tree : Sim) (events others : List Event) (last end : Sim) →
      Chains list tree events last → Chains order tree others end → (last ≡ end) × IsPermutation events others
  agree list [] paired is lawful tree events others last end one two =
      let empty : Chains [] tree events last = subst (λ (own : List Delivery). Chains own tree events last) is one in
      (sym empty.1 ∙ two.1, subst (λ (own : List Event). IsPermutation events own) (empty.0 ∙ sym two.0) (IsPermutation-refl events))
  agree list (own ∷ order) paired is lawful tree events others last end one two =
      let before = is.0 in
      let after = is.1 in
      let pairs : ArePaired path (before ++ own ∷ after) = subst (ArePaired path) is.2 paired in
      let not_above : AllByRecursion (λ other. is_above path own other ≡ false) (before ++ after) = order-all (λ other. is_above path own other ≡ false) (before ++ after) order is.3 lawful.0 in
      let apart = apart-before own before (related-before path before own after pairs) (all-front (λ other. is_above path own other ≡ false) before after not_above) in
      let front = to-front same exact system path time before own after apart tree events last (subst (λ (l : List Delivery). Chains l tree events last) is.2 one) in
      let first = front.1 in
      let both = comes-one (move_one system path time own) tree (one-steady system path time own tree) first.0 two.0 first.2 two.2 first.3 two.3 in
      let rest = agree (before ++ after) order (paired-drop path before own after pairs) is.3 lawful.1 first.2 first.1 two.1 last end first.4
      (subst (λ (mid : Sim). Chains order mid two.1 end) (sym both.1) two.4) in
      let ends : IsPermutation front.0 others =
      subst (λ (l : List Event). IsPermutation l others) (sym first.5)
      (subst (IsPermutation (first.0 ++ first.1)) (ap (λ l. l ++ two.1) both.0 ∙ sym two.5) (IsPermutation-append_right first.0 first.1 two.1 rest.1)) in
      (rest.0, IsPermutation-trans events front.0 others front.2 ends)

module _ (total : IsTotalOrder name_cmp) (system : System) where
  pub movers-paired : (tree : Sim) (path : Path) (time : ℕ) (got : Ports) → IsPlaced tree → ArePaired path (movers system tree path time got)
  movers-paired tree path time got placed = paired-filter path (is_mover tree path time) (deliveries system tree path time got) (pairs-up total system tree path time got placed)

  pub path-order-lawful : (tree : Sim) (path : Path) (time : ℕ) (got : Ports) → IsPlaced tree → IsLawful path (movers system tree path time got)
  path-order-lawful tree path time got placed = lawful-from-paired path (movers system tree path time got) (movers-paired tree path time got placed)

module _ (total : IsTotalOrder name_cmp) (exact : (name other : Name) → is_same_name name other ≡ true → name ≡ other) (system : System) where
  same-cons : (event : Event) (xs ys : List Event) → IsPermutation xs ys → IsPermutation (event ∷ xs) (event ∷ ys)
  same-cons event xs ys is = IsPermutation-cons event xs ys is

  phases-agree : (tree : Sim) (time : ℕ) (order list : List Delivery) → ArePaired root list → IsOrderOf list order → IsLawful root order → (sent : Result Ports TurnEnd) (after other : Sim) →
      (quietly sent then free_phase system tree time list).end ≡ Ok after → (quietly sent then free_phase system tree time order).end ≡ Ok other →
      (after ≡ other) × IsPermutation (quietly sent then free_phase system tree time list).events (quietly sent then free_phase system tree time order).events
  phases-agree tree time order list paired is lawful (Err end) after other one two = absurd (never-ok end after one)
  phases-agree tree time order list paired is lawful (Ok sent) after other one two =
      let room = MOST_PARTS - parts tree in
      let first = move_each system root time list tree room in
      let later = move_each system root time order tree room in
      let this = split-then first.events first.end without_room after one in
      let that = split-then later.events later.end without_room other two in
      let own = chain-from system root time list tree room this.0.1 this.0.0 this.1 in
      let turned = chain-from system root time order tree room that.0.1 that.0.0 that.1 in
      let both = agree total exact system root time list order paired is lawful tree first.events later.events this.0.0 that.0.0 own turned in
      let told_first : first.events ≡ (first then without_room).events = sym (append-nil first.events) ∙ sym this.3 in
      let told_later : later.events ≡ (later then without_room).events = sym (append-nil later.events) ∙ sym that.3 in (
        sym (same-ok this.0.0 after this.2) ∙ both.0 ∙ same-ok that.0.0 other that.2,
        IsPermutation-append_right (outs_from 0 sent) (first then without_room).events (later then without_room).events
            (subst (IsPermutation (first then without_room).events) told_later (subst (λ (l : List Event). IsPermutation l later.events) told_first both.1)),
      )

  -- A turn in path order and one in another lawful order come to the same tree and tell the same events, where neither faults.
  pub turns-agree : (tree : Sim) (number time : ℕ) (items : List Item) (order : List Delivery) (after other : Sim) → IsPlaced tree →
      IsOrderOf (turn_movers system tree time items) order → IsLawful root order →
      (free_turn system tree number time items (turn_movers system tree time items)).end ≡ Ok after → (free_turn system tree number time items order).end ≡ Ok other →
      (after ≡ other) × IsPermutation (free_turn system tree number time items (turn_movers system tree time items)).events (free_turn system tree number time items order).events
  turns-agree tree number time items order after other placed is lawful one two =
      let list = turn_movers system tree time items in
      let both = phases-agree tree time order list (movers-paired total system tree root time (by_port (ins_of system tree) items) placed) is lawful (output system tree root time) after other one two in
      (both.0, same-cons (Turn number time) _ _ both.1)
