-- Who moves later is as it was before the turn.
use Rattle.std.proofs.Common.{◌≡◌, ℕ, Bool, true, List, [], ◌∷◌, ◌++◌, Option, Some, None, refl, sym, ◌∙◌, ap, inl, inr}
use Rattle.std.specs.Prelude.{option_and_then, option_map}
use Rattle.std.specs.List.{AllByRecursion}
use Rattle.dsde_values.specs.declared.name.Name.{Name}
use Rattle.dsde_values.specs.declared.path.Path.{Path}
use Rattle.dsde_sim_tree.specs.given.formalism.leaf_Leaf.{Leaf}
use Rattle.dsde_sim_tree.specs.given.formalism.System.{System}
use Rattle.dsde_sim_tree.specs.given.structure.Gather.{is_same_name}
use Rattle.dsde_sim_tree.specs.declared.event.Event.{Event}
use Rattle.dsde_sim_tree.specs.declared.sim.Sim.{Sim}
use Rattle.dsde_sim_tree.specs.declared.sim.Sim.TheViews.{out-Sim}
use Rattle.dsde_sim_movers.specs.Deliveries.{Delivery}
use Rattle.dsde_sim_movers.specs.Parts.{kid_named, with_named, part_at, with_part}
use Rattle.dsde_sim_movers.specs.Movers.{leaf_in, leaf_at, moves, path_behind, seat_behind, move_one}
use Rattle.dsde_sim_movers.specs.lemmas.Seats.{boss-at-whole, part_at-whole, with_part-whole}
use Rattle.dsde_sim_movers.specs.lemmas.Lenses.{by_parts, with-leaf, named-own, part-apart}
use Rattle.dsde_sim_movers.proofs.Chains.{Comes, HowAt, how-at, Chain}
use Rattle.dsde_sim_movers.proofs.Pairs.{Related}

module _ (same : (name : Name) → is_same_name name name ≡ true) (exact : (name other : Name) → is_same_name name other ≡ true → name ≡ other) where
  boss_in : Sim → Option Leaf
  boss_in part = leaf_in true (out-Sim part)

  -- an executive stays where a part beneath its network changes
  boss-stays-here : (name : Name) (rest : List Name) (own tree : Sim) → leaf_in true (out-Sim (with_part (name ∷ rest) own tree)) ≡ leaf_in true (out-Sim tree)
  boss-stays-here name rest own =
      by_parts (λ (t : Sim). leaf_in true (out-Sim (with_part (name ∷ rest) own t)) ≡ leaf_in true (out-Sim t))
      (λ leaf. ap (λ (t : Sim). leaf_in true (out-Sim t)) (with-leaf rest name own leaf))
      (λ model args boss kids links.
      ap (λ (t : Sim). leaf_in true (out-Sim t)) (with_part-whole name rest own model args boss kids links)
      ∙ boss-at-whole model args boss (with_named name (with_part rest own) kids) links
      ∙ sym (boss-at-whole model args boss kids links))

  abbrev boss_at : List Name → Sim → Option Leaf
  boss_at names tree = option_and_then (λ part. leaf_in true (out-Sim part)) (part_at names tree)

  boss-found : (front : List Name) (change : Sim → Sim) (found : Option Sim) → ((tree : Sim) → boss_at front (change tree) ≡ boss_at front tree) →
      option_and_then (λ part. leaf_in true (out-Sim part)) (option_and_then (part_at front) (option_map change found))
      ≡ option_and_then (λ part. leaf_in true (out-Sim part)) (option_and_then (part_at front) found)
  boss-found front change None stays = refl
  boss-found front change (Some tree) stays = stays tree

  boss-stays : (front : List Name) (name : Name) (rest : List Name) (own tree : Sim) → boss_at front (with_part (front ++ name ∷ rest) own tree) ≡ boss_at front tree
  boss-stays [] name rest own tree = boss-stays-here name rest own tree
  boss-stays (one ∷ front) name rest own tree =
      by_parts (λ (t : Sim). boss_at (one ∷ front) (with_part (one ∷ front ++ name ∷ rest) own t) ≡ boss_at (one ∷ front) t)
      (λ leaf. ap (boss_at (one ∷ front)) (with-leaf (front ++ name ∷ rest) one own leaf))
      (λ model args boss kids links.
      ap (boss_at (one ∷ front)) (with_part-whole one (front ++ name ∷ rest) own model args boss kids links)
      ∙ ap (option_and_then (λ part. leaf_in true (out-Sim part))) (part_at-whole one front model args boss (with_named one (with_part (front ++ name ∷ rest) own) kids) links)
      ∙ ap (λ (found : Option Sim). option_and_then (λ part. leaf_in true (out-Sim part)) (option_and_then (part_at front) found)) (named-own same exact one (with_part (front ++ name ∷ rest) own) kids)
      ∙ boss-found front (with_part (front ++ name ∷ rest) own) (kid_named one kids) (boss-stays front name rest own)
      ∙ ap (option_and_then (λ part. leaf_in true (out-Sim part))) (sym (part_at-whole one front model args boss kids links)))
      tree

  -- who stands apart, or above, stays
  leaf-stays : (path : Path) (own other : Delivery) → Related path own other → (part tree : Sim) →
      leaf_at (seat_behind path other.path) (with_part (seat_behind path own.path).names part tree) ≡ leaf_at (seat_behind path other.path) tree
  leaf-stays path own other (inl apart) part tree =
      ap (option_and_then (λ found. leaf_in (seat_behind path other.path).is_boss (out-Sim found))) (part-apart same exact (seat_behind path own.path).names (seat_behind path other.path).names apart part tree)
  leaf-stays path own other (inr under) part tree =
      let place = seat_behind path other.path in
      let go = under.names in
      let seen : (t : Sim) → leaf_at place t ≡ boss_at place.names t = λ t. ap (λ (is_boss : Bool). option_and_then (λ found. leaf_in is_boss (out-Sim found)) (part_at place.names t)) under.is_boss in
      seen (with_part (seat_behind path own.path).names part tree)
      ∙ ap (λ (names : List Name). boss_at place.names (with_part names part tree)) go.2
      ∙ boss-stays place.names go.0 go.1 part tree
      ∙ sym (seen tree)

  module _ (system : System) (path : Path) (time : ℕ) where
    stays-by : (own other : Delivery) → Related path own other → (tree : Sim) (events : List Event) (after : Sim) →
        HowAt (seat_behind path own.path).names (moves system (seat_behind path own.path).is_boss (path_behind path (seat_behind path own.path).names) time own.ports) tree events after →
        leaf_at (seat_behind path other.path) after ≡ leaf_at (seat_behind path other.path) tree
    stays-by own other related tree events after (inl there) = ap (leaf_at (seat_behind path other.path)) there.4 ∙ leaf-stays path own other related there.1 tree
    stays-by own other related tree events after (inr none) = ap (leaf_at (seat_behind path other.path)) none.2

    one-stays : (own other : Delivery) → Related path own other → (tree : Sim) (events : List Event) (after : Sim) → Comes (move_one system path time own) tree events after →
        leaf_at (seat_behind path other.path) after ≡ leaf_at (seat_behind path other.path) tree
    one-stays own other related tree events after comes =
        let seat = seat_behind path own.path in
        stays-by own other related tree events after (how-at seat.names (moves system seat.is_boss (path_behind path seat.names) time own.ports) tree events after comes)

    -- Behind those who moved before it, each mover is as it was.
    pub chain-waits : (before : List Delivery) (own : Delivery) → AllByRecursion (λ other. Related path other own) before → (tree : Sim) (events : List Event) (after : Sim) → Chain system path time before tree events after →
        leaf_at (seat_behind path own.path) after ≡ leaf_at (seat_behind path own.path) tree
    chain-waits [] own related tree events after chain = ap (leaf_at (seat_behind path own.path)) (sym chain.1)
    chain-waits (other ∷ before) own related tree events after chain =
        chain-waits before own related.1 chain.2 chain.1 after chain.4 ∙ one-stays other own related.0 tree chain.0 chain.2 chain.3
