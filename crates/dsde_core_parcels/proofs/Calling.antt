-- Who is called moves.
use Rattle.std.proofs.Common.{◌≡◌, ℕ, List, [], ◌∷◌, map, Option, Some, refl, sym, ap, ◌∙◌, subst, inl, inr}
use Rattle.std.specs.Prelude.{Contains}
use Rattle.std.specs.List.{AllByRecursion}
use Rattle.dsde_bank.specs.declared.handle.Handle.{Handle}
use Rattle.dsde_values.specs.declared.name.Name.{Name}
use Rattle.dsde_values.specs.declared.path.Path.{Path}
use Rattle.dsde_values.specs.Path.{root}
use Rattle.dsde_sim_tree.specs.given.formalism.leaf_Leaf.{Leaf}
use Rattle.dsde_sim_tree.specs.given.formalism.System.{System, Ports}
use Rattle.dsde_sim_tree.specs.declared.sim.Sim.{Sim}
use Rattle.dsde_routes_pushing.specs.given.sim_movers.Deliveries.{Delivery}
use Rattle.dsde_routes_pushing.specs.given.sim_movers.Found.{IsFound, Moves, delivery_at}
use Rattle.dsde_routes_pushing.specs.given.sim_movers.Movers.{leaf_at, path_behind, seat_behind, seat_of}
use Rattle.dsde_routes_pushing.specs.lemmas.Lists.{Among, among-from, each-among}
use Rattle.dsde_core_parcels.specs.declared.inbox.Inbox.{Inbox}
use Rattle.dsde_core_parcels.specs.Delivered.{IsBrought, IsCalled, brought_to}

among-map : {X Y : Type 0} (f : X → Y) (y : Y) (xs : List X) → Among y (map f xs) → (x : X) × Among x xs × (f x ≡ y)
among-map f y [] among = absurd among
among-map f y (x ∷ xs) (inl is) = (x, inl refl, sym is)
among-map f y (x ∷ xs) (inr among) = let found = among-map f y xs among in (found.0, inr found.1, found.2)

one-some : {X : Type 0} (x y : X) → (let a : Option X = Some x in a) ≡ Some y → x ≡ y
one-some x y is = cc

module _ (system : System) (handle : Path → Handle) (tree : Sim) (time : ℕ) (got : Ports) (inboxes : List Inbox) (all : List Delivery)
    (found : AllByRecursion (IsFound system tree time got) all) (brought : AllByRecursion (IsBrought system handle tree inboxes) all)
    (paths : (names : List Name) (leaf : Leaf) → leaf_at (seat_of names) tree ≡ Some leaf → Contains (map (λ (own : Delivery). own.path) all) (path_behind root names)) where
  -- what is received there is what inboxes bring
  both : (names : List Name) (leaf : Leaf) → leaf_at (seat_of names) tree ≡ Some leaf → delivery_at system tree time got (path_behind root names) leaf ≡ brought_to system handle inboxes (path_behind root names) leaf
  both names leaf there =
      let path = path_behind root names in
      let own = among-map (λ (delivery : Delivery). delivery.path) path all (among-from (map (λ (delivery : Delivery). delivery.path) all) path (paths names leaf there)) in
      let one = each-among (IsFound system tree time got) all own.0 found own.1 in
      let two = each-among (IsBrought system handle tree inboxes) all own.0 brought own.1 in
      let here : (at : Path) → at ≡ path → leaf_at (seat_behind root at) tree ≡ Some leaf = λ at is. ap (λ (next : Path). leaf_at (seat_behind root next) tree) is ∙ there in
      let first = one-some one.leaf leaf (sym one.there ∙ here own.0.path own.2) in
      let second = one-some two.leaf leaf (sym two.there ∙ here own.0.path own.2) in
      (λ i. delivery_at system tree time got (sym own.2 i) (sym first i))
      ∙ sym one.is ∙ two.is
      ∙ (λ i. brought_to system handle inboxes (own.2 i) (second i))

  at-path : (own : Delivery) (names : List Name) (leaf : Leaf) → own.path ≡ path_behind root names → leaf_at (seat_of names) tree ≡ Some leaf → delivery_at system tree time got own.path leaf ≡ brought_to system handle inboxes own.path leaf
  at-path own names leaf is there =
      subst (λ (path : Path). delivery_at system tree time got path leaf ≡ brought_to system handle inboxes path leaf) (sym is) (both names leaf there)

  pub called-moves : (own : Delivery) → IsCalled system handle tree time inboxes own → Moves system tree time got own
  called-moves own is = record { names = is.names; path = is.path; leaf = is.leaf; there = is.there; is = is.is ∙ sym (at-path own is.names is.leaf is.path is.there); called = is.called }

  pub moves-called : (own : Delivery) → Moves system tree time got own → IsCalled system handle tree time inboxes own
  moves-called own is = record { names = is.names; path = is.path; leaf = is.leaf; there = is.there; is = is.is ∙ at-path own is.names is.leaf is.path is.there; called = is.called }
