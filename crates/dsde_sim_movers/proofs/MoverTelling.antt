-- Which list the movers of a turn are.
use Rattle.std.proofs.Common.{◌≡◌, ℕ, ◌||◌, Bool, true, false, List, [], ◌∷◌, map, length, drop, Some, Ordering, Less, Greater, refl, sym, ◌∙◌, ap, subst, inl, inr, ◌↔◌, cond}
use Rattle.std.proofs.lemmas.Cmp.{on_total}
use Rattle.std.proofs.lemmas.Map.Keys.{sorted_head, sorted_tail}
use Rattle.std.specs.Cmp.{IsTotalOrder}
use Rattle.std.specs.List.{AllByRecursion, Contains, filter}
use Rattle.std.specs.List.Sorted.{IsStrictlySortedBy}
use Rattle.std.specs.Ordering.{ordering_reverse, on}
use Rattle.dsde_values.specs.declared.name.Name.{Name}
use Rattle.dsde_values.specs.declared.path.Path.{Path}
use Rattle.dsde_values.specs.Path.{root, path_cmp}
use Rattle.dsde_sim_tree.specs.given.formalism.leaf_Leaf.{Leaf}
use Rattle.dsde_sim_tree.specs.given.formalism.Leaf.{is_due, has_come}
use Rattle.dsde_sim_tree.specs.given.formalism.System.{System, Ports}
use Rattle.dsde_sim_tree.specs.declared.sim.Sim.{Sim}
use Rattle.dsde_sim_movers.specs.Deliveries.{Delivery, deliveries}
use Rattle.dsde_sim_movers.specs.Places.{leaves_from}
use Rattle.dsde_sim_movers.specs.lemmas.Events.{Among, each-among, among-from, contains-from}
use Rattle.dsde_sim_movers.specs.Movers.{Seat, seat_of, seat_behind, path_behind, leaf_at, is_called, is_mover, movers, AreInPathOrder}
use Rattle.dsde_sim_movers.specs.Found.{delivery_at, IsFound, Moves}
use Rattle.dsde_sim_movers.specs.lemmas.Seats.{drop-front, IsBehind}
use Rattle.dsde_sim_movers.specs.lemmas.Beneath.{delivers-behind}

module _ {X : Type 0} (c : X → X → Ordering) (total : IsTotalOrder c) where
  never-both : (x y : X) → c x y ≡ Less → c y x ≡ Less → ⊥
  never-both x y one other =
      let turned : c x y ≡ ordering_reverse Less = total.antisymm x y ∙ ap ordering_reverse other in
      let e : Less ≡ Greater = sym one ∙ turned in cc

  never-itself : (x : X) → c x x ≡ Less → ⊥
  never-itself x one = never-both x x one one

  heads-same : (x y : X) (xs ys : List X) → IsStrictlySortedBy c (x ∷ xs) → IsStrictlySortedBy c (y ∷ ys) → Among x (y ∷ ys) → Among y (x ∷ xs) → x ≡ y
  heads-same x y xs ys sorted other (inl same) there = same
  heads-same x y xs ys sorted other (inr later) (inl same) = sym same
  heads-same x y xs ys sorted other (inr later) (inr there) =
      absurd (never-both x y (each-among (λ z. c x z ≡ Less) xs y (sorted_head c x xs sorted) there) (each-among (λ z. c y z ≡ Less) ys x (sorted_head c y ys other) later))

  rest-among : (x y : X) (xs ys : List X) → IsStrictlySortedBy c (x ∷ xs) → x ≡ y → (z : X) → Among z xs → Among z (y ∷ ys) → Among z ys
  rest-among x y xs ys sorted same z there (inr later) = later
  rest-among x y xs ys sorted same z there (inl here) =
      absurd (never-itself x (subst (λ (w : X). c x w ≡ Less) (here ∙ sym same) (each-among (λ w. c x w ≡ Less) xs z (sorted_head c x xs sorted) there)))

  -- lists in strict order that have the same members are the same
  pub same-list : (xs ys : List X) → IsStrictlySortedBy c xs → IsStrictlySortedBy c ys → ((x : X) → Among x xs → Among x ys) → ((x : X) → Among x ys → Among x xs) → xs ≡ ys
  same-list [] [] sorted other into back = refl
  same-list [] (y ∷ ys) sorted other into back = absurd (back y (inl refl))
  same-list (x ∷ xs) [] sorted other into back = absurd (into x (inl refl))
  same-list (x ∷ xs) (y ∷ ys) sorted other into back =
      let same = heads-same x y xs ys sorted other (into x (inl refl)) (back y (inl refl)) in
      λ i. same i ∷ same-list xs ys (sorted_tail c x xs sorted) (sorted_tail c y ys other)
      (λ z there. rest-among x y xs ys sorted same z there (into z (inr there)))
      (λ z there. rest-among y x ys xs other (sym same) z there (back z (inr there))) i

module _ {X : Type 0} (test : X → Bool) where
  filtered-by : (x y : X) (xs : List X) (here : Bool) → test y ≡ here → (Among x (filter test xs) → Among x xs × (test x ≡ true)) → Among x (cond here (y ∷ filter test xs) (filter test xs)) → Among x (y ∷ xs) × (test x ≡ true)
  filtered-by x y xs true is later (inl same) = (inl same, ap test same ∙ is)
  filtered-by x y xs true is later (inr there) = let own = later there in (inr own.0, own.1)
  filtered-by x y xs false is later there = let own = later there in (inr own.0, own.1)

  filtered : (x : X) (xs : List X) → Among x (filter test xs) → Among x xs × (test x ≡ true)
  filtered x [] there = absurd there
  filtered x (y ∷ xs) there = filtered-by x y xs (test y) refl (filtered x xs) there

  filters-by : (x y : X) (xs : List X) (here : Bool) → test y ≡ here → test x ≡ true → (Among x xs → Among x (filter test xs)) → Among x (y ∷ xs) → Among x (cond here (y ∷ filter test xs) (filter test xs))
  filters-by x y xs true is passes later (inl same) = inl same
  filters-by x y xs true is passes later (inr there) = inr (later there)
  filters-by x y xs false is passes later (inl same) = absurd (let e : true ≡ false = sym passes ∙ ap test same ∙ is in cc)
  filters-by x y xs false is passes later (inr there) = later there

  filters : (x : X) (xs : List X) → test x ≡ true → Among x xs → Among x (filter test xs)
  filters x [] passes there = absurd there
  filters x (y ∷ xs) passes there = filters-by x y xs (test y) refl passes (filters x xs passes) there

-- the delivery that has a path of those of deliveries
with-path : (path : Path) (list : List Delivery) → Among path (map (λ (own : Delivery). own.path) list) → (own : Delivery) × (path ≡ own.path) × Among own list
with-path path [] there = absurd there
with-path path (own ∷ list) (inl same) = (own, same, inl refl)
with-path path (own ∷ list) (inr there) = let found = with-path path list there in (found.0, found.1, inr found.2)

module _ (system : System) (tree : Sim) (time : ℕ) (got : Ports) where
  abbrev list : List Delivery
  list = deliveries system tree root time got

  -- the seat of a path behind the root
  seat-root : (path : Path) (names : List Name) → path ≡ path_behind root names → seat_behind root path ≡ seat_of names
  seat-root path names is = ap (λ (p : Path). seat_of (drop (length root.names) p.names)) is ∙ ap seat_of (drop-front root.names names)

  called-is : (own : Delivery) (leaf : Leaf) → leaf_at (seat_behind root own.path) tree ≡ Some leaf → is_mover tree root time own ≡ (is_due leaf time || has_come own.ports)
  called-is own leaf there = ap (is_called time own.ports) there

  -- who is among the movers
  moves-from : AllByRecursion (IsFound system tree time got) list → (own : Delivery) → Among own (movers system tree root time got) → Moves system tree time got own
  moves-from all own there =
      let both = filtered (is_mover tree root time) own list there in
      let found = each-among (IsFound system tree time got) list own all both.0 in
      let behind : IsBehind root own.path = each-among (λ (one : Delivery). IsBehind root one.path) list own (delivers-behind system tree root time got) both.0 in
      let path : own.path ≡ path_behind root behind.0 = λ i. record { names = behind.1 i } in
      record {
        names = behind.0;
        path = path;
        leaf = found.leaf;
        there = ap (λ (seat : Seat). leaf_at seat tree) (sym (seat-root own.path behind.0 path)) ∙ found.there;
        is = found.is;
        called = sym (called-is own found.leaf found.there) ∙ both.1;
      }

  same-leaf : (one other : Leaf) → Some one ≡ Some other → one ≡ other
  same-leaf one other is = cc

  -- and who moves is among them
  mover-from : AllByRecursion (IsFound system tree time got) list → map (λ delivery. delivery.path) list ≡ leaves_from tree root →
      ((names : List Name) (leaf : Leaf) → leaf_at (seat_of names) tree ≡ Some leaf → Among (path_behind root names) (leaves_from tree root)) →
      (own : Delivery) → Moves system tree time got own → Among own (movers system tree root time got)
  mover-from all paths seats own moves =
      let there : Among own.path (map (λ (one : Delivery). one.path) list) =
      subst (λ (places : List Path). Among own.path places) (sym paths) (subst (λ (p : Path). Among p (leaves_from tree root)) (sym moves.path) (seats moves.names moves.leaf moves.there)) in
      let found = with-path own.path list there in
      let known = each-among (IsFound system tree time got) list found.0 all found.2 in
      let at_own : leaf_at (seat_behind root own.path) tree ≡ Some moves.leaf = ap (λ (seat : Seat). leaf_at seat tree) (seat-root own.path moves.names moves.path) ∙ moves.there in
      let leaf : known.leaf ≡ moves.leaf = same-leaf known.leaf moves.leaf (sym known.there ∙ ap (λ (p : Path). leaf_at (seat_behind root p) tree) (sym found.1) ∙ at_own) in
      let same : found.0 ≡ own =
      known.is ∙ (λ i. delivery_at system tree time got (sym found.1 i) (leaf i)) ∙ sym moves.is in
      filters (is_mover tree root time) own list (called-is own moves.leaf at_own ∙ moves.called) (subst (λ (one : Delivery). Among one list) same found.2)

  pub movers-are : IsTotalOrder path_cmp → AllByRecursion (IsFound system tree time got) list → map (λ delivery. delivery.path) list ≡ leaves_from tree root →
      ((names : List Name) (leaf : Leaf) → leaf_at (seat_of names) tree ≡ Some leaf → Among (path_behind root names) (leaves_from tree root)) → AreInPathOrder (movers system tree root time got) →
      (others : List Delivery) → AreInPathOrder others → ((own : Delivery) → Contains others own ↔ Moves system tree time got own) → others ≡ movers system tree root time got
  movers-are total all paths seats walk others walk_others are =
      same-list (on (λ own. own.path) path_cmp) (on_total (λ (own : Delivery). own.path) total) others (movers system tree root time got) walk_others walk
      (λ own there. mover-from all paths seats own ((are own).0 (contains-from others own there)))
      (λ own there. among-from others own ((are own).1 (moves-from all own there)))
