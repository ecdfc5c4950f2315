-- How far those who move in a turn have come.
use Rattle.std.proofs.Common.{◌≡◌, ◌∙◌, ℕ, ◌+◌, ◌*◌, ◌<◌, ◌≤◌, ◌^◌, Bool, true, false, List, [], ◌∷◌, ◌++◌, length, map, filter, cond, Option, Some, None, Result, Ok, Err, refl, sym, ap, subst, arith, append_assoc}
use Rattle.std.specs.List.{AllByRecursion}
use Rattle.std.proofs.lemmas.List.{map-append}
use Rattle.dsde_bank.specs.declared.handle.Handle.{Handle}
use Rattle.dsde_syntax.specs.declared.decl.Model.{Model}
use Rattle.dsde_values.specs.declared.arrival.Item.{Item}
use Rattle.dsde_values.specs.declared.path.Path.{Path}
use Rattle.dsde_values.specs.Path.{root}
use Rattle.dsde_sim_tree.specs.given.formalism.leaf_Leaf.{Leaf}
use Rattle.dsde_sim_tree.specs.given.formalism.System.{Ports, System}
use Rattle.dsde_sim_starting.specs.given.system.Fitting.{FitsInputs}
use Rattle.dsde_sim_starting.specs.given.system.Program.{system}
use Rattle.dsde_sim_tree.specs.declared.event.Event.{Event}
use Rattle.dsde_sim_tree.specs.declared.fault.TurnEnd.{TurnEnd}
use Rattle.dsde_sim_tree.specs.Told.{Told, Tells, ◌then◌}
use Rattle.dsde_sim_starting.specs.given.sim_telling.lemmas_GoingOn.{GoesOn, goes-begin, goes-end, goes-step, goes-stops}
use Rattle.dsde_sim_tree.specs.declared.sim.Sim.{Sim}
use Rattle.dsde_sim_tree.specs.Output.{by_port}
use Rattle.dsde_sim_tree.specs.Move.{ins_of}
use Rattle.dsde_sim_tree.specs.Tree.{parts}
use Rattle.dsde_sim_tree.specs.declared.step.TheConstants.{MOST_PARTS}
use Rattle.dsde_sim_movers.specs.Deliveries.{Delivery, deliveries}
use Rattle.dsde_sim_movers.specs.Movers.{is_called, is_mover, leaf_at, move_each, move_one, movers, seat_behind}
use Rattle.dsde_sim_movers.specs.Names.{IsNamed}
use Rattle.dsde_sim_movers.specs.Turns.{turn_movers}
use Rattle.dsde_sim_movers.specs.lemmas.Steps.{same-ok, split-then}
use Rattle.dsde_sim_movers.specs.Orders.{is_above, IsLawful}
use Rattle.dsde_core_moves.specs.given.core_flat.Scheduled.{IsScheduled, IsScheduledBut}
use Rattle.dsde_core_moves.specs.given.core_flat.lemmas_Waiting.{all-moved}
use Rattle.dsde_core_moves.specs.given.core_flat.lemmas_Fitting.{tree-named}
use Rattle.dsde_core_moves.specs.declared.flat.Flat.{Flat}
use Rattle.dsde_core_moves.specs.declared.flat.Mover.{Mover}
use Rattle.dsde_core_moves.specs.Flat.{delivery_of, leaf_of, tree_of, IsThere, Stands}
use Rattle.dsde_core_moves.specs.Movers.{handle_of, AreMovers, FitsMover, Spares}
use Rattle.dsde_core_moving.specs.Moving.{most_births, IsCalled}
use Rattle.dsde_core_moving.proofs.Held.{held-is}

-- what passes a test passes it
passes-here : {X : Type 0} (test : X → Bool) (x : X) (rest : List X) (b : Bool) → test x ≡ b → AllByRecursion (λ (y : X). test y ≡ true) rest → AllByRecursion (λ (y : X). test y ≡ true) (cond b (x ∷ rest) rest)
passes-here test x rest true is all = (is, all)
passes-here test x rest false is all = all

all-pass : {X : Type 0} (test : X → Bool) (xs : List X) → AllByRecursion (λ (y : X). test y ≡ true) (filter test xs)
all-pass test [] = tt
all-pass test (x ∷ xs) = passes-here test x (filter test xs) (test x) refl (all-pass test xs)

middle : {X : Type 0} (P : X → Type 0) (before later : List X) (x : X) → AllByRecursion P (before ++ x ∷ later) → P x
middle P [] later x all = all.0
middle P (y ∷ before) later x all = middle P before later x all.1

-- what is called is there
called-there : (time : ℕ) (got : Ports) (found : Option Leaf) → is_called time got found ≡ true → (leaf : Leaf) × (found ≡ Some leaf) × (is_called time got (Some leaf) ≡ true)
called-there time got None is = absurd (let wrong : false ≡ true = is in cc)
called-there time got (Some leaf) is = (leaf, refl, is)

-- a lawful order's end is lawful
lawful-later : (before later : List Delivery) → IsLawful root (before ++ later) → IsLawful root later
lawful-later [] later lawful = lawful
lawful-later (own ∷ before) later lawful = lawful-later before later lawful.1

-- how many are executives, as the births that they may bring
abbrev is_boss : Delivery → Bool
is_boss own = (seat_behind root own.path).is_boss

abbrev bosses : List Delivery → ℕ
bosses list = length (filter is_boss list)

one-boss : (own : Delivery) (list : List Delivery) (b : Bool) → length (cond b (own ∷ filter is_boss list) (filter is_boss list)) ≡ cond b 1 0 + bosses list
one-boss own list true = omega arith
one-boss own list false = omega arith

bosses-cons : (own : Delivery) (list : List Delivery) → bosses (own ∷ list) ≡ cond (is_boss own) 1 0 + bosses list
bosses-cons own list = one-boss own list (is_boss own)

bosses-join : (before later : List Delivery) → bosses (before ++ later) ≡ bosses before + bosses later
bosses-join [] later = omega arith
bosses-join (own ∷ before) later =
    let one = bosses-cons own (before ++ later) in
    let its = bosses-cons own before in
    let rest = bosses-join before later in
    omega (arith, one, its, rest)

-- what an executive may add, in all
births-one : (b : Bool) (before : ℕ) → 131072 * before + cond b 131072 0 ≤ 131072 * (before + cond b 1 0)
births-one true before = omega arith
births-one false before = omega arith

-- movers one after another, and one more
each-one : (own : System) (time : ℕ) (done : List Delivery) (next : Delivery) (tree : Sim) (room : ℕ) (mid after : Sim × ℕ) →
    (move_each own root time done tree room).end ≡ Ok mid → (move_one own root time next mid.0 mid.1).end ≡ Ok after → (move_each own root time (done ++ next ∷ []) tree room).end ≡ Ok after
each-one own time [] next tree room mid after is one =
    let same : (let start : Sim × ℕ = (tree, room) in start ≡ mid) = same-ok _ mid is in
    let first : (move_one own root time next tree room).end ≡ Ok after = subst (λ (at : Sim × ℕ). (move_one own root time next at.0 at.1).end ≡ Ok after) (sym same) one in
    ap (λ (end : Result (Sim × ℕ) TurnEnd). let step : Told (Sim × ℕ) = record { events = (move_one own root time next tree room).events; end = end } in (step then (λ at. move_each own root time [] at.0 at.1)).end) first
each-one own time (first ∷ done) next tree room mid after is one =
    let step = move_one own root time first tree room in
    let split = split-then step.events step.end (λ at. move_each own root time done at.0 at.1) mid is in
    let rest = each-one own time done next split.0.0 split.0.1 mid after split.2 one in
    ap (λ (end : Result (Sim × ℕ) TurnEnd). let one : Told (Sim × ℕ) = record { events = step.events; end = end } in (one then (λ at. move_each own root time (done ++ next ∷ []) at.0 at.1)).end) split.1
    ∙ rest

-- no mover is left
pub none-later : (items : List Mover) (count : ℕ) → count ≡ length items → count ≡ 0 → items ≡ []
none-later [] count is none = refl
none-later (own ∷ items) count is none = absurd (omega (arith, is, none))

-- what is said of movers, of rooms and of orders
abbrev pub Waits : Type 0
Waits = (own : System) (tree after : Sim) (path : Path) (time : ℕ) (got : Ports) (before later : List Delivery) (next : Delivery) (room left : ℕ) → IsNamed tree →
    movers own tree path time got ≡ before ++ next ∷ later → (move_each own path time before tree room).end ≡ Ok (after, left) → leaf_at (seat_behind path next.path) after ≡ leaf_at (seat_behind path next.path) tree

abbrev pub RoomIsKept : Type 0
RoomIsKept = (own : System) (tree after : Sim) (path : Path) (time : ℕ) (order : List Delivery) (room left : ℕ) →
    (move_each own path time order tree room).end ≡ Ok (after, left) → parts after + left ≤ parts tree + room

abbrev pub AreFew : Type 0
AreFew = (own : System) (tree : Sim) (path : Path) (time : ℕ) (got : Ports) → IsNamed tree →
    2 * length (filter (λ next. (seat_behind path next.path).is_boss) (movers own tree path time got)) ≤ parts tree

abbrev pub PathOrderIsLawful : Type 0
PathOrderIsLawful = (own : System) (tree : Sim) (time : ℕ) (items : List Item) → IsNamed tree → IsLawful root (turn_movers own tree time items)

-- These are left, and those before them have moved.
pub record Gone (model : Model) (time : ℕ) (first : Flat) (all : List Mover) (room : ℕ) (old : List Event) (later : List Mover) (flat : Flat) (left : ℕ) (new : List Event) : Type 0 where
  pub done : List Mover
  pub split : all ≡ done ++ later
  pub came : (move_each (system model) root time (map delivery_of done) (tree_of first) room).end ≡ Ok (tree_of flat, left)
  pub goes : GoesOn (move_each (system model) root time (map delivery_of all) (tree_of first) room) (move_each (system model) root time (map delivery_of later) (tree_of flat) left) old new
  pub there : AllByRecursion (IsThere flat) later
  pub stands : Stands model flat
  pub waits : IsScheduledBut flat.grove (map handle_of later) flat.queue.pairs
  pub births : flat.grove.next_birth ≤ first.grove.next_birth + 131072 * bosses (map delivery_of done)

module _ (model : Model) (time : ℕ) (items : List Item) (first : Flat) (all : List Mover) (room : ℕ) (old : List Event) (stands : Stands model first) (are : AreMovers model first time items all) where
  pub gone-none : IsScheduledBut first.grove (map handle_of all) first.queue.pairs → Gone model time first all room old all first room old
  gone-none waits = record {
    done = [];
    split = refl;
    came = refl;
    goes = goes-begin (move_each (system model) root time (map delivery_of all) (tree_of first) room) old;
    there = are.there;
    stands = stands;
    waits = waits;
    births = omega arith;
  }

  abbrev got : Ports
  got = by_port (ins_of (system model) (tree_of first)) items

  named : IsNamed (tree_of first)
  named = tree-named model (tree_of first) stands.fits

  module _ (rest : List Mover) (flat : Flat) (left : ℕ) (new : List Event) (here : Gone model time first all room old rest flat left new) where
    pub room-left : RoomIsKept → parts (tree_of first) + room ≤ MOST_PARTS → parts (tree_of flat) + left ≤ MOST_PARTS
    room-left kept few = let less = kept (system model) (tree_of first) (tree_of flat) root time (map delivery_of here.done) room left here.came in omega (arith, less, few)

    all-few : AreFew → parts (tree_of first) + room ≤ MOST_PARTS → bosses (map delivery_of here.done) ≤ 65536
    all-few few most =
        let some = few (system model) (tree_of first) root time got named in
        let is : turn_movers (system model) (tree_of first) time items ≡ map delivery_of here.done ++ map delivery_of rest = sym are.all ∙ ap (map delivery_of) here.split ∙ map-append delivery_of here.done rest in
        let joined : bosses (turn_movers (system model) (tree_of first) time items) ≡ bosses (map delivery_of here.done) + bosses (map delivery_of rest) = ap bosses is ∙ bosses-join (map delivery_of here.done) (map delivery_of rest) in
        let all_most : parts (tree_of first) + room ≤ 131072 = most in
        omega (arith, some, joined, all_most)

    pub births-left : AreFew → parts (tree_of first) + room ≤ MOST_PARTS → flat.grove.next_birth ≤ first.grove.next_birth + 2 ^ 33
    births-left few most = let less = all-few few most in omega (arith, less, here.births)

    pub births-few : AreFew → parts (tree_of first) + room ≤ MOST_PARTS → first.grove.next_birth + 2 ^ 34 < 2 ^ 64 → flat.grove.next_birth + 2 ^ 18 < 2 ^ 64
    births-few few most births = let less = births-left few most in omega (arith, less, births)

    module _ (own : Mover) (later : List Mover) (is : rest ≡ own ∷ later) where
      split-here : all ≡ here.done ++ own ∷ later
      split-here = here.split ∙ ap (λ (list : List Mover). here.done ++ list) is

      movers-here : turn_movers (system model) (tree_of first) time items ≡ map delivery_of here.done ++ delivery_of own ∷ map delivery_of later
      movers-here = sym are.all ∙ ap (map delivery_of) split-here ∙ map-append delivery_of here.done (own ∷ later)

      there-here : AllByRecursion (IsThere flat) (own ∷ later)
      there-here = subst (AllByRecursion (IsThere flat)) is here.there

      pub next-there : IsThere flat own
      next-there = there-here.0

      called : (leaf : Leaf) × (leaf_at (seat_behind root own.path) (tree_of first) ≡ Some leaf) × (is_called time own.got (Some leaf) ≡ true)
      called =
          let pass = middle (λ (one : Delivery). is_mover (tree_of first) root time one ≡ true) (map delivery_of here.done) (map delivery_of later) (delivery_of own)
          (subst (AllByRecursion (λ (one : Delivery). is_mover (tree_of first) root time one ≡ true)) movers-here (all-pass (is_mover (tree_of first) root time) (deliveries (system model) (tree_of first) root time got))) in
          called-there time own.got (leaf_at (seat_behind root own.path) (tree_of first)) pass

      sits-now : Waits → leaf_at (seat_behind root own.path) (tree_of flat) ≡ Some called.0
      sits-now wait = wait (system model) (tree_of first) (tree_of flat) root time got (map delivery_of here.done) (map delivery_of later) (delivery_of own) room left named movers-here here.came ∙ called.1

      -- it is due, or something comes to it
      pub next-called : Waits → IsCalled flat time own
      next-called wait = record { leaf = called.0; sits = sits-now wait; called = called.2 }

      -- what it receives fits it still
      pub next-fits : Waits → FitsMover model flat own
      next-fits wait =
          let fit = middle (FitsMover model first) here.done later own (subst (AllByRecursion (FitsMover model first)) split-here are.fit) in
          let was = middle (IsThere first) here.done later own (subst (AllByRecursion (IsThere first)) split-here are.there) in
          let same : leaf_of first own ≡ leaf_of flat own =
          held-is model first own stands was called.0 called.1 ∙ sym (held-is model flat own here.stands next-there called.0 (sits-now wait)) in
          record { got = subst (λ (leaf : Leaf). FitsInputs model leaf.model.0 own.got) same fit.got; few = fit.few }

      next-goes : GoesOn (move_each (system model) root time (map delivery_of all) (tree_of first) room)
          (move_one (system model) root time (delivery_of own) (tree_of flat) left then (λ after. move_each (system model) root time (map delivery_of later) after.0 after.1)) old new
      next-goes =
          subst (λ (list : List Mover). GoesOn (move_each (system model) root time (map delivery_of all) (tree_of first) room) (move_each (system model) root time (map delivery_of list) (tree_of flat) left) old new) is here.goes

      pub next-stops : (end : TurnEnd) (more : List Event) → Tells (move_one (system model) root time (delivery_of own) (tree_of flat) left) new more (Err end) →
          Tells (move_each (system model) root time (map delivery_of all) (tree_of first) room) old more (Err end)
      next-stops end more tells =
          goes-stops (move_each (system model) root time (map delivery_of all) (tree_of first) room) (move_one (system model) root time (delivery_of own) (tree_of flat) left)
          (λ after. move_each (system model) root time (map delivery_of later) after.0 after.1) old new more end next-goes tells

      still : (next : Flat) → ((other : Mover) → Spares own other → IsThere flat other → IsThere next other) → (list : List Mover) → AllByRecursion (λ (other : Delivery). is_above root (delivery_of own) other ≡ false) (map delivery_of list) →
          AllByRecursion (IsThere flat) list → AllByRecursion (IsThere next) list
      still next others [] spared all_there = tt
      still next others (other ∷ list) spared all_there = (others other spared.0 all_there.0, still next others list spared.1 all_there.1)

      pub next-gone : PathOrderIsLawful → (next : Flat) (after : ℕ) (more : List Event) → Tells (move_one (system model) root time (delivery_of own) (tree_of flat) left) new more (Ok (tree_of next, after)) → Stands model next →
          ((other : Mover) → Spares own other → IsThere flat other → IsThere next other) →
          ((waiting : List Handle) → IsScheduledBut flat.grove (own.handle ∷ waiting) flat.queue.pairs → IsScheduledBut next.grove waiting next.queue.pairs) →
          next.grove.next_birth ≤ flat.grove.next_birth + most_births own → Gone model time first all room old later next after more
      next-gone law next after more tells stands_next others waits births =
          let lawful = lawful-later (map delivery_of here.done) (delivery_of own ∷ map delivery_of later) (subst (IsLawful root) movers-here (law (system model) (tree_of first) time items named)) in
          let done_is : map delivery_of (here.done ++ own ∷ []) ≡ map delivery_of here.done ++ delivery_of own ∷ [] = map-append delivery_of here.done (own ∷ []) in
          let count : bosses (map delivery_of (here.done ++ own ∷ [])) ≡ bosses (map delivery_of here.done) + cond (is_boss (delivery_of own)) 1 0 =
          (let joined = ap bosses done_is ∙ bosses-join (map delivery_of here.done) (delivery_of own ∷ []) in let one = bosses-cons (delivery_of own) [] in omega (arith, joined, one)) in
          let added = births-one (is_boss (delivery_of own)) (bosses (map delivery_of here.done)) in
          record {
            done = here.done ++ own ∷ [];
            split = split-here ∙ sym (append_assoc here.done (own ∷ []) later);
            came = ap (λ (list : List Delivery). (move_each (system model) root time list (tree_of first) room).end) done_is
                ∙ each-one (system model) time (map delivery_of here.done) (delivery_of own) (tree_of first) room (tree_of flat, left) (tree_of next, after) here.came tells.1;
            goes = goes-step (move_each (system model) root time (map delivery_of all) (tree_of first) room) (move_one (system model) root time (delivery_of own) (tree_of flat) left)
                (λ at. move_each (system model) root time (map delivery_of later) at.0 at.1) old new more (tree_of next, after) next-goes tells.0 tells.1;
            there = still next others later lawful.0 there-here.1;
            stands = stands_next;
            waits = waits (map handle_of later) (subst (λ (list : List Mover). IsScheduledBut flat.grove (map handle_of list) flat.queue.pairs) is here.waits);
            births = omega (arith, count, added, births, here.births);
          }

    module _ (none : rest ≡ []) where
      pub all-gone : Tells (move_each (system model) root time (map delivery_of all) (tree_of first) room) old new (Ok (tree_of flat, left))
      all-gone = goes-end (move_each (system model) root time (map delivery_of all) (tree_of first) room) (tree_of flat, left) old new
          (subst (λ (list : List Mover). GoesOn (move_each (system model) root time (map delivery_of all) (tree_of first) room) (move_each (system model) root time (map delivery_of list) (tree_of flat) left) old new) none here.goes)

      pub all-scheduled : IsScheduled flat.grove flat.queue.pairs
      all-scheduled = all-moved flat.grove flat.queue.pairs (subst (λ (list : List Mover). IsScheduledBut flat.grove (map handle_of list) flat.queue.pairs) none here.waits)
