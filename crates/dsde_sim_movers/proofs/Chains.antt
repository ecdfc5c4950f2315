-- Steps that come to their end, one after another, whatever the room.
use Rattle.std.proofs.Common.{◌≡◌, ℕ, ◌+◌, true, List, [], ◌∷◌, ◌++◌, Option, Some, None, Ok, refl, sym, ◌∙◌, ap, subst, append_assoc, append-nil, IsPermutation, inl, inr, ◌⊎◌, arith}
use Rattle.std.proofs.lemmas.List.Sorted.{IsPermutation-refl, IsPermutation-append_comm, IsPermutation-append_left, IsPermutation-append_right, IsPermutation-trans}
use Rattle.std.specs.List.{AllByRecursion}
use Rattle.dsde_values.specs.declared.name.Name.{Name}
use Rattle.dsde_values.specs.declared.path.Path.{Path}
use Rattle.dsde_sim_tree.specs.given.formalism.System.{System}
use Rattle.dsde_sim_tree.specs.given.structure.Gather.{is_same_name}
use Rattle.dsde_sim_tree.specs.declared.event.Event.{Event}
use Rattle.dsde_sim_tree.specs.Told.{Told, told, ◌then◌}
use Rattle.dsde_sim_tree.specs.declared.sim.Sim.{Sim}
use Rattle.dsde_sim_movers.specs.Deliveries.{Delivery}
use Rattle.dsde_sim_movers.specs.Parts.{part_at, with_part, are_apart}
use Rattle.dsde_sim_movers.specs.Movers.{Step, step_at, moves, path_behind, seat_behind, move_one, move_each}
use Rattle.dsde_sim_movers.specs.lemmas.Lenses.{part-apart, with-apart, apart-back}
use Rattle.dsde_sim_movers.specs.lemmas.Steps.{made, same-ok, split-then}
use Rattle.dsde_sim_movers.proofs.Steady.{IsSteady, more_room, more_behind, steady-then, steady-told, moves-steady}

-- With some room a step tells these events and comes to this part.
abbrev pub Comes : Step → Sim → List Event → Sim → Type 0
Comes step own events after = (room left : ℕ) × (step own room ≡ made events (Ok (after, left)))

-- what a step is that came to its end
same-made : {A : Type 0} (events others : List Event) (x y : A) → made events (Ok x) ≡ made others (Ok y) → (events ≡ others) × (x ≡ y)
same-made events others x y is = (ap (λ (step : Told _). step.events) is, same-ok x y (ap (λ (step : Told _). step.end) is))

-- A step that is steady comes to one part alone.
pub comes-one : (step : Step) (own : Sim) → IsSteady more_room more_behind (step own) → (events others : List Event) (after other : Sim) →
    Comes step own events after → Comes step own others other → (events ≡ others) × (after ≡ other)
comes-one step own steady events others after other one two =
    let first : step own (one.0 + two.0) ≡ made events (Ok (after, one.1 + two.0)) =
    steady one.0 two.0 (after, one.1) (ap (λ (s : Told (Sim × ℕ)). s.end) one.2) ∙ ap (λ (s : Told (Sim × ℕ)). made s.events (Ok (after, one.1 + two.0))) one.2 in
    let later : step own (two.0 + one.0) ≡ made others (Ok (other, two.1 + one.0)) =
    steady two.0 one.0 (other, two.1) (ap (λ (s : Told (Sim × ℕ)). s.end) two.2) ∙ ap (λ (s : Told (Sim × ℕ)). made s.events (Ok (other, two.1 + one.0))) two.2 in
    let turned : one.0 + two.0 ≡ two.0 + one.0 = omega arith in
    let both = same-made events others (after, one.1 + two.0) (other, two.1 + one.0) (sym first ∙ ap (step own) turned ∙ later) in
    (both.0, ap (λ (own : Sim × ℕ). own.0) both.1)

module _ (names : List Name) (step : Step) (tree : Sim) where
  abbrev AtBy : Option Sim → ℕ → Told (Sim × ℕ)
  AtBy found room = elim found [
    | Some part ↦ step part room then (λ after. told [] (with_part names after.0 tree, after.1))
    | None ↦ told [] (tree, room)
  ]

  -- how the step of a part came to its end: the part was there and stepped, or was not
  abbrev pub HowAt : List Event → Sim → Type 0
  HowAt events after =
      ((part own : Sim) × (part_at names tree ≡ Some part) × Comes step part events own × (after ≡ with_part names own tree))
      ⊎ ((part_at names tree ≡ None) × (events ≡ []) × (after ≡ tree))

  how-by : (found : Option Sim) → part_at names tree ≡ found → (events : List Event) (after : Sim) (room left : ℕ) → AtBy found room ≡ made events (Ok (after, left)) → HowAt events after
  how-by (Some part) there events after room left is =
      let first = step part room in
      let last : Sim × ℕ → Told (Sim × ℕ) = λ own. told [] (with_part names own.0 tree, own.1) in
      let known = split-then first.events first.end last (after, left) (ap (λ (s : Told (Sim × ℕ)). s.end) is) in
      let same_events : first.events ≡ events = sym (append-nil first.events) ∙ sym known.3 ∙ ap (λ (s : Told (Sim × ℕ)). s.events) is in
      inl (
        part,
        known.0.0,
        there,
        (room, known.0.1, λ i. made (same_events i) (known.1 i)),
        sym (ap (λ (own : Sim × ℕ). own.0) (same-ok (with_part names known.0.0 tree, known.0.1) (after, left) known.2)),
      )
  how-by None there events after room left is =
      let both = same-made [] events (tree, room) (after, left) is in
      inr (there, sym both.0, sym (ap (λ (own : Sim × ℕ). own.0) both.1))

  pub how-at : (events : List Event) (after : Sim) → Comes (step_at names step) tree events after → HowAt events after
  how-at events after comes = how-by (part_at names tree) refl events after comes.0 comes.1 comes.2

  pub at-there : (part own : Sim) (events : List Event) → part_at names tree ≡ Some part → Comes step part events own → Comes (step_at names step) tree events (with_part names own tree)
  at-there part own events there comes = (
    comes.0,
    comes.1,
    ap (λ (found : Option Sim). AtBy found comes.0) there
        ∙ ap (λ (s : Told (Sim × ℕ)). s then (λ after. told [] (with_part names after.0 tree, after.1))) comes.2
        ∙ (λ i. made (append-nil events i) (Ok (with_part names own tree, comes.1))),
  )

  pub at-none : part_at names tree ≡ None → Comes (step_at names step) tree [] tree
  at-none none = (0, 0, ap (λ (found : Option Sim). AtBy found 0) none)

  at-steady-by : (found : Option Sim) → ((part : Sim) → IsSteady more_room more_behind (step part)) → IsSteady more_room more_behind (AtBy found)
  at-steady-by (Some part) steady =
      steady-then more_room more_behind more_behind (step part) (λ after. told [] (with_part names after.0 tree, after.1)) (steady part)
      (steady-told more_behind more_behind [] (λ after. (with_part names after.0 tree, after.1)) (λ after more. refl))
  at-steady-by None steady = steady-told more_room more_behind [] (λ room. (tree, room)) (λ room more. refl)

  pub at-steady : ((part : Sim) → IsSteady more_room more_behind (step part)) → IsSteady more_room more_behind (step_at names step tree)
  at-steady steady = at-steady-by (part_at names tree) steady

module _ (system : System) (path : Path) (time : ℕ) where
  -- movers, one after another, tell these events and come to this tree
  abbrev pub Chain : List Delivery → Sim → List Event → Sim → Type 0
  Chain [] tree events last = (events ≡ []) × (tree ≡ last)
  Chain (own ∷ others) tree events last =
      (first later : List Event) × (mid : Sim) × Comes (move_one system path time own) tree first mid × Chain others mid later last × (events ≡ first ++ later)

  pub chain-from : (list : List Delivery) (tree : Sim) (room left : ℕ) (last : Sim) → (move_each system path time list tree room).end ≡ Ok (last, left) →
      Chain list tree (move_each system path time list tree room).events last
  chain-from [] tree room left last is = (refl, ap (λ (own : Sim × ℕ). own.0) (same-ok (tree, room) (last, left) is))
  chain-from (own ∷ others) tree room left last is =
      let step = move_one system path time own tree room in
      let rest : Sim × ℕ → Told (Sim × ℕ) = λ after. move_each system path time others after.0 after.1 in
      let known = split-then step.events step.end rest (last, left) is in (
        step.events,
        (rest known.0).events,
        known.0.0,
        (room, known.0.1, λ i. made step.events (known.1 i)),
        chain-from others known.0.0 known.0.1 left last known.2,
        known.3,
      )

  pub one-steady : (own : Delivery) (tree : Sim) → IsSteady more_room more_behind (move_one system path time own tree)
  one-steady own tree =
      let seat = seat_behind path own.path in
      at-steady seat.names (moves system seat.is_boss (path_behind path seat.names) time own.ports) tree (moves-steady system seat.is_boss (path_behind path seat.names) time own.ports)

  -- the places of two movers are apart
  abbrev pub StandApart : Delivery → Delivery → Type 0
  StandApart own other = are_apart (seat_behind path own.path).names (seat_behind path other.path).names ≡ true

module _ (same : (name : Name) → is_same_name name name ≡ true) (exact : (name other : Name) → is_same_name name other ≡ true → name ≡ other) where
  -- Two steps at places that are apart, in the other order.
  module _ (names others : List Name) (apart : are_apart names others ≡ true) (step shift : Step) (tree mid last : Sim) (first later : List Event) where
    abbrev Swapped : Type 0
    Swapped = (between : Sim) × Comes (step_at others shift) tree later between × Comes (step_at names step) between first last

    swap-by : HowAt names step tree first mid → HowAt others shift mid later last → Comes (step_at names step) tree first mid → Comes (step_at others shift) mid later last → Swapped
    swap-by (inl one) (inl two) comes more =
        let stays : part_at others mid ≡ part_at others tree = ap (part_at others) one.4 ∙ part-apart same exact names others apart one.1 tree in
        let between = with_part others two.1 tree in
        let there : part_at names between ≡ Some one.0 = part-apart same exact others names (apart-back same exact names others apart) two.1 tree ∙ one.2 in
        let ends : with_part names one.1 between ≡ last = with-apart same exact names others apart one.1 two.1 tree ∙ ap (with_part others two.1) (sym one.4) ∙ sym two.4 in (
          between,
          at-there others shift tree two.0 two.1 later (sym stays ∙ two.2) two.3,
          subst (λ (own : Sim). Comes (step_at names step) between first own) ends (at-there names step between one.0 one.1 first there one.3),
        )
    swap-by (inl one) (inr two) comes more =
        let stays : part_at others mid ≡ part_at others tree = ap (part_at others) one.4 ∙ part-apart same exact names others apart one.1 tree in (
          tree,
          subst (λ (events : List Event). Comes (step_at others shift) tree events tree) (sym two.1) (at-none others shift tree (sym stays ∙ two.0)),
          subst (λ (own : Sim). Comes (step_at names step) tree first own) (sym two.2) comes,
        )
    swap-by (inr one) (inl two) comes more =
        let there : part_at others tree ≡ Some two.0 = ap (part_at others) (sym one.2) ∙ two.2 in
        let ends : with_part others two.1 tree ≡ last = ap (with_part others two.1) (sym one.2) ∙ sym two.4 in
        let none : part_at names last ≡ None = ap (part_at names) (sym ends) ∙ part-apart same exact others names (apart-back same exact names others apart) two.1 tree ∙ one.0 in (
          last,
          subst (λ (own : Sim). Comes (step_at others shift) tree later own) ends (at-there others shift tree two.0 two.1 later there two.3),
          subst (λ (events : List Event). Comes (step_at names step) last events last) (sym one.1) (at-none names step last none),
        )
    swap-by (inr one) (inr two) comes more =
        let ends : last ≡ tree = two.2 ∙ one.2 in (
          tree,
          subst (λ (events : List Event). Comes (step_at others shift) tree events tree) (sym two.1) (at-none others shift tree (ap (part_at others) (sym one.2) ∙ two.0)),
          subst (λ (own : Sim). Comes (step_at names step) tree first own) (sym ends) (subst (λ (events : List Event). Comes (step_at names step) tree events tree) (sym one.1) (at-none names step tree one.0)),
        )

    pub swapped : Comes (step_at names step) tree first mid → Comes (step_at others shift) mid later last → Swapped
    swapped comes more = swap-by (how-at names step tree first mid comes) (how-at others shift mid later last more) comes more

  module _ (system : System) (path : Path) (time : ℕ) where
    swap-chain : (own other : Delivery) → StandApart system path time own other → (others : List Delivery) (tree : Sim) (events : List Event) (last : Sim) →
        Chain system path time (own ∷ other ∷ others) tree events last → (after : List Event) × Chain system path time (other ∷ own ∷ others) tree after last × IsPermutation events after
    swap-chain own other apart others tree events last chain =
        let first = chain.0 in
        let rest = chain.4 in
        let later = rest.0 in
        let seat = seat_behind path own.path in
        let place = seat_behind path other.path in
        let turned = swapped seat.names place.names apart (moves system seat.is_boss (path_behind path seat.names) time own.ports) (moves system place.is_boss (path_behind path place.names) time other.ports)
        tree chain.2 rest.2 first later chain.3 rest.3 in
        let is : events ≡ (first ++ later) ++ rest.1 = chain.5 ∙ ap (λ more. first ++ more) rest.5 ∙ sym (append_assoc first later rest.1) in (
          later ++ (first ++ rest.1),
          (later, first ++ rest.1, turned.0, turned.1, (first, rest.1, rest.2, turned.2, rest.4, refl), refl),
          subst (λ (list : List Event). IsPermutation list (later ++ (first ++ rest.1))) (sym is)
              (subst (IsPermutation ((first ++ later) ++ rest.1)) (append_assoc later first rest.1) (IsPermutation-append_left rest.1 (first ++ later) (later ++ first) (IsPermutation-append_comm first later))),
        )

    -- a mover that is apart from those before it comes to the front
    pub to-front : (before : List Delivery) (own : Delivery) (after : List Delivery) → AllByRecursion (λ other. StandApart system path time other own) before → (tree : Sim) (events : List Event) (last : Sim) →
        Chain system path time (before ++ own ∷ after) tree events last → (others : List Event) × Chain system path time (own ∷ before ++ after) tree others last × IsPermutation events others
    to-front [] own after apart tree events last chain = (events, chain, IsPermutation-refl events)
    to-front (other ∷ before) own after apart tree events last chain =
        let moved = to-front before own after apart.1 chain.2 chain.1 last chain.4 in
        let turned = swap-chain other own apart.0 (before ++ after) tree (chain.0 ++ moved.0) last (chain.0, moved.0, chain.2, chain.3, moved.1, refl) in (
          turned.0,
          turned.1,
          subst (λ (list : List Event). IsPermutation list turned.0) (sym chain.5)
              (IsPermutation-trans (chain.0 ++ chain.1) (chain.0 ++ moved.0) turned.0 (IsPermutation-append_right chain.0 chain.1 moved.0 moved.2) turned.2),
        )
