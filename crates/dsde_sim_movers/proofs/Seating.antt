-- Whoever stands in a tree has its path among those of the tree's components and executives.
use Rattle.std.proofs.Common.{◌≡◌, Bool, true, false, List, [], ◌∷◌, ◌++◌, Some, None, refl, sym, ◌∙◌, ap, subst, append_assoc, append-nil, inl}
use Rattle.std.specs.List.{AllByRecursion, flat_map}
use Rattle.std.specs.Prelude.{if◌then◌else◌, option_and_then}
use Rattle.dsde_sim_tree.specs.Tree.{name_of}
use Rattle.dsde_values.specs.declared.name.Name.{Name}
use Rattle.dsde_values.specs.declared.path.Path.{Path}
use Rattle.dsde_sim_tree.specs.given.formalism.leaf_Leaf.{Leaf}
use Rattle.dsde_sim_tree.specs.given.structure.Gather.{is_same_name}
use Rattle.dsde_values.specs.Path.{EXEC}
use Rattle.dsde_sim_tree.specs.Told.{below, to_boss}
use Rattle.dsde_sim_tree.specs.declared.sim.Kid.{Kid}
use Rattle.dsde_sim_tree.specs.declared.sim.Net.{Net}
use Rattle.dsde_sim_tree.specs.declared.sim.Sim.{Sim}
use Rattle.dsde_sim_tree.specs.declared.sim.Sim.TheVariants as sim
use Rattle.dsde_sim_tree.specs.declared.sim.Sim.TheViews.{out-Sim, out-Kid, out-Net}
use Rattle.dsde_sim_tree.specs.lemmas.Trees.{each_tree}
use Rattle.dsde_sim_movers.specs.Places.{leaves_from, leaves_of_kid}
use Rattle.dsde_sim_movers.specs.lemmas.Events.{Among, among-left, among-right}
use Rattle.dsde_sim_movers.specs.lemmas.Opens.{leaves-Leaf, leaves-Net, leaves-kid}
use Rattle.dsde_sim_movers.specs.Parts.{kid_named, part_in, part_at}
use Rattle.dsde_sim_movers.specs.Movers.{Seat, seat_within, seat_of, leaf_in, leaf_at, path_behind}
use Rattle.dsde_sim_movers.specs.lemmas.Seats.{out-Leaf, out-Net-of, seat-within}

module _ (exact : (name other : Name) → is_same_name name other ≡ true → name ≡ other) where
  -- who has a seat in what stands at a path stands among its components and executives
  abbrev pub Seats : Sim → Type 0
  Seats tree = (path : Path) (names : List Name) (leaf : Leaf) → leaf_at (seat_of names) tree ≡ Some leaf → Among (path_behind path names) (leaves_from tree path)

  no-leaf : (leaf : Leaf) (own : Leaf) → leaf_in true (out-Sim (sim.Leaf own)) ≡ Some leaf → ⊥
  no-leaf leaf own is = let e : None ≡ Some leaf = sym (ap (leaf_in true) (out-Leaf own)) ∙ is in cc

  no-part : (seat : Seat) (name : Name) (own leaf : Leaf) → leaf_at (seat_within name seat) (sim.Leaf own) ≡ Some leaf → ⊥
  no-part seat name own leaf is =
      let none : part_at (name ∷ seat.names) (sim.Leaf own) ≡ None = ap (part_in name (part_at seat.names)) (out-Leaf own) in
      let e : None ≡ Some leaf = sym (ap (option_and_then (λ part. leaf_in seat.is_boss (out-Sim part))) none) ∙ is in cc

  -- how names begin: with an executive's alone, or with a component's
  seat-cases : (name : Name) (names : List Name) (here : Bool) → is_same_name EXEC name ≡ here → (P : Type 0) →
      (names ≡ [] → EXEC ≡ name → seat_of (name ∷ names) ≡ record { names = []; is_boss = true } → P) → (seat_of (name ∷ names) ≡ seat_within name (seat_of names) → P) → P
  seat-cases name names false is P boss kid = kid (seat-within name names is)
  seat-cases name [] true is P boss kid =
      boss refl (exact EXEC name is) (ap (λ (here : Bool). let seat : Seat = if here then record { names = []; is_boss = true } else record { names = name ∷ []; is_boss = false } in seat) is)
  seat-cases name (later ∷ names) true is P boss kid = kid refl

  seats-leaf : (own : Leaf) → Seats (sim.Leaf own)
  seats-leaf own path [] leaf is = subst (λ (places : List Path). Among (path_behind path []) places) (sym (leaves-Leaf own path)) (inl (λ i. record { names = append-nil path.names i }))
  seats-leaf own path (name ∷ names) leaf is =
      seat-cases name names (is_same_name EXEC name) refl (Among (path_behind path (name ∷ names)) (leaves_from (sim.Leaf own) path))
      (λ last same seat. absurd (no-leaf leaf own (ap (λ (s : Seat). leaf_at s (sim.Leaf own)) (sym seat) ∙ is)))
      (λ seat. absurd (no-part (seat_of names) name own leaf (ap (λ (s : Seat). leaf_at s (sim.Leaf own)) (sym seat) ∙ is)))

  -- a component that is found by its name
  kids-seat-by : (kid : Kid) (kids : List Kid) (name : Name) (names : List Name) (leaf : Leaf) (path : Path) (here : Bool) → is_same_name (name_of kid) name ≡ here → Seats (out-Kid kid).sim →
      (option_and_then (λ part. leaf_in (seat_of names).is_boss (out-Sim part)) (option_and_then (part_at (seat_of names).names) (kid_named name kids)) ≡ Some leaf →
      Among (path_behind path (name ∷ names)) (flat_map (λ kid. leaves_of_kid kid path) kids)) →
      option_and_then (λ part. leaf_in (seat_of names).is_boss (out-Sim part)) (option_and_then (part_at (seat_of names).names) (if here then Some (out-Kid kid).sim else kid_named name kids)) ≡ Some leaf →
      Among (path_behind path (name ∷ names)) (leaves_of_kid kid path ++ flat_map (λ kid. leaves_of_kid kid path) kids)
  kids-seat-by kid kids name names leaf path true here seats later is =
      let same : name_of kid ≡ name = exact (name_of kid) name here in
      let there : Among (path_behind (below path (name_of kid)) names) (leaves_of_kid kid path) =
      subst (λ (places : List Path). Among (path_behind (below path (name_of kid)) names) places) (sym (leaves-kid kid path)) (seats (below path (name_of kid)) names leaf is) in
      let moved : path_behind (below path (name_of kid)) names ≡ path_behind path (name ∷ names) =
      λ i. record { names = (append_assoc path.names (name_of kid ∷ []) names ∙ ap (λ (n : Name). path.names ++ n ∷ names) same) i } in
      among-left (path_behind path (name ∷ names)) (leaves_of_kid kid path) (flat_map (λ kid. leaves_of_kid kid path) kids) (subst (λ (p : Path). Among p (leaves_of_kid kid path)) moved there)
  kids-seat-by kid kids name names leaf path false here seats later is =
      among-right (path_behind path (name ∷ names)) (leaves_of_kid kid path) (flat_map (λ kid. leaves_of_kid kid path) kids) (later is)

  kids-seat : (kids : List Kid) → AllByRecursion (λ kid. Seats (out-Kid kid).sim) kids → (name : Name) (names : List Name) (leaf : Leaf) (path : Path) →
      option_and_then (λ part. leaf_in (seat_of names).is_boss (out-Sim part)) (option_and_then (part_at (seat_of names).names) (kid_named name kids)) ≡ Some leaf →
      Among (path_behind path (name ∷ names)) (flat_map (λ kid. leaves_of_kid kid path) kids)
  kids-seat [] seats name names leaf path is = absurd (let e : None ≡ Some leaf = is in cc)
  kids-seat (kid ∷ kids) seats name names leaf path is =
      kids-seat-by kid kids name names leaf path (is_same_name (name_of kid) name) refl seats.0 (kids-seat kids seats.1 name names leaf path) is

  in-net : (net : Net) (names : List Name) (leaf : Leaf) (name : Name) → leaf_at (seat_within name (seat_of names)) (sim.Net net) ≡ Some leaf →
      option_and_then (λ part. leaf_in (seat_of names).is_boss (out-Sim part)) (option_and_then (part_at (seat_of names).names) (kid_named name (out-Net net).kids)) ≡ Some leaf
  in-net net names leaf name is =
      ap (λ opened. option_and_then (λ part. leaf_in (seat_of names).is_boss (out-Sim part)) (part_in name (part_at (seat_of names).names) opened)) (sym (out-Net-of net)) ∙ is

  seats-net : (net : Net) → AllByRecursion (λ kid. Seats (out-Kid kid).sim) (out-Net net).kids → Seats (sim.Net net)
  seats-net net seats path [] leaf is = absurd (let e : None ≡ Some leaf = sym (ap (leaf_in false) (out-Net-of net)) ∙ is in cc)
  seats-net net seats path (name ∷ names) leaf is =
      let in_kids = flat_map (λ kid. leaves_of_kid kid path) (out-Net net).kids in
      subst (λ (places : List Path). Among (path_behind path (name ∷ names)) places) (sym (leaves-Net net path))
      (seat-cases name names (is_same_name EXEC name) refl (Among (path_behind path (name ∷ names)) (in_kids ++ to_boss path ∷ []))
      (λ last same seat. among-right (path_behind path (name ∷ names)) in_kids (to_boss path ∷ [])
      (inl (λ i. record { names = path.names ++ sym same i ∷ last i })))
      (λ seat. among-left (path_behind path (name ∷ names)) in_kids (to_boss path ∷ [])
      (kids-seat (out-Net net).kids seats name names leaf path (in-net net names leaf name (ap (λ (s : Seat). leaf_at s (sim.Net net)) (sym seat) ∙ is)))))

  pub seats : (tree : Sim) → Seats tree
  seats = each_tree Seats seats-leaf seats-net
