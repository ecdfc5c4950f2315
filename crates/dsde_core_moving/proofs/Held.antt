-- What stands in a tree at a mover's path is what lies under its handle.
use Rattle.std.proofs.Common.{◌≡◌, ◌∙◌, Bool, true, false, List, [], ◌∷◌, ◌++◌, length, drop, cond, Option, Some, None, refl, sym, ap, subst, append_assoc}
use Rattle.std.specs.Prelude.{option_and_then}
use Rattle.std.specs.List.{AllByRecursion}
use Rattle.dsde_bank.specs.declared.handle.Handle.{Handle}
use Rattle.dsde_values.specs.declared.name.Name.{Name}
use Rattle.dsde_values.specs.declared.path.Path.{Path}
use Rattle.dsde_values.specs.Path.{root, EXEC}
use Rattle.dsde_syntax.specs.declared.decl.Model.{Model}
use Rattle.dsde_sim_tree.specs.given.formalism.leaf_Leaf.{Leaf}
use Rattle.dsde_structure.specs.Gather.{is_same_name}
use Rattle.dsde_grove.specs.Grove.{value_of}
use Rattle.dsde_sim_tree.specs.declared.sim.Kid.{Kid}
use Rattle.dsde_sim_tree.specs.declared.sim.Net.{Net}
use Rattle.dsde_sim_tree.specs.declared.sim.Sim.{Sim}
use Rattle.dsde_sim_tree.specs.declared.sim.Sim.TheVariants as sim
use Rattle.dsde_sim_tree.specs.declared.sim.Sim.TheOpen as layer
use Rattle.dsde_sim_tree.specs.declared.sim.Sim.TheOpen.{Sim-F}
use Rattle.dsde_sim_tree.specs.declared.sim.Sim.TheViews.{out-Net, out-Sim, roll-Sim, roll-out-Sim, rolls-Leaf, rolls-Net}
use Rattle.dsde_sim_movers.specs.Movers.{leaf_at, leaf_in as leaf_of_part, path_behind, seat_behind, seat_of, Seat}
use Rattle.dsde_sim_movers.specs.Names.{IsNamed}
use Rattle.dsde_sim_movers.specs.Parts.{part_at}
use Rattle.dsde_sim_movers.specs.lemmas.Seats.{drop-front}
use Rattle.dsde_sim_movers.specs.lemmas.Spotting.{spots-at}
use Rattle.dsde_sim_starting.specs.Fitting.{FitsSpot, FitsTree}
use Rattle.dsde_sim_starting.specs.lemmas.Fits.{leaf-tree}
use Rattle.dsde_routes_wiring.specs.declared.wiring.WiredKid.TheViews.{out-Wiring}
use Rattle.dsde_core_moves.specs.given.core_flat.Places.{part_places}
use Rattle.dsde_core_moves.specs.given.core_flat.Shown.{leaf_in}
use Rattle.dsde_core_moves.specs.given.core_flat.Stands.{Leads}
use Rattle.dsde_core_moves.specs.given.core_flat.lemmas_Beneath.{places-beneath}
use Rattle.dsde_core_moves.specs.given.core_flat.lemmas_Growing.{among}
use Rattle.dsde_core_moves.specs.given.core_flat.lemmas_Keeping.{spot-got}
use Rattle.dsde_core_moves.specs.given.core_flat.lemmas_Moves.{found-path, one-handle-at, HasPath}
use Rattle.dsde_core_moves.specs.given.core_flat.lemmas_Names.{name-exact}
use Rattle.dsde_core_moves.specs.given.core_flat.lemmas_Component.{component-is}
use Rattle.dsde_core_moves.specs.given.core_flat.lemmas_Executive.{boss-there, executive-opens}
use Rattle.dsde_core_moves.specs.given.core_flat.lemmas_Fitting.{tree-named}
use Rattle.dsde_core_moves.specs.declared.flat.Flat.{Flat}
use Rattle.dsde_core_moves.specs.declared.flat.Mover.{Mover}
use Rattle.dsde_core_moves.specs.Flat.{leaf_of, tree_of, IsThere, Stands}
use Rattle.dsde_core_moves.proofs.Sitting.{none-boss, seat-component}

-- an executive's seat has all names but the last, which is the executive's
last-boss : (name : Name) (b : Bool) → is_same_name EXEC name ≡ b → (let seat : Seat = cond b (record { names = []; is_boss = true }) (record { names = name ∷ []; is_boss = false }) in seat.is_boss ≡ true → name ∷ [] ≡ seat.names ++ EXEC ∷ [])
last-boss name true same is = ap (λ (n : Name). n ∷ []) (sym (name-exact EXEC name same))
last-boss name false same is = absurd (let wrong : false ≡ true = is in cc)

seat-boss : (names : List Name) → (seat_of names).is_boss ≡ true → names ≡ (seat_of names).names ++ EXEC ∷ []
seat-boss [] is = absurd (let wrong : false ≡ true = is in cc)
seat-boss (name ∷ []) is = last-boss name (is_same_name EXEC name) refl is
seat-boss (name ∷ later ∷ names) is = ap (λ (rest : List Name). name ∷ rest) (seat-boss (later ∷ names) is)

-- a part at a seat
pub record Seated (seat : Seat) (tree : Sim) (leaf : Leaf) : Type 0 where
  pub part : Sim
  pub at : part_at seat.names tree ≡ Some part
  pub is : leaf_of_part seat.is_boss (out-Sim part) ≡ Some leaf

seated-by : (seat : Seat) (tree : Sim) (leaf : Leaf) (found : Option Sim) → part_at seat.names tree ≡ found → option_and_then (λ part. leaf_of_part seat.is_boss (out-Sim part)) found ≡ Some leaf → Seated seat tree leaf
seated-by seat tree leaf None at is = absurd (let wrong : None ≡ Some leaf = is in cc)
seated-by seat tree leaf (Some part) at is = record { part = part; at = at; is = is }

-- a component
as-leaf : (leaf : Leaf) (part : Sim) (opened : Sim-F Sim Kid Net) → out-Sim part ≡ opened → leaf_of_part false opened ≡ Some leaf → part ≡ sim.Leaf leaf
as-leaf leaf part (layer.Leaf own) is found =
    let e : Some own ≡ Some leaf = found in
    let same : own ≡ leaf = cc in
    sym (roll-out-Sim part) ∙ ap roll-Sim is ∙ rolls-Leaf own ∙ ap sim.Leaf same
as-leaf leaf part (layer.Net net) is found = absurd (let wrong : None ≡ Some leaf = found in cc)

-- a network
as-boss : (leaf : Leaf) (part : Sim) (opened : Sim-F Sim Kid Net) → out-Sim part ≡ opened → leaf_of_part true opened ≡ Some leaf → (net : Net) × (part ≡ sim.Net net) × ((out-Net net).boss ≡ leaf)
as-boss leaf part (layer.Leaf own) is found = absurd (let wrong : None ≡ Some leaf = found in cc)
as-boss leaf part (layer.Net net) is found =
    let e : Some (out-Net net).boss ≡ Some leaf = found in
    (net, sym (roll-out-Sim part) ∙ ap roll-Sim is ∙ rolls-Net net, cc)

module _ (model : Model) (flat : Flat) (mover : Mover) (stands : Stands model flat) (there : IsThere flat mover) (leaf : Leaf) (sits : leaf_at (seat_behind root mover.path) (tree_of flat) ≡ Some leaf) where
  abbrev tree : Sim
  tree = tree_of flat

  named : IsNamed tree
  named = tree-named model tree stands.fits

  leads : Leads root.names there.part.path
  leads =
      let got = spot-got flat.grove mover.handle there.part there.live in
      among flat.grove root.names mover.handle.birth there.part got (part_places flat.root root flat.wiring) stands.stands.live (places-beneath flat.root root flat.wiring) (stands.stands.only mover.handle.birth there.part got)

  abbrev names : List Name
  names = leads.rest

  path-is : mover.path ≡ path_behind root names
  path-is = ap (λ (own : List Name). let path : Path = record { names = own } in path) (sym there.path ∙ leads.is)

  seat-there : seat_behind root mover.path ≡ seat_of names
  seat-there = ap (λ (path : Path). seat_of (drop (length root.names) path.names)) path-is ∙ ap seat_of (drop-front root.names names)

  seated : Seated (seat_of names) tree leaf
  seated = seated-by (seat_of names) tree leaf (part_at (seat_of names).names tree) refl (ap (λ (seat : Seat). leaf_at seat tree) (sym seat-there) ∙ sits)

  component-held : (seat_of names).is_boss ≡ false → leaf_of flat mover ≡ leaf
  component-held is =
      let whole = seat-component names is in
      let part_is = as-leaf leaf seated.part (out-Sim seated.part) refl (ap (λ (b : Bool). leaf_of_part b (out-Sim seated.part)) (sym is) ∙ seated.is) in
      let at : part_at names tree ≡ Some (sim.Leaf leaf) = ap (λ (seat : Seat). part_at seat.names tree) (sym whole) ∙ seated.at ∙ ap (λ (s : Sim). let o : Option Sim = Some s in o) part_is in
      component-is flat.grove flat.root flat.wiring tree names mover.handle there.part stands.tree stands.stands named there.live leads.is leaf at

  boss-held : (seat_of names).is_boss ≡ true → leaf_of flat mover ≡ leaf
  boss-held is =
      let net_is = as-boss leaf seated.part (out-Sim seated.part) refl (ap (λ (b : Bool). leaf_of_part b (out-Sim seated.part)) (sym is) ∙ seated.is) in
      let ns = (seat_of names).names in
      let at : part_at ns tree ≡ Some (sim.Net net_is.0) = seated.at ∙ ap (λ (s : Sim). let o : Option Sim = Some s in o) net_is.1 in
      let opened = executive-opens flat.grove flat.root flat.wiring tree ns net_is.0 stands.stands named (none-boss ns (sim.Net net_is.0) tree named at) at in
      let at_path = (subst (AllByRecursion (HasPath (root.names ++ ns))) opened.is (found-path ns flat.root root flat.wiring)).0 in
      let last = (out-Wiring opened.wired).boss in
      let handles : mover.handle ≡ last =
      one-handle-at flat.grove stands.tree mover.handle last there.part opened.stands.executive.part there.live opened.stands.executive.live
      (leads.is ∙ ap (λ (own : List Name). root.names ++ own) (seat-boss names is) ∙ sym (append_assoc root.names ns (EXEC ∷ [])) ∙ ap (λ (own : List Name). own ++ EXEC ∷ []) (sym at_path) ∙ sym opened.stands.executive.path) in
      ap (λ (handle : Handle). leaf_in (value_of flat.grove handle)) handles ∙ boss-there (value_of flat.grove) opened.wired opened.handle net_is.0 opened.shows ∙ net_is.2

  held-by : (b : Bool) → (seat_of names).is_boss ≡ b → leaf_of flat mover ≡ leaf
  held-by true is = boss-held is
  held-by false is = component-held is

  -- what lies under its handle
  pub held-is : leaf_of flat mover ≡ leaf
  held-is = held-by (seat_of names).is_boss refl

  boss-by : (b : Bool) → (seat_of names).is_boss ≡ b → leaf.boss ≡ true → (seat_of names).is_boss ≡ true
  boss-by true is boss = is
  boss-by false is boss =
      let part_is = as-leaf leaf seated.part (out-Sim seated.part) refl (ap (λ (b : Bool). leaf_of_part b (out-Sim seated.part)) (sym is) ∙ seated.is) in
      let fits : FitsTree model (sim.Leaf leaf) = record { all = spots-at (FitsSpot model) (seat_of names).names (sim.Leaf leaf) tree stands.fits.all (seated.at ∙ ap (λ (s : Sim). let o : Option Sim = Some s in o) part_is) } in
      let atomic = leaf-tree model leaf fits in
      absurd (let wrong : true ≡ false = sym boss ∙ atomic.component in cc)

  -- an executive has an executive's seat
  pub boss-seat : leaf.boss ≡ true → (seat_behind root mover.path).is_boss ≡ true
  boss-seat boss = ap (λ (seat : Seat). seat.is_boss) seat-there ∙ boss-by (seat_of names).is_boss refl boss
