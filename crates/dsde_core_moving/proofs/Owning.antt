-- An executive that moves, and its network, where they lie.
use Rattle.std.proofs.Common.{◌≡◌, ◌∙◌, Bool, true, false, List, [], ◌∷◌, ◌++◌, length, drop, map, Option, Some, IsSome, refl, sym, ap, subst, append_assoc}
use Rattle.std.specs.Option.{option_map}
use Rattle.std.specs.List.{AllByRecursion}
use Rattle.dsde_bank.specs.declared.handle.Handle.{Handle}
use Rattle.dsde_values.specs.declared.name.Name.{Name}
use Rattle.dsde_values.specs.declared.path.Path.{Path}
use Rattle.dsde_values.specs.Path.{root, EXEC}
use Rattle.dsde_syntax.specs.declared.decl.Model.{Model}
use Rattle.dsde_sim_tree.specs.given.formalism.leaf_Leaf.{Leaf}
use Rattle.dsde_sim_starting.specs.given.system.Fitting.{FitsLeaf}
use Rattle.dsde_structure.specs.declared.plan.Entry.{Entry}
use Rattle.dsde_structure.specs.Gather.{is_same_name}
use Rattle.dsde_sim_tree.specs.Told.{to_boss}
use Rattle.dsde_grove.specs.Grove as grove
use Rattle.dsde_grove.specs.Grove.{spot, value_of}
use Rattle.dsde_sim_tree.specs.declared.sim.Kid.{Kid}
use Rattle.dsde_sim_tree.specs.declared.sim.Net.{Net}
use Rattle.dsde_sim_tree.specs.declared.sim.Sim.{Sim}
use Rattle.dsde_sim_tree.specs.declared.sim.Sim.TheVariants as sim
use Rattle.dsde_sim_tree.specs.declared.sim.Sim.TheViews.{out-Net}
use Rattle.dsde_sim_tree.specs.Opened.{shape_in}
use Rattle.dsde_sim_tree.specs.Tree.{entry_of}
use Rattle.dsde_sim_starting.specs.Fitting.{FitsNet, FitsShape, FitsSpot}
use Rattle.dsde_sim_starting.specs.lemmas.Fits.{net-shape, net-tree}
use Rattle.dsde_sim_movers.specs.Movers.{path_behind, seat_behind, seat_of, Seat}
use Rattle.dsde_sim_movers.specs.Names.{IsNamed}
use Rattle.dsde_sim_movers.specs.Parts.{part_at}
use Rattle.dsde_sim_movers.specs.lemmas.Seats.{drop-front}
use Rattle.dsde_sim_movers.specs.lemmas.Spotting.{spots-at}
use Rattle.dsde_routes_wiring.specs.declared.wiring.WiredKid.{WiredKid}
use Rattle.dsde_routes_wiring.specs.declared.wiring.WiredKid.TheViews.{out-Wiring, out-WiredKid}
use Rattle.dsde_core_moves.specs.given.core_flat.spot_Spot.{Spot}
use Rattle.dsde_core_moves.specs.given.core_flat.spot_Spot_TheVariants as variant
use Rattle.dsde_core_moves.specs.given.core_flat.Places.{part_places}
use Rattle.dsde_core_moves.specs.given.core_flat.Scheduled.{held_leaf}
use Rattle.dsde_core_moves.specs.given.core_flat.Shown.{kid_under, leaf_in, Look}
use Rattle.dsde_core_moves.specs.given.core_flat.Stands.{is_net, Leads, NetStands}
use Rattle.dsde_core_moves.specs.given.core_flat.lemmas_Apart.{name-shown}
use Rattle.dsde_core_moves.specs.given.core_flat.lemmas_Beneath.{places-beneath, IsNoBoss}
use Rattle.dsde_core_moves.specs.given.core_flat.lemmas_Closing.{IsNoExec}
use Rattle.dsde_core_moves.specs.given.core_flat.lemmas_Growing.{among}
use Rattle.dsde_core_moves.specs.given.core_flat.lemmas_Keeping.{spot-got}
use Rattle.dsde_core_moves.specs.given.core_flat.lemmas_Moves.{found-path, one-handle-at, HasPath}
use Rattle.dsde_core_moves.specs.given.core_flat.lemmas_Names.{name-apart}
use Rattle.dsde_core_moves.specs.given.core_flat.lemmas_Executive as law
use Rattle.dsde_core_moves.specs.given.core_flat.lemmas_Executive.{boss-there, executive-opens, kids-there}
use Rattle.dsde_core_moves.specs.given.core_flat.lemmas_Fitting.{tree-named}
use Rattle.dsde_core_moves.specs.declared.flat.Flat.{Flat}
use Rattle.dsde_core_moves.specs.declared.flat.Mover.{Mover}
use Rattle.dsde_core_moves.specs.Flat.{leaf_of, tree_of, IsThere, Stands}
use Rattle.dsde_core_moves.proofs.Sitting.{none-boss}
use Rattle.dsde_core_moving.specs.Executive.{place_of, IsExecutive}
use Rattle.dsde_core_moving.proofs.Seating.{rules, seat-boss, Rules}

-- a component or an executive that is held
held-as : (value : Spot) → is_net value ≡ false → (leaf : Leaf) × (value ≡ variant.Leaf leaf)
held-as (variant.Leaf leaf) is = (leaf, refl)
held-as (variant.Net model args) is = absurd (let wrong : true ≡ false = is in cc)

-- components that show none with an executive's name have no such name
kids-ordinary : (look : Look) (kids : List WiredKid) → AllByRecursion (λ (entry : Entry). is_same_name EXEC entry.name ≡ false) (map entry_of (map (kid_under look) kids)) → AllByRecursion IsNoExec kids
kids-ordinary look [] all = tt
kids-ordinary look (kid ∷ kids) all =
    let other : is_same_name EXEC (out-WiredKid kid).name ≡ false = ap (is_same_name EXEC) (sym (name-shown look kid)) ∙ all.0 in
    (λ same. name-apart EXEC (out-WiredKid kid).name other (sym same), kids-ordinary look kids all.1)

module _ (model : Model) (flat : Flat) (mover : Mover) (stands : Stands model flat) (there : IsThere flat mover) (at : IsExecutive flat mover) where
  abbrev tree : Sim
  tree = tree_of flat

  pub named : IsNamed tree
  named = tree-named model tree stands.fits

  -- its path leads on from the root
  leads : Leads root.names there.part.path
  leads =
      let got = spot-got flat.grove mover.handle there.part there.live in
      among flat.grove root.names mover.handle.birth there.part got (part_places flat.root root flat.wiring) stands.stands.live (places-beneath flat.root root flat.wiring) (stands.stands.only mover.handle.birth there.part got)

  abbrev names : List Name
  names = leads.rest

  path-is : mover.path ≡ path_behind root names
  path-is = ap (λ (own : List Name). let path : Path = record { names = own } in path) (sym there.path ∙ leads.is)

  seat-there : seat_behind root mover.path ≡ seat_of names
  seat-there = ap (λ (path : Path). seat_of (drop (length root.names) path.names)) path-is ∙ ap seat_of (drop-front root.names names)

  pub its : Rules (seat_behind root mover.path) tree at.leaf
  its = rules model (seat_behind root mover.path) tree at.leaf stands.fits at.sits at.boss

  abbrev pub place : List Name
  place = place_of mover

  abbrev pub path : Path
  path = path_behind root place

  abbrev pub net : Net
  net = its.net

  pub net-there : part_at place tree ≡ Some (sim.Net net)
  net-there = its.there

  pub seat-is : seat_behind root mover.path ≡ record { names = place; is_boss = true }
  seat-is = ap (λ (b : Bool). let seat : Seat = record { names = place; is_boss = b } in seat) its.executive

  names-are : names ≡ place ++ EXEC ∷ []
  names-are =
      seat-boss names (ap (λ (seat : Seat). seat.is_boss) (sym seat-there) ∙ its.executive)
      ∙ ap (λ (seat : Seat). seat.names ++ EXEC ∷ []) (sym seat-there)

  -- it is the executive of the network at the path
  pub path-under : mover.path ≡ to_boss path
  path-under =
      path-is ∙ ap (path_behind root) names-are
      ∙ ap (λ (own : List Name). let under : Path = record { names = own } in under) (sym (append_assoc root.names place (EXEC ∷ [])))

  pub none : AllByRecursion IsNoBoss place
  none = none-boss place (sim.Net net) tree named net-there

  -- the network where it lies
  pub own : law.IsThere flat.grove flat.root flat.wiring place net
  own = executive-opens flat.grove flat.root flat.wiring tree place net stands.stands named none net-there

  abbrev pub kids : List WiredKid
  kids = (out-Wiring own.wired).kids

  abbrev pub last : Handle
  last = (out-Wiring own.wired).boss

  own-path : own.path ≡ path
  own-path =
      let all = subst (AllByRecursion (HasPath (root.names ++ place))) own.is (found-path place flat.root root flat.wiring) in
      ap (λ (ns : List Name). let p : Path = record { names = ns } in p) all.0

  pub net-here : NetStands flat.grove own.handle last path kids
  net-here = subst (λ (p : Path). NetStands flat.grove own.handle last p kids) own-path own.stands

  -- the handle is that of the network's executive
  pub handle-is : mover.handle ≡ last
  handle-is =
      one-handle-at flat.grove stands.tree mover.handle last there.part net-here.executive.part there.live net-here.executive.live
      (there.path ∙ ap (λ (p : Path). p.names) path-under ∙ sym net-here.executive.path)

  pub fits-net : FitsNet model net
  fits-net = net-tree model net (record { all = spots-at (FitsSpot model) place (sim.Net net) tree stands.fits.all net-there })

  pub shape : FitsShape model (shape_in net)
  shape = net-shape model net fits-net

  pub value-is : value_of flat.grove mover.handle ≡ Some (variant.Leaf (out-Net net).boss)
  value-is =
      let held = held-as there.part.value there.kind in
      let one : value_of flat.grove mover.handle ≡ Some (variant.Leaf held.0) = ap (option_map (λ (p : grove.Spot Spot). p.value)) there.live ∙ ap (λ (v : Spot). let o : Option Spot = Some v in o) held.1 in
      let same : held.0 ≡ (out-Net net).boss = sym (ap leaf_in one) ∙ ap (λ (h : Handle). leaf_in (value_of flat.grove h)) handle-is ∙ boss-there (value_of flat.grove) own.wired own.handle net own.shows in
      one ∙ ap (λ (l : Leaf). let o : Option Spot = Some (variant.Leaf l) in o) same

  pub leaf-is : leaf_of flat mover ≡ (out-Net net).boss
  leaf-is = ap leaf_in value-is

  pub leaf-fits : FitsLeaf model (leaf_of flat mover)
  leaf-fits = subst (FitsLeaf model) (sym leaf-is) shape.boss

  pub leaf-live : IsSome (held_leaf (value_of flat.grove mover.handle))
  leaf-live = subst (λ (o : Option Spot). IsSome (held_leaf o)) (sym value-is) refl

  pub no-exec : AllByRecursion IsNoExec kids
  no-exec =
      kids-ordinary (value_of flat.grove) kids
      (subst (λ (ks : List Kid). AllByRecursion (λ (entry : Entry). is_same_name EXEC entry.name ≡ false) (map entry_of ks)) (sym (kids-there (value_of flat.grove) own.wired own.handle net own.shows)) shape.links.ordinary)
