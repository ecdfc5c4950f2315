-- A network of a tree that lies in a grove, opened.
use Rattle.std.proofs.Common.{◌≡◌, ◌+◌, ◌≤◌, true, false, List, [], ◌∷◌, ◌++◌, map, Option, Some, None, refl, sym, ap, subst, ◌∙◌, arith}
use Rattle.std.specs.Option.{option_map, option_to_list}
use Rattle.std.specs.List.{flat_map, AllByRecursion}
use Rattle.dsde_bank.specs.declared.handle.Handle.{Handle}
use Rattle.dsde_values.specs.declared.name.Name.{Name}
use Rattle.dsde_values.specs.declared.path.Path.{Path}
use Rattle.dsde_values.specs.declared.value.Value.{Value}
use Rattle.dsde_values.specs.Path.{root}
use Rattle.dsde_syntax.specs.declared.decl.Model.{Model}
use Rattle.dsde_language.specs.declared.ids.ModelId.{ModelId}
use Rattle.dsde_sim_tree.specs.given.formalism.leaf_Leaf.{Leaf}
use Rattle.dsde_structure.specs.declared.plan.Entry.{Entry}
use Rattle.dsde_structure.specs.Survival.{names}
use Rattle.dsde_sim_starting.specs.given.system.Program.{system}
use Rattle.dsde_grove.specs.Grove as grove
use Rattle.dsde_grove.specs.Grove.{value_of}
use Rattle.dsde_sim_tree.specs.declared.sim.Kid.{Kid}
use Rattle.dsde_sim_tree.specs.declared.sim.Net.{Net}
use Rattle.dsde_sim_tree.specs.declared.sim.Sim.{Sim}
use Rattle.dsde_sim_tree.specs.declared.sim.Sim.TheVariants as sim
use Rattle.dsde_sim_tree.specs.declared.sim.Sim.TheOpen.{Net-F}
use Rattle.dsde_sim_tree.specs.declared.sim.Sim.TheViews.{out-Net, out-roll-Net}
use Rattle.dsde_sim_tree.specs.Opened.{shape_in}
use Rattle.dsde_sim_tree.specs.Tree.{entry_of, parts, parts_of_kids}
use Rattle.dsde_sim_movers.specs.lemmas.Opened.{parts-Leaf, parts-Net}
use Rattle.dsde_sim_starting.specs.Fitting.{FitsKid, FitsNet, FitsShape, FitsSpot}
use Rattle.dsde_sim_starting.specs.lemmas.Fits.{net-kids, net-shape, net-tree}
use Rattle.dsde_sim_movers.specs.Movers.{path_behind}
use Rattle.dsde_sim_movers.specs.Names.{AreNames, IsNamed}
use Rattle.dsde_sim_movers.specs.Parts.{part_at, with_part}
use Rattle.dsde_sim_movers.specs.lemmas.Named.{entries-named}
use Rattle.dsde_sim_movers.specs.lemmas.Spotting.{spots-at}
use Rattle.dsde_sim_movers.proofs.Rooms.{trade}
use Rattle.dsde_routes_wiring.specs.declared.wiring.Wiring.{Wiring}
use Rattle.dsde_routes_wiring.specs.declared.wiring.WiredKid.{WiredKid}
use Rattle.dsde_routes_wiring.specs.declared.wiring.WiredKid.TheViews.{out-Wiring}
use Rattle.dsde_core_moves.specs.given.core_flat.spot_Spot.{Spot}
use Rattle.dsde_core_moves.specs.given.core_flat.spot_Spot_TheVariants as variant
use Rattle.dsde_core_moves.specs.given.core_flat.Change.{found, Standing}
use Rattle.dsde_core_moves.specs.given.core_flat.Shown.{args_in, kid_under, leaf_in, model_in}
use Rattle.dsde_core_moves.specs.given.core_flat.Stands.{is_net, NetStands}
use Rattle.dsde_core_moves.specs.given.core_flat.lemmas_Beneath.{IsNoBoss}
use Rattle.dsde_core_moves.specs.given.core_flat.lemmas_Moves.{found-path, HasPath}
use Rattle.dsde_core_moves.specs.given.core_flat.lemmas_Opened.{net-shows}
use Rattle.dsde_core_moves.specs.given.core_flat.lemmas_Executive.{executive-opens, kids-there, IsThere}
use Rattle.dsde_core_moves.specs.given.core_flat.lemmas_Fitting.{tree-named}
use Rattle.dsde_core_moves.specs.Chosen.{shown}
use Rattle.dsde_core_moves.specs.Compared.{entries_of}
use Rattle.dsde_core_moves.specs.declared.flat.Flat.{Flat}
use Rattle.dsde_core_moves.specs.Flat.{tree_of, Stands}
use Rattle.dsde_core_moves.proofs.Sitting.{none-boss}

-- where names lead to a network there is a wiring
some-wiring : (place : List Name) (top handle : Handle) (path : Path) (wired : Wiring) (wiring : Option Wiring) → found place top root wiring ≡ record { handle = handle; path = path; own = Some wired } ∷ [] → (whole : Wiring) × (wiring ≡ Some whole)
some-wiring place top handle path wired (Some whole) is = (whole, refl)
some-wiring [] top handle path wired None is =
    let nets : List Standing → List Wiring = flat_map (λ (at : Standing). option_to_list at.own) in
    let wrong : [] ≡ wired ∷ [] = ap nets is in absurd (cc wrong)
some-wiring (name ∷ place) top handle path wired None is =
    let nets : List Standing → List Wiring = flat_map (λ (at : Standing). option_to_list at.own) in
    let wrong : [] ≡ wired ∷ [] = ap nets is in absurd (cc wrong)

net-held : (value : Spot) → is_net value ≡ true → (model : ModelId) × (args : List Value) × (value ≡ variant.Net model args)
net-held (variant.Net model args) is = (model, args, refl)
net-held (variant.Leaf leaf) is = absurd (let wrong : false ≡ true = is in cc)

leaf-held : (value : Spot) → is_net value ≡ false → (leaf : Leaf) × (value ≡ variant.Leaf leaf)
leaf-held (variant.Leaf leaf) is = (leaf, refl)
leaf-held (variant.Net model args) is = absurd (let wrong : true ≡ false = is in cc)

module _ (model : Model) (flat : Flat) (place : List Name) (path : Path) (net : Net) (stands : Stands model flat) (is : part_at place (tree_of flat) ≡ Some (sim.Net net)) (at : path ≡ path_behind root place) where
  abbrev tree : Sim
  tree = tree_of flat

  pub named : IsNamed tree
  named = tree-named model tree stands.fits

  pub none : AllByRecursion IsNoBoss place
  none = none-boss place (sim.Net net) tree named is

  pub there : IsThere flat.grove flat.root flat.wiring place net
  there = executive-opens flat.grove flat.root flat.wiring tree place net stands.stands named none is

  abbrev pub wired : Wiring
  wired = there.wired

  abbrev pub kids : List WiredKid
  kids = (out-Wiring there.wired).kids

  abbrev pub me : Handle
  me = (out-Wiring there.wired).me

  abbrev pub boss : Handle
  boss = (out-Wiring there.wired).boss

  pub whole-is : (whole : Wiring) × (flat.wiring ≡ Some whole)
  whole-is = some-wiring place flat.root there.handle there.path there.wired flat.wiring there.is

  pub path-is : there.path ≡ path
  path-is =
      let all = subst (AllByRecursion (HasPath (root.names ++ place))) there.is (found-path place flat.root root flat.wiring) in
      ap (λ (ns : List Name). let p : Path = record { names = ns } in p) all.0 ∙ sym at

  pub net-here : NetStands flat.grove me boss path kids
  net-here = subst (λ (h : Handle). NetStands flat.grove h boss path kids) there.itself (subst (λ (p : Path). NetStands flat.grove there.handle boss p kids) path-is there.stands)

  -- what it shows
  pub kids-are : shown flat.grove kids ≡ (out-Net net).kids
  kids-are = kids-there (value_of flat.grove) there.wired there.handle net there.shows

  pub fits-net : FitsNet model net
  fits-net = net-tree model net (record { all = spots-at (FitsSpot model) place (sim.Net net) tree stands.fits.all is })

  pub shape : FitsShape model (shape_in net)
  shape = net-shape model net fits-net

  pub kids-fit : AllByRecursion (FitsKid model) (shown flat.grove kids)
  kids-fit = subst (AllByRecursion (FitsKid model)) (sym kids-are) (net-kids model net fits-net)

  pub kids-named : AreNames (names (entries_of flat.grove kids))
  kids-named =
      let entries : List Entry = map entry_of (out-Net net).kids in
      subst (λ (own : List Kid). AreNames (names (map entry_of own))) (sym kids-are) (entries-named entries shape.links.order shape.links.ordinary)

  -- its components have fewer parts than the tree
  pub kids-few : parts_of_kids (out-Net net).kids ≤ parts tree
  kids-few =
      let leaf : Sim = sim.Leaf (out-Net net).boss in
      let traded : parts (with_part place leaf tree) + parts (sim.Net net) ≡ parts tree + parts leaf = trade (system model) place leaf (sim.Net net) tree is in
      omega (arith, traded, parts-Leaf (out-Net net).boss, parts-Net net)

  -- what lies under its handles
  held-net : (number : ModelId) × (args : List Value) × (value_of flat.grove me ≡ Some (variant.Net number args))
  held-net =
      let value = net-held net-here.itself.part.value net-here.itself.kind in
      (value.0, value.1, ap (option_map (λ (p : grove.Spot Spot). p.value)) net-here.itself.live ∙ ap (λ (s : Spot). let o : Option Spot = Some s in o) value.2)

  held-leaf : (leaf : Leaf) × (value_of flat.grove boss ≡ Some (variant.Leaf leaf))
  held-leaf =
      let value = leaf-held net-here.executive.part.value net-here.executive.kind in
      (value.0, ap (option_map (λ (p : grove.Spot Spot). p.value)) net-here.executive.live ∙ ap (λ (s : Spot). let o : Option Spot = Some s in o) value.1)

  abbrev layer : Net-F Sim Kid Net
  layer = record { model = model_in (value_of flat.grove there.handle); args = args_in (value_of flat.grove there.handle); boss = leaf_in (value_of flat.grove boss); kids = map (kid_under (value_of flat.grove)) kids; links = (out-Wiring there.wired).links }

  opened : out-Net net ≡ layer
  opened = ap out-Net (sym there.shows) ∙ ap out-Net (net-shows (value_of flat.grove) there.wired there.handle) ∙ out-roll-Net layer

  pub net-value : value_of flat.grove me ≡ Some (variant.Net (out-Net net).model (out-Net net).args)
  net-value =
      let at_handle : value_of flat.grove there.handle ≡ Some (variant.Net held-net.0 held-net.1) = ap (value_of flat.grove) there.itself ∙ held-net.2 in
      let number : held-net.0 ≡ (out-Net net).model = sym (ap (λ (n : Net-F Sim Kid Net). n.model) opened ∙ ap model_in at_handle) in
      let args : held-net.1 ≡ (out-Net net).args = sym (ap (λ (n : Net-F Sim Kid Net). n.args) opened ∙ ap args_in at_handle) in
      held-net.2 ∙ (λ i. Some (variant.Net (number i) (args i)))

  pub boss-value : value_of flat.grove boss ≡ Some (variant.Leaf (out-Net net).boss)
  boss-value =
      let leaf : held-leaf.0 ≡ (out-Net net).boss = sym (ap (λ (n : Net-F Sim Kid Net). n.boss) opened ∙ ap leaf_in held-leaf.1) in
      held-leaf.1 ∙ (λ i. Some (variant.Leaf (leaf i)))
