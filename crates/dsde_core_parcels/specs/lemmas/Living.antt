-- Who lives under a handle: its seat in the tree, its path and its place.
use Rattle.std.proofs.Common.{◌≡◌, Bool, true, false, List, [], ◌∷◌, length, drop, Option, Some, None, refl, sym, ap, subst, ◌∙◌, inl, inr}
use Rattle.std.specs.Prelude.{option_and_then}
use Rattle.std.specs.Option.{option_map, option_map_or}
use Rattle.std.specs.List.{AllByRecursion}
use Rattle.std.specs.FinMap as finmap
use Rattle.dsde_bank.specs.declared.handle.Handle.{Handle}
use Rattle.dsde_syntax.specs.declared.decl.Model.{Model}
use Rattle.dsde_values.specs.declared.name.Name.{Name}
use Rattle.dsde_values.specs.declared.path.Path.{Path}
use Rattle.dsde_values.specs.Path.{root}
use Rattle.dsde_sim_tree.specs.given.formalism.leaf_Leaf.{Leaf}
use Rattle.dsde_core_moves.specs.given.system.Fitting.{FitsLeaf}
use Rattle.dsde_core_moves.specs.given.grove.Grove as grove
use Rattle.dsde_core_moves.specs.given.grove.Grove.{Grove, spot, value_of}
use Rattle.dsde_sim_tree.specs.declared.sim.Kid.{Kid}
use Rattle.dsde_sim_tree.specs.declared.sim.Net.{Net}
use Rattle.dsde_sim_tree.specs.declared.sim.Sim.{Sim}
use Rattle.dsde_sim_tree.specs.declared.sim.Sim.TheVariants as sim
use Rattle.dsde_sim_tree.specs.declared.sim.Sim.TheOpen as layer
use Rattle.dsde_sim_tree.specs.declared.sim.Sim.TheOpen.{Sim-F}
use Rattle.dsde_sim_tree.specs.declared.sim.Sim.TheViews.{out-Net, out-Sim, roll-Sim, roll-out-Sim, rolls-Leaf, rolls-Net}
use Rattle.dsde_core_moves.specs.given.sim_starting.Fitting.{FitsSpot, FitsTree}
use Rattle.dsde_core_moves.specs.given.sim_starting.lemmas_Fits.{leaf-tree, net-shape, net-tree}
use Rattle.dsde_routes_pushing.specs.given.sim_movers.Movers as seats
use Rattle.dsde_routes_pushing.specs.given.sim_movers.Movers.{leaf_at, path_behind, seat_behind, seat_of, Seat}
use Rattle.dsde_routes_pushing.specs.given.sim_movers.Names.{IsNamed}
use Rattle.dsde_routes_pushing.specs.given.sim_movers.Parts.{part_at}
use Rattle.dsde_routes_pushing.specs.given.sim_movers.lemmas_Named.{placed-from, IsPlaced}
use Rattle.dsde_routes_pushing.specs.given.sim_movers.lemmas_Seats.{drop-front}
use Rattle.dsde_routes_pushing.specs.given.sim_movers.lemmas_Spotting.{spots-at}
use Rattle.dsde_routes_wiring.specs.declared.wiring.Wiring.{Wiring}
use Rattle.dsde_routes_pushing.specs.lemmas.Lists.{each-among, Among}
use Rattle.dsde_core_moves.specs.given.core_flat.spot_Spot.{Spot}
use Rattle.dsde_core_moves.specs.given.core_flat.spot_Spot_TheVariants as variant
use Rattle.dsde_core_moves.specs.given.core_flat.Grafts.{path_at}
use Rattle.dsde_core_moves.specs.given.core_flat.Places.{Place, part_places}
use Rattle.dsde_core_moves.specs.given.core_flat.Shown.{leaf_in}
use Rattle.dsde_core_moves.specs.given.core_flat.Stands.{is_net, HasBirth, StandsAt, StandsFor}
use Rattle.dsde_core_moves.specs.given.core_flat.lemmas_Beneath.{places-beneath, IsBeneath}
use Rattle.dsde_core_moves.specs.given.core_flat.lemmas_Groves.{spot-slot}
use Rattle.dsde_core_moves.specs.given.core_flat.lemmas_Keeping.{spot-got}
use Rattle.dsde_core_parcels.specs.lemmas.Seated.{all-seated, IsSeated}

-- who has a seat in a tree that fits a program is one of the program
fits-by : (model : Model) (leaf : Leaf) (part : Sim) (boss : Bool) (opened : Sim-F Sim Kid Net) → out-Sim part ≡ opened → seats.leaf_in boss opened ≡ Some leaf → FitsTree model part → FitsLeaf model leaf
fits-by model leaf part false (layer.Leaf own) is found fits =
    let same : own ≡ leaf = (let e : (let one : Option Leaf = Some own in one) ≡ Some leaf = found in cc) in
    let whole : part ≡ sim.Leaf own = sym (roll-out-Sim part) ∙ ap roll-Sim is ∙ rolls-Leaf own in
    subst (FitsLeaf model) same (leaf-tree model own (subst (FitsTree model) whole fits)).fits
fits-by model leaf part true (layer.Leaf own) is found fits = absurd (let wrong : (let one : Option Leaf = None in one) ≡ Some leaf = found in cc)
fits-by model leaf part false (layer.Net net) is found fits = absurd (let wrong : (let one : Option Leaf = None in one) ≡ Some leaf = found in cc)
fits-by model leaf part true (layer.Net net) is found fits =
    let same : (out-Net net).boss ≡ leaf = (let e : (let one : Option Leaf = Some (out-Net net).boss in one) ≡ Some leaf = found in cc) in
    let whole : part ≡ sim.Net net = sym (roll-out-Sim part) ∙ ap roll-Sim is ∙ rolls-Net net in
    subst (FitsLeaf model) same (net-shape model net (net-tree model net (subst (FitsTree model) whole fits))).boss

fits-found : (model : Model) (seat : Seat) (tree : Sim) (leaf : Leaf) (found : Option Sim) → part_at seat.names tree ≡ found → FitsTree model tree → option_and_then (λ part. seats.leaf_in seat.is_boss (out-Sim part)) found ≡ Some leaf → FitsLeaf model leaf
fits-found model seat tree leaf None at fits is = absurd (let wrong : (let one : Option Leaf = None in one) ≡ Some leaf = is in cc)
fits-found model seat tree leaf (Some part) at fits is =
    fits-by model leaf part seat.is_boss (out-Sim part) refl is (record { all = spots-at (FitsSpot model) seat.names part tree fits.all at })

pub seat-fits : (model : Model) (seat : Seat) (tree : Sim) (leaf : Leaf) → FitsTree model tree → leaf_at seat tree ≡ Some leaf → FitsLeaf model leaf
seat-fits model seat tree leaf fits is = fits-found model seat tree leaf (part_at seat.names tree) refl fits is

-- what is live under a handle
live-by : (own : Grove Spot) (handle : Handle) (value : Spot) (held : Option (grove.Spot Spot)) → spot own handle ≡ held → option_map (λ (part : grove.Spot Spot). part.value) held ≡ Some value →
    (part : grove.Spot Spot) × (spot own handle ≡ Some part) × (part.value ≡ value)
live-by own handle value None live is = absurd (let wrong : (let one : Option Spot = None in one) ≡ Some value = is in cc)
live-by own handle value (Some part) live is = (part, live, (let e : (let one : Option Spot = Some part.value in one) ≡ Some value = is in cc))

pub live-with : (own : Grove Spot) (handle : Handle) (value : Spot) → value_of own handle ≡ Some value → (part : grove.Spot Spot) × (spot own handle ≡ Some part) × (part.value ≡ value)
live-with own handle value is = live-by own handle value (spot own handle) refl is

pub path-live : (own : Grove Spot) (handle : Handle) (part : grove.Spot Spot) → spot own handle ≡ Some part → path_at own handle ≡ record { names = part.path }
path-live own handle part live = ap (λ (held : Option (grove.Spot Spot)). let path : Path = record { names = option_map_or (λ (one : grove.Spot Spot). one.path) held [] } in path) live

pub place-path : (own : Grove Spot) (at : Place) → StandsAt own at → at.path ≡ path_at own at.handle
place-path own at stands = (λ i. record { names = sym stands.path i }) ∙ sym (path-live own at.handle stands.part stands.live)

-- the place of who is live
pub record IsPlaceOf (own : Grove Spot) (handle : Handle) (ats : List Place) : Type 0 where
  pub at : Place
  pub among : Among at ats
  pub is : at.handle ≡ handle
  pub stands : StandsAt own at

place-of : (own : Grove Spot) (handle : Handle) (part : grove.Spot Spot) → spot own handle ≡ Some part → (ats : List Place) → AllByRecursion (StandsAt own) ats → HasBirth handle.birth ats → IsPlaceOf own handle ats
place-of own handle part live [] stands has = absurd has
place-of own handle part live (at ∷ ats) stands (inl here) =
    let one : finmap.get own.parts handle.birth ≡ Some stands.0.part = ap (finmap.get own.parts) (sym here) ∙ spot-got own at.handle stands.0.part stands.0.live in
    let two : finmap.get own.parts handle.birth ≡ Some part = spot-got own handle part live in
    let same : stands.0.part ≡ part = cc in
    let slots : at.handle.slot ≡ handle.slot = sym (spot-slot own at.handle stands.0.part stands.0.live) ∙ ap (λ (s : grove.Spot Spot). s.slot) same ∙ spot-slot own handle part live in
    record { at = at; among = inl refl; is = λ i. record { birth = here i; slot = slots i }; stands = stands.0 }
place-of own handle part live (at ∷ ats) stands (inr later) =
    let found = place-of own handle part live ats stands.1 later in
    record { at = found.at; among = inr found.among; is = found.is; stands = found.stands }

pub seat-root : (path : Path) (names : List Name) → path ≡ path_behind root names → seat_behind root path ≡ seat_of names
seat-root path names is = ap (λ (own : Path). seat_of (drop (length root.names) own.names)) is ∙ ap seat_of (drop-front root.names names)

module _ (own : Grove Spot) (top : Handle) (wiring : Option Wiring) (tree : Sim) (stands : StandsFor own top wiring tree) (named : IsNamed tree) where
  abbrev ats : List Place
  ats = part_places top root wiring

  seated : AllByRecursion (IsSeated (value_of own) root tree) ats
  seated =
      subst (λ (part : Sim). AllByRecursion (IsSeated (value_of own) root part) ats) stands.shows
      (all-seated (value_of own) top root wiring (subst IsPlaced (sym stands.shows) (placed-from tree named)))

  -- names lead to a place
  pub names-to : (at : Place) → Among at ats → (names : List Name) × (at.path ≡ path_behind root names)
  names-to at among =
      let beneath = each-among (IsBeneath root.names) ats at (places-beneath top root wiring) among in
      (beneath.rest, λ i. record { names = beneath.is i })

  -- who lies there
  pub seat-at : (at : Place) → Among at ats → at.is_net ≡ false → (names : List Name) → at.path ≡ path_behind root names → leaf_at (seat_of names) tree ≡ Some (leaf_in (value_of own at.handle))
  seat-at at among kind names is =
      ap (λ (seat : Seat). leaf_at seat tree) (sym (seat-root at.path names is)) ∙ each-among (IsSeated (value_of own) root tree) ats at seated among kind

  -- who lives under a handle
  pub record IsLiving (handle : Handle) (leaf : Leaf) : Type 0 where
    pub names : List Name
    pub path : path_at own handle ≡ path_behind root names
    pub there : leaf_at (seat_of names) tree ≡ Some leaf
    pub at : Place
    pub among : Among at ats
    pub is : at.handle ≡ handle
    pub same : at.path ≡ path_at own handle

  pub living : (handle : Handle) (leaf : Leaf) → value_of own handle ≡ Some (variant.Leaf leaf) → IsLiving handle leaf
  living handle leaf held =
      let live = live-with own handle (variant.Leaf leaf) held in
      let found = place-of own handle live.0 live.1 ats stands.live (stands.only handle.birth live.0 (spot-got own handle live.0 live.1)) in
      let at = found.at in
      let value : Some found.stands.part.value ≡ Some (variant.Leaf leaf) = sym (ap (option_map (λ (part : grove.Spot Spot). part.value)) found.stands.live) ∙ ap (value_of own) found.is ∙ held in
      let its : found.stands.part.value ≡ variant.Leaf leaf = cc in
      let kind : at.is_net ≡ false = sym found.stands.kind ∙ ap is_net its in
      let path : at.path ≡ path_at own handle = place-path own at found.stands ∙ ap (path_at own) found.is in
      let names = names-to at found.among in
      record {
        names = names.0;
        path = sym path ∙ names.1;
        there = seat-at at found.among kind names.0 names.1 ∙ ap (λ (one : Handle). Some (leaf_in (value_of own one))) found.is ∙ ap (λ (one : Option Spot). Some (leaf_in one)) held;
        at = at;
        among = found.among;
        is = found.is;
        same = path;
      }

  pub living-fits : (model : Model) → FitsTree model tree → (handle : Handle) (leaf : Leaf) → value_of own handle ≡ Some (variant.Leaf leaf) → FitsLeaf model leaf
  living-fits model fits handle leaf held = let its = living handle leaf held in seat-fits model (seat_of its.names) tree leaf fits its.there
