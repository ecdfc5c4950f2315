-- The wiring of a tree that lies in a grove, at the place where a network changes.
use Rattle.std.proofs.Common.{◌≡◌, ℕ, ◌+◌, ◌^◌, ◌<◌, false, not, List, [], ◌∷◌, ◌++◌, length, map, Option, Some, None, MatchOption, sym, ap, subst, ◌∙◌, arith}
use Rattle.std.proofs.lemmas.List.{length-map}
use Rattle.std.specs.List.{flat_map, list_any, AllByRecursion}
use Rattle.dsde_bank.specs.declared.handle.Handle.{Handle}
use Rattle.dsde_values.specs.declared.name.Name.{Name}
use Rattle.dsde_values.specs.declared.path.Path.{Path}
use Rattle.dsde_values.specs.Path.{root, EXEC}
use Rattle.dsde_syntax.specs.declared.decl.Model.{Model}
use Rattle.dsde_structure.specs.declared.plan.Entry.{Entry}
use Rattle.dsde_structure.specs.Gather.{is_same_name}
use Rattle.dsde_structure.specs.Survival.{fresh, names, survives as stays, IsInOrder}
use Rattle.dsde_grove.specs.Grove.{Grove, value_of}
use Rattle.dsde_sim_tree.specs.declared.sim.Kid.{Kid}
use Rattle.dsde_sim_tree.specs.declared.sim.Net.{Net}
use Rattle.dsde_sim_tree.specs.declared.sim.Sim.TheVariants as sim
use Rattle.dsde_sim_tree.specs.declared.sim.Sim.TheViews.{out-Net}
use Rattle.dsde_sim_tree.specs.Tree.{entry_of, parts, parts_of_kids, started_as}
use Rattle.dsde_sim_tree.specs.Move.{kept}
use Rattle.dsde_sim_starting.specs.Fitting.{FitsKid, FitsTree}
use Rattle.dsde_sim_changing.proofs.Keeping.{each-filter}
use Rattle.dsde_sim_movers.specs.Movers.{path_behind}
use Rattle.dsde_sim_movers.specs.Names.{AreNames}
use Rattle.dsde_sim_movers.specs.Parts.{part_at}
use Rattle.dsde_routes_wiring.specs.declared.wiring.Wiring.{Wiring}
use Rattle.dsde_routes_wiring.specs.declared.wiring.WiredKid.{WiredKid}
use Rattle.dsde_routes_wiring.specs.declared.wiring.WiredKid.TheViews.{out-Wiring}
use Rattle.dsde_routes_wiring.specs.Flatten.{flatten}
use Rattle.dsde_routes_wiring.specs.Places.{kids_at, nets_at, staying}
use Rattle.dsde_repair_walks.proofs.Changes.{kids-there}
use Rattle.dsde_core_moves.specs.given.core_flat.spot_Spot.{Spot}
use Rattle.dsde_core_moves.specs.given.core_flat.Change.{found}
use Rattle.dsde_core_moves.specs.given.core_flat.Handles.{kid_called, IsItself, KidsAreThemselves}
use Rattle.dsde_core_moves.specs.given.core_flat.Named.{AreToldApart, HasOwnNames}
use Rattle.dsde_core_moves.specs.given.core_flat.Places.{kid_places, places_of}
use Rattle.dsde_core_moves.specs.given.core_flat.Shown.{kid_under, part_under}
use Rattle.dsde_core_moves.specs.given.core_flat.Stands.{NetStands, StandsAt, StandsFor}
use Rattle.dsde_core_moves.specs.given.core_flat.lemmas_Frame.{all-right}
use Rattle.dsde_core_moves.specs.given.core_flat.lemmas_Grafting.{flat-join}
use Rattle.dsde_core_moves.specs.given.core_flat.lemmas_Meeting.{tree-names}
use Rattle.dsde_core_moves.specs.Chosen.{shown}
use Rattle.dsde_core_moves.specs.Compared.{entries_of}
use Rattle.dsde_core_moving.proofs.Names.{started-apart}
use Rattle.dsde_core_moving.proofs.Staying.{order-filter}
use Rattle.dsde_core_moves.specs.declared.flat.Flat.{Flat}
use Rattle.dsde_core_moves.specs.Flat.{rows_of, tree_of, Stands}
use Rattle.dsde_core_moving.proofs.Opening.{kids-are, kids-few, kids-fit, kids-named, named, net-here, there, whole-is, wired}

pub match-none : {X : Type 0} (result : Option X) (N : Type 0) (P : X → Type 0) → MatchOption result N P → result ≡ None → N
match-none None N P is none = is
match-none (Some x) N P is none = absurd (cc none)

one-item : (one other : Wiring) → one ∷ [] ≡ other ∷ [] → one ≡ other
one-item one other is = cc

-- where names lead to a network of a wiring, it is the one at that place
abbrev pub LeadsAlike : Type 0
LeadsAlike = (names : List Name) (top handle : Handle) (path : Path) (wiring net : Wiring) → found names top root (Some wiring) ≡ record { handle = handle; path = path; own = Some net } ∷ [] → nets_at names wiring ≡ net ∷ []

-- A network of a wiring has got these components, those that stay and fresh ones.
pub record HasChanged (old new : Grove Spot) (path : Path) (entries : List Entry) (gone : List Name) (fresh_kids : List WiredKid) (own : Wiring) : Type 0 where
  pub stands : NetStands new (out-Wiring own).me (out-Wiring own).boss path (staying gone (out-Wiring own).kids ++ fresh_kids)
  pub stay : shown new (staying gone (out-Wiring own).kids) ≡ kept entries (shown old (out-Wiring own).kids)
  pub are : map entry_of (shown new fresh_kids) ≡ map started_as (fresh (entries_of old (out-Wiring own).kids) entries)
  pub itself : value_of new (out-Wiring own).me ≡ value_of old (out-Wiring own).me
  pub executive : value_of new (out-Wiring own).boss ≡ value_of old (out-Wiring own).boss

-- the fresh components stand
pub fresh-live : (own : Grove Spot) (handle last : Handle) (path : Path) (kids fresh_kids : List WiredKid) → NetStands own handle last path (kids ++ fresh_kids) → AllByRecursion (StandsAt own) (places_of path fresh_kids)
fresh-live own handle last path kids fresh_kids stands =
    all-right (StandsAt own) (places_of path kids) (places_of path fresh_kids) (subst (AllByRecursion (StandsAt own)) (flat-join (λ (kid : WiredKid). kid_places kid path) kids fresh_kids) stands.components)

pub fresh-themselves : (own : Grove Spot) (handle last : Handle) (path : Path) (kids fresh_kids : List WiredKid) → NetStands own handle last path (kids ++ fresh_kids) → KidsAreThemselves fresh_kids
fresh-themselves own handle last path kids fresh_kids stands =
    all-right IsItself (flat_map kid_called kids) (flat_map kid_called fresh_kids) (subst (AllByRecursion IsItself) (flat-join kid_called kids fresh_kids) stands.themselves)

-- and are told by their names
pub fresh-apart : (olds entries : List Entry) (kids : List Kid) → IsInOrder entries → AllByRecursion (λ (entry : Entry). is_same_name EXEC entry.name ≡ false) entries → map entry_of kids ≡ map started_as (fresh olds entries) → AreToldApart (map entry_of kids)
fresh-apart olds entries kids order ordinary are =
    let is_fresh = λ (new : Entry). not (list_any (λ (old : Entry). stays old new) olds) in
    started-apart (fresh olds entries) kids (order-filter (λ (entry : Entry). entry.name) is_fresh entries order) (each-filter (λ (entry : Entry). is_same_name EXEC entry.name ≡ false) is_fresh entries ordinary) are

module _ (model : Model) (flat : Flat) (whole : Wiring) (stands : Stands model flat) (was : flat.wiring ≡ Some whole) where
  pub fits-whole : FitsTree model (part_under (value_of flat.grove) flat.root (Some whole))
  fits-whole = subst (λ (w : Option Wiring). FitsTree model (part_under (value_of flat.grove) flat.root w)) was stands.fits

  pub stands-whole : StandsFor flat.grove flat.root (Some whole) (tree_of flat)
  stands-whole = subst (λ (w : Option Wiring). StandsFor flat.grove flat.root w (tree_of flat)) was stands.stands

  pub rows-whole : flat.rows ≡ flatten whole
  rows-whole = stands.rows ∙ ap rows_of was

module _ (model : Model) (flat : Flat) (place : List Name) (path : Path) (net : Net) (stands : Stands model flat) (is : part_at place (tree_of flat) ≡ Some (sim.Net net)) (at : path ≡ path_behind root place) where
  pub own-names : HasOwnNames (tree_of flat)
  own-names = tree-names (tree_of flat) (named model flat place path net stands is at)

  abbrev pub here : Wiring
  here = wired model flat place path net stands is at

  -- there is a wiring
  pub wired-there : flat.wiring ≡ None → ⊥
  wired-there none =
      let whole = whole-is model flat place path net stands is at in
      let wrong : Some whole.0 ≡ None = sym whole.1 ∙ none in absurd (cc wrong)

  module _ (whole : Wiring) (was : flat.wiring ≡ Some whole) (leads : LeadsAlike) where
    pub found-is : found place flat.root root (Some whole) ≡ record { handle = (there model flat place path net stands is at).handle; path = (there model flat place path net stands is at).path; own = Some here } ∷ []
    found-is =
        let seen = there model flat place path net stands is at in
        subst (λ (w : Option Wiring). found place flat.root root w ≡ record { handle = seen.handle; path = seen.path; own = Some seen.wired } ∷ []) was seen.is

    pub nets-here : nets_at place whole ≡ here ∷ []
    nets-here =
        let seen = there model flat place path net stands is at in
        leads place flat.root seen.handle seen.path whole seen.wired found-is

    -- and a network at the place
    pub net-there : nets_at place whole ≡ [] → ⊥
    net-there none = let wrong : here ∷ [] ≡ [] = sym nets-here ∙ none in absurd (cc wrong)

    module _ (own : Wiring) (nets : nets_at place whole ≡ own ∷ []) where
      pub own-is : own ≡ here
      own-is = one-item own here (sym nets ∙ nets-here)

      pub own-stands : NetStands flat.grove (out-Wiring own).me (out-Wiring own).boss path (out-Wiring own).kids
      own-stands = subst (λ (w : Wiring). NetStands flat.grove (out-Wiring w).me (out-Wiring w).boss path (out-Wiring w).kids) (sym own-is) (net-here model flat place path net stands is at)

      pub own-named : AreNames (names (entries_of flat.grove (out-Wiring own).kids))
      own-named = subst (λ (w : Wiring). AreNames (names (entries_of flat.grove (out-Wiring w).kids))) (sym own-is) (kids-named model flat place path net stands is at)

      pub own-fits : AllByRecursion (FitsKid model) (shown flat.grove (out-Wiring own).kids)
      own-fits = subst (λ (w : Wiring). AllByRecursion (FitsKid model) (shown flat.grove (out-Wiring w).kids)) (sym own-is) (kids-fit model flat place path net stands is at)

      pub own-shown : shown flat.grove (out-Wiring own).kids ≡ (out-Net net).kids
      own-shown = ap (λ (w : Wiring). shown flat.grove (out-Wiring w).kids) own-is ∙ kids-are model flat place path net stands is at

      pub own-length : length (out-Wiring own).kids ≡ length (out-Net net).kids
      own-length = sym (length-map (out-Wiring own).kids (kid_under (value_of flat.grove))) ∙ ap length own-shown

      pub own-births : (room : ℕ) → flat.grove.next_birth + room + parts (tree_of flat) < 2 ^ 64 → flat.grove.next_birth + room + parts_of_kids (shown flat.grove (out-Wiring own).kids) < 2 ^ 64
      own-births room less = omega (arith, less, kids-few model flat place path net stands is at, ap parts_of_kids own-shown)

      -- the components at the place of the wiring
      pub kids-at : kids_at place whole ≡ (out-Wiring here).kids
      kids-at = kids-there place whole own nets ∙ ap (λ (w : Wiring). (out-Wiring w).kids) own-is
