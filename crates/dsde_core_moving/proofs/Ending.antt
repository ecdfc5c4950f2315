-- What the change of a network's structure comes to where it lies.
use Rattle.std.proofs.Common.{◌≡◌, ◌↔◌, ℕ, ◌+◌, true, List, [], ◌∷◌, ◌++◌, map, Option, Some, Result, Ok, Err, sym, ap, subst, ◌∙◌}
use Rattle.std.specs.Prelude.{IsPermutation}
use Rattle.std.specs.List.{AllByRecursion, IsDistinct}
use Rattle.dsde_bank.specs.declared.handle.Handle.{Handle}
use Rattle.dsde_values.specs.declared.name.Name.{Name}
use Rattle.dsde_values.specs.declared.path.Path.{Path}
use Rattle.dsde_values.specs.Path.{root}
use Rattle.dsde_syntax.specs.declared.decl.Model.{Model}
use Rattle.dsde_sim_starting.specs.given.executive.Structure.{IsPlan}
use Rattle.dsde_structure.specs.declared.plan.Entry.{Entry}
use Rattle.dsde_structure.specs.declared.plan.Link.{Link}
use Rattle.dsde_structure.specs.declared.plan.Plan.{Plan}
use Rattle.dsde_structure.specs.Gather.{is_same_name}
use Rattle.dsde_structure.specs.Survival.{survives as stays, StaysAs}
use Rattle.dsde_sim_starting.specs.given.system.Program.{system}
use Rattle.dsde_sim_tree.specs.declared.event.Event.{Event}
use Rattle.dsde_sim_tree.specs.declared.fault.TurnEnd.{TurnEnd}
use Rattle.dsde_sim_tree.specs.Told.{Tells}
use Rattle.dsde_grove.specs.Grove.{Grove, IsTree}
use Rattle.dsde_queue.specs.Queue.{Queue}
use Rattle.dsde_sim_tree.specs.declared.sim.Kid.{Kid}
use Rattle.dsde_sim_tree.specs.declared.sim.Net.{Net}
use Rattle.dsde_sim_tree.specs.declared.sim.Sim.{Sim}
use Rattle.dsde_sim_tree.specs.declared.sim.Sim.TheVariants as sim
use Rattle.dsde_sim_tree.specs.declared.sim.Sim.TheViews.{out-Net}
use Rattle.dsde_sim_tree.specs.Start.{net_of}
use Rattle.dsde_sim_tree.specs.Move.{change, kept}
use Rattle.dsde_sim_starting.specs.Fitting.{FitsKid}
use Rattle.dsde_sim_movers.specs.Movers.{path_behind}
use Rattle.dsde_sim_movers.specs.Parts.{part_at, with_part}
use Rattle.dsde_routes_wiring.specs.declared.wiring.Wiring.{Wiring}
use Rattle.dsde_routes_wiring.specs.declared.wiring.WiredKid.{WiredKid}
use Rattle.dsde_routes_wiring.specs.declared.wiring.WiredKid.TheViews.{out-Wiring}
use Rattle.dsde_routes_wiring.specs.Flatten.{flatten}
use Rattle.dsde_routes_wiring.specs.Places.{nets_at, staying}
use Rattle.dsde_routes_wiring.specs.Routes.{routes}
use Rattle.dsde_routes_wiring.specs.Sets.{Rows}
use Rattle.dsde_routes_wiring.specs.Touched.{handles_of, is_touched}
use Rattle.dsde_repair_walks.specs.Bounds.{count}
use Rattle.dsde_repair.specs.Change.{kids_after, wiring_after}
use Rattle.dsde_repair_walks.specs.Found.{name_of, InOrder}
use Rattle.dsde_repair_walks.proofs.Finding.{some-one}
use Rattle.dsde_core_moves.specs.given.core_flat.spot_Spot.{Spot}
use Rattle.dsde_core_moves.specs.given.core_flat.Change.{found, wired_with, wiring_of}
use Rattle.dsde_core_moves.specs.given.core_flat.Stands.{ChangesBeneath}
use Rattle.dsde_core_moves.specs.Chosen.{shown}
use Rattle.dsde_core_moving.specs.Placed.{placed}
use Rattle.dsde_core_moves.specs.declared.flat.Flat.{Flat}
use Rattle.dsde_core_moves.specs.Flat.{tree_of, Stands}
use Rattle.dsde_core_moving.specs.Restructured.{restructured, with_room}
use Rattle.dsde_core_moving.proofs.Closing.{kids-differ, stands-after, told-err, told-ok, tree-after}
use Rattle.dsde_core_moving.proofs.Working.{found-is, here, kids-at, own-is, HasChanged, LeadsAlike}

-- with other components and links where names lead, a wiring is the one that has another network there
abbrev pub ChangesAlike : Type 0
ChangesAlike = (names : List Name) (top handle : Handle) (path : Path) (wiring net : Wiring) (kids : List WiredKid) (links : List Link) → found names top root (Some wiring) ≡ record { handle = handle; path = path; own = Some net } ∷ [] →
    Some (wiring_after names kids links wiring) ≡ wired_with names (λ was. Some (wiring_of (out-Wiring net).me (out-Wiring net).boss links kids)) (Some wiring)

-- what ends is a fault, whatever stands then
pub with-end : (flat : Flat) (result : Result ℕ TurnEnd) (end : TurnEnd) → result ≡ Err end → with_room flat result ≡ Err end
with-end flat result end is = ap (with_room flat) is

-- so many changes there were of rows that go with the change of a network
abbrev pub HasTouched : Wiring → Wiring → Wiring → ℕ → ℕ → Type 0
HasTouched before after net old new = new ≡ old + count (is_touched (out-Wiring net).me (handles_of after)) (routes before) + count (is_touched (out-Wiring net).me (handles_of before)) (routes after)

pub touched-by : (place : List Name) (wiring : Option Wiring) (whole rewired before after net : Wiring) (old new : ℕ) → wiring ≡ Some whole → ((own : Wiring) → nets_at place whole ≡ own ∷ [] → HasTouched whole rewired own old new) →
    wiring ≡ Some before → nets_at place before ≡ net ∷ [] → Some rewired ≡ Some after → HasTouched before after net old new
touched-by place wiring whole rewired before after net old new was touched is nets becomes =
    let here : (own : Wiring) → nets_at place before ≡ own ∷ [] → HasTouched before rewired own old new =
    subst (λ (w : Wiring). (own : Wiring) → nets_at place w ≡ own ∷ [] → HasTouched w rewired own old new) (some-one whole before (sym was ∙ is)) touched in
    subst (λ (w : Wiring). HasTouched before w net old new) (some-one rewired after becomes) (here net nets)

module _ (model : Model) (flat : Flat) (place : List Name) (path : Path) (net : Net) (stands : Stands model flat) (is : part_at place (tree_of flat) ≡ Some (sim.Net net)) (at : path ≡ path_behind root place)
    (plan : Plan) (is_plan : IsPlan model (out-Net net).model.0 plan) (whole : Wiring) (was : flat.wiring ≡ Some whole) (leads : LeadsAlike) (own : Wiring) (nets : nets_at place whole ≡ own ∷ []) where
  abbrev same : own ≡ here model flat place path net stands is at
  same = own-is model flat place path net stands is at whole was leads own nets

  abbrev old_kids : List WiredKid
  old_kids = (out-Wiring (here model flat place path net stands is at)).kids

  -- a fault of the change is one of the whole
  pub told-end : (time room : ℕ) (old new : List Event) (end : TurnEnd) → Tells (change (system model) plan.entries (shown flat.grove (out-Wiring own).kids) path time room) old new (Err end) →
      Tells (restructured (system model) (tree_of flat) place path net time room plan) old new (Err end)
  told-end time room old new end tells =
      told-err model flat place path net stands is at plan is_plan time room old new end
      (subst (λ (w : Wiring). Tells (change (system model) plan.entries (shown flat.grove (out-Wiring w).kids) path time room) old new (Err end)) same tells)

  module _ (grove : Grove Spot) (gone gone_names : List Name) (gone_are : gone_names ≡ gone) (fresh_kids : List WiredKid) (rest : ℕ) (now : HasChanged flat.grove grove path plan.entries gone fresh_kids own) (fits_fresh : AllByRecursion (FitsKid model) (shown grove fresh_kids)) where
    moved : HasChanged flat.grove grove path plan.entries gone_names fresh_kids (here model flat place path net stands is at)
    moved =
        subst (λ (w : Wiring). HasChanged flat.grove grove path plan.entries gone_names fresh_kids w) same
        (subst (λ (ns : List Name). HasChanged flat.grove grove path plan.entries ns fresh_kids own) (sym gone_are) now)

    abbrev all : List Kid
    all = placed plan.entries (kept plan.entries (shown flat.grove old_kids)) (shown grove fresh_kids)

    abbrev tree : Sim
    tree = with_part place (sim.Net (net_of (out-Net net).model (out-Net net).args (out-Net net).boss all plan.links)) (tree_of flat)

    -- the change is told
    pub told-changed : (time room : ℕ) (old new : List Event) →
        Tells (change (system model) plan.entries (shown flat.grove (out-Wiring own).kids) path time room) old new (Ok (placed plan.entries (kept plan.entries (shown flat.grove (out-Wiring own).kids)) (shown grove fresh_kids), rest)) →
        Tells (restructured (system model) (tree_of flat) place path net time room plan) old new (Ok (tree, rest))
    told-changed time room old new tells =
        told-ok model flat place path net stands is at plan is_plan time room old new (all, rest)
        (subst (λ (w : Wiring). Tells (change (system model) plan.entries (shown flat.grove (out-Wiring w).kids) path time room) old new (Ok (placed plan.entries (kept plan.entries (shown flat.grove (out-Wiring w).kids)) (shown grove fresh_kids), rest))) same tells)

    -- the names of its components then differ
    pub names-apart : IsDistinct is_same_name (map name_of (kids_after place gone_names fresh_kids whole))
    names-apart =
        subst (λ (kids : List WiredKid). IsDistinct is_same_name (map name_of (staying gone_names kids ++ fresh_kids))) (sym (kids-at model flat place path net stands is at whole was leads own nets))
        (kids-differ model flat place path net stands is at plan is_plan grove gone_names fresh_kids moved.stands moved.stay moved.are fits_fresh)

    module _ (alike : ChangesAlike) (links : List Link) (links_are : links ≡ plan.links) (after : List WiredKid) (permuted : IsPermutation (kids_after place gone_names fresh_kids whole) after) (in_order : InOrder after)
        (rewired : Wiring) (is_rewired : rewired ≡ wiring_after place after links whole) (changes : ChangesBeneath path.names flat.grove grove) (queue : Queue) (rows : Rows) where
      abbrev next : Flat
      next = record { root = flat.root; grove = grove; queue = queue; rows = rows; wiring = Some rewired }

      permuted-here : IsPermutation (staying gone_names old_kids ++ fresh_kids) after
      permuted-here = subst (λ (kids : List WiredKid). IsPermutation (staying gone_names kids ++ fresh_kids) after) (kids-at model flat place path net stands is at whole was leads own nets) permuted

      rewired-is : Some rewired ≡ wired_with place (λ own. Some (wiring_of (out-Wiring (here model flat place path net stands is at)).me (out-Wiring (here model flat place path net stands is at)).boss plan.links after)) (Some whole)
      rewired-is =
          ap (λ (w : Wiring). let o : Option Wiring = Some w in o) (is_rewired ∙ ap (λ (ls : List Link). wiring_after place after ls whole) links_are)
          ∙ alike place flat.root _ _ whole (here model flat place path net stands is at) after plan.links (found-is model flat place path net stands is at whole was leads)

      tree-done : tree_of next ≡ tree
      tree-done =
          tree-after model flat place path net stands is at plan is_plan grove gone_names fresh_kids moved.stands moved.stay moved.are fits_fresh after permuted-here in_order changes moved.itself moved.executive whole rewired queue rows was rewired-is

      pub told-done : (time room : ℕ) (old new : List Event) →
          Tells (change (system model) plan.entries (shown flat.grove (out-Wiring own).kids) path time room) old new (Ok (placed plan.entries (kept plan.entries (shown flat.grove (out-Wiring own).kids)) (shown grove fresh_kids), rest)) →
          Tells (restructured (system model) (tree_of flat) place path net time room plan) old new (with_room next (Ok rest))
      told-done time room old new tells =
          subst (λ (t : Sim). Tells (restructured (system model) (tree_of flat) place path net time room plan) old new (Ok (t, rest))) (sym tree-done) (told-changed time room old new tells)

      pub stands-done : ((old new : Entry) → (stays old new ≡ true) ↔ StaysAs old new) → IsTree grove → rows ≡ flatten rewired → Stands model next
      stands-done exact is_tree rows_are =
          stands-after model flat place path net stands is at plan is_plan grove gone_names fresh_kids moved.stands moved.stay moved.are fits_fresh after permuted-here in_order changes moved.itself moved.executive whole rewired queue rows was rewired-is exact is_tree rows_are
