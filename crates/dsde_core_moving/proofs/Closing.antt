-- A network that has changed its structure: the tree that lies in the grove is the one with the changed network.
use Rattle.std.proofs.Common.{◌≡◌, ◌↔◌, ℕ, true, List, [], ◌∷◌, ◌++◌, map, Option, Some, Ok, Err, refl, sym, ap, subst, ◌∙◌}
use Rattle.std.specs.Prelude.{IsPermutation}
use Rattle.std.specs.List.{AllByRecursion, IsDistinct}
use Rattle.std.proofs.lemmas.List.Sorted.{IsPermutation-map}
use Rattle.dsde_bank.specs.declared.handle.Handle.{Handle}
use Rattle.dsde_values.specs.declared.name.Name.{Name}
use Rattle.dsde_values.specs.declared.path.Path.{Path}
use Rattle.dsde_values.specs.Path.{root}
use Rattle.dsde_syntax.specs.declared.decl.Model.{Model}
use Rattle.dsde_sim_starting.specs.given.executive.Structure.{IsPlan}
use Rattle.dsde_structure.specs.declared.plan.Entry.{Entry}
use Rattle.dsde_structure.specs.declared.plan.Plan.{Plan}
use Rattle.dsde_structure.specs.Gather.{is_same_name}
use Rattle.dsde_structure.specs.Survival.{fresh, names, roles, survives as stays, AreInOrder, StaysAs}
use Rattle.dsde_sim_starting.specs.given.system.Program.{system}
use Rattle.dsde_sim_tree.specs.declared.event.Event.{Event}
use Rattle.dsde_sim_tree.specs.declared.fault.TurnEnd.{TurnEnd}
use Rattle.dsde_sim_tree.specs.Told.{Told, told, ◌then◌, Tells}
use Rattle.dsde_grove.specs.Grove.{Grove, IsTree, value_of}
use Rattle.dsde_queue.specs.Queue.{Queue}
use Rattle.dsde_sim_tree.specs.declared.sim.Kid.{Kid}
use Rattle.dsde_sim_tree.specs.declared.sim.Net.{Net}
use Rattle.dsde_sim_tree.specs.declared.sim.Sim.{Sim}
use Rattle.dsde_sim_tree.specs.declared.sim.Sim.TheVariants as sim
use Rattle.dsde_sim_tree.specs.declared.sim.Sim.TheOpen.{Net-F}
use Rattle.dsde_sim_tree.specs.declared.sim.Sim.TheViews.{out-Net, out-roll-Net}
use Rattle.dsde_sim_tree.specs.Spots.{spots}
use Rattle.dsde_sim_tree.specs.Start.{net_of}
use Rattle.dsde_sim_tree.specs.Tree.{entry_of, started_as, name_of as kid_name}
use Rattle.dsde_sim_tree.specs.Move.{change, kept, survives}
use Rattle.dsde_sim_movers.specs.lemmas.Opened.{args-Net, model-Net}
use Rattle.dsde_sim_starting.specs.Fitting.{FitsKid, FitsLinks, FitsNet, FitsSpot}
use Rattle.dsde_sim_starting.specs.lemmas.Fits.{tree-net}
use Rattle.dsde_sim_starting.specs.lemmas.Roles.{links-by-roles}
use Rattle.dsde_sim_starting.proofs.Made.{net-of-fits, plan-links}
use Rattle.dsde_sim_changing.proofs.Keeping.{each-filter}
use Rattle.dsde_sim_movers.specs.Movers.{path_behind}
use Rattle.dsde_sim_movers.specs.Parts.{part_at, with_part}
use Rattle.dsde_sim_movers.specs.lemmas.Spotting.{spots-with, IsAlike}
use Rattle.dsde_routes_wiring.specs.declared.wiring.Wiring.{Wiring}
use Rattle.dsde_routes_wiring.specs.declared.wiring.WiredKid.{WiredKid}
use Rattle.dsde_routes_wiring.specs.Flatten.{flatten}
use Rattle.dsde_routes_wiring.specs.Places.{staying}
use Rattle.dsde_routes_wiring.specs.Sets.{Rows}
use Rattle.dsde_repair.proofs.Ordered.{each-ordered}
use Rattle.dsde_repair_walks.specs.Found.{name_of, InOrder}
use Rattle.dsde_core_moves.specs.given.core_flat.spot_Spot.{Spot}
use Rattle.dsde_core_moves.specs.given.core_flat.Change.{wired_with, wiring_of}
use Rattle.dsde_core_moves.specs.given.core_flat.Shown.{kid_under}
use Rattle.dsde_core_moves.specs.given.core_flat.Stands.{ChangesBeneath, NetStands, StandsFor}
use Rattle.dsde_core_moves.specs.given.core_flat.lemmas_Frame.{all-join}
use Rattle.dsde_core_moves.specs.given.core_flat.lemmas_Executive.{executive-closes}
use Rattle.dsde_core_moves.specs.Chosen.{shown}
use Rattle.dsde_core_moves.specs.lemmas.Seen.{seen-err, seen-ok}
use Rattle.dsde_core_moves.specs.Compared.{entries_of}
use Rattle.dsde_core_moving.specs.Placed.{placed}
use Rattle.dsde_core_moving.proofs.Permuted.{placed-are, placed-in-order, placed-roles}
use Rattle.dsde_core_moves.specs.declared.flat.Flat.{Flat}
use Rattle.dsde_core_moves.specs.Flat.{tree_of, Stands}
use Rattle.dsde_core_moving.specs.Restructured.{restructured}
use Rattle.dsde_core_moving.proofs.Opening.{boss, boss-value, kids, kids-are, kids-fit, kids-named, me, named, net-value, none, path-is, shape, there}
use Rattle.dsde_core_moving.proofs.Permuting.{names-differ, names-shown, net-permuted, shown-join}

each-mapped : {X Y : Type 0} (f : X → Y) (P : Y → Type 0) (xs : List X) → AllByRecursion P (map f xs) → AllByRecursion (λ x. P (f x)) xs
each-mapped f P [] all = tt
each-mapped f P (x ∷ xs) all = (all.0, each-mapped f P xs all.1)

mapped-each : {X Y : Type 0} (f : X → Y) (P : Y → Type 0) (xs : List X) → AllByRecursion (λ x. P (f x)) xs → AllByRecursion P (map f xs)
mapped-each f P [] all = tt
mapped-each f P (x ∷ xs) all = (all.0, mapped-each f P xs all.1)

module _ (model : Model) (flat : Flat) (place : List Name) (path : Path) (net : Net) (stands : Stands model flat) (is : part_at place (tree_of flat) ≡ Some (sim.Net net)) (at : path ≡ path_behind root place)
    (plan : Plan) (is_plan : IsPlan model (out-Net net).model.0 plan) where
  abbrev tree : Sim
  tree = tree_of flat

  abbrev old_kids : List WiredKid
  old_kids = kids model flat place path net stands is at

  abbrev old_shown : List Kid
  old_shown = shown flat.grove old_kids

  abbrev handle : Handle
  handle = me model flat place path net stands is at

  abbrev last : Handle
  last = boss model flat place path net stands is at

  abbrev step : ℕ → ℕ → Told (Sim × ℕ)
  step time room = restructured (system model) tree place path net time room plan

  abbrev changes_it : ℕ → ℕ → Told (List Kid × ℕ)
  changes_it time room = change (system model) plan.entries old_shown path time room

  abbrev as_net : List Kid × ℕ → Net × ℕ
  as_net changed = (net_of (out-Net net).model (out-Net net).args (out-Net net).boss changed.0 plan.links, changed.1)

  abbrev as_tree : Net × ℕ → Sim × ℕ
  as_tree after = (with_part place (sim.Net after.0) tree, after.1)

  step-is : (time room : ℕ) → step time room ≡ ((changes_it time room then (λ changed. told [] (as_net changed))) then (λ after. told [] (as_tree after)))
  step-is time room = ap (λ (ks : List Kid). (change (system model) plan.entries ks path time room then (λ changed. told [] (as_net changed))) then (λ after. told [] (as_tree after))) (sym (kids-are model flat place path net stands is at))

  -- what the change tells is told of the tree
  pub told-ok : (time room : ℕ) (old new : List Event) (changed : List Kid × ℕ) → Tells (changes_it time room) old new (Ok changed) → Tells (step time room) old new (Ok (as_tree (as_net changed)))
  told-ok time room old new changed tells =
      subst (λ (s : Told (Sim × ℕ)). Tells s old new (Ok (as_tree (as_net changed)))) (sym (step-is time room))
      (seen-ok (changes_it time room then (λ c. told [] (as_net c))) as_tree old new (as_net changed) (seen-ok (changes_it time room) as_net old new changed tells))

  pub told-err : (time room : ℕ) (old new : List Event) (end : TurnEnd) → Tells (changes_it time room) old new (Err end) → Tells (step time room) old new (Err end)
  told-err time room old new end tells =
      subst (λ (s : Told (Sim × ℕ)). Tells s old new (Err end)) (sym (step-is time room))
      (seen-err (changes_it time room then (λ c. told [] (as_net c))) as_tree old new end (seen-err (changes_it time room) as_net old new end tells))

  module _ (new : Grove Spot) (gone_names : List Name) (fresh_kids : List WiredKid)
      (stands_new : NetStands new handle last path (staying gone_names old_kids ++ fresh_kids))
      (stay : shown new (staying gone_names old_kids) ≡ kept plan.entries old_shown)
      (are : map entry_of (shown new fresh_kids) ≡ map started_as (fresh (entries_of flat.grove old_kids) plan.entries))
      (fits_fresh : AllByRecursion (FitsKid model) (shown new fresh_kids)) where
    abbrev new_kids : List WiredKid
    new_kids = staying gone_names old_kids ++ fresh_kids

    abbrev all : List Kid
    all = placed plan.entries (kept plan.entries old_shown) (shown new fresh_kids)

    joined : shown new new_kids ≡ kept plan.entries old_shown ++ shown new fresh_kids
    joined = shown-join new (staying gone_names old_kids) fresh_kids ∙ ap (λ (ks : List Kid). ks ++ shown new fresh_kids) stay

    placed_facts : IsPermutation (kept plan.entries old_shown ++ shown new fresh_kids) all × (map kid_name all ≡ names plan.entries)
    placed_facts = placed-are plan.entries old_shown (shown new fresh_kids) is_plan.fits.order (kids-named model flat place path net stands is at).order are

    -- the names of the components after the change differ
    pub kids-differ : IsDistinct is_same_name (map name_of new_kids)
    kids-differ = names-differ new new_kids all plan.entries is_plan.fits.order placed_facts.1 (subst (λ (ks : List Kid). IsPermutation ks all) (sym joined) placed_facts.0)

    module _ (after : List WiredKid) (same : IsPermutation new_kids after) (in_order : InOrder after) where
      shows-after : shown new after ≡ all
      shows-after =
          placed-in-order plan.entries old_shown (shown new fresh_kids) (shown new after) is_plan.fits.order (kids-named model flat place path net stands is at).order are
          (subst (λ (ks : List Kid). IsPermutation ks (shown new after)) joined (IsPermutation-map (kid_under (value_of new)) new_kids after same))
          (subst AreInOrder (sym (names-shown new after)) in_order)

      abbrev net_after : Net
      net_after = net_of (out-Net net).model (out-Net net).args (out-Net net).boss (shown new after) plan.links

      fits-kids : AllByRecursion (FitsKid model) (shown new after)
      fits-kids =
          let look = kid_under (value_of new) in
          let kept_fit = each-filter (FitsKid model) (survives plan.entries) old_shown (kids-fit model flat place path net stands is at) in
          let both : AllByRecursion (FitsKid model) (shown new new_kids) = subst (AllByRecursion (FitsKid model)) (sym joined) (all-join (FitsKid model) (kept plan.entries old_shown) (shown new fresh_kids) kept_fit fits_fresh) in
          mapped-each look (FitsKid model) after (each-ordered (λ kid. FitsKid model (look kid)) new_kids after same (each-mapped look (FitsKid model) new_kids both))

      fits-after : ((old new : Entry) → (stays old new ≡ true) ↔ StaysAs old new) → FitsNet model net_after
      fits-after exact =
          let own = shape model flat place path net stands is at in
          let kids_are : roles plan.entries ≡ roles (map entry_of (shown new after)) =
          sym (placed-roles exact plan.entries old_shown (shown new fresh_kids) is_plan.fits.order (kids-named model flat place path net stands is at).order are) ∙ ap (λ (ks : List Kid). roles (map entry_of ks)) (sym shows-after) in
          let links_fit : FitsLinks model (out-Net net).model (map entry_of (shown new after)) plan.links =
          links-by-roles model plan.entries (map entry_of (shown new after)) kids_are (out-Net net).model plan.links (plan-links model (out-Net net).model plan own.links.network is_plan) in
          net-of-fits (out-Net net).model (out-Net net).args (out-Net net).boss (shown new after) plan.links net_after refl model own.args own.boss own.boss_is fits-kids links_fit

      opened-after : out-Net net_after ≡ record { model = (out-Net net).model; args = (out-Net net).args; boss = (out-Net net).boss; kids = shown new after; links = plan.links }
      opened-after = out-roll-Net (record { model = (out-Net net).model; args = (out-Net net).args; boss = (out-Net net).boss; kids = shown new after; links = plan.links })

      alike : IsAlike (sim.Net net_after) (sim.Net net)
      alike = record {
        model = model-Net net_after ∙ ap (λ (n : Net-F Sim Kid Net). n.model) opened-after ∙ sym (model-Net net);
        args = args-Net net_after ∙ ap (λ (n : Net-F Sim Kid Net). n.args) opened-after ∙ sym (args-Net net);
      }

      module _ (changes : ChangesBeneath path.names flat.grove new) (itself : value_of new handle ≡ value_of flat.grove handle) (executive : value_of new last ≡ value_of flat.grove last) where
        closed : StandsFor new flat.root (wired_with place (λ own. Some (wiring_of handle last plan.links after)) flat.wiring) (with_part place (sim.Net net_after) tree)
        closed =
            let here = there model flat place path net stands is at in
            executive-closes flat.grove new flat.root flat.wiring tree place net handle (out-Net net).model (out-Net net).args (out-Net net).boss plan.links after stands.stands (named model flat place path net stands is at) (none model flat place path net stands is at) here
            (subst (λ (p : Path). ChangesBeneath p.names flat.grove new) at changes) here.itself
            (subst (λ (h : Handle). NetStands new h last here.path after) (sym here.itself)
            (subst (λ (p : Path). NetStands new handle last p after) (sym (path-is model flat place path net stands is at)) (net-permuted new handle last path new_kids after same stands_new)))
            (ap (value_of new) here.itself ∙ itself ∙ net-value model flat place path net stands is at)
            (executive ∙ boss-value model flat place path net stands is at)

        module _ (whole rewired : Wiring) (queue : Queue) (rows : Rows) (was : flat.wiring ≡ Some whole) (alike_wiring : Some rewired ≡ wired_with place (λ own. Some (wiring_of handle last plan.links after)) (Some whole)) where
          abbrev next : Flat
          next = record { root = flat.root; grove = new; queue = queue; rows = rows; wiring = Some rewired }

          wiring-is : wired_with place (λ own. Some (wiring_of handle last plan.links after)) flat.wiring ≡ Some rewired
          wiring-is = ap (wired_with place (λ own. Some (wiring_of handle last plan.links after))) was ∙ sym alike_wiring

          stands-whole : StandsFor new flat.root (Some rewired) (with_part place (sim.Net net_after) tree)
          stands-whole = subst (λ (w : Option Wiring). StandsFor new flat.root w (with_part place (sim.Net net_after) tree)) wiring-is closed

          -- the tree is the one with the changed network
          pub tree-after : tree_of next ≡ with_part place (sim.Net (net_of (out-Net net).model (out-Net net).args (out-Net net).boss all plan.links)) tree
          tree-after = stands-whole.shows ∙ ap (λ (ks : List Kid). with_part place (sim.Net (net_of (out-Net net).model (out-Net net).args (out-Net net).boss ks plan.links)) tree) shows-after

          pub stands-after : ((old new : Entry) → (stays old new ≡ true) ↔ StaysAs old new) → IsTree new → rows ≡ flatten rewired → Stands model next
          stands-after exact is_tree rows_are = record {
            stands = subst (StandsFor new flat.root (Some rewired)) (sym stands-whole.shows) stands-whole;
            fits = record {
              all = subst (λ (t : Sim). AllByRecursion (FitsSpot model) (spots t)) (sym stands-whole.shows)
                  (spots-with (FitsSpot model) place (sim.Net net_after) (sim.Net net) tree stands.fits.all is (tree-net model net_after (fits-after exact)).all alike);
            };
            tree = is_tree;
            rows = rows_are;
          }
