-- What follows of a flat state for its traffic.
use Rattle.std.proofs.Common.{◌≡◌, ℕ, Bool, true, false, cond, List, [], ◌∷◌, Some, slice_get, refl, sym, ap, subst, ◌∙◌, arith}
use Rattle.std.specs.FinSet as set
use Rattle.std.specs.List.{AllByRecursion}
use Rattle.std.proofs.lemmas.Bool.Decides.{nat_tests}
use Rattle.dsde_bank.specs.declared.handle.Handle.{Handle}
use Rattle.dsde_syntax.specs.declared.decl.Model.{Model}
use Rattle.dsde_values.specs.declared.path.Path.{Path}
use Rattle.dsde_values.specs.Path.{root}
use Rattle.dsde_language.specs.DeclaredModels.{types_of, owns_of}
use Rattle.dsde_sim_tree.specs.given.formalism.leaf_Leaf.{Leaf}
use Rattle.dsde_sim_tree.specs.given.formalism.System.{Ports}
use Rattle.dsde_core_moves.specs.given.system.Program.{system}
use Rattle.dsde_core_moves.specs.given.system.Plans.{Cover, ways}
use Rattle.dsde_core_moves.specs.given.sound_structures.Carrying.{ReachCovers}
use Rattle.dsde_core_moves.specs.given.grove.Grove.{Grove, value_of}
use Rattle.dsde_sim_tree.specs.declared.sim.Net.{Net}
use Rattle.dsde_sim_tree.specs.declared.sim.Sim.{Sim}
use Rattle.dsde_sim_tree.specs.declared.sim.Sim.TheOpen as layer
use Rattle.dsde_sim_tree.specs.declared.sim.Sim.TheVariants as sim
use Rattle.dsde_sim_tree.specs.declared.sim.Sim.TheViews.{out-Sim, out-Net}
use Rattle.dsde_core_moves.specs.given.sim_starting.Fitting.{FitsBodySent, FitsNet, FitsTree}
use Rattle.dsde_core_moves.specs.given.sim_starting.lemmas_Fits.{net-tree}
use Rattle.dsde_routes_wiring.specs.declared.row.Row.{Row}
use Rattle.dsde_routes_wiring.specs.declared.wiring.Wiring.{Wiring}
use Rattle.dsde_routes_wiring.specs.declared.wiring.WiredKid.TheViews.{out-Wiring}
use Rattle.dsde_routes_wiring.specs.Flatten.{NetFlow, flatten, flow, rows, rows_at, sites}
use Rattle.dsde_routes_wiring.specs.Opened.{flow-opens}
use Rattle.dsde_routes_wiring.specs.Sets.{row_cmp, row_cmp-total, row_cmp-same}
use Rattle.dsde_routes_wiring.specs.Ways.{begin}
use Rattle.dsde_routes_wiring.specs.Wired.{HasOwnHandles, handles, is_same_handle}
use Rattle.dsde_routes_pushing.specs.Carried.{Traffic}
use Rattle.dsde_routes_pushing.specs.Fitting.{HavePorts}
use Rattle.dsde_routes_pushing.specs.lemmas.Lists.{Among, any-among, each-among}
use Rattle.dsde_routes_pushing.specs.Wire.{IsOf, IsTrafficOf, places, wired_net}
use Rattle.dsde_core_moves.specs.given.core_flat.spot_Spot.{Spot}
use Rattle.dsde_core_moves.specs.given.core_flat.spot_Spot_TheVariants as variant
use Rattle.dsde_core_moves.specs.given.core_flat.Places.{Place, part_places}
use Rattle.dsde_core_moves.specs.given.core_flat.Shown.{net_under}
use Rattle.dsde_core_moves.specs.given.core_flat.Named.{HasOwnNames}
use Rattle.dsde_core_moves.specs.given.core_flat.lemmas_Apart.{PathsApart, no-birth-twice, paths-apart}
use Rattle.dsde_core_moves.specs.given.core_flat.lemmas_Called.{net-itself}
use Rattle.dsde_core_moves.specs.given.core_flat.lemmas_Context.{out-Network}
use Rattle.dsde_core_moves.specs.given.core_flat.lemmas_Counting.{NoTwice, births}
use Rattle.dsde_core_moves.specs.given.core_flat.lemmas_Frame.{all-join}
use Rattle.dsde_core_moves.specs.given.core_flat.lemmas_Meeting.{tree-names}
use Rattle.dsde_core_parcels.specs.Traffic.{GoesToPort, IsCarrying, handle_in, sent_in, traffic_of}
use Rattle.dsde_core_parcels.specs.lemmas.TrafficHeld.{root-is-net}
use Rattle.dsde_core_parcels.proofs.Flowing.{SiteGoes, all-flat, each-goes}
use Rattle.dsde_core_parcels.proofs.Going.{begins}
use Rattle.dsde_core_parcels.proofs.Handling.{own-handles, tell-parts}
use Rattle.dsde_core_parcels.proofs.Placing.{each-of, sent-there}
use Rattle.dsde_core_parcels.proofs.Porting.{each-has}
use Rattle.dsde_core_parcels.proofs.Wiring.{IsTold, all-told, wiring-is}

itself : (handle : Handle) → is_same_handle handle handle ≡ true
itself handle = grind (arith, nat_tests)

module _ (model : Model) (own : Grove Spot) (top : Handle) (wiring : Wiring) (net : Net) (time : ℕ) (got : Ports) (carry : IsCarrying model own top wiring net time got) where
  abbrev ats : List Place
  ats = part_places top root (Some wiring)

  abbrev handle : Path → Handle
  handle = handle_in top wiring

  abbrev traffic : Traffic
  traffic = traffic_of (system model) own top time got

  apart : PathsApart ats
  apart = paths-apart (value_of own) top root (Some wiring) (subst HasOwnNames (sym carry.stands.shows) (tree-names (sim.Net net) carry.named))

  once : NoTwice (births ats)
  once = no-birth-twice own ats carry.stands.live apart

  told : AllByRecursion (IsTold handle) ats
  told = all-told ats apart

  shows : net_under (value_of own) wiring top ≡ net
  shows =
      let opened : layer.Net (net_under (value_of own) wiring top) ≡ layer.Net net = sym (out-Network (net_under (value_of own) wiring top)) ∙ ap out-Sim carry.stands.shows ∙ out-Network net in
      cc

  top-net : (leaf : Leaf) → value_of own top ≡ Some (variant.Leaf leaf) → ⊥
  top-net = root-is-net model own top wiring net time got carry

  -- the root has its handle
  pub root-is : handle root ≡ top
  root-is = told.0

  pub top-is : top ≡ (out-Wiring wiring).me
  top-is = (net-itself wiring top carry.stands.itself).0

  pub wired-is : wired_net handle net root ≡ wiring
  wired-is = ap (λ (own : Net). wired_net handle own root) (sym shows) ∙ wiring-is (value_of own) handle wiring top root told.0 carry.stands.itself told.1

  pub is-traffic : IsTrafficOf (system model) handle time traffic (sim.Net net) root
  is-traffic = record {
    translate = refl;
    each = subst (λ (tree : Sim). AllByRecursion (IsOf (system model) handle time traffic) (places tree root)) carry.stands.shows
        (each-of model own top time got carry.send top-net handle wiring top root told carry.stands.live);
  }

  pub has-own-handles : HasOwnHandles wiring
  has-own-handles = own-handles wiring top root top-is once

  fits : FitsNet model (net_under (value_of own) wiring top)
  fits = net-tree model (net_under (value_of own) wiring top) (subst (FitsTree model) (sym carry.stands.shows) carry.fits)

  pub have-ports : HavePorts traffic wiring
  have-ports = each-has model own traffic (λ at. refl) (λ at. refl) wiring top root carry.stands.itself carry.stands.live fits

  pub tell-targets : (one other : Handle) → Among one (handles wiring) → Among other (handles wiring) → one.birth ≡ other.birth → one ≡ other
  tell-targets = tell-parts wiring top root top-is once

  -- what came to the root is what is sent under its handle
  pub came : traffic.sent top ≡ got
  came = ap (λ (b : Bool). cond b got (sent_in (system model) time (value_of own top))) (itself top)

  module _ (covers : ReachCovers) where
    body-sent : (at : Handle) (leaf : Leaf) → value_of own at ≡ Some (variant.Leaf leaf) → FitsBodySent model leaf.model.0 (traffic.sent at)
    body-sent at leaf held = subst (FitsBodySent model leaf.model.0) (sym (sent-there model own top time got carry.send top-net at leaf held)) (carry.send at leaf held).fits

    root-part : (flow wiring).out.part ≡ top
    root-part = ap (λ (own : NetFlow). own.out.part) (flow-opens wiring) ∙ sym top-is

    root-cover : Cover (types_of model) (ways model carry.come.own false) (traffic.sent (flow wiring).out.part)
    root-cover =
        subst (Cover (types_of model) (ways model carry.come.own false)) (sym (ap traffic.sent root-part ∙ came))
        (covers (types_of model) (ways model carry.come.own false) got carry.come.reach)

    sites-go : AllByRecursion (SiteGoes model own traffic.sent body-sent) (sites wiring)
    sites-go =
        let goes = each-goes model own traffic.sent body-sent wiring top root carry.stands.live.1 fits in
        let found : slice_get (owns_of model.decls) (out-Net (net_under (value_of own) wiring top)).model.0 ≡ Some carry.come.own =
        ap (λ (own : Net). slice_get (owns_of model.decls) (out-Net own).model.0) shows ∙ carry.come.found in
        let first = (flow wiring).sites (begin (flow wiring).out.part) in
        all-join (SiteGoes model own traffic.sent body-sent) first ((flow wiring).out ∷ [])
        (goes.sites carry.come.own found (begin (flow wiring).out.part) (begins model traffic.sent (flow wiring).out.part (ways model carry.come.own false) root-cover))
        (goes.out (λ leaf held. top-net leaf (ap (value_of own) (sym root-part) ∙ held)), tt)

    -- what the sources of the rows give goes along them
    pub row-goes : (row : Row) → set.contains (flatten wiring) row ≡ true → GoesToPort model own traffic.sent row
    row-goes row there =
        each-among (GoesToPort model own traffic.sent) (rows wiring) row (all-flat (GoesToPort model own traffic.sent) rows_at (sites wiring) sites-go)
        (any-among row_cmp row_cmp-total row_cmp-same row (rows wiring) (sym (set.contains-from_list row_cmp-total (rows wiring) row) ∙ there))
