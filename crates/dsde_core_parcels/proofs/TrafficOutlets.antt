-- What comes out of the ports of a flat state's sources goes along the rows from there.
use Rattle.std.proofs.Common.{◌≡◌, ℕ, true, ◌==◌, ◌&&◌, List, [], slice_index_or, subst, ◌∙◌, arith}
use Rattle.std.specs.FinSet as set
use Rattle.std.specs.List.{AllByRecursion}
use Rattle.std.proofs.lemmas.Bool.Decides.{nat_tests}
use Rattle.dsde_bank.specs.declared.handle.Handle.{Handle}
use Rattle.dsde_syntax.specs.declared.decl.Model.{Model}
use Rattle.dsde_language.specs.DeclaredModels.{types_of}
use Rattle.dsde_sim_tree.specs.given.formalism.System.{Ports}
use Rattle.dsde_core_moves.specs.given.system.Program.{system}
use Rattle.dsde_core_moves.specs.given.system.Fitting.{AreOf}
use Rattle.dsde_core_moves.specs.given.grove.Grove.{Grove}
use Rattle.dsde_routes_wiring.specs.declared.row.Row.{Row}
use Rattle.dsde_routes_wiring.specs.declared.wiring.Wiring.{Wiring}
use Rattle.dsde_routes_wiring.specs.Flatten.{flatten}
use Rattle.dsde_routes_wiring.specs.Wired.{is_same_handle}
use Rattle.dsde_routes_pushing.specs.lemmas.Handles.{both-true, same-handle, same-number}
use Rattle.dsde_routes_pushing.specs.lemmas.Lists.{Among, all-from}
use Rattle.dsde_core_moves.specs.given.core_flat.spot_Spot.{Spot}
use Rattle.dsde_core_parcels.specs.declared.parcel.Outlet.{Outlet}
use Rattle.dsde_core_parcels.specs.Parcels.{GoFrom}
use Rattle.dsde_core_parcels.specs.Sent.{IsSentBy, is_at}
use Rattle.dsde_core_parcels.specs.lemmas.Sending.{sent-here}
use Rattle.dsde_core_parcels.specs.Traffic.{GoesToPort, traffic_of}

at-itself : (outlet : Outlet) → is_at outlet.source outlet.port outlet ≡ true
at-itself outlet = itself outlet.source outlet.port
  where
    itself : (handle : Handle) (port : ℕ) → (is_same_handle handle handle && port == port) ≡ true
    itself handle port = grind (arith, nat_tests)

module _ (model : Model) (own : Grove Spot) (top : Handle) (wiring : Wiring) (time : ℕ) (got : Ports) (outlets : List Outlet) (sent : IsSentBy (traffic_of (system model) own top time got) outlets)
    (goes : (row : Row) → set.contains (flatten wiring) row ≡ true → GoesToPort model own (traffic_of (system model) own top time got).sent row) where
  outlet-goes : (outlet : Outlet) → Among outlet outlets → GoFrom model (flatten wiring) outlet
  outlet-goes outlet among row there is =
      let both = both-true (is_same_handle row.source outlet.source) (row.source_port == outlet.port) is in
      let its = goes row there in
      let source : row.source ≡ outlet.source = same-handle row.source outlet.source both.0 in
      let port : row.source_port ≡ outlet.port = same-number row.source_port outlet.port both.1 in
      let values : slice_index_or ((traffic_of (system model) own top time got).sent row.source) row.source_port [] ≡ outlet.values =
      (λ i. slice_index_or ((traffic_of (system model) own top time got).sent (source i)) (port i) [])
      ∙ sent.values outlet.source outlet.port
      ∙ sent-here outlets outlet.source outlet.port outlet sent.apart among (at-itself outlet) in
      record { from = its.from; to = its.to; takes = its.takes; typed = subst (AreOf (types_of model) its.from) values its.typed }

  pub outlets-go : AllByRecursion (GoFrom model (flatten wiring)) outlets
  outlets-go = all-from (GoFrom model (flatten wiring)) outlets outlet-goes
