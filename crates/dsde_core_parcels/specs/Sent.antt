-- What sources send, port by port.
use Rattle.std.specs.Prelude.{◌≡◌, ℕ, ◌==◌, ◌&&◌, Bool, true, if◌then◌else◌, slice_index_or, List, [], ◌∷◌}
use Rattle.std.specs.FinSet as set
use Rattle.std.specs.List.{IsDistinct}
use Rattle.std.specs.List.Sorted.{IsPermutation}
use Rattle.dsde_bank.specs.declared.handle.Handle.{Handle}
use Rattle.dsde_values.specs.declared.value.Value.{Value}
use Rattle.dsde_routes_wiring.specs.declared.row.Row.{Row}
use Rattle.dsde_routes_wiring.specs.Sets.{Rows}
use Rattle.dsde_routes_wiring.specs.Flatten.{flatten}
use Rattle.dsde_routes_wiring.specs.Wired.{HasOwnHandles, is_same_handle}
use Rattle.dsde_routes_wiring.specs.declared.wiring.Wiring.{Wiring}
use Rattle.dsde_routes_pushing.specs.Carried.{Traffic}
use Rattle.dsde_routes_pushing.specs.Fitting.{HavePorts}
use Rattle.dsde_core_parcels.specs.declared.parcel.Outlet.{Outlet}
use Rattle.dsde_core_parcels.specs.declared.parcel.Parcel.{Parcel}
use Rattle.dsde_core_parcels.specs.Parcels.{AreOrdered, ArePushed}

-- whether an outlet is this port
abbrev pub is_at : Handle → ℕ → Outlet → Bool
is_at source port outlet = is_same_handle source outlet.source && port == outlet.port

-- what comes out of a port
abbrev pub sent_at : List Outlet → Handle → ℕ → List Value
sent_at [] source port = []
sent_at (outlet ∷ outlets) source port = if is_at source port outlet then outlet.values else sent_at outlets source port

abbrev pub is_same_port : Outlet → Outlet → Bool
is_same_port one other = is_at one.source one.port other

-- Traffic has what comes out of these ports, each of them once, and no more.
pub record IsSentBy (traffic : Traffic) (outlets : List Outlet) : Type 0 where
  pub apart : IsDistinct is_same_port outlets
  pub values : (source : Handle) (port : ℕ) → slice_index_or (traffic.sent source) port [] ≡ sent_at outlets source port

-- Births tell the targets of rows apart.
abbrev pub TellTargets : Rows → Type 0
TellTargets table = (row other : Row) → set.contains table row ≡ true → set.contains table other ≡ true → row.target.birth ≡ other.target.birth → row.target ≡ other.target

-- whether a parcel is for a port of a target
abbrev pub is_for : Handle → ℕ → Parcel → Bool
is_for target port parcel = is_same_handle parcel.target target && parcel.port == port

-- Parcels are those of a wiring's traffic, in their order: what its sources send, pushed along its rows.
pub record AreParcels (traffic : Traffic) (wiring : Wiring) (parcels : List Parcel) : Type 0 where
  pub own : HasOwnHandles wiring
  pub have : HavePorts traffic wiring
  pub tell : TellTargets (flatten wiring)
  pub outlets : List Outlet
  pub sent : IsSentBy traffic outlets
  pub pushed : List Parcel
  pub are : ArePushed (flatten wiring) traffic.translate outlets pushed
  pub same : IsPermutation pushed parcels
  pub order : AreOrdered parcels
