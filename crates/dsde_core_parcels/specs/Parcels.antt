-- What sources send, pushed along the rows of a table. This project's profile.
use Rattle.std.specs.Prelude.{◌≡◌, ◌↔◌, true, List, [], ◌∷◌, ◌++◌, Option, Contains, IfSome}
use Rattle.std.specs.FinSet as set
use Rattle.std.specs.List.{filter_map, flat_map}
use Rattle.std.specs.List.Sorted.{IsSortedBy}
use Rattle.std.specs.Ordering.{is_lt, nat_cmp, on, then_cmp}
use Rattle.std.specs.Cmp.Lexicographic.{slice_cmp}
use Rattle.std.specs.declared.cmp.Ordering.{Ordering}
use Rattle.dsde_syntax.specs.declared.decl.Model.{Model}
use Rattle.dsde_values.specs.declared.types.Ty.{Ty}
use Rattle.dsde_values.specs.declared.value.Value.{Value}
use Rattle.dsde_language.specs.DeclaredModels.{types_of}
use Rattle.dsde_routes_wiring.specs.given.structure.plan_Via.{Via}
use Rattle.dsde_routes_wiring.specs.given.structure.Gather.{Translation}
use Rattle.dsde_language.specs.Typed.{Typed}
use Rattle.dsde_core_moves.specs.given.system.Plans.{Takes}
use Rattle.dsde_core_parcels.specs.Along.{GoAlong}
use Rattle.dsde_routes_wiring.specs.declared.row.Row.{Row}
use Rattle.dsde_routes_wiring.specs.Sets.{Rows}
use Rattle.dsde_routes_wiring.specs.Flatten.{is_from}
use Rattle.dsde_routes_pushing.specs.Carried.{along}
use Rattle.dsde_core_moves.specs.given.routes_table.Order.{AreOnce}
use Rattle.dsde_core_parcels.specs.declared.parcel.Outlet.{Outlet}
use Rattle.dsde_core_parcels.specs.declared.parcel.Parcel.{Parcel}

-- What a translation makes of a value of the type that it takes, if it is anything, has the type that it
-- gives.
abbrev pub KeepsTypes : Model → Via → Value → Option Value → Type 0
KeepsTypes model via own made = (from to : Ty) → Takes model via from to → Typed (types_of model) from own → IfSome made (λ value. Typed (types_of model) to value)

-- What comes out of a port may go along each row of a table from there.
abbrev pub GoFrom : Model → Rows → Outlet → Type 0
GoFrom model table outlet = (row : Row) → set.contains table row ≡ true → is_from outlet.source outlet.port row ≡ true → GoAlong model row.chain outlet.values

-- what is made of values along a row
abbrev pub made_along : Translation → List Value → Row → List Value
made_along gives values row = filter_map (along gives row.chain) values

-- the parcel with these values, if there are any
abbrev pub parcel_with : Row → List Value → List Parcel
parcel_with row [] = []
parcel_with row (value ∷ values) = record { target = row.target; port = row.target_port; rank = row.rank; values = value ∷ values } ∷ []

-- what is pushed along rows
abbrev pub parcels_of : Translation → List Value → List Row → List Parcel
parcels_of gives values rows = flat_map (λ row. parcel_with row (made_along gives values row)) rows

-- These are the rows of a table from the port of an outlet, each once.
pub record AreRowsFrom (table : Rows) (outlet : Outlet) (rows : List Row) : Type 0 where
  pub each : (row : Row) → Contains rows row ↔ ((set.contains table row ≡ true) × (is_from outlet.source outlet.port row ≡ true))
  pub once : AreOnce rows

-- What came out of each port was pushed along the rows from there.
abbrev pub ArePushed : Rows → Translation → List Outlet → List Parcel → Type 0
ArePushed table gives [] parcels = parcels ≡ []
ArePushed table gives (outlet ∷ outlets) parcels =
    (rows : List Row) × (later : List Parcel) × AreRowsFrom table outlet rows × (parcels ≡ parcels_of gives outlet.values rows ++ later) × ArePushed table gives outlets later

-- by the birth of the target, its port, and the rank
abbrev pub parcel_cmp : Parcel → Parcel → Ordering
parcel_cmp = then_cmp (on (λ parcel. parcel.target.birth) nat_cmp) (then_cmp (on (λ parcel. parcel.port) nat_cmp) (on (λ parcel. parcel.rank) (slice_cmp nat_cmp)))

-- Parcels stand in the order of their targets, ports and ranks.
abbrev pub AreOrdered : List Parcel → Type 0
AreOrdered = IsSortedBy (λ one other. is_lt (parcel_cmp one other))
