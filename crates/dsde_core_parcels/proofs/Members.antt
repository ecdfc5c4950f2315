-- Which parcels there are.
use Rattle.std.proofs.Common.{◌≡◌, ℕ, Bool, true, false, cond, List, [], ◌∷◌, refl, sym, ap, ◌∙◌, subst, inl, inr}
use Rattle.std.specs.FinSet as set
use Rattle.dsde_bank.specs.declared.handle.Handle.{Handle}
use Rattle.dsde_values.specs.declared.value.Value.{Value}
use Rattle.dsde_routes_wiring.specs.given.structure.Gather.{Translation}
use Rattle.dsde_routes_wiring.specs.declared.row.Row.{Row}
use Rattle.dsde_routes_wiring.specs.Sets.{Rows}
use Rattle.dsde_routes_wiring.specs.Flatten.{is_from}
use Rattle.dsde_routes_pushing.specs.Carried.{Traffic, pushed}
use Rattle.dsde_routes_pushing.specs.lemmas.Lists.{Among, among-append, among-behind, among-flat, among-from, among-front, contains-from, flat-among}
use Rattle.dsde_core_parcels.specs.declared.parcel.Outlet.{Outlet}
use Rattle.dsde_core_parcels.specs.declared.parcel.Parcel.{Parcel}
use Rattle.dsde_core_parcels.specs.Parcels.{ArePushed, AreRowsFrom, made_along, parcel_with, parcels_of}
use Rattle.dsde_core_parcels.specs.Sent.{IsSentBy, is_at, sent_at}
use Rattle.dsde_core_parcels.specs.lemmas.Sending.{sent-here}

-- a parcel comes of an outlet
pub filled : (gives : Translation) (row : Row) (parcel : Parcel) (outlets : List Outlet) (source : Handle) (port : ℕ) → Among parcel (parcel_with row (made_along gives (sent_at outlets source port) row)) →
    (outlet : Outlet) × Among outlet outlets × (is_at source port outlet ≡ true) × (sent_at outlets source port ≡ outlet.values)
filled gives row parcel [] source port among = absurd among
filled gives row parcel (first ∷ outlets) source port among = by (is_at source port first) refl among (filled gives row parcel outlets source port)
  where
    by : (b : Bool) → is_at source port first ≡ b → Among parcel (parcel_with row (made_along gives (cond b first.values (sent_at outlets source port)) row)) →
        (Among parcel (parcel_with row (made_along gives (sent_at outlets source port) row)) → (outlet : Outlet) × Among outlet outlets × (is_at source port outlet ≡ true) × (sent_at outlets source port ≡ outlet.values)) →
        (outlet : Outlet) × Among outlet (first ∷ outlets) × (is_at source port outlet ≡ true) × (cond b first.values (sent_at outlets source port) ≡ outlet.values)
    by true here among rest = (first, inl refl, here, refl)
    by false here among rest = let found = rest among in (found.0, inr found.1, found.2, found.3)

-- a parcel is what is pushed along a row
abbrev pub IsOfRow : Translation → Rows → Outlet → Row → Parcel → Type 0
IsOfRow gives table outlet row parcel =
    (set.contains table row ≡ true) × (is_from outlet.source outlet.port row ≡ true) × Among parcel (parcel_with row (made_along gives outlet.values row))

module _ (table : Rows) (gives : Translation) where
  of-rows : (outlet : Outlet) (rows : List Row) (parcel : Parcel) → AreRowsFrom table outlet rows → Among parcel (parcels_of gives outlet.values rows) → (row : Row) × IsOfRow gives table outlet row parcel
  of-rows outlet rows parcel from among =
      let found = among-flat (λ row. parcel_with row (made_along gives outlet.values row)) parcel rows among in
      let is = (from.each found.0).0 (contains-from rows found.0 found.1) in
      (found.0, (is.0, is.1, found.2))

  pub from-pushed : (outlets : List Outlet) (parcels : List Parcel) (parcel : Parcel) → ArePushed table gives outlets parcels → Among parcel parcels →
      (outlet : Outlet) × (row : Row) × Among outlet outlets × IsOfRow gives table outlet row parcel
  from-pushed [] parcels parcel are among = absurd (subst (Among parcel) are among)
  from-pushed (first ∷ outlets) parcels parcel are among =
      elim (among-append parcel (parcels_of gives first.values are.0) are.1 (subst (Among parcel) are.3 among)) [
        | inl here ↦ (let found = of-rows first are.0 parcel are.2 here in (first, found.0, inl refl, found.1))
        | inr there ↦ (let found = from-pushed outlets are.1 parcel are.4 there in (found.0, found.1, inr found.2, found.3))
      ]

  pub into-pushed : (outlets : List Outlet) (parcels : List Parcel) (parcel : Parcel) (outlet : Outlet) (row : Row) → ArePushed table gives outlets parcels → Among outlet outlets → IsOfRow gives table outlet row parcel → Among parcel parcels
  into-pushed [] parcels parcel outlet row are among of = absurd among
  into-pushed (first ∷ outlets) parcels parcel outlet row are (inl is) of =
      subst (Among parcel) (sym are.3) (among-front parcel (parcels_of gives first.values are.0) are.1
      (let own = subst (λ (own : Outlet). IsOfRow gives table own row parcel) is of in
      flat-among (λ own. parcel_with own (made_along gives first.values own)) parcel row are.0 (among-from are.0 row ((are.2.each row).1 (own.0, own.1))) own.2))
  into-pushed (first ∷ outlets) parcels parcel outlet row are (inr there) of =
      subst (Among parcel) (sym are.3) (among-behind parcel (parcels_of gives first.values are.0) are.1 (into-pushed outlets are.1 parcel outlet row are.4 there of))

-- the parcels are those of the rows whose sources send something
module _ (traffic : Traffic) (table : Rows) (outlets : List Outlet) (sent : IsSentBy traffic outlets) where
  abbrev pub IsOf : Parcel → Type 0
  IsOf parcel = (row : Row) × (set.contains table row ≡ true) × Among parcel (parcel_with row (pushed traffic row))

  made-is : (row : Row) (outlet : Outlet) → sent_at outlets row.source row.source_port ≡ outlet.values → pushed traffic row ≡ made_along traffic.translate outlet.values row
  made-is row outlet is = ap (λ (values : List Value). made_along traffic.translate values row) (sent.values row.source row.source_port ∙ is)

  pub parcels-of : (parcels : List Parcel) (parcel : Parcel) → ArePushed table traffic.translate outlets parcels → Among parcel parcels → IsOf parcel
  parcels-of parcels parcel are among =
      let found = from-pushed table traffic.translate outlets parcels parcel are among in
      let is = sent-here outlets found.1.source found.1.source_port found.0 sent.apart found.2 found.3.1 in
      (found.1, found.3.0, subst (λ (values : List Value). Among parcel (parcel_with found.1 values)) (sym (made-is found.1 found.0 is)) found.3.2)

  pub of-parcels : (parcels : List Parcel) (parcel : Parcel) → ArePushed table traffic.translate outlets parcels → IsOf parcel → Among parcel parcels
  of-parcels parcels parcel are of =
      let row : Row = of.0 in
      let found = filled traffic.translate row parcel outlets row.source row.source_port
      (subst (λ (values : List Value). Among parcel (parcel_with row (made_along traffic.translate values row))) (sent.values row.source row.source_port) of.2) in
      into-pushed table traffic.translate outlets parcels parcel found.0 row are found.1
      (of.1, found.2, subst (λ (values : List Value). Among parcel (parcel_with row values)) (made-is row found.0 found.3) of.2)
