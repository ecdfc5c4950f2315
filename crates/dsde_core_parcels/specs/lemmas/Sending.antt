-- What comes out of a port, of what comes out of distinct ports.
use Rattle.std.proofs.Common.{◌≡◌, ℕ, Bool, true, false, cond, ◌==◌, List, [], ◌∷◌, refl, sym, ap, ◌∙◌, inl, inr, arith}
use Rattle.std.specs.List.{IsDistinct}
use Rattle.std.proofs.lemmas.Bool.Decides.{nat_tests}
use Rattle.std.proofs.lemmas.Map.Keys.{IsDistinct-head, IsDistinct-tail}
use Rattle.dsde_bank.specs.declared.handle.Handle.{Handle}
use Rattle.dsde_routes_wiring.specs.Wired.{is_same_handle}
use Rattle.dsde_routes_pushing.specs.lemmas.Handles.{both-true, same-handle}
use Rattle.dsde_routes_pushing.specs.lemmas.Lists.{Among, each-among, wrong}
use Rattle.dsde_core_parcels.specs.declared.parcel.Outlet.{Outlet}
use Rattle.dsde_core_parcels.specs.Sent.{is_at, is_same_port, sent_at}

-- a port that is this one
pub at-source : (source : Handle) (port : ℕ) (outlet : Outlet) → is_at source port outlet ≡ true → source ≡ outlet.source
at-source source port outlet is = same-handle source outlet.source (both-true (is_same_handle source outlet.source) (port == outlet.port) is).0

pub at-port : (source : Handle) (port : ℕ) (outlet : Outlet) → is_at source port outlet ≡ true → port ≡ outlet.port
at-port source port outlet is = let so = (both-true (is_same_handle source outlet.source) (port == outlet.port) is).1 in grind (arith, nat_tests, so)

at-both : (source : Handle) (port : ℕ) (one other : Outlet) → is_at source port one ≡ true → is_at source port other ≡ true → is_same_port one other ≡ true
at-both source port one other is there = (λ i. is_at (sym (at-source source port one is) i) (sym (at-port source port one is) i) other) ∙ there

-- what comes out of a port
pub sent-here : (outlets : List Outlet) (source : Handle) (port : ℕ) (outlet : Outlet) → IsDistinct is_same_port outlets → Among outlet outlets → is_at source port outlet ≡ true → sent_at outlets source port ≡ outlet.values
sent-here [] source port outlet apart among is = absurd among
sent-here (first ∷ outlets) source port outlet apart among is = by (is_at source port first) refl among (sent-here outlets source port outlet (IsDistinct-tail is_same_port first outlets apart))
  where
    by : (b : Bool) → is_at source port first ≡ b → Among outlet (first ∷ outlets) → (Among outlet outlets → is_at source port outlet ≡ true → sent_at outlets source port ≡ outlet.values) →
        cond b first.values (sent_at outlets source port) ≡ outlet.values
    by true here (inl same) rest = ap (λ (own : Outlet). own.values) (sym same)
    by true here (inr there) rest =
        wrong (sym (each-among (λ other. is_same_port first other ≡ false) outlets outlet (IsDistinct-head is_same_port first outlets apart) there) ∙ at-both source port first outlet here is)
    by false here (inl same) rest = wrong (sym here ∙ ap (is_at source port) (sym same) ∙ is)
    by false here (inr there) rest = rest there is
