-- Handles and numbers that tests find the same.
use Rattle.std.proofs.Common.{◌≡◌, ℕ, ◌==◌, ◌&&◌, Bool, true, false, refl, arith}
use Rattle.std.proofs.lemmas.Bool.Decides.{nat_tests}
use Rattle.dsde_bank.specs.declared.handle.Handle.{Handle}
use Rattle.dsde_routes_wiring.specs.Wired.{is_same_handle}
use Rattle.dsde_routes_pushing.specs.lemmas.Lists.{wrong}

pub both-true : (b d : Bool) → (b && d) ≡ true → (b ≡ true) × (d ≡ true)
both-true true d is = (refl, is)
both-true false d is = wrong is

pub same-number : (n m : ℕ) → (n == m) ≡ true → n ≡ m
same-number n m is = grind (arith, nat_tests)

pub same-handle : (one other : Handle) → is_same_handle one other ≡ true → one ≡ other
same-handle one other is =
    let both = both-true (one.birth == other.birth) (one.slot == other.slot) is in
    let birth : one.birth ≡ other.birth = grind (arith, nat_tests, both) in
    let slot : one.slot ≡ other.slot = grind (arith, nat_tests, both) in
    λ i. record { birth = birth i; slot = slot i }
