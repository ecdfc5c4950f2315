-- Lemmas on finite maps from numbers, for this crate and those above it.
use Rattle.std.proofs.Common.{◌≡◌, ◌≢◌, ℕ, ◌+◌, ◌-◌, true, false, cond, Option, Some, None, is_some, refl, sym, ap, ◌∙◌, arith}
use Rattle.std.proofs.lemmas.Bool.Decides.{nat_tests}
use Rattle.std.proofs.lemmas.Cmp.{nat_cmp_total}
use Rattle.std.specs.Ordering.{nat_cmp, eq_by_cmp}
use Rattle.std.specs.FinMap.{FinMap, get, insert, remove, len, same_map, get-insert, get-remove, len-insert, len-remove, nat_cmp-IsAntisymmetric}

pub ties_itself : (k : ℕ) → eq_by_cmp nat_cmp k k ≡ true
ties_itself k = grind (arith, nat_tests)

pub ties_no_other : (q k : ℕ) → q ≢ k → eq_by_cmp nat_cmp q k ≡ false
ties_no_other q k differs = grind (arith, nat_tests)

module _ {X : Type 0} where
  pub same_option : (o p : Option X) → ((x : X) → o ≡ Some x → p ≡ Some x) → ((x : X) → p ≡ Some x → o ≡ Some x) → o ≡ p
  same_option None None there back = refl
  same_option None (Some y) there back = back y refl
  same_option (Some x) p there back = sym (there x refl)

  pub same_births : (m n : FinMap nat_cmp X) → ((q : ℕ) → get m q ≡ get n q) → m ≡ n
  same_births m n alike = same_map nat_cmp_total nat_cmp-IsAntisymmetric m n alike

  pub get-insert_same : (m : FinMap nat_cmp X) (k : ℕ) (v : X) → get (insert m k v) k ≡ Some v
  get-insert_same m k v = get-insert nat_cmp_total m k v k ∙ ap (λ b. cond b (Some v) (get m k)) (ties_itself k)

  pub get-insert_other : (m : FinMap nat_cmp X) (k : ℕ) (v : X) (q : ℕ) → q ≢ k → get (insert m k v) q ≡ get m q
  get-insert_other m k v q differs = get-insert nat_cmp_total m k v q ∙ ap (λ b. cond b (Some v) (get m q)) (ties_no_other q k differs)

  pub get-remove_same : (m : FinMap nat_cmp X) (k : ℕ) → get (remove m k) k ≡ None
  get-remove_same m k = get-remove nat_cmp_total m k k ∙ ap (λ b. cond b None (get m k)) (ties_itself k)

  pub get-remove_other : (m : FinMap nat_cmp X) (k q : ℕ) → q ≢ k → get (remove m k) q ≡ get m q
  get-remove_other m k q differs = get-remove nat_cmp_total m k q ∙ ap (λ b. cond b None (get m q)) (ties_no_other q k differs)

  pub len-insert_new : (m : FinMap nat_cmp X) (k : ℕ) (v : X) → get m k ≡ None → len (insert m k v) ≡ len m + 1
  len-insert_new m k v none = len-insert nat_cmp_total m k v ∙ ap (λ o. cond (is_some o) (len m) (len m + 1)) none

  pub len-insert_old : (m : FinMap nat_cmp X) (k : ℕ) (v x : X) → get m k ≡ Some x → len (insert m k v) ≡ len m
  len-insert_old m k v x some = len-insert nat_cmp_total m k v ∙ ap (λ o. cond (is_some o) (len m) (len m + 1)) some

  pub len-remove_old : (m : FinMap nat_cmp X) (k : ℕ) (x : X) → get m k ≡ Some x → len (remove m k) ≡ len m - 1
  len-remove_old m k x some = len-remove nat_cmp_total m k ∙ ap (λ o. cond (is_some o) (len m - 1) (len m)) some
