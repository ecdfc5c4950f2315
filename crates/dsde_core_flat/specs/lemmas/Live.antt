-- As many parts are live as the tree has, and a schedule of what is live is no longer.
use Rattle.std.proofs.Common.{◌≡◌, ◌≢◌, ℕ, zero, suc, ◌-◌, ◌<◌, ◌≤◌, Bool, true, false, cond, List, [], ◌∷◌, length, Option, Some, None, is_some, refl, sym, ap, subst, ◌∙◌, arith}
use Rattle.std.specs.Ordering.{nat_cmp, eq_by_cmp}
use Rattle.std.specs.List.{AllByRecursion}
use Rattle.std.specs.FinMap as map
use Rattle.std.specs.FinMap.{len-remove, get-remove, get-empty, len-empty, empty_of_len}
use Rattle.std.specs.Cmp.{nat_cmp_total}
use Rattle.std.proofs.lemmas.Map.Views.{tells_apart}
use Rattle.std.proofs.lemmas.Map.Lookups.{exact_unsigned}
use Rattle.std.proofs.lemmas.List.{length-map}
use Rattle.dsde_bank.specs.declared.handle.Handle.{Handle}
use Rattle.dsde_values.specs.Path.{root}
use Rattle.dsde_values.specs.declared.when.When.TheVariants.{At}
use Rattle.dsde_sim_tree.specs.given.formalism.leaf_Leaf.{Leaf}
use Rattle.dsde_grove.specs.Grove as grove
use Rattle.dsde_grove.specs.Grove.{Grove, spot, value_of}
use Rattle.dsde_sim_tree.specs.declared.sim.Sim.{Sim}
use Rattle.dsde_sim_tree.specs.Tree.{parts}
use Rattle.dsde_core_flat.specs.declared.spot.Spot.{Spot}
use Rattle.dsde_core_flat.specs.declared.spot.Spot.TheVariants as variant
use Rattle.dsde_routes_wiring.specs.declared.wiring.Wiring.{Wiring}
use Rattle.dsde_core_flat.specs.Places.{Place, part_places}
use Rattle.dsde_core_flat.specs.Stands.{StandsFor}
use Rattle.dsde_core_flat.specs.Named.{HasOwnNames}
use Rattle.dsde_core_flat.specs.lemmas.Counting.{births, NoTwice, IsHeld, IsLost, fewer, places-count}
use Rattle.dsde_core_flat.specs.lemmas.Apart.{paths-apart, no-birth-twice, births-held, no-birth}

all-lost : (X : Type 0) (keys : List ℕ) → AllByRecursion (IsLost X map.empty) keys
all-lost X [] = tt
all-lost X (key ∷ keys) = (get-empty nat_cmp key, all-lost X keys)

nothing : (X : Type 0) (o : Option X) → ((v : X) → o ≡ Some v → ⊥) → None ≡ o
nothing X None none = refl
nothing X (Some v) none = absurd (none v refl)

-- as many parts are live as the tree has
pub live-count : (own : Grove Spot) (top : Handle) (wiring : Option Wiring) (tree : Sim) → StandsFor own top wiring tree → HasOwnNames tree → map.len own.parts ≡ parts tree
live-count own top wiring tree stands names =
    let ats = part_places top root wiring in
    let apart = paths-apart (value_of own) top root wiring (subst HasOwnNames (sym stands.shows) names) in
    let less = fewer (grove.Spot Spot) (births ats) own.parts map.empty (no-birth-twice own ats stands.live apart) (births-held own ats stands.live) (all-lost (grove.Spot Spot) (births ats))
    (λ birth out. get-empty nat_cmp birth ∙ nothing (grove.Spot Spot) (map.get own.parts birth) (λ part is. no-birth birth ats out (stands.only birth part is))) in
    omega (arith, less, len-empty nat_cmp (grove.Spot Spot), length-map ats (λ (a : Place). a.handle.birth), places-count (value_of own) top root wiring, ap parts stands.shows)

-- keys of a map, each once, are no more than it has
module _ (X : Type 0) where
  abbrev M : Type 0
  M = map.FinMap nat_cmp X

  some-len : (m : M) (key : ℕ) (v : X) (n : ℕ) → map.get m key ≡ Some v → map.len m ≡ n → 0 < n
  some-len m key v zero is len =
      let gone : map.get m key ≡ None = ap (λ (e : M). map.get e key) (empty_of_len m len) ∙ get-empty nat_cmp key in
      absurd (let wrong : None ≡ Some v = sym gone ∙ is in cc)
  some-len m key v (suc n) is len = omega arith

  still-held : (m : M) (key : ℕ) (keys : List ℕ) → AllByRecursion (λ (other : ℕ). key ≢ other) keys → AllByRecursion (IsHeld X m) keys → AllByRecursion (IsHeld X (map.remove m key)) keys
  still-held m key [] apart held = tt
  still-held m key (other ∷ keys) apart held =
      ((held.0.0, get-remove nat_cmp_total m key other ∙ skipped (eq_by_cmp nat_cmp other key) refl ∙ held.0.1), still-held m key keys apart.1 held.1)
    where
      skipped : (b : Bool) → eq_by_cmp nat_cmp other key ≡ b → cond b None (map.get m other) ≡ map.get m other
      skipped true is = absurd (apart.0 (sym (tells_apart exact_unsigned other key is)))
      skipped false is = refl

  pub at-most : (keys : List ℕ) (m : M) → NoTwice keys → AllByRecursion (IsHeld X m) keys → length keys ≤ map.len m
  at-most [] m once held = omega arith
  at-most (key ∷ keys) m once held =
      let rest = at-most keys (map.remove m key) once.1 (still-held m key keys once.0 held.1) in
      let less : map.len (map.remove m key) ≡ map.len m - 1 = len-remove nat_cmp_total m key ∙ ap (λ (o : Option X). cond (is_some o) (map.len m - 1) (map.len m)) held.0.1 in
      omega (arith, rest, less, some-len m key held.0.0 (map.len m) held.0.1 refl)

-- The pair of a time and a handle is that of a leaf that is live and due at that time.
abbrev pub IsNext : Grove Spot → ℕ × Handle → Type 0
IsNext own pair = (leaf : Leaf) × (value_of own pair.1 ≡ Some (variant.Leaf leaf)) × (leaf.next ≡ At pair.0)

abbrev pub PairsApart : List (ℕ × Handle) → Type 0
PairsApart [] = Unit {0}
PairsApart (pair ∷ others) = AllByRecursion (λ (other : ℕ × Handle). pair ≢ other) others × PairsApart others
