-- What a change at a place touches, and what it leaves.
use Rattle.std.proofs.Common.{◌≡◌, ℕ, ◌+◌, Bool, true, false, cond, not, List, [], ◌∷◌, filter, refl, sym, ap, ◌∙◌, arith}
use Rattle.dsde_values.specs.declared.name.Name.{Name}
use Rattle.dsde_routes_wiring.specs.given.structure.plan_Link.{Link}
use Rattle.dsde_routes_wiring.specs.declared.wiring.WiredKid.{WiredKid}
use Rattle.dsde_routes_wiring.specs.declared.wiring.Wiring.{Wiring}
use Rattle.dsde_routes_wiring.specs.declared.wiring.WiredKid.TheViews.{out-Wiring}
use Rattle.dsde_routes_wiring.specs.Routes.{Route, Ways, routes_in}
use Rattle.dsde_routes_wiring.specs.Places.{changed, bared, renewed, nets_at, has_name, going, staying, inside, touched, left, through}
use Rattle.dsde_repair_walks.specs.Weights.{weight, weight-append, weight-flat}
use Rattle.dsde_repair_walks.proofs.Passes.{rows-split, rows_of}
use Rattle.dsde_repair_walks.proofs.Changes.{changed-chain, bared-renewed, kids-there, kids-given}

pub weight-filter : {X : Type 0} (g : X → ℕ) (test : X → Bool) (xs : List X) → weight g xs ≡ weight g (filter test xs) + weight g (filter (λ x. not (test x)) xs)
weight-filter g test [] = refl
weight-filter g test (x ∷ xs) = by (test x) (weight-filter g test xs) where
  by : (b : Bool) → weight g xs ≡ weight g (filter test xs) + weight g (filter (λ x. not (test x)) xs) →
      g x + weight g xs ≡ weight g (cond b (x ∷ filter test xs) (filter test xs)) + weight g (cond (not b) (x ∷ filter (λ y. not (test y)) xs) (filter (λ y. not (test y)) xs))
  by true others = omega arith
  by false others = omega arith

inside-split : (g : Route → ℕ) (names : List Name) (kids : List WiredKid) → weight g (inside kids) ≡ weight g (inside (going names kids)) + weight g (inside (staying names kids))
inside-split g names kids =
    weight-flat g rows_of kids ∙ weight-filter (λ kid. weight g (rows_of kid)) (has_name names) kids
    ∙ ap (λ n. n + weight (λ kid. weight g (rows_of kid)) (staying names kids)) (sym (weight-flat g rows_of (going names kids)))
    ∙ ap (λ n. weight g (inside (going names kids)) + n) (sym (weight-flat g rows_of (staying names kids)))

sums : (all through bare kids a b t l : ℕ) → all ≡ through + bare + kids → kids ≡ a + b → t ≡ through + a → l ≡ bare + b → all ≡ t + l
sums all through bare kids a b t l p q r s = omega arith

-- before a change
pub touched-before : (g : Route → ℕ) (net : Ways) (place : List Name) (gone : List Name) (wiring here : Wiring) → nets_at place wiring ≡ here ∷ [] →
    weight g (routes_in net wiring) ≡ weight g (touched net place (going gone (out-Wiring here).kids) wiring) + weight g (left net place (staying gone (out-Wiring here).kids) wiring)
touched-before g net place gone wiring here is =
    let kids : List WiredKid = (out-Wiring here).kids in
    sums _ _ _ _ _ _ _ _
    (rows-split g net place wiring ∙ ap (λ own. weight g (through net place wiring) + weight g (routes_in net (changed place bared wiring)) + weight g (inside own)) (kids-there place wiring here is))
    (inside-split g gone kids)
    (weight-append g (through net place wiring) (inside (going gone kids)))
    (weight-append g (routes_in net (changed place bared wiring)) (inside (staying gone kids)))

-- and after it: what is left is the same
pub touched-after : (g : Route → ℕ) (net : Ways) (place : List Name) (links : List Link) (kids stay fresh : List WiredKid) (wiring here : Wiring) → nets_at place wiring ≡ here ∷ [] →
    ((h : WiredKid → ℕ) → weight h kids ≡ weight h fresh + weight h stay) →
    weight g (routes_in net (changed place (renewed links kids) wiring)) ≡ weight g (touched net place fresh (changed place (renewed links kids) wiring)) + weight g (left net place stay wiring)
touched-after g net place links kids stay fresh wiring here is both =
    let after : Wiring = changed place (renewed links kids) wiring in
    sums _ _ _ _ _ _ _ _
    (rows-split g net place after ∙ ap (λ own. weight g (through net place after) + weight g (routes_in net (changed place bared after)) + weight g (inside own)) (kids-given links kids place wiring here is)
    ∙ ap (λ own. weight g (through net place after) + weight g (routes_in net own) + weight g (inside kids)) (changed-chain bared (renewed links kids) bared (bared-renewed links kids) place wiring))
    (weight-flat g rows_of kids ∙ both (λ kid. weight g (rows_of kid)) ∙ ap (λ n. n + weight (λ kid. weight g (rows_of kid)) stay) (sym (weight-flat g rows_of fresh)) ∙ ap (λ n. weight g (inside fresh) + n) (sym (weight-flat g rows_of stay)))
    (weight-append g (through net place after) (inside fresh))
    (weight-append g (routes_in net (changed place bared wiring)) (inside stay))
