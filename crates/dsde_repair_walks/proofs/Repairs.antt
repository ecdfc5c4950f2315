-- The rows of a wiring after a change, from those before.
use Rattle.std.proofs.Common.{◌≡◌, ℕ, ◌+◌, ◌≤◌, ◌==◌, Bool, true, false, ◌&&◌, ◌||◌, not, if◌then◌else◌, ltb, lt-ltb, ltb-true, ltb-false, zero-add, eq-eqb, List, [], ◌∷◌, ◌++◌, map, refl, sym, ap, ◌∙◌, subst, arith, Less, Equal, Greater, Ordering}
use Rattle.std.specs.List.{flat_map, list_any}
use Rattle.std.specs.Ordering.{is_eq}
use Rattle.dsde_bank.specs.declared.handle.Handle.{Handle}
use Rattle.dsde_values.specs.declared.name.Name.{Name}
use Rattle.dsde_routes_wiring.specs.given.structure.plan_Link.{Link}
use Rattle.dsde_routes_wiring.specs.declared.row.Row.{Row}
use Rattle.dsde_routes_wiring.specs.declared.wiring.WiredKid.{WiredKid}
use Rattle.dsde_routes_wiring.specs.declared.wiring.Wiring.{Wiring}
use Rattle.dsde_routes_wiring.specs.declared.wiring.WiredKid.TheViews.{out-Wiring}
use Rattle.dsde_routes_wiring.specs.Routes.{Route, own, rank_of, row_of, routes, routes_in, routed}
use Rattle.dsde_routes_wiring.specs.Places.{changed, renewed, nets_at, going, staying, inside, left, through}
use Rattle.dsde_routes_wiring.specs.Wired.{is_same_handle}
use Rattle.dsde_routes_wiring.specs.Touched.{handles_of, handles_of_kid}
use Rattle.dsde_routes_wiring.specs.Keys.{has_key, is_same_rank}
use Rattle.dsde_routes_wiring.specs.Sets.{row_cmp, row_cmp-same}
use Rattle.dsde_routes_wiring.specs.Rows.{is_same_row, among}
use Rattle.dsde_repair_walks.specs.Weights.{weight, weight-append, weight-map}
use Rattle.dsde_repair_walks.specs.Bounds.{counted, count, AreDistinct, AreNamed}
use Rattle.dsde_repair_walks.proofs.Changes.{me-after}
use Rattle.dsde_repair_walks.proofs.Touches.{touched-before, touched-after}
use Rattle.dsde_repair_walks.proofs.Distinct.{routes-once, weight-le}

pub any-some : {X : Type 0} (test : X → Bool) (xs : List X) → list_any test xs ≡ ltb 0 (count test xs)
any-some test [] = refl
any-some test (x ∷ xs) = by (test x) (any-some test xs) where
  by : (b : Bool) → list_any test xs ≡ ltb 0 (count test xs) → b || list_any test xs ≡ ltb 0 ((if b then 1 else 0) + count test xs)
  by true is = sym (lt-ltb 0 (1 + count test xs) (omega arith))
  by false is = is ∙ ap (ltb 0) (sym (zero-add _))

-- how often a row stands among routes
abbrev pub times : Row → List Route → ℕ
times row own_routes = weight (λ route. counted (is_same_row row) (row_of route)) own_routes

pub among-times : (row : Row) (own_routes : List Route) → among (map row_of own_routes) row ≡ ltb 0 (times row own_routes)
among-times row own_routes = any-some (is_same_row row) (map row_of own_routes) ∙ ap (ltb 0) (weight-map (counted (is_same_row row)) row_of own_routes)

-- at most once where handles and names are distinct
same-numbers : (rank : List ℕ) → is_same_rank rank rank ≡ true
same-numbers [] = refl
same-numbers (number ∷ rank) = ap (λ (b : Bool). b && is_same_rank rank rank) (eq-eqb number number refl) ∙ same-numbers rank

same-key : (route : Route) → has_key route.target route.target_port (rank_of route.steps) route ≡ true
same-key route =
    ap (λ (b : Bool). (b && route.target.slot == route.target.slot) && (route.target_port == route.target_port && is_same_rank (rank_of route.steps) (rank_of route.steps))) (eq-eqb route.target.birth route.target.birth refl)
    ∙ ap (λ (b : Bool). b && (route.target_port == route.target_port && is_same_rank (rank_of route.steps) (rank_of route.steps))) (eq-eqb route.target.slot route.target.slot refl)
    ∙ ap (λ (b : Bool). b && is_same_rank (rank_of route.steps) (rank_of route.steps)) (eq-eqb route.target_port route.target_port refl)
    ∙ same-numbers (rank_of route.steps)

tied : (order : Ordering) → is_eq order ≡ true → order ≡ Equal
tied Less is = absurd (cc)
tied Equal is = refl
tied Greater is = absurd (cc)

under : (row : Row) (route : Route) → counted (is_same_row row) (row_of route) ≤ counted (has_key row.target row.target_port row.rank) route
under row route = by (is_same_row row (row_of route)) refl where
  by : (b : Bool) → is_same_row row (row_of route) ≡ b → (if b then 1 else 0) ≤ (if has_key row.target row.target_port row.rank route then 1 else 0)
  by true same =
      let one : row ≡ row_of route = row_cmp-same row (row_of route) (tied (row_cmp row (row_of route)) same) in
      subst (λ (own : Row). 1 ≤ (if has_key own.target own.target_port own.rank route then 1 else 0)) (sym one)
      (subst (λ (b : Bool). 1 ≤ (if b then 1 else 0)) (sym (same-key route)) (omega arith))
  by false same = omega arith

pub at-most-once : (wiring : Wiring) → AreNamed wiring → AreDistinct (handles_of wiring) → (row : Row) → times row (routes wiring) ≤ 1
at-most-once wiring named distinct row =
    let le = weight-le (λ route. counted (is_same_row row) (row_of route)) (counted (has_key row.target row.target_port row.rank)) (under row) (routes wiring) in
    let once = routes-once row.target row.target_port row.rank wiring named in
    let most = distinct row.target in
    omega arith

pub distinct-front : (xs ys : List Handle) → AreDistinct (xs ++ ys) → AreDistinct xs
distinct-front xs ys distinct handle = let sum = weight-append (counted (is_same_handle handle)) xs ys in let most = distinct handle in omega arith

-- some of a sum
bools : (a b c d l : ℕ) → a + b + l ≤ 1 → ltb 0 (d + c + l) ≡ ltb 0 d || (ltb 0 c || (ltb 0 (a + b + l) && not (ltb 0 a) && not (ltb 0 b)))
bools a b c d l most = by (ltb 0 d) (ltb 0 c) (ltb 0 a) (ltb 0 b) (ltb 0 l) (ltb 0 (d + c + l)) (ltb 0 (a + b + l)) refl refl refl refl refl refl refl where
  by : (d0 c0 a0 b0 l0 new0 old0 : Bool) → ltb 0 d ≡ d0 → ltb 0 c ≡ c0 → ltb 0 a ≡ a0 → ltb 0 b ≡ b0 → ltb 0 l ≡ l0 → ltb 0 (d + c + l) ≡ new0 → ltb 0 (a + b + l) ≡ old0 →
      new0 ≡ d0 || (c0 || (old0 && not a0 && not b0))
  by true c0 a0 b0 l0 true old0 p q r s t u v = refl
  by true c0 a0 b0 l0 false old0 p q r s t u v = let x = ltb-true 0 d p in let y = ltb-false 0 (d + c + l) u in absurd (omega arith)
  by false true a0 b0 l0 true old0 p q r s t u v = refl
  by false true a0 b0 l0 false old0 p q r s t u v = let x = ltb-true 0 c q in let y = ltb-false 0 (d + c + l) u in absurd (omega arith)
  by false false true b0 l0 true old0 p q r s t u v = let x = ltb-false 0 d p in let y = ltb-false 0 c q in let z = ltb-true 0 a r in let w = ltb-true 0 (d + c + l) u in absurd (omega arith)
  by false false true b0 l0 false true p q r s t u v = refl
  by false false true b0 l0 false false p q r s t u v = refl
  by false false false true l0 true old0 p q r s t u v = let x = ltb-false 0 d p in let y = ltb-false 0 c q in let z = ltb-true 0 b s in let w = ltb-true 0 (d + c + l) u in absurd (omega arith)
  by false false false true l0 false true p q r s t u v = refl
  by false false false true l0 false false p q r s t u v = refl
  by false false false false l0 true true p q r s t u v = refl
  by false false false false l0 false false p q r s t u v = refl
  by false false false false l0 true false p q r s t u v = let w = ltb-true 0 (d + c + l) u in let x = ltb-false 0 d p in let y = ltb-false 0 c q in let z = ltb-false 0 (a + b + l) v in absurd (omega arith)
  by false false false false l0 false true p q r s t u v = let w = ltb-false 0 (d + c + l) u in let x = ltb-false 0 a r in let y = ltb-false 0 b s in let z = ltb-true 0 (a + b + l) v in absurd (omega arith)

-- The rows of a wiring after a change: those that pass the place, those inside components that came, and
-- those before that neither passed there nor lay in components that went.
pub rows-after : (place : List Name) (gone : List Name) (links : List Link) (kids fresh : List WiredKid) (wiring here : Wiring) → nets_at place wiring ≡ here ∷ [] →
    ((h : WiredKid → ℕ) → weight h kids ≡ weight h fresh + weight h (staying gone (out-Wiring here).kids)) → AreNamed wiring → AreDistinct (handles_of wiring ++ flat_map handles_of_kid fresh) → (row : Row) →
    among (routed (changed place (renewed links kids) wiring)) row
    ≡ among (map row_of (through (own (out-Wiring wiring).me) place (changed place (renewed links kids) wiring))) row
    || (among (map row_of (inside fresh)) row
    || (among (routed wiring) row && not (among (map row_of (through (own (out-Wiring wiring).me) place wiring)) row) && not (among (map row_of (inside (going gone (out-Wiring here).kids))) row)))
rows-after place gone links kids fresh wiring here is both named distinct row =
    let me : Handle = (out-Wiring wiring).me in
    let after : Wiring = changed place (renewed links kids) wiring in
    let g : Route → ℕ = λ route. counted (is_same_row row) (row_of route) in
    let olds : List WiredKid = (out-Wiring here).kids in
    let A : List Route = through (own me) place wiring in
    let B : List Route = inside (going gone olds) in
    let C : List Route = inside fresh in
    let D : List Route = through (own me) place after in
    let L : List Route = left (own me) place (staying gone olds) wiring in
    let old_times : times row (routes wiring) ≡ times row A + times row B + times row L =
    touched-before g (own me) place gone wiring here is ∙ ap (λ n. n + times row L) (weight-append g A B) in
    let new_times : times row (routes after) ≡ times row D + times row C + times row L =
    ap (λ (own_me : Handle). times row (routes_in (own own_me) after)) (me-after place links kids wiring)
    ∙ touched-after g (own me) place links kids (staying gone olds) fresh wiring here is both ∙ ap (λ n. n + times row L) (weight-append g D C) in
    let once : times row (routes wiring) ≤ 1 = at-most-once wiring named (distinct-front (handles_of wiring) (flat_map handles_of_kid fresh) distinct) row in
    among-times row (routes after) ∙ ap (ltb 0) new_times
    ∙ bools (times row A) (times row B) (times row C) (times row D) (times row L) (subst (λ n. n ≤ 1) old_times once)
    ∙ ap (λ (b : Bool). ltb 0 (times row D) || (ltb 0 (times row C) || (b && not (ltb 0 (times row A)) && not (ltb 0 (times row B))))) (ap (ltb 0) (sym old_times) ∙ sym (among-times row (routes wiring)))
    ∙ ap (λ (b : Bool). ltb 0 (times row D) || (ltb 0 (times row C) || (among (routed wiring) row && not b && not (ltb 0 (times row B))))) (sym (among-times row A))
    ∙ ap (λ (b : Bool). ltb 0 (times row D) || (ltb 0 (times row C) || (among (routed wiring) row && not (among (map row_of A) row) && not b))) (sym (among-times row B))
    ∙ ap (λ (b : Bool). ltb 0 (times row D) || (b || (among (routed wiring) row && not (among (map row_of A) row) && not (among (map row_of B) row)))) (sym (among-times row C))
    ∙ ap (λ (b : Bool). b || (among (map row_of C) row || (among (routed wiring) row && not (among (map row_of A) row) && not (among (map row_of B) row)))) (sym (among-times row D))
