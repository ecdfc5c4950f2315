-- How many rows a wiring has, and how many a change takes out and puts in.
use Rattle.std.proofs.Common.{◌≡◌, ℕ, ◌+◌, ◌≤◌, Bool, true, false, cond, ◌&&◌, not, if◌then◌else◌, ltb, ltb-true, ltb-false, List, [], ◌∷◌, ◌++◌, map, length, refl, sym, ap, ◌∙◌, subst, arith}
use Rattle.std.specs.FinSet as set
use Rattle.std.specs.Cmp.{tied_itself}
use Rattle.std.specs.Ordering.{is_eq}
use Rattle.std.specs.List.{flat_map}
use Rattle.std.proofs.lemmas.List.{length-map}
use Rattle.dsde_values.specs.declared.name.Name.{Name}
use Rattle.dsde_routes_wiring.specs.given.structure.plan_Link.{Link}
use Rattle.dsde_routes_wiring.specs.declared.row.Row.{Row}
use Rattle.dsde_routes_wiring.specs.declared.wiring.WiredKid.{WiredKid}
use Rattle.dsde_routes_wiring.specs.declared.wiring.Wiring.{Wiring}
use Rattle.dsde_routes_wiring.specs.declared.wiring.WiredKid.TheViews.{out-Wiring}
use Rattle.dsde_bank.specs.declared.handle.Handle.{Handle}
use Rattle.dsde_routes_wiring.specs.Flatten.{flatten}
use Rattle.dsde_routes_wiring.specs.Places.{changed, renewed, nets_at, going, staying, inside, through, touched, left}
use Rattle.dsde_routes_wiring.specs.Routes.{Route, own, row_of, routes, routes_in, routed}
use Rattle.dsde_routes_wiring.specs.Rows.{among, is_same_row}
use Rattle.dsde_routes_wiring.specs.Sets.{Rows, row_cmp, row_cmp-total, row_cmp-same}
use Rattle.dsde_routes_wiring.specs.Touched.{handles_of, handles_of_kid, is_touched}
use Rattle.dsde_routes_wiring.specs.Wired.{AreWired}
use Rattle.dsde_repair_walks.specs.Weights.{weight, weight-append, weight-map}
use Rattle.dsde_repair_walks.specs.Bounds.{AreDistinct, count, counted}
use Rattle.dsde_repair_walks.proofs.Changes.{me-after}
use Rattle.dsde_repair_walks.proofs.Counting.{wired-named}
use Rattle.dsde_repair_walks.proofs.Repairs.{times, any-some, among-times, at-most-once, distinct-front}
use Rattle.dsde_repair_walks.proofs.Sets.{in-flatten}
use Rattle.dsde_repair_walks.proofs.Touches.{touched-before, touched-after}
use Rattle.dsde_repair_walks.proofs.Touching.{exact-before, exact-after, distinct-after}

-- a list that has no row twice
abbrev Once : List Row → Type 0
Once list = (row : Row) → count (is_same_row row) list ≤ 1

itself : (row : Row) → is_same_row row row ≡ true
itself row = ap is_eq (tied_itself row_cmp-total row)

count-same : (row : Row) (list : List Row) → Once (row ∷ list) → count (is_same_row row) list ≡ 0
count-same row list once =
    let most : (if is_same_row row row then 1 else 0) + count (is_same_row row) list ≤ 1 = once row in
    let own : 1 + count (is_same_row row) list ≤ 1 = subst (λ (b : Bool). (if b then 1 else 0) + count (is_same_row row) list ≤ 1) (itself row) most in
    omega arith

-- has as many rows as its set
set-counts : (list : List Row) → Once list → set.len (set.from_list {R = row_cmp} list) ≡ length list
set-counts [] once = set.len-empty row_cmp
set-counts (row ∷ list) once =
    let none : set.contains (set.from_list {R = row_cmp} list) row ≡ false =
    set.contains-from_list row_cmp-total list row ∙ any-some (is_same_row row) list ∙ ap (ltb 0) (count-same row list once) in
    let later = set-counts list (λ other. let most = once other in omega arith) in
    set.len-insert row_cmp-total (set.from_list list) row
    ∙ ap (λ (b : Bool). cond b (set.len (set.from_list {R = row_cmp} list)) (set.len (set.from_list {R = row_cmp} list) + 1)) none
    ∙ omega arith

rows-count : (rows : Rows) (own_routes : List Route) → ((row : Row) → set.contains rows row ≡ among (map row_of own_routes) row) → ((row : Row) → times row own_routes ≤ 1) → set.len rows ≡ length own_routes
rows-count rows own_routes has once =
    ap set.len (set.same_set row_cmp-total row_cmp-same rows (set.from_list (map row_of own_routes)) (λ row. has row ∙ sym (set.contains-from_list row_cmp-total (map row_of own_routes) row)))
    ∙ set-counts (map row_of own_routes) (λ row. subst (λ n. n ≤ 1) (sym (weight-map (counted (is_same_row row)) row_of own_routes)) (once row))
    ∙ length-map own_routes row_of

-- a wiring has as many rows as routes
pub flatten-counts : (wiring : Wiring) → AreWired wiring → AreDistinct (handles_of wiring) → set.len (flatten wiring) ≡ length (routes wiring)
flatten-counts wiring wired distinct = rows-count (flatten wiring) (routes wiring) (in-flatten wiring wired) (at-most-once wiring (wired-named wiring wired) distinct)

all-weigh : {X : Type 0} (xs : List X) → weight (λ _. 1) xs ≡ length xs
all-weigh [] = refl
all-weigh (x ∷ xs) = ap (λ n. 1 + n) (all-weigh xs) ∙ omega arith

-- some of a sum, and none of two parts
rest-some : (a b l : ℕ) → a + b + l ≤ 1 → (ltb 0 (a + b + l) && not (ltb 0 a) && not (ltb 0 b)) ≡ ltb 0 l
rest-some a b l most = by (ltb 0 a) (ltb 0 b) (ltb 0 l) (ltb 0 (a + b + l)) refl refl refl refl where
  by : (a0 b0 l0 all0 : Bool) → ltb 0 a ≡ a0 → ltb 0 b ≡ b0 → ltb 0 l ≡ l0 → ltb 0 (a + b + l) ≡ all0 → (all0 && not a0 && not b0) ≡ l0
  by true b0 true all0 p q r s = let x = ltb-true 0 a p in let y = ltb-true 0 l r in absurd (omega arith)
  by true b0 false true p q r s = refl
  by true b0 false false p q r s = refl
  by false true true all0 p q r s = let x = ltb-true 0 b q in let y = ltb-true 0 l r in absurd (omega arith)
  by false true false true p q r s = refl
  by false true false false p q r s = refl
  by false false true true p q r s = refl
  by false false true false p q r s = let y = ltb-true 0 l r in let z = ltb-false 0 (a + b + l) s in absurd (omega arith)
  by false false false true p q r s = let x = ltb-false 0 a p in let y = ltb-false 0 b q in let z = ltb-false 0 l r in let w = ltb-true 0 (a + b + l) s in absurd (omega arith)
  by false false false false p q r s = refl

module _ (place : List Name) (gone : List Name) (links : List Link) (kids fresh : List WiredKid) (wiring here : Wiring)
    (is : nets_at place wiring ≡ here ∷ []) (both : (h : WiredKid → ℕ) → weight h kids ≡ weight h fresh + weight h (staying gone (out-Wiring here).kids))
    (wired : AreWired wiring) (distinct : AreDistinct (handles_of wiring ++ flat_map handles_of_kid fresh)) where
  abbrev olds : List WiredKid
  olds = (out-Wiring here).kids

  abbrev me : Handle
  me = (out-Wiring wiring).me

  abbrev after : Wiring
  after = changed place (renewed links kids) wiring

  abbrev passing : List Route
  passing = through (own me) place wiring

  abbrev went : List Route
  went = inside (going gone olds)

  abbrev rest : List Route
  rest = left (own me) place (staying gone olds) wiring

  old-times : (row : Row) → times row (routes wiring) ≡ times row passing + times row went + times row rest
  old-times row = touched-before (λ route. counted (is_same_row row) (row_of route)) (own me) place gone wiring here is ∙ ap (λ n. n + times row rest) (weight-append (λ route. counted (is_same_row row) (row_of route)) passing went)

  once : (row : Row) → times row passing + times row went + times row rest ≤ 1
  once row = subst (λ n. n ≤ 1) (old-times row) (at-most-once wiring (wired-named wiring wired) (distinct-front (handles_of wiring) (flat_map handles_of_kid fresh) distinct) row)

  rest-once : (row : Row) → times row rest ≤ 1
  rest-once row = let most = once row in omega arith

  -- the rows that stay in a table from which those that pass the place are taken, and those of what goes
  among-rest : (row : Row) → (among (routed wiring) row && not (among (map row_of passing) row) && not (among (map row_of went) row)) ≡ among (map row_of rest) row
  among-rest row =
      ap (λ (b : Bool). b && not (among (map row_of passing) row) && not (among (map row_of went) row)) (among-times row (routes wiring) ∙ ap (ltb 0) (old-times row))
      ∙ ap (λ (b : Bool). ltb 0 (times row passing + times row went + times row rest) && not b && not (among (map row_of went) row)) (among-times row passing)
      ∙ ap (λ (b : Bool). ltb 0 (times row passing + times row went + times row rest) && not (ltb 0 (times row passing)) && not b) (among-times row went)
      ∙ rest-some (times row passing) (times row went) (times row rest) (once row)
      ∙ sym (among-times row rest)

  rest-counts : (kept : Rows) → ((row : Row) → set.contains kept row ≡ (set.contains (flatten wiring) row && not (among (map row_of passing) row) && not (among (map row_of went) row))) → set.len kept ≡ length rest
  rest-counts kept has =
      rows-count kept rest
      (λ row. has row ∙ ap (λ (b : Bool). b && not (among (map row_of passing) row) && not (among (map row_of went) row)) (in-flatten wiring wired row) ∙ among-rest row)
      rest-once

  lengths : (all first second n t k : ℕ) → all ≡ first + second → all ≡ n → first ≡ t → second ≡ k → n ≡ t + k
  lengths all first second n t k p q r s = omega arith

  old-length : length (routes wiring) ≡ length (touched (own me) place (going gone olds) wiring) + length rest
  old-length =
      lengths _ _ _ _ _ _ (touched-before (λ _. 1) (own me) place gone wiring here is) (all-weigh (routes wiring)) (all-weigh (touched (own me) place (going gone olds) wiring)) (all-weigh rest)

  new-length : length (routes after) ≡ length (touched (own me) place fresh after) + length rest
  new-length =
      lengths _ _ _ _ _ _ (touched-after (λ _. 1) (own me) place links kids (staying gone olds) fresh wiring here is both)
      (all-weigh (routes_in (own me) after) ∙ ap (λ own_me. length (routes_in (own own_me) after)) (sym (me-after place links kids wiring)))
      (all-weigh (touched (own me) place fresh after)) (all-weigh rest)

  both-ways : (new old k n m t u r x y : ℕ) → new + (k + k) ≡ old + (n + m) → k ≡ r → n ≡ t + r → m ≡ u + r → t ≡ x → u ≡ y → new ≡ old + x + y
  both-ways new old k n m t u r x y p q s v w z = omega arith

  -- What is counted where rows are taken out of a table and others put in, until it has the rows after the change, are the
  -- routes that the change touches.
  pub changes-count : AreWired after → (kept : Rows) → ((row : Row) → set.contains kept row ≡ (set.contains (flatten wiring) row && not (among (map row_of passing) row) && not (among (map row_of went) row))) →
      (old new : ℕ) → new + (set.len kept + set.len kept) ≡ old + (set.len (flatten wiring) + set.len (flatten after)) →
      new ≡ old + count (is_touched (out-Wiring here).me (handles_of after)) (routes wiring) + count (is_touched (out-Wiring here).me (handles_of wiring)) (routes after)
  changes-count wired_after kept has old new counts =
      both-ways _ _ _ _ _ _ _ _ _ _ counts (rest-counts kept has)
      (flatten-counts wiring wired (distinct-front (handles_of wiring) (flat_map handles_of_kid fresh) distinct) ∙ old-length)
      (flatten-counts after wired_after (distinct-after place gone links kids fresh wiring here is both distinct) ∙ new-length)
      (exact-before place gone links kids fresh wiring here is both distinct)
      (exact-after place gone links kids fresh wiring here is both distinct)
