-- A change of one network, from what its steps give.
use Rattle.std.proofs.Common.{◌≡◌, ℕ, ◌+◌, Bool, true, false, ◌&&◌, ◌||◌, not, refl, List, [], ◌∷◌, ◌++◌, map, sym, ap, ap₂, ◌∙◌, subst, arith, Option, Some, None, Result, Ok, Err, OnOk}
use Rattle.std.specs.Prelude.{IsPermutation}
use Rattle.std.specs.List.{flat_map, list_any, AllByRecursion}
use Rattle.dsde_bank.specs.declared.handle.Handle.{Handle}
use Rattle.dsde_values.specs.declared.name.Name.{Name}
use Rattle.dsde_routes_wiring.specs.given.structure.plan_Link.{Link}
use Rattle.dsde_routes_wiring.specs.declared.row.Row.{Row}
use Rattle.dsde_routes_wiring.specs.declared.wiring.WiredKid.{WiredKid}
use Rattle.dsde_routes_wiring.specs.declared.wiring.Wiring.{Wiring}
use Rattle.dsde_routes_wiring.specs.declared.wiring.WiredKid.TheOpen.{Wiring-F}
use Rattle.dsde_routes_wiring.specs.declared.wiring.WiredKid.TheViews.{out-Wiring, out-WiredKid, roll-Wiring, out-roll-Wiring}
use Rattle.dsde_routes_wiring.specs.Routes.{own, row_of, routes, routed}
use Rattle.dsde_routes_wiring.specs.Places.{changed, bared, renewed, nets_at, kids_at, has_name, going, staying, inside, through}
use Rattle.dsde_routes_wiring.specs.Touched.{handles_of, handles_of_kid, is_touched}
use Rattle.dsde_routes_wiring.specs.Rows.{among, is_same_row}
use Rattle.dsde_repair_walks.specs.Weights.{weight}
use Rattle.dsde_repair_walks.specs.Bounds.{AreDistinct, count}
use Rattle.dsde_routes_wiring.specs.Wired.{IsWired, AreWired, LeadsInside}
use Rattle.dsde_routes_wiring.specs.given.structure.Survival.{AreInOrder}
use Rattle.std.specs.List.Sorted.{IsStrictlySortedBy}
use Rattle.dsde_routes_wiring.specs.Opened.{Beneath}
use Rattle.dsde_repair_walks.proofs.Counting.{wired-named}
use Rattle.dsde_repair_walks.proofs.Changes.{changed-chain, kids-there, me-after}
use Rattle.dsde_repair_walks.proofs.Shapes.{KidEach, net-of, changed-each, nets-each}
use Rattle.dsde_repair_walks.proofs.Repairs.{rows-after}
use Rattle.dsde_repair_walks.proofs.Sets.{in-flatten}
use Rattle.dsde_repair_walks.proofs.Sizes.{changes-count}
use Rattle.dsde_repair_walks.proofs.Each.{each-append, each-filter}
use Rattle.dsde_repair.proofs.Crossings.{kids-below-wired}
use Rattle.dsde_repair_walks.specs.Found.{InOrder}
use Rattle.dsde_repair_walks.specs.Places.{BelowWired, IsBelowWired}
use Rattle.dsde_repair.proofs.Ordered.{both-ordered, each-ordered}
use Rattle.dsde_repair_walks.proofs.Finding.{names-of}
use Rattle.dsde_repair.specs.Change.{LeadsThere, kids_after, rows_in, rows_out, wiring_after, without}
use Rattle.std.specs.FinSet as set
use Rattle.dsde_routes_wiring.specs.Flatten.{flatten}
use Rattle.dsde_routes_wiring.specs.Sets.{Rows, row_cmp-total, row_cmp-same}

pub ok-const : {X E : Type 0} (result : Result X E) (P : Type 0) → P → OnOk result P
ok-const (Ok value) P holds = holds
ok-const (Err end) P holds = tt

pub ok-map : {X E : Type 0} (result : Result X E) (P Q : Type 0) → (P → Q) → OnOk result P → OnOk result Q
ok-map (Ok value) P Q gives holds = gives holds
ok-map (Err end) P Q gives holds = tt

any-append : {X : Type 0} (test : X → Bool) (xs ys : List X) → list_any test (xs ++ ys) ≡ (list_any test xs || list_any test ys)
any-append test [] ys = refl
any-append test (x ∷ xs) ys = ap (λ b. test x || b) (any-append test xs ys) ∙ by (test x) (list_any test xs) (list_any test ys)
  where
    by : (a b c : Bool) → (a || (b || c)) ≡ ((a || b) || c)
    by true b c = refl
    by false b c = refl

neither : (a b c : Bool) → (a && not (b || c)) ≡ (a && not b && not c)
neither true true c = refl
neither true false c = refl
neither false b c = refl

other-first : (a b c : Bool) → ((a || b) || c) ≡ (b || (a || c))
other-first true true c = refl
other-first true false c = refl
other-first false b c = refl

-- what is left of a set
pub without-has : (rows : Rows) (some : List Row) (row : Row) → set.contains (without rows some) row ≡ (set.contains rows row && not (among some row))
without-has rows some row =
    set.contains-difference row_cmp-total rows (set.from_list some) row ∙ ap (λ (b : Bool). set.contains rows row && not b) (set.contains-from_list row_cmp-total some row)

-- what is counted where rows are taken out of a set, and others put in
pub exchanged : (rows left new : Rows) (some : List Row) (n0 n1 n2 : ℕ) → ((row : Row) → set.contains left row ≡ (set.contains rows row && not (among some row))) →
    n1 + set.len left ≡ n0 + set.len rows → n2 + set.len left ≡ n1 + set.len new → n2 + (set.len (without rows some) + set.len (without rows some)) ≡ n0 + (set.len rows + set.len new)
exchanged rows left new some n0 n1 n2 has p q =
    let same : left ≡ without rows some = set.same_set row_cmp-total row_cmp-same left (without rows some) (λ row. has row ∙ sym (without-has rows some row)) in
    let size : set.len (without rows some) ≡ set.len left = ap set.len (sym same) in
    omega arith

no-names : AreInOrder []
unfolding IsStrictlySortedBy
no-names = tt

bared-wired : (wiring : Wiring) → AreWired (bared wiring)
bared-wired wiring = net-of IsWired (record (out-Wiring wiring) { links = []; kids = [] }) (no-names, tt) tt

pub bare-wired : (place : List Name) (wiring bare : Wiring) → AreWired wiring → bare ≡ changed place bared wiring → AreWired bare
bare-wired place wiring bare wired is = subst AreWired (sym is) (changed-each IsWired bared (λ x _. bared-wired x) place wiring wired)

renewed-bared : (links : List Link) (kids : List WiredKid) (wiring : Wiring) → renewed links kids (bared wiring) ≡ renewed links kids wiring
renewed-bared links kids wiring = ap (λ (z : Wiring-F WiredKid Wiring). roll-Wiring (record z { links = links; kids = kids })) (out-roll-Wiring (record (out-Wiring wiring) { links = []; kids = [] }))

-- what is taken out and put in
pub after-is : (place : List Name) (kids : List WiredKid) (links : List Link) (wiring bare after : Wiring) → bare ≡ changed place bared wiring → after ≡ changed place (renewed links kids) bare → after ≡ wiring_after place kids links wiring
after-is place kids links wiring bare after q t =
    t ∙ ap (changed place (renewed links kids)) q ∙ changed-chain (renewed links kids) bared (renewed links kids) (renewed-bared links kids) place wiring

each-wired : (kids : List WiredKid) → AllByRecursion IsBelowWired kids → AllByRecursion (KidEach IsWired) kids
each-wired [] wired = tt
each-wired (kid ∷ kids) wired = (by (out-WiredKid kid).below wired.0, each-wired kids wired.1) where
  by : (below : Option Wiring) → BelowWired below → Beneath AreWired below
  by None own_wired = tt
  by (Some wiring) own_wired = own_wired

module _ (place gone : List Name) (fresh kids : List WiredKid) (links : List Link) (wiring : Wiring) (there : LeadsThere place wiring) (named : AreWired wiring) (same : IsPermutation (kids_after place gone fresh wiring) kids) where
  abbrev here : Wiring
  here = there.0

  abbrev after : Wiring
  after = wiring_after place kids links wiring

  kids-here : kids_at place wiring ≡ (out-Wiring here).kids
  kids-here = kids-there place wiring here there.1

  pub after-wired : InOrder kids → AllByRecursion LeadsInside links → AllByRecursion IsBelowWired fresh → AreWired after
  after-wired order inside_links below =
      let here_wired : AreWired here = (subst (AllByRecursion AreWired) there.1 (nets-each IsWired place wiring named)).0 in
      let stay_wired : AllByRecursion IsBelowWired (staying gone (kids_at place wiring)) =
      subst (λ own_kids. AllByRecursion IsBelowWired (staying gone own_kids)) (sym kids-here) (each-filter IsBelowWired (λ kid. not (has_name gone kid)) (out-Wiring here).kids (kids-below-wired here here_wired)) in
      let each : AllByRecursion (KidEach IsWired) kids =
      each-wired kids (each-ordered IsBelowWired (kids_after place gone fresh wiring) kids same (each-append IsBelowWired (staying gone (kids_at place wiring)) fresh stay_wired below)) in
      changed-each IsWired (renewed links kids)
      (λ x _. net-of IsWired (record (out-Wiring x) { links = links; kids = kids }) (subst AreInOrder (sym (names-of kids)) order, inside_links) each) place wiring named

  both : (h : WiredKid → ℕ) → weight h kids ≡ weight h fresh + weight h (staying gone (out-Wiring here).kids)
  both = both-ordered (staying gone (out-Wiring here).kids) fresh kids (subst (λ own_kids. IsPermutation (staying gone own_kids ++ fresh) kids) kids-here same)

  module _ (distinct : AreDistinct (handles_of wiring ++ flat_map handles_of_kid fresh)) where
    pub rows-then : (out new : List Row) (then : Wiring) → then ≡ after → out ≡ rows_out place gone wiring → new ≡ rows_in place fresh then → (row : Row) (had : Bool) → had ≡ among (routed wiring) row →
        (among new row || (had && not (among out row))) ≡ among (routed then) row
    rows-then out new then is p q row had t =
        let me : Handle = (out-Wiring wiring).me in
        let law = rows-after place gone links kids fresh wiring here there.1 both (wired-named wiring named) distinct row in
        let own_me : (out-Wiring then).me ≡ me = ap (λ (own_wiring : Wiring). (out-Wiring own_wiring).me) is ∙ me-after place links kids wiring in
        let before : List Row = map row_of (through (own me) place wiring) in
        let went : List Row = map row_of (inside (going gone (kids_at place wiring))) in
        let coming : List Row = map row_of (inside fresh) in
        let now : map row_of (through (own (out-Wiring then).me) place then) ≡ map row_of (through (own me) place (changed place (renewed links kids) wiring)) =
        ap (λ (own_handle : Handle). map row_of (through (own own_handle) place then)) own_me ∙ ap (λ own_wiring. map row_of (through (own me) place own_wiring)) is in
        ap₂ (λ (ins outs : Bool). ins || (had && not outs))
        (ap (λ own_rows. among own_rows row) q ∙ any-append (is_same_row row) coming (map row_of (through (own (out-Wiring then).me) place then)))
        (ap (λ own_rows. among own_rows row) p ∙ any-append (is_same_row row) before went)
        ∙ ap (λ b. (among coming row || among (map row_of (through (own (out-Wiring then).me) place then)) row) || b) (neither had (among before row) (among went row))
        ∙ other-first (among coming row) (among (map row_of (through (own (out-Wiring then).me) place then)) row) (had && not (among before row) && not (among went row))
        ∙ ap (λ own_rows. among own_rows row || (among coming row || (had && not (among before row) && not (among went row)))) now
        ∙ ap (λ own_had. among (map row_of (through (own me) place (changed place (renewed links kids) wiring))) row || (among coming row || (own_had && not (among before row) && not (among went row)))) t
        ∙ ap (λ own_kids. among (map row_of (through (own me) place (changed place (renewed links kids) wiring))) row || (among coming row || (among (routed wiring) row && not (among before row) && not (among (map row_of (inside (going gone own_kids))) row)))) kids-here
        ∙ sym law ∙ ap (λ own_wiring. among (routed own_wiring) row) (sym is)

    -- What is counted, by the sizes of the table before, of what is left of it, and after.
    pub ticks-then : (out : List Row) (then : Wiring) → then ≡ after → AreWired then → out ≡ rows_out place gone wiring → (table new_table : Rows) → table ≡ flatten wiring → new_table ≡ flatten then →
        (old new : ℕ) → new + (set.len (without table out) + set.len (without table out)) ≡ old + (set.len table + set.len new_table) → (net : Wiring) → nets_at place wiring ≡ net ∷ [] →
        new ≡ old + count (is_touched (out-Wiring net).me (handles_of then)) (routes wiring) + count (is_touched (out-Wiring net).me (handles_of wiring)) (routes then)
    ticks-then out then is wired_then p table new_table rows new_rows old new counts net leads =
        let me : Handle = (out-Wiring wiring).me in
        let same : here ≡ net = one-item here net (sym there.1 ∙ leads) in
        let before : List Row = map row_of (through (own me) place wiring) in
        let kept : Rows = without table out in
        let has : (row : Row) → set.contains kept row ≡ (set.contains (flatten wiring) row && not (among before row) && not (among (map row_of (inside (going gone (out-Wiring here).kids))) row)) =
        λ row. without-has table out row
        ∙ ap (λ (own_rows : Rows). set.contains own_rows row && not (among out row)) rows
        ∙ ap (λ (b : Bool). set.contains (flatten wiring) row && not b) (ap (λ own_rows. among own_rows row) p ∙ any-append (is_same_row row) before (map row_of (inside (going gone (kids_at place wiring)))))
        ∙ neither (set.contains (flatten wiring) row) (among before row) (among (map row_of (inside (going gone (kids_at place wiring)))) row)
        ∙ ap (λ own_kids. set.contains (flatten wiring) row && not (among before row) && not (among (map row_of (inside (going gone own_kids))) row)) kids-here in
        let sizes : new + (set.len kept + set.len kept) ≡ old + (set.len (flatten wiring) + set.len (flatten after)) =
        counts ∙ ap (λ (own_rows : Rows). old + (set.len own_rows + set.len new_table)) rows ∙ ap (λ (own_rows : Rows). old + (set.len (flatten wiring) + set.len own_rows)) (new_rows ∙ ap flatten is) in
        let all : new ≡ old + count (is_touched (out-Wiring here).me (handles_of after)) (routes wiring) + count (is_touched (out-Wiring here).me (handles_of wiring)) (routes after) =
        changes-count place gone links kids fresh wiring here there.1 both named distinct (subst AreWired is wired_then) kept has old new sizes in
        all
        ∙ ap (λ (own_wiring : Wiring). old + count (is_touched (out-Wiring here).me (handles_of own_wiring)) (routes wiring) + count (is_touched (out-Wiring here).me (handles_of wiring)) (routes own_wiring)) (sym is)
        ∙ ap (λ (own_net : Wiring). old + count (is_touched (out-Wiring own_net).me (handles_of then)) (routes wiring) + count (is_touched (out-Wiring own_net).me (handles_of wiring)) (routes then)) same
      where
        one-item : (x y : Wiring) → x ∷ [] ≡ y ∷ [] → x ≡ y
        one-item x y same_list = cc

-- the components there
pub kids-wired : (place : List Name) (wiring : Wiring) → LeadsThere place wiring → AreWired wiring → (kids : List WiredKid) → kids ≡ kids_at place wiring → AllByRecursion IsBelowWired kids
kids-wired place wiring there named kids is =
    let own_named : AreWired there.0 = (subst (AllByRecursion AreWired) there.1 (nets-each IsWired place wiring named)).0 in
    subst (AllByRecursion IsBelowWired) (sym (is ∙ kids-there place wiring there.0 there.1)) (kids-below-wired there.0 own_named)

-- A whole repair, from what each of its steps gives.
module _ {X E : Type 0} (result : Result X E) (place gone : List Name) (fresh kids : List WiredKid) (links : List Link) (wiring then : Wiring)
    (there : LeadsThere place wiring) (wired : AreWired wiring) (distinct : AreDistinct (handles_of wiring ++ flat_map handles_of_kid fresh))
    (all : IsPermutation (kids_after place gone fresh wiring) kids) (order : InOrder kids) (is : then ≡ wiring_after place kids links wiring) (inside_links : AllByRecursion LeadsInside links) (below : AllByRecursion IsBelowWired fresh)
    (out new_rows : List Row) (p : out ≡ rows_out place gone wiring) (q : new_rows ≡ rows_in place fresh then) (table left new_table : Rows) (rows : table ≡ flatten wiring)
    (taken : (row : Row) → set.contains left row ≡ (set.contains table row && not (among out row))) (has : OnOk result ((row : Row) → set.contains new_table row ≡ (among new_rows row || set.contains left row)))
  where
    wired_then : AreWired then
    wired_then = subst AreWired (sym is) (after-wired place gone fresh kids links wiring there wired all order inside_links below)

    pub table-repaired : OnOk result (new_table ≡ flatten then)
    table-repaired =
        ok-map result ((row : Row) → set.contains new_table row ≡ (among new_rows row || set.contains left row)) (new_table ≡ flatten then)
        (λ own. set.same_set row_cmp-total row_cmp-same new_table (flatten then) (λ row.
        own row ∙ ap (λ b. among new_rows row || b) (taken row)
        ∙ rows-then place gone fresh kids links wiring there wired all distinct out new_rows then is p q row (set.contains table row) (ap (λ (own_rows : Rows). set.contains own_rows row) rows ∙ in-flatten wiring wired row)
        ∙ sym (in-flatten then wired_then row)))
        has

    pub ticks-repaired : (old mid new : ℕ) → mid + set.len left ≡ old + set.len table → new + set.len left ≡ mid + set.len new_table →
        OnOk result ((net : Wiring) → nets_at place wiring ≡ net ∷ [] → new ≡ old + count (is_touched (out-Wiring net).me (handles_of then)) (routes wiring) + count (is_touched (out-Wiring net).me (handles_of wiring)) (routes then))
    ticks-repaired old mid new first second =
        ok-map result (new_table ≡ flatten then)
        ((net : Wiring) → nets_at place wiring ≡ net ∷ [] → new ≡ old + count (is_touched (out-Wiring net).me (handles_of then)) (routes wiring) + count (is_touched (out-Wiring net).me (handles_of wiring)) (routes then))
        (λ same net leads. ticks-then place gone fresh kids links wiring there wired all distinct out then is wired_then p table new_table rows same old new (exchanged table left new_table out old mid new taken first second) net leads)
        table-repaired
