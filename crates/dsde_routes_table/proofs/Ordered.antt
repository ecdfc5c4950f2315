-- Rows in order, and the places among them.
use Rattle.std.proofs.Common.{◌≡◌, ℕ, zero, suc, ◌+◌, ◌-◌, ◌<◌, ◌≤◌, Bool, true, false, ◌||◌, length, get_or, take, drop, arith, List, [], ◌∷◌, ◌++◌, refl, sym, ap, ◌∙◌, subst, Less, Equal, Greater, Ordering}
use Rattle.std.proofs.lemmas.List.{drop_more}
use Rattle.std.specs.List.{AllByRecursion, list_any}
use Rattle.std.specs.Ordering.{is_gt, is_eq, ordering_reverse}
use Rattle.std.specs.Cmp.{IsTotalOrder, on_total, then_total, tied_itself, nat_cmp_total}
use Rattle.std.specs.Cmp.Lexicographic.{nat_list_cmp_total}
use Rattle.dsde_routes_wiring.specs.declared.row.Row.{Row}
use Rattle.dsde_routes_wiring.specs.Sets.{row_cmp, row_cmp-total, row_cmp-same}
use Rattle.dsde_routes_wiring.specs.Rows.{is_same_row}
use Rattle.dsde_routes_table.specs.Order.{target_cmp, IsUpTo, AreInOrder}
use Rattle.dsde_routes_table.specs.Places.{IsPlace}
use Rattle.dsde_routes_table.specs.declared.place.Place.TheVariants.{Free}

pub target-total : IsTotalOrder target_cmp
target-total = then_total (on_total (λ (row : Row). row.target.birth) nat_cmp_total) (then_total (on_total (λ (row : Row). row.target_port) nat_cmp_total) (on_total (λ (row : Row). row.rank) nat_list_cmp_total))

pub same-itself : (row : Row) → is_same_row row row ≡ true
same-itself row = ap is_eq (tied_itself row_cmp-total row)

pub same-is : (row own : Row) → is_same_row row own ≡ true → row ≡ own
same-is row own is = row_cmp-same row own (by (row_cmp row own) is)
  where
    by : (o : Ordering) → is_eq o ≡ true → o ≡ Equal
    by Less is = absurd (cc)
    by Equal is = refl
    by Greater is = absurd (cc)

-- where one row is not another, no test says so
pub not-same : (row own : Row) → (own ≡ row → ⊥) → is_same_row row own ≡ false
not-same row own apart = by (is_same_row row own) refl
  where
    by : (b : Bool) → is_same_row row own ≡ b → b ≡ false
    by false is = refl
    by true is = absurd (apart (sym (same-is row own is)))

flips-less : (own row : Row) → target_cmp own row ≡ Less → target_cmp row own ≡ Greater
flips-less own row less = target-total.antisymm row own ∙ ap ordering_reverse less

-- what is not before is up to
pub up-to : (own row : Row) (o : Ordering) → target_cmp own row ≡ o → (o ≡ Less → ⊥) → IsUpTo row own
up-to own row Less is apart = absurd (apart refl)
up-to own row Equal is apart = ap is_gt (target-total.antisymm row own ∙ ap ordering_reverse is)
up-to own row Greater is apart = ap is_gt (target-total.antisymm row own ∙ ap ordering_reverse is)

before-same : (own row : Row) → target_cmp own row ≡ Less → is_same_row row own ≡ false
before-same own row less = not-same row own (λ same. let tied = tied_itself target-total row in let wrong : Equal ≡ Less = sym tied ∙ ap (λ (r : Row). target_cmp r row) (sym same) ∙ less in cc)

up-to-before : (x own row : Row) → IsUpTo x own → target_cmp own row ≡ Less → target_cmp x row ≡ Less
up-to-before x own row first less = by (target_cmp x own) refl first
  where
    by : (o : Ordering) → target_cmp x own ≡ o → is_gt o ≡ false → target_cmp x row ≡ Less
    by Less is first = target-total.trans x own row is less
    by Equal is first = target-total.congr x own row is ∙ less
    by Greater is first = absurd (cc)

-- all up to the last of these rows, which stands before the row, stand before it
pub all-before : (rows : List Row) (index : ℕ) (row d : Row) → AreInOrder rows → index < length rows → target_cmp (get_or rows index d) row ≡ Less → AllByRecursion (λ own. target_cmp own row ≡ Less) (take (suc index) rows)
all-before [] index row d order within less = absurd (omega arith)
all-before (x ∷ rows) zero row d order within less = (less, tt)
all-before (x ∷ rows) (suc index) row d order within less =
    let lower : index < length rows = omega arith in
    (up-to-before x (get_or rows index d) row (at rows index order.0 lower) less, all-before rows index row d order.1 lower less)
  where
    at : (rows : List Row) (index : ℕ) → AllByRecursion (IsUpTo x) rows → index < length rows → IsUpTo x (get_or rows index d)
    at [] index all within = absurd (omega arith)
    at (y ∷ rows) zero all within = all.0
    at (y ∷ rows) (suc index) all within = at rows index all.1 (omega arith)

pub before-up-to : (row : Row) (rows : List Row) → AllByRecursion (λ own. target_cmp own row ≡ Less) rows → AllByRecursion (λ own. IsUpTo own row) rows
before-up-to row [] all = tt
before-up-to row (own ∷ rows) all = (ap is_gt all.0, before-up-to row rows all.1)

pub before-none : (row : Row) (rows : List Row) → AllByRecursion (λ own. target_cmp own row ≡ Less) rows → list_any (is_same_row row) rows ≡ false
before-none row [] all = refl
before-none row (own ∷ rows) all = λ i. before-same own row all.0 i || before-none row rows all.1 i

any-append : (row : Row) (xs ys : List Row) → list_any (is_same_row row) (xs ++ ys) ≡ (list_any (is_same_row row) xs || list_any (is_same_row row) ys)
any-append row [] ys = refl
any-append row (x ∷ xs) ys = ap (λ b. is_same_row row x || b) (any-append row xs ys) ∙ or_assoc (is_same_row row x) (list_any (is_same_row row) xs) (list_any (is_same_row row) ys)
  where
    or_assoc : (a b c : Bool) → (a || (b || c)) ≡ ((a || b) || c)
    or_assoc true b c = refl
    or_assoc false b c = refl

none-front : (b rest all : Bool) → (b || rest) ≡ false → (rest ≡ false → all ≡ false) → (b || all) ≡ false
none-front true rest all first later = absurd (cc)
none-front false rest all first later = later first

pub none-both : (rows : List Row) (index : ℕ) (row : Row) → list_any (is_same_row row) (take index rows) ≡ false → list_any (is_same_row row) (drop index rows) ≡ false → list_any (is_same_row row) rows ≡ false
none-both [] index row first later = refl
none-both (x ∷ rows) zero row first later = later
none-both (x ∷ rows) (suc index) row first later =
    none-front (is_same_row row x) (list_any (is_same_row row) (take index rows)) (list_any (is_same_row row) rows) first (λ front. none-both rows index row front later)

-- one row more behind
pub all-more : (P : Row → Type 0) (rows : List Row) (index : ℕ) (d : Row) → index < length rows → P (get_or rows index d) → AllByRecursion P (drop (index + 1) rows) → AllByRecursion P (drop index rows)
all-more P rows index d within one all = subst (AllByRecursion P) (sym (drop_more rows index d within)) (one, all)

pub none-more : (row : Row) (rows : List Row) (index : ℕ) (d : Row) → index < length rows → is_same_row row (get_or rows index d) ≡ false → list_any (is_same_row row) (drop (index + 1) rows) ≡ false → list_any (is_same_row row) (drop index rows) ≡ false
none-more row rows index d within one none = ap (list_any (is_same_row row)) (drop_more rows index d within) ∙ (λ i. one i || none i)

-- the row stands before this index
pub free-behind : (rows : List Row) (index : ℕ) (row own : Row) → AreInOrder rows → 0 < index → index ≤ length rows → own ≡ get_or rows (index - 1) own → target_cmp own row ≡ Less →
    AllByRecursion (IsUpTo row) (drop index rows) → list_any (is_same_row row) (drop index rows) ≡ false → IsPlace rows row (Free index)
free-behind rows index row own order some within is less behind none =
    let low : index - 1 < length rows = omega arith in
    let one : suc (index - 1) ≡ index = omega arith in
    let all = subst (λ n. AllByRecursion (λ own. target_cmp own row ≡ Less) (take n rows)) one (all-before rows (index - 1) row own order low (ap (λ (r : Row). target_cmp r row) (sym is) ∙ less)) in
    (within, before-up-to row (take index rows) all, behind, none-both rows index row (before-none row (take index rows) all) none)

-- one row less is to be looked at
pub one-less : (rows : List Row) (index : ℕ) (row own : Row) → 0 < index → index ≤ length rows → own ≡ get_or rows (index - 1) own → IsUpTo row own → is_same_row row own ≡ false →
    AllByRecursion (IsUpTo row) (drop index rows) → list_any (is_same_row row) (drop index rows) ≡ false →
    (index - 1 ≤ length rows) × AllByRecursion (IsUpTo row) (drop (index - 1) rows) × (list_any (is_same_row row) (drop (index - 1) rows) ≡ false)
one-less rows index row own some within is up apart behind none =
    let low : index - 1 < length rows = omega arith in
    let one : index ≡ index - 1 + 1 = omega arith in (
      omega arith,
      all-more (IsUpTo row) rows (index - 1) own low (subst (IsUpTo row) is up) (subst (λ n. AllByRecursion (IsUpTo row) (drop n rows)) one behind),
      none-more row rows (index - 1) own low (subst (λ (r : Row). is_same_row row r ≡ false) is apart) (subst (λ n. list_any (is_same_row row) (drop n rows) ≡ false) one none),
    )
