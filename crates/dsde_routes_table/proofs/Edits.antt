-- Rows put among others, and taken out.
use Rattle.std.proofs.Common.{◌≡◌, ℕ, zero, suc, ◌<◌, Bool, true, false, not, ◌||◌, ◌&&◌, length, get_or, take, drop, arith, List, [], ◌∷◌, ◌++◌, refl, sym, ap, ◌∙◌}
use Rattle.std.specs.List.{AllByRecursion, list_all}
use Rattle.dsde_routes_wiring.specs.declared.row.Row.{Row}
use Rattle.dsde_routes_wiring.specs.Rows.{is_same_row, among}
use Rattle.dsde_routes_table.specs.Order.{IsUpTo, AreInOrder, AreOnce, Puts, Takes}
use Rattle.dsde_routes_table.specs.Places.{IsPlace}
use Rattle.dsde_routes_table.specs.declared.place.Place.TheVariants.{Free, Here}
use Rattle.dsde_routes_table.proofs.Ordered.{same-is, same-itself}

-- a row between the first ones and the others
abbrev between : List Row → ℕ → Row → List Row
between rows index row = take index rows ++ row ∷ drop index rows

-- all rows but the one at an index
abbrev others : List Row → ℕ → List Row
others rows index = take index rows ++ drop (suc index) rows

all-between : (P : Row → Type 0) (rows : List Row) (index : ℕ) (row : Row) → AllByRecursion P rows → P row → AllByRecursion P (between rows index row)
all-between P [] zero row all one = (one, tt)
all-between P [] (suc index) row all one = (one, tt)
all-between P (x ∷ rows) zero row all one = (one, all)
all-between P (x ∷ rows) (suc index) row all one = (all.0, all-between P rows index row all.1 one)

order-between : (rows : List Row) (index : ℕ) (row : Row) → AreInOrder rows → AllByRecursion (λ own. IsUpTo own row) (take index rows) → AllByRecursion (IsUpTo row) (drop index rows) → AreInOrder (between rows index row)
order-between [] zero row order front back = (tt, tt)
order-between [] (suc index) row order front back = (tt, tt)
order-between (x ∷ rows) zero row order front back = (back, order)
order-between (x ∷ rows) (suc index) row order front back = (all-between (IsUpTo x) rows index row order.0 front.0, order-between rows index row order.1 front.1 back)

or_swap : (a b c : Bool) → (a || (b || c)) ≡ (b || (a || c))
or_swap true true c = refl
or_swap true false c = refl
or_swap false b c = refl

and_swap : (a b c : Bool) → (a && (b && c)) ≡ (b && (a && c))
and_swap true b c = refl
and_swap false true c = refl
and_swap false false c = refl

has-between : (rows : List Row) (index : ℕ) (row own : Row) → among (between rows index row) own ≡ (is_same_row own row || among rows own)
has-between [] zero row own = refl
has-between [] (suc index) row own = refl
has-between (x ∷ rows) zero row own = refl
has-between (x ∷ rows) (suc index) row own = ap (λ b. is_same_row own x || b) (has-between rows index row own) ∙ or_swap (is_same_row own x) (is_same_row own row) (among rows own)

each-between : (P : Row → Bool) (rows : List Row) (index : ℕ) (row : Row) → list_all P (between rows index row) ≡ (P row && list_all P rows)
each-between P [] zero row = refl
each-between P [] (suc index) row = refl
each-between P (x ∷ rows) zero row = refl
each-between P (x ∷ rows) (suc index) row = ap (λ b. P x && b) (each-between P rows index row) ∙ and_swap (P x) (P row) (list_all P rows)

or-first : (a b : Bool) → (a || b) ≡ false → a ≡ false
or-first true b is = is
or-first false b is = refl

or-second : (a b : Bool) → (a || b) ≡ false → b ≡ false
or-second true b is = absurd (cc)
or-second false b is = is

-- the test goes both ways
same-back : (one other : Row) → is_same_row one other ≡ false → is_same_row other one ≡ false
same-back one other apart = by (is_same_row other one) refl
  where
    by : (b : Bool) → is_same_row other one ≡ b → b ≡ false
    by false is = refl
    by true is = absurd (let same = same-is other one is in let wrong : true ≡ false = sym (same-itself other) ∙ ap (λ (r : Row). is_same_row r other) same ∙ apart in cc)

once-between : (rows : List Row) (index : ℕ) (row : Row) → AreOnce rows → among rows row ≡ false → AreOnce (between rows index row)
once-between [] zero row once none = (refl, tt)
once-between [] (suc index) row once none = (refl, tt)
once-between (x ∷ rows) zero row once none = (none, once)
once-between (x ∷ rows) (suc index) row once none =
    (has-between rows index row x ∙ (λ i. same-back row x (or-first (is_same_row row x) (among rows row) none) i || once.0 i), once-between rows index row once.1 (or-second (is_same_row row x) (among rows row) none))

all-others : (P : Row → Type 0) (rows : List Row) (index : ℕ) → AllByRecursion P rows → AllByRecursion P (others rows index)
all-others P [] zero all = tt
all-others P [] (suc index) all = tt
all-others P (x ∷ rows) zero all = all.1
all-others P (x ∷ rows) (suc index) all = (all.0, all-others P rows index all.1)

order-others : (rows : List Row) (index : ℕ) → AreInOrder rows → AreInOrder (others rows index)
order-others [] zero order = tt
order-others [] (suc index) order = tt
order-others (x ∷ rows) zero order = order.1
order-others (x ∷ rows) (suc index) order = (all-others (IsUpTo x) rows index order.0, order-others rows index order.1)

has-less : (rows : List Row) (index : ℕ) (own : Row) → among rows own ≡ false → among (others rows index) own ≡ false
has-less [] zero own none = refl
has-less [] (suc index) own none = refl
has-less (x ∷ rows) zero own none = or-second (is_same_row own x) (among rows own) none
has-less (x ∷ rows) (suc index) own none =
    λ i. or-first (is_same_row own x) (among rows own) none i || has-less rows index own (or-second (is_same_row own x) (among rows own) none) i

once-others : (rows : List Row) (index : ℕ) → AreOnce rows → AreOnce (others rows index)
once-others [] zero once = tt
once-others [] (suc index) once = tt
once-others (x ∷ rows) zero once = once.1
once-others (x ∷ rows) (suc index) once = (has-less rows index x once.0, once-others rows index once.1)

or-true : (a b : Bool) → b ≡ true → (a || b) ≡ true
or-true true b is = refl
or-true false b is = is

has-at : (rows : List Row) (index : ℕ) (row : Row) → index < length rows → get_or rows index row ≡ row → among rows row ≡ true
has-at [] index row within is = absurd (omega arith)
has-at (x ∷ rows) zero row within is = ap (λ (r : Row). is_same_row row r || among rows row) is ∙ ap (λ b. b || among rows row) (same-itself row)
has-at (x ∷ rows) (suc index) row within is = or-true (is_same_row row x) (among rows row) (has-at rows index row (omega arith) is)

head-out : (x own : Row) (rows : List Row) (b : Bool) → is_same_row own x ≡ b → among rows x ≡ false → among rows own ≡ (not b && (b || among rows own))
head-out x own rows true is none = ap (among rows) (same-is own x is) ∙ none
head-out x own rows false is none = refl

later-out : (x own row : Row) (rows : List Row) (b c : Bool) → is_same_row own x ≡ b → is_same_row own row ≡ c → among rows x ≡ false → among rows row ≡ true → (b || (not c && among rows own)) ≡ (not c && (b || among rows own))
later-out x own row rows true true is also none there =
    absurd (let wrong : false ≡ true = sym none ∙ ap (among rows) (sym (same-is own x is) ∙ same-is own row also) ∙ there in cc)
later-out x own row rows true false is also none there = refl
later-out x own row rows false c is also none there = refl

has-others : (rows : List Row) (index : ℕ) (row own : Row) → AreOnce rows → index < length rows → get_or rows index row ≡ row → among (others rows index) own ≡ (not (is_same_row own row) && among rows own)
has-others [] index row own once within is = absurd (omega arith)
has-others (x ∷ rows) zero row own once within is =
    head-out x own rows (is_same_row own x) refl once.0 ∙ ap (λ (r : Row). not (is_same_row own r) && (is_same_row own x || among rows own)) is
has-others (x ∷ rows) (suc index) row own once within is =
    ap (λ b. is_same_row own x || b) (has-others rows index row own once.1 (omega arith) is)
    ∙ later-out x own row rows (is_same_row own x) (is_same_row own row) refl refl once.0 (has-at rows index row (omega arith) is)

and-first : (a b : Bool) → (a && b) ≡ true → a ≡ true
and-first true b is = refl
and-first false b is = is

and-second : (a b : Bool) → (a && b) ≡ true → b ≡ true
and-second true b is = is
and-second false b is = absurd (cc)

each-others : (P : Row → Bool) (rows : List Row) (index : ℕ) → list_all P rows ≡ true → list_all P (others rows index) ≡ true
each-others P [] zero all = refl
each-others P [] (suc index) all = refl
each-others P (x ∷ rows) zero all = and-second (P x) (list_all P rows) all
each-others P (x ∷ rows) (suc index) all = λ i. and-first (P x) (list_all P rows) all i && each-others P rows index (and-second (P x) (list_all P rows) all) i

pub puts-free : (rows : List Row) (index : ℕ) (row : Row) → AreInOrder rows → AreOnce rows → IsPlace rows row (Free index) → Puts row rows (between rows index row) true
puts-free rows index row order once free = record {
  added = sym (ap not free.3);
  rows = has-between rows index row;
  order = order-between rows index row order free.1 free.2;
  once = once-between rows index row once free.3;
  each = λ P. each-between P rows index row;
}

-- a row that is there already
or-same : (row own : Row) (rows : List Row) (b : Bool) → is_same_row own row ≡ b → among rows row ≡ true → among rows own ≡ (b || among rows own)
or-same row own rows true is there = ap (among rows) (same-is own row is) ∙ there
or-same row own rows false is there = refl

all-of : (P : Row → Bool) (rows : List Row) (index : ℕ) (row : Row) → index < length rows → get_or rows index row ≡ row → list_all P rows ≡ (P row && list_all P rows)
all-of P [] index row within is = absurd (omega arith)
all-of P (x ∷ rows) zero row within is = ap (λ b. b && list_all P rows) (and-self (P x)) ∙ and_assoc (P x) (P x) (list_all P rows) ∙ ap (λ (r : Row). P r && (P x && list_all P rows)) is
  where
    and-self : (a : Bool) → a ≡ (a && a)
    and-self true = refl
    and-self false = refl

    and_assoc : (a b c : Bool) → ((a && b) && c) ≡ (a && (b && c))
    and_assoc true b c = refl
    and_assoc false b c = refl
all-of P (x ∷ rows) (suc index) row within is = ap (λ b. P x && b) (all-of P rows index row (omega arith) is) ∙ and_swap (P x) (P row) (list_all P rows)

pub puts-here : (rows : List Row) (index : ℕ) (row : Row) → AreInOrder rows → AreOnce rows → IsPlace rows row (Here index) → Puts row rows rows false
puts-here rows index row order once here =
    let there = has-at rows index row here.0 here.1 in
    record {
      added = sym (ap not there);
      rows = λ own. or-same row own rows (is_same_row own row) refl there;
      order = order;
      once = once;
      each = λ P. all-of P rows index row here.0 here.1;
    }

pub takes-here : (rows : List Row) (index : ℕ) (row : Row) → AreInOrder rows → AreOnce rows → IsPlace rows row (Here index) → Takes row rows (others rows index) true
takes-here rows index row order once here = record {
  taken = sym (has-at rows index row here.0 here.1);
  rows = λ own. has-others rows index row own once here.0 here.1;
  order = order-others rows index order;
  once = once-others rows index once;
  each = λ P. each-others P rows index;
}

not-there : (row own : Row) (rows : List Row) (b : Bool) → is_same_row own row ≡ b → among rows row ≡ false → among rows own ≡ (not b && among rows own)
not-there row own rows true is none = ap (among rows) (same-is own row is) ∙ none
not-there row own rows false is none = refl

pub takes-free : (rows : List Row) (index : ℕ) (row : Row) → AreInOrder rows → AreOnce rows → IsPlace rows row (Free index) → Takes row rows rows false
takes-free rows index row order once free = record {
  taken = sym free.3;
  rows = λ own. not-there row own rows (is_same_row own row) refl free.3;
  order = order;
  once = once;
  each = λ P all. all;
}
