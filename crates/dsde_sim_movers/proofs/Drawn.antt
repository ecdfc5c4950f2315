-- What numbers draw is an order, and a lawful one.
use Rattle.std.proofs.Common.{◌≡◌, ℕ, zero, suc, ◌+◌, ◌<◌, ◌≤◌, ◌%◌, not, Bool, true, false, ◌&&◌, List, [], ◌∷◌, ◌++◌, length, map, filter, cond, Option, Some, None, refl, sym, ◌∙◌, ap, subst, arith, mod-lt, length-append}
use Rattle.std.specs.List.{AllByRecursion, list_all, slice_get}
use Rattle.dsde_values.specs.declared.path.Path.{Path}
use Rattle.dsde_sim_movers.specs.Deliveries.{Delivery}
use Rattle.dsde_sim_movers.specs.Orders.{is_above, IsLawful, IsDrawn}
use Rattle.dsde_drawing.specs.Drawing.{Pick, more, picks, is_ready, ready, drawn}
use Rattle.dsde_sim_movers.proofs.Agree.{all-drop}

-- a pick takes one out of the list
abbrev IsPick : List Delivery → Pick Delivery → Type 0
IsPick left pick = (before after : List Delivery) × (left ≡ before ++ pick.own ∷ after) × (pick.others ≡ before ++ after)

more-pick : (own : Delivery) (later : List Delivery) (pick : Pick Delivery) → IsPick later pick → IsPick (own ∷ later) (more own pick)
more-pick own later pick is = (own ∷ is.0, is.1, ap (λ (list : List Delivery). own ∷ list) is.2, ap (λ (list : List Delivery). own ∷ list) is.3)

all-more : (own : Delivery) (later : List Delivery) (list : List (Pick Delivery)) → AllByRecursion (IsPick later) list → AllByRecursion (IsPick (own ∷ later)) (map (more own) list)
all-more own later [] all = tt
all-more own later (pick ∷ list) all = (more-pick own later pick all.0, all-more own later list all.1)

all-picks : (left : List Delivery) → AllByRecursion (IsPick left) (picks left)
all-picks [] = tt
all-picks (own ∷ later) = (([], later, refl, refl), all-more own later (picks later) (all-picks later))

-- what is kept by a test passes it
kept-by : (path : Path) (left : List Delivery) (pick : Pick Delivery) (rest : List (Pick Delivery)) (here : Bool) → is_ready (is_above path) pick ≡ here → IsPick left pick →
    AllByRecursion (λ one. IsPick left one × (is_ready (is_above path) one ≡ true)) rest → AllByRecursion (λ one. IsPick left one × (is_ready (is_above path) one ≡ true)) (cond here (pick ∷ rest) rest)
kept-by path left pick rest true is own all = ((own, is), all)
kept-by path left pick rest false is own all = all

all-kept : (path : Path) (left : List Delivery) (list : List (Pick Delivery)) → AllByRecursion (IsPick left) list → AllByRecursion (λ one. IsPick left one × (is_ready (is_above path) one ≡ true)) (filter (is_ready (is_above path)) list)
all-kept path left [] all = tt
all-kept path left (pick ∷ list) all = kept-by path left pick (filter (is_ready (is_above path)) list) (is_ready (is_above path) pick) refl all.0 (all-kept path left list all.1)

all-get : {X : Type 0} (P : X → Type 0) (xs : List X) (k : ℕ) (x : X) → AllByRecursion P xs → slice_get xs k ≡ Some x → P x
all-get P [] k x all is = absurd (let e : None ≡ Some x = is in cc)
all-get P (y ∷ xs) zero x all is = subst P (let e : Some y ≡ Some x = is in cc) all.0
all-get P (y ∷ xs) (suc k) x all is = all-get P xs k x all.1 is

get-some : {X : Type 0} (xs : List X) (k : ℕ) → k < length xs → (x : X) × (slice_get xs k ≡ Some x)
get-some [] k within = absurd (omega arith)
get-some (y ∷ xs) zero within = (y, refl)
get-some (y ∷ xs) (suc k) within = get-some xs k (omega arith)

-- the first of those that are left is ready
none-beneath : (path : Path) (own : Delivery) (others : List Delivery) → AllByRecursion (λ other. is_above path own other ≡ false) others → list_all (λ other. not (is_above path own other)) others ≡ true
none-beneath path own [] all = refl
none-beneath path own (other ∷ others) all = (λ i. not (all.0 i) && list_all (λ other. not (is_above path own other)) others) ∙ none-beneath path own others all.1

beneath-none-by : (path : Path) (own other : Delivery) (others : List Delivery) (above : Bool) → is_above path own other ≡ above → (not above && list_all (λ other. not (is_above path own other)) others) ≡ true →
    (list_all (λ other. not (is_above path own other)) others ≡ true → AllByRecursion (λ other. is_above path own other ≡ false) others) → AllByRecursion (λ other. is_above path own other ≡ false) (other ∷ others)
beneath-none-by path own other others false is all later = (is, later all)
beneath-none-by path own other others true is all later = absurd (let e : false ≡ true = all in cc)

beneath-none : (path : Path) (own : Delivery) (others : List Delivery) → list_all (λ other. not (is_above path own other)) others ≡ true → AllByRecursion (λ other. is_above path own other ≡ false) others
beneath-none path own [] all = tt
beneath-none path own (other ∷ others) all = beneath-none-by path own other others (is_above path own other) refl all (beneath-none path own others)

some-ready-by : (path : Path) (pick : Pick Delivery) (rest : List (Pick Delivery)) (here : Bool) → here ≡ true → 0 < length (cond here (pick ∷ rest) rest)
some-ready-by path pick rest true is = omega arith
some-ready-by path pick rest false is = absurd (let e : false ≡ true = is in cc)

some-ready : (path : Path) (own : Delivery) (later : List Delivery) → IsLawful path (own ∷ later) → 0 < length (ready (is_above path) (own ∷ later))
some-ready path own later lawful =
    let first : Pick Delivery = record { own = own; others = later } in
    some-ready-by path first (filter (is_ready (is_above path)) (map (more own) (picks later))) (is_ready (is_above path) first) (none-beneath path own later lawful.0)

-- those that are left stay lawful
lawful-drop : (path : Path) (before : List Delivery) (own : Delivery) (after : List Delivery) → IsLawful path (before ++ own ∷ after) → IsLawful path (before ++ after)
lawful-drop path [] own after lawful = lawful.1
lawful-drop path (other ∷ before) own after lawful = (all-drop (λ one. is_above path other one ≡ false) before own after lawful.0, lawful-drop path before own after lawful.1)

drawn-by : (path : Path) (count : ℕ) (left : List Delivery) (words : List ℕ) (found : Option (Pick Delivery)) (pick : Pick Delivery) → found ≡ Some pick →
    (let order : List Delivery = elim found [ Some pick ↦ pick.own ∷ drawn (is_above path) count pick.others words | None ↦ [] ] in order ≡ pick.own ∷ drawn (is_above path) count pick.others words)
drawn-by path count left words found pick is =
    ap (λ (one : Option (Pick Delivery)). let order : List Delivery = elim one [ Some pick ↦ pick.own ∷ drawn (is_above path) count pick.others words | None ↦ [] ] in order) is

pub is-drawn : (path : Path) (count : ℕ) (left : List Delivery) (words : List ℕ) → IsLawful path left → length left ≡ count → count ≤ length words → IsDrawn path left (drawn (is_above path) count left words)
is-drawn path zero [] words lawful counted enough = refl
is-drawn path zero (own ∷ later) words lawful counted enough = absurd (omega arith)
is-drawn path (suc count) [] words lawful counted enough = absurd (omega arith)
is-drawn path (suc count) (own ∷ later) [] lawful counted enough = absurd (omega arith)
is-drawn path (suc count) (own ∷ later) (word ∷ words) lawful counted enough =
    let left = own ∷ later in
    let list = ready (is_above path) left in
    let some : 0 < length list = some-ready path own later lawful in
    let found = get-some list (word % length list) (mod-lt word some) in
    let pick = found.0 in
    let known = all-get (λ one. IsPick left one × (is_ready (is_above path) one ≡ true)) list (word % length list) pick (all-kept path left (picks left) (all-picks left)) found.1 in
    let place = known.0 in
    let rest : IsLawful path pick.others = subst (IsLawful path) (sym place.3) (lawful-drop path place.0 pick.own place.1 (subst (IsLawful path) place.2 lawful)) in
    let count_left : length left ≡ length place.0 + suc (length place.1) = ap length place.2 ∙ length-append place.0 (pick.own ∷ place.1) in
    let count_rest : length pick.others ≡ length place.0 + length place.1 = ap length place.3 ∙ length-append place.0 place.1 in
    let counts : length pick.others ≡ count = omega (arith, count_left, count_rest, counted) in
    let later_drawn = is-drawn path count pick.others words rest counts (omega (arith, enough)) in
    subst (IsDrawn path left) (sym (drawn-by path count left words (slice_get list (word % length list)) pick found.1)) (
      place.0,
      place.1,
      place.2,
      subst (AllByRecursion (λ other. is_above path pick.own other ≡ false)) place.3 (beneath-none path pick.own pick.others known.1),
      subst (λ (all : List Delivery). IsDrawn path all (drawn (is_above path) count pick.others words)) place.3 later_drawn,
    )
