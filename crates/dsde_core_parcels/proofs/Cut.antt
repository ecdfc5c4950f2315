-- Parcels target by target.
use Rattle.std.proofs.Common.{◌≡◌, ℕ, ◌≤◌, ◌<◌, Bool, true, false, ◌==◌, ◌&&◌, cond, List, [], ◌∷◌, ◌++◌, map, refl, sym, ap, ◌∙◌, subst, inl, inr, if◌then◌else◌, is_lt, nat_lt, Ordering, Less, Equal, Greater, arith}
use Rattle.std.specs.FinSet.{nat_cmp-IsAntisymmetric}
use Rattle.std.specs.Cmp.Lexicographic.{slice_cmp}
use Rattle.std.specs.Ordering.{nat_cmp, ordering_then}
use Rattle.std.specs.List.{AllByRecursion, filter, flat_map, range_with_len}
use Rattle.std.proofs.lemmas.Bool.Decides.{nat_tests}
use Rattle.std.proofs.lemmas.Grind.{flat_map-append}
use Rattle.std.proofs.lemmas.List.{append-nil, append_assoc}
use Rattle.dsde_bank.specs.declared.handle.Handle.{Handle}
use Rattle.dsde_values.specs.declared.value.Value.{Value}
use Rattle.dsde_routes_wiring.specs.Wired.{is_same_handle}
use Rattle.dsde_core_parcels.specs.declared.parcel.Parcel.{Parcel}
use Rattle.dsde_core_parcels.specs.declared.inbox.Get.{Get}
use Rattle.dsde_core_parcels.specs.declared.inbox.Inbox.{Inbox}
use Rattle.dsde_core_parcels.specs.Inboxes.{Lot, lot_of, put_by, put_lot, put_lots, spread, values_at, with_get}
use Rattle.dsde_core_parcels.specs.Parcels.{AreOrdered, parcel_cmp}
use Rattle.dsde_core_parcels.specs.lemmas.Ordered.{parcel_cmp-ranks, parcel_cmp-total}
use Rattle.dsde_routes_pushing.specs.lemmas.Lists.{Among, all-from, each-among}
use Rattle.dsde_routes_pushing.specs.lemmas.Ascending.{later-sorted, none-before}
use Rattle.dsde_core_parcels.specs.Sent.{is_for}
use Rattle.dsde_core_parcels.specs.Brought.{Rise, brought}

-- what an inbox has, lot by lot
abbrev pub lots_in : Inbox → List Lot
lots_in inbox = map (λ get. record { target = inbox.target; get = get }) inbox.gets

abbrev pub all_lots : List Inbox → List Lot
all_lots inboxes = flat_map lots_in inboxes

map-behind : {X Y : Type 0} (f : X → Y) (xs : List X) (x : X) → map f (xs ++ x ∷ []) ≡ map f xs ++ f x ∷ []
map-behind f [] x = refl
map-behind f (y ∷ xs) x = ap (λ ys. f y ∷ ys) (map-behind f xs x)

-- births tell targets
module _ (of : ℕ → Handle) where
  abbrev pub IsTold : Handle → Type 0
  IsTold handle = handle ≡ of handle.birth

  same-told : (one other : Handle) → IsTold one → IsTold other → one.birth ≡ other.birth → one ≡ other
  same-told one other told own is = told ∙ ap of is ∙ sym own

  put-last : (inbox : Inbox) (lot : Lot) (b : Bool) → (inbox.target.birth == lot.target.birth) ≡ b → IsTold inbox.target → IsTold lot.target → all_lots (put_by b inbox lot) ≡ all_lots (inbox ∷ []) ++ lot ∷ []
  put-last inbox lot true is told own =
      let birth : inbox.target.birth ≡ lot.target.birth = grind (arith, nat_tests, is) in
      let lots-is = map-behind (λ (get : Get). (let known : Lot = record { target = inbox.target; get = get } in known)) inbox.gets lot.get in
      append-nil (lots_in (with_get inbox lot.get)) ∙ lots-is
      ∙ (λ i. sym (append-nil (lots_in inbox)) i ++ record { target = same-told inbox.target lot.target told own birth i; get = lot.get } ∷ [])
  put-last inbox lot false is told own = ap (λ (lots : List Lot). lots ++ lot ∷ []) (sym (append-nil (lots_in inbox)))

  pub put-lots-in : (inboxes : List Inbox) (lot : Lot) → AllByRecursion (λ inbox. IsTold inbox.target) inboxes → IsTold lot.target → all_lots (put_lot inboxes lot) ≡ all_lots inboxes ++ lot ∷ []
  put-lots-in [] lot all told = refl
  put-lots-in (inbox ∷ []) lot all told = put-last inbox lot (inbox.target.birth == lot.target.birth) refl all.0 told
  put-lots-in (inbox ∷ next ∷ inboxes) lot all told =
      ap (λ (lots : List Lot). lots_in inbox ++ lots) (put-lots-in (next ∷ inboxes) lot all.1 told)
      ∙ sym (append_assoc (lots_in inbox) (all_lots (next ∷ inboxes)) (lot ∷ []))

-- what holds of the targets of inboxes and of a lot holds of those that it makes
pub targets-hold : (P : Handle → Type 0) (inboxes : List Inbox) (lot : Lot) → AllByRecursion (λ inbox. P inbox.target) inboxes → P lot.target → AllByRecursion (λ inbox. P inbox.target) (put_lot inboxes lot)
targets-hold P [] lot all own = (own, tt)
targets-hold P (inbox ∷ []) lot all own = by (inbox.target.birth == lot.target.birth)
  where
    by : (b : Bool) → AllByRecursion (λ inbox. P inbox.target) (put_by b inbox lot)
    by true = (all.0, tt)
    by false = (all.0, (own, tt))
targets-hold P (inbox ∷ next ∷ inboxes) lot all own = (all.0, targets-hold P (next ∷ inboxes) lot all.1 own)

pub all-in : (of : ℕ → Handle) (lots : List Lot) (inboxes : List Inbox) → AllByRecursion (λ inbox. IsTold of inbox.target) inboxes → AllByRecursion (λ lot. IsTold of lot.target) lots → all_lots (put_lots inboxes lots) ≡ all_lots inboxes ++ lots
all-in of [] inboxes all told = sym (append-nil (all_lots inboxes))
all-in of (lot ∷ lots) inboxes all told =
    all-in of lots (put_lot inboxes lot) (targets-hold (IsTold of) inboxes lot all told.0) told.1
    ∙ ap (λ (own : List Lot). own ++ lots) (put-lots-in of inboxes lot all told.0)
    ∙ append_assoc (all_lots inboxes) (lot ∷ []) lots

pub put-rises : (inboxes : List Inbox) (lot : Lot) → Rise inboxes → AllByRecursion (λ inbox. inbox.target.birth ≤ lot.target.birth) inboxes → Rise (put_lot inboxes lot)
put-rises [] lot rise up = (tt, tt)
put-rises (inbox ∷ []) lot rise up = by (inbox.target.birth == lot.target.birth) refl
  where
    by : (b : Bool) → (inbox.target.birth == lot.target.birth) ≡ b → Rise (put_by b inbox lot)
    by true is = (tt, tt)
    by false is = (((let first = up.0 in let more : inbox.target.birth < lot.target.birth = grind (arith, nat_tests, is, first) in more), tt), (tt, tt))
put-rises (inbox ∷ next ∷ inboxes) lot rise up =
    (targets-hold (λ handle. inbox.target.birth < handle.birth) (next ∷ inboxes) lot rise.0 (let more = rise.0.0 in let upto = up.1.0 in omega (arith, more, upto)), put-rises (next ∷ inboxes) lot rise.1 up.1)

-- lots whose births do not fall
abbrev pub Climb : List Lot → Type 0
Climb [] = Unit {0}
Climb (lot ∷ lots) = AllByRecursion (λ later. lot.target.birth ≤ later.target.birth) lots × Climb lots

abbrev pub AreUpTo : List Inbox → List Lot → Type 0
AreUpTo inboxes lots = AllByRecursion (λ lot. AllByRecursion (λ inbox. inbox.target.birth ≤ lot.target.birth) inboxes) lots

still-up : (inboxes : List Inbox) (lot : Lot) (lots : List Lot) → AreUpTo inboxes lots → AllByRecursion (λ later. lot.target.birth ≤ later.target.birth) lots → AreUpTo (put_lot inboxes lot) lots
still-up inboxes lot [] up climb = tt
still-up inboxes lot (later ∷ lots) up climb = (targets-hold (λ handle. handle.birth ≤ later.target.birth) inboxes lot up.0 climb.0, still-up inboxes lot lots up.1 climb.1)

pub all-rise : (lots : List Lot) (inboxes : List Inbox) → Rise inboxes → AreUpTo inboxes lots → Climb lots → Rise (put_lots inboxes lots)
all-rise [] inboxes rise up climb = rise
all-rise (lot ∷ lots) inboxes rise up climb = all-rise lots (put_lot inboxes lot) (put-rises inboxes lot rise up.0) (still-up inboxes lot lots up.1 climb.0) climb.1

-- what lots bring
abbrev pub is_lot_for : Handle → ℕ → Lot → Bool
is_lot_for target port lot = is_same_handle lot.target target && lot.get.port == port

abbrev pub worth : Handle → ℕ → Lot → List Value
worth target port lot = cond (is_lot_for target port lot) lot.get.values []

module _ (target : Handle) (port : ℕ) where
  inbox-worth : (own : Handle) (gets : List Get) → flat_map (worth target port) (map (λ get. record { target = own; get = get }) gets) ≡ cond (is_same_handle own target) (values_at port gets) []
  inbox-worth own [] = elim (is_same_handle own target) as (λ b. (let none : List Value = [] in none) ≡ cond b [] []) [ true ↦ refl | false ↦ refl ]
  inbox-worth own (get ∷ gets) =
      ap (λ (values : List Value). worth target port (record { target = own; get = get }) ++ values) (inbox-worth own gets) ∙ by (is_same_handle own target)
    where
      by : (b : Bool) → cond (b && get.port == port) get.values [] ++ cond b (values_at port gets) [] ≡ cond b (cond (get.port == port) get.values [] ++ values_at port gets) []
      by true = refl
      by false = refl

  lots-worth : (inboxes : List Inbox) → flat_map (worth target port) (all_lots inboxes) ≡ brought inboxes target port
  lots-worth [] = refl
  lots-worth (inbox ∷ inboxes) =
      flat_map-append (worth target port) (lots_in inbox) (all_lots inboxes)
      ∙ (λ i. inbox-worth inbox.target inbox.gets i ++ lots-worth inboxes i)

  parcels-worth : (parcels : List Parcel) → flat_map (worth target port) (map lot_of parcels) ≡ flat_map (λ (parcel : Parcel). parcel.values) (filter (is_for target port) parcels)
  parcels-worth [] = refl
  parcels-worth (parcel ∷ parcels) =
      ap (λ (values : List Value). worth target port (lot_of parcel) ++ values) (parcels-worth parcels) ∙ by (is_for target port parcel)
    where
      by : (b : Bool) → cond b parcel.values [] ++ flat_map (λ (own : Parcel). own.values) (filter (is_for target port) parcels) ≡ flat_map (λ (own : Parcel). own.values) (cond b (parcel ∷ filter (is_for target port) parcels) (filter (is_for target port) parcels))
      by true = refl
      by false = refl

told-lots : (of : ℕ → Handle) (parcels : List Parcel) → AllByRecursion (λ parcel. IsTold of parcel.target) parcels → AllByRecursion (λ lot. IsTold of lot.target) (map lot_of parcels)
told-lots of [] all = tt
told-lots of (parcel ∷ parcels) all = (all.0, told-lots of parcels all.1)

-- inboxes bring what the parcels do
pub inboxes-bring : (of : ℕ → Handle) (parcels : List Parcel) → AllByRecursion (λ parcel. IsTold of parcel.target) parcels → (target : Handle) (port : ℕ) →
    brought (put_lots [] (map lot_of parcels)) target port ≡ flat_map (λ (parcel : Parcel). parcel.values) (filter (is_for target port) parcels)
inboxes-bring of parcels told target port =
    sym (lots-worth target port (put_lots [] (map lot_of parcels)))
    ∙ ap (λ (lots : List Lot). flat_map (worth target port) lots) (all-in of (map lot_of parcels) [] tt (told-lots of parcels told))
    ∙ parcels-worth target port parcels

-- the target of a birth, among these parcels
pub target_of : List Parcel → ℕ → Handle
target_of [] birth = record { birth = birth; slot = 0 }
target_of (parcel ∷ parcels) birth = if parcel.target.birth == birth then parcel.target else target_of parcels birth

target-is : (parcels : List Parcel) (own : Parcel) → ((parcel : Parcel) → Among parcel parcels → parcel.target.birth ≡ own.target.birth → parcel.target ≡ own.target) → Among own parcels → own.target ≡ target_of parcels own.target.birth
unfolding target_of
target-is [] own tell among = absurd among
target-is (parcel ∷ parcels) own tell among = by (parcel.target.birth == own.target.birth) refl among (target-is parcels own (λ other there. tell other (inr there)))
  where
    by : (b : Bool) → (parcel.target.birth == own.target.birth) ≡ b → Among own (parcel ∷ parcels) → (Among own parcels → own.target ≡ target_of parcels own.target.birth) → own.target ≡ cond b parcel.target (target_of parcels own.target.birth)
    by true is there rest = let birth : parcel.target.birth ≡ own.target.birth = grind (arith, nat_tests, is) in sym (tell parcel (inl refl) birth)
    by false is (inl same) rest = (let birth : own.target.birth ≡ parcel.target.birth = ap (λ (next : Parcel). next.target.birth) same in absurd (let no : true ≡ false = sym (itself parcel.target.birth own.target.birth (sym birth)) ∙ is in cc))
      where
        itself : (n m : ℕ) → n ≡ m → (n == m) ≡ true
        itself n m is = grind (arith, nat_tests)
    by false is (inr there) rest = rest there

pub told-parcels : (parcels : List Parcel) → ((one other : Parcel) → Among one parcels → Among other parcels → one.target.birth ≡ other.target.birth → one.target ≡ other.target) →
    AllByRecursion (λ parcel. IsTold (target_of parcels) parcel.target) parcels
told-parcels parcels tell = all-from (λ (parcel : Parcel). IsTold (target_of parcels) parcel.target) parcels (λ own there. target-is parcels own (λ parcel here. tell parcel own here there) there)

more : (n m : ℕ) → nat_cmp n m ≡ Greater → m ≤ n
more n m is = by (nat_lt n m) refl is
  where
    by : (b : Bool) → nat_lt n m ≡ b → cond b Less (cond (n == m) Equal Greater) ≡ Greater → m ≤ n
    by true here greater = absurd (cc)
    by false here greater = grind (arith, nat_tests, here)

-- births of parcels in order do not fall
not-fallen : (one other : Parcel) → is_lt (parcel_cmp other one) ≡ false → one.target.birth ≤ other.target.birth
not-fallen one other is = by (nat_cmp other.target.birth one.target.birth) refl is
  where
    by : (o : Ordering) → nat_cmp other.target.birth one.target.birth ≡ o → is_lt (ordering_then o (ordering_then (nat_cmp other.port one.port) (slice_cmp nat_cmp other.rank one.rank))) ≡ false → one.target.birth ≤ other.target.birth
    by Less here less = absurd (cc)
    by Equal here less = (let same = nat_cmp-IsAntisymmetric other.target.birth one.target.birth here in omega (arith, same))
    by Greater here less = more other.target.birth one.target.birth here

climbs : (parcel : Parcel) (parcels : List Parcel) → AllByRecursion (λ other. is_lt (parcel_cmp other parcel) ≡ false) parcels → AllByRecursion (λ later. parcel.target.birth ≤ later.target.birth) (map lot_of parcels)
climbs parcel [] all = tt
climbs parcel (other ∷ parcels) all = (not-fallen parcel other all.0, climbs parcel parcels all.1)

pub all-climb : (parcels : List Parcel) → AreOrdered parcels → Climb (map lot_of parcels)
all-climb [] up = tt
all-climb (parcel ∷ parcels) up =
    (climbs parcel parcels (none-before parcel_cmp parcel_cmp-total parcel_cmp-ranks parcel parcels up), all-climb parcels (later-sorted parcel_cmp parcel_cmp-total parcel_cmp-ranks parcel parcels up))

pub nothing-up : (lots : List Lot) → AreUpTo [] lots
nothing-up [] = tt
nothing-up (lot ∷ lots) = (tt, nothing-up lots)

-- an inbox brings what it has
itself : (handle : Handle) → is_same_handle handle handle ≡ true
itself handle = grind (arith, nat_tests)

not-born : (one other : Handle) → (one.birth ≡ other.birth → ⊥) → is_same_handle one other ≡ false
not-born one other apart = ap (λ b. b && one.slot == other.slot) (not-equal one.birth other.birth apart)
  where
    not-equal : (n m : ℕ) → (n ≡ m → ⊥) → (n == m) ≡ false
    not-equal n m apart = grind (arith, nat_tests, apart)

none-meant : (target : Handle) (port : ℕ) (inboxes : List Inbox) → AllByRecursion (λ later. target.birth < later.target.birth) inboxes → brought inboxes target port ≡ []
none-meant target port [] all = refl
none-meant target port (inbox ∷ inboxes) all =
    let less = all.0 in
    λ i. cond (not-born inbox.target target (λ is. absurd (omega (arith, less, is))) i) (values_at port inbox.gets) [] ++ none-meant target port inboxes all.1 i

one-meant : (inboxes : List Inbox) → Rise inboxes → (inbox : Inbox) → Among inbox inboxes → (port : ℕ) → brought inboxes inbox.target port ≡ values_at port inbox.gets
one-meant [] rise inbox among port = absurd among
one-meant (first ∷ inboxes) rise inbox (inl is) port =
    subst (λ (own : Inbox). brought (first ∷ inboxes) own.target port ≡ values_at port own.gets) (sym is)
    ((λ i. cond (itself first.target i) (values_at port first.gets) [] ++ none-meant first.target port inboxes rise.0 i) ∙ append-nil (values_at port first.gets))
one-meant (first ∷ inboxes) rise inbox (inr among) port =
    let less = each-among (λ (later : Inbox). first.target.birth < later.target.birth) inboxes inbox rise.0 among in
    (λ i. cond (not-born first.target inbox.target (λ is. absurd (omega (arith, less, is))) i) (values_at port first.gets) [] ++ brought inboxes inbox.target port)
    ∙ one-meant inboxes rise.1 inbox among port

pub all-meant : (inboxes : List Inbox) → Rise inboxes → AllByRecursion (λ inbox. (ports : ℕ) → spread ports inbox.gets ≡ map (brought inboxes inbox.target) (range_with_len 0 ports)) inboxes
all-meant inboxes rise =
    all-from (λ (inbox : Inbox). (ports : ℕ) → spread ports inbox.gets ≡ map (brought inboxes inbox.target) (range_with_len 0 ports)) inboxes
    (λ inbox there ports. λ i. map (λ port. sym (one-meant inboxes rise inbox there port) i) (range_with_len 0 ports))
