-- What is in the inbox of a target, and what is left.
use Rattle.std.proofs.Common.{◌≡◌, ℕ, zero, suc, ◌<◌, ◌==◌, ◌&&◌, Bool, true, false, cond, List, [], ◌∷◌, ◌++◌, map, length, get_or, slice_get, set, IfSome, Option, Some, None, Err, is_lt, nat_lt, ltb-true, Ordering, Less, Equal, Greater, inl, inr, refl, sym, ap, subst, ◌∙◌, add-one, arith}
use Rattle.std.specs.Cmp.{nat_cmp_total, tied_itself}
use Rattle.std.specs.Ordering.{nat_cmp}
use Rattle.std.specs.List.{AllByRecursion}
use Rattle.std.specs.List.Sorted.{IsBinarySearchResult, IsSortedBy}
use Rattle.std.proofs.lemmas.Bool.{cases_lt}
use Rattle.std.proofs.lemmas.Bool.Decides.{nat_tests}
use Rattle.std.proofs.lemmas.List.{append-nil}
use Rattle.std.proofs.lemmas.List.Sorted.{searchable_from_sorted}
use Rattle.std.proofs.lemmas.Map.Lookups.{exact_unsigned}
use Rattle.std.proofs.lemmas.Option.{slice_get-get_or}
use Rattle.dsde_bank.specs.declared.handle.Handle.{Handle}
use Rattle.dsde_core_parcels.specs.given.routes_wiring.Wired.{is_same_handle}
use Rattle.dsde_core_parcels.specs.given.routes_pushing.lemmas_Handles.{same-handle}
use Rattle.dsde_sim_working.specs.given.sim_gathering.Boxes.{changed}
use Rattle.dsde_core_parcels.specs.declared.inbox.Get.{Get}
use Rattle.dsde_core_parcels.specs.declared.inbox.Inbox.{Inbox}
use Rattle.dsde_core_parcels.specs.Brought.{Rise}
use Rattle.dsde_core_parcels.specs.Calling.{emptied, gets_for, without_gets, AreOthers, IsFor}

some-inbox : (one other : Inbox) → (let found : Option Inbox = Some one in found) ≡ Some other → one ≡ other
some-inbox one other is = cc

not-equal : (n m : ℕ) → (n ≡ m → ⊥) → (n == m) ≡ false
not-equal n m apart = grind (arith, nat_tests, apart)

same-test : (n m : ℕ) → n ≡ m → (n == m) ≡ true
same-test n m is = grind (arith, nat_tests)

other-born : (one other : Handle) → (one.birth ≡ other.birth → ⊥) → is_same_handle one other ≡ false
other-born one other apart = ap (λ b. b && one.slot == other.slot) (not-equal one.birth other.birth apart)

-- what holds of each holds of the one at an index
all-at : {X : Type 0} (P : X → Type 0) (xs : List X) (index : ℕ) (x : X) → AllByRecursion P xs → slice_get xs index ≡ Some x → P x
all-at P [] index x all at = absurd (cc at)
all-at P (y ∷ xs) zero x all at = subst P (some-own y x at) all.0
  where
    some-own : {X : Type 0} (y x : X) → (let first : Option X = Some y in first ≡ Some x) → y ≡ x
    some-own y x is = cc
all-at P (y ∷ xs) (suc index) x all at = all-at P xs index x all.1 at

at-index : {X : Type 0} (P : X → Type 0) (xs : List X) → AllByRecursion P xs → (k : ℕ) (d : X) → k < length xs → P (get_or xs k d)
at-index P [] all k d below = absurd (omega arith)
at-index P (x ∷ xs) all zero d below = all.0
at-index P (x ∷ xs) all (suc k) d below = at-index P xs all.1 k d (omega arith)

by-index : {X : Type 0} (P : X → Type 0) (xs : List X) → ((k : ℕ) (d : X) → k < length xs → P (get_or xs k d)) → AllByRecursion P xs
by-index P [] each = tt
by-index P (x ∷ xs) each = (each 0 x (omega arith), by-index P xs (λ k d below. each (suc k) d (omega (arith, below))))

-- the item at an index is written over by the changed one, and where there is none nothing is changed
pub set-changed : {A : Type 0} (items : List A) (index : ℕ) (change : A → A) (old new : A) → slice_get items index ≡ Some old → new ≡ change old → set items index new ≡ changed index change items
set-changed [] index change old new found is = refl
set-changed (item ∷ items) zero change old new found is =
    let same : item ≡ old = (let e : (let r : Option _ = Some item in r) ≡ Some old = found in cc) in
    ap (λ x. x ∷ items) (is ∙ ap change (sym same))
set-changed (item ∷ items) (suc index) change old new found is = ap (λ xs. item ∷ xs) (set-changed items index change old new found is)

pub past-changed : {A : Type 0} (items : List A) (index : ℕ) (change : A → A) → slice_get items index ≡ None → changed index change items ≡ items
past-changed [] index change none = refl
past-changed (item ∷ items) zero change none = absurd (let e : (let r : Option _ = Some item in r) ≡ None = none in cc)
past-changed (item ∷ items) (suc index) change none = ap (λ xs. item ∷ xs) (past-changed items index change none)

-- where none is for the target
none-gets : (target : Handle) (inboxes : List Inbox) → AreOthers target inboxes → gets_for target inboxes ≡ []
none-gets target [] others = refl
none-gets target (inbox ∷ inboxes) others = λ i. cond (others.0 i) inbox.gets [] ++ none-gets target inboxes others.1 i

none-emptied : (target : Handle) (inboxes : List Inbox) → AreOthers target inboxes → map (emptied target) inboxes ≡ inboxes
none-emptied target [] others = refl
none-emptied target (inbox ∷ inboxes) others = λ i. cond (others.0 i) (without_gets inbox) inbox ∷ none-emptied target inboxes others.1 i

later-others : (target : Handle) (inboxes : List Inbox) → AllByRecursion (λ later. target.birth < later.target.birth) inboxes → AreOthers target inboxes
later-others target [] all = tt
later-others target (inbox ∷ inboxes) all =
    (let less = all.0 in other-born inbox.target target (λ same. absurd (omega (arith, less, same))), later-others target inboxes all.1)

-- the births of two that are told apart
earlier : (first own target : Handle) → first.birth < own.birth → own.birth ≡ target.birth → is_same_handle first target ≡ false
earlier first own target less births = other-born first target (λ same. absurd (omega (arith, less, births, same)))

-- the one that is for the target
pub one-taken : (inboxes : List Inbox) → Rise inboxes → (target : Handle) (index : ℕ) (inbox : Inbox) → slice_get inboxes index ≡ Some inbox → is_same_handle inbox.target target ≡ true →
    (gets_for target inboxes ≡ inbox.gets) × (changed index without_gets inboxes ≡ map (emptied target) inboxes)
one-taken [] rise target index inbox at is = absurd (cc at)
one-taken (first ∷ inboxes) rise target zero inbox at is =
    let same : first ≡ inbox = some-inbox first inbox at in
    let here : is_same_handle first.target target ≡ true = ap (λ (own : Inbox). is_same_handle own.target target) same ∙ is in
    let others = later-others target inboxes (subst (λ (own : Handle). AllByRecursion (λ (later : Inbox). own.birth < later.target.birth) inboxes) (same-handle first.target target here) rise.0) in (
      (λ i. cond (here i) first.gets [] ++ none-gets target inboxes others i) ∙ append-nil first.gets ∙ ap (λ (own : Inbox). own.gets) same,
      sym (λ i. cond (here i) (without_gets first) first ∷ none-emptied target inboxes others i),
    )
one-taken (first ∷ inboxes) rise target (suc index) inbox at is =
    let less : first.target.birth < inbox.target.birth = all-at (λ (later : Inbox). first.target.birth < later.target.birth) inboxes index inbox rise.0 at in
    let other = earlier first.target inbox.target target less (ap (λ (own : Handle). own.birth) (same-handle inbox.target target is)) in
    let rest = one-taken inboxes rise.1 target index inbox at is in (
      (λ i. cond (other i) first.gets [] ++ gets_for target inboxes) ∙ rest.0,
      λ i. cond (sym other i) (without_gets first) first ∷ rest.1 i,
    )

-- none is, where the one of that birth is not
others-than : (inboxes : List Inbox) → Rise inboxes → (target : Handle) (index : ℕ) (inbox : Inbox) → slice_get inboxes index ≡ Some inbox → inbox.target.birth ≡ target.birth → is_same_handle inbox.target target ≡ false → AreOthers target inboxes
others-than [] rise target index inbox at births apart = tt
others-than (first ∷ inboxes) rise target zero inbox at births apart =
    let same : first ≡ inbox = some-inbox first inbox at in
    let birth : first.target.birth ≡ target.birth = ap (λ (own : Inbox). own.target.birth) same ∙ births in (
      ap (λ (own : Inbox). is_same_handle own.target target) same ∙ apart,
      later-others target inboxes (subst (λ (birth : ℕ). AllByRecursion (λ (later : Inbox). birth < later.target.birth) inboxes) birth rise.0),
    )
others-than (first ∷ inboxes) rise target (suc index) inbox at births apart =
    let less : first.target.birth < inbox.target.birth = all-at (λ (later : Inbox). first.target.birth < later.target.birth) inboxes index inbox rise.0 at in
    (earlier first.target inbox.target target less births, others-than inboxes rise.1 target index inbox at births apart)

-- a search by birth
not-lt : (n m : ℕ) → m < n → is_lt (nat_cmp n m) ≡ false
not-lt n m less = by (nat_lt n m) refl
  where
    by : (b : Bool) → nat_lt n m ≡ b → is_lt (cond b Less (cond (n == m) Equal Greater)) ≡ false
    by true is = absurd (let more : n < m = ltb-true n m is in omega (arith, less, more))
    by false is = elim (n == m) as (λ c. is_lt (cond c Equal Greater) ≡ false) [ true ↦ refl | false ↦ refl ]

rises : (inboxes : List Inbox) → Rise inboxes → (k : ℕ) (d : Inbox) → suc k < length inboxes → is_lt (nat_cmp (get_or inboxes (suc k) d).target.birth (get_or inboxes k d).target.birth) ≡ false
rises [] rise k d below = absurd (omega arith)
rises (inbox ∷ inboxes) rise zero d below =
    not-lt (get_or inboxes 0 d).target.birth inbox.target.birth (at-index (λ (later : Inbox). inbox.target.birth < later.target.birth) inboxes rise.0 0 d (omega arith))
rises (inbox ∷ inboxes) rise (suc k) d below = rises inboxes rise.1 k d (omega arith)

in-order : (inboxes : List Inbox) → Rise inboxes → IsSortedBy (λ (a b : Inbox). is_lt (nat_cmp a.target.birth b.target.birth)) inboxes
in-order inboxes rise k d low below = rw add-one (rises inboxes rise k d (omega (arith, below)))

untied : (n m : ℕ) (o : Ordering) → (o ≡ Equal → ⊥) → nat_cmp n m ≡ o → n ≡ m → ⊥
untied n m o never is same = never (sym is ∙ ap (nat_cmp n) (sym same) ∙ tied_itself nat_cmp_total n)

less-is : Less ≡ Equal → ⊥
less-is e = cc

greater-is : Greater ≡ Equal → ⊥
greater-is e = cc

pub not-found : (inboxes : List Inbox) → Rise inboxes → (target : Handle) (index : ℕ) → IsBinarySearchResult (λ (inbox : Inbox). nat_cmp inbox.target.birth target.birth) inboxes (Err index) → AreOthers target inboxes
not-found inboxes rise target index is =
    let parted = is (searchable_from_sorted nat_cmp_total (λ (inbox : Inbox). inbox.target.birth) inboxes target.birth (in-order inboxes rise)) in
    by-index (λ (inbox : Inbox). is_same_handle inbox.target target ≡ false) inboxes (λ k d below.
    other-born (get_or inboxes k d).target target (elim (cases_lt k index) [
      | inl before ↦ untied (get_or inboxes k d).target.birth target.birth Less less-is (parted.0 k d (omega (arith, below)) before)
      | inr behind ↦ untied (get_or inboxes k d).target.birth target.birth Greater greater-is (parted.1 k d behind below)
    ]))

module _ (inboxes : List Inbox) (rise : Rise inboxes) (target : Handle) (index : ℕ) (below : index < length inboxes) (at : (d : Inbox) → nat_cmp (get_or inboxes index d).target.birth target.birth ≡ Equal) (d : Inbox) where
  abbrev read : Inbox
  read = get_or inboxes index d

  there : slice_get inboxes index ≡ Some read
  there = slice_get-get_or inboxes index d below

  births : read.target.birth ≡ target.birth
  births = exact_unsigned read.target.birth target.birth (at d)

  birth-test : (read.target.birth == target.birth) ≡ true
  birth-test = same-test read.target.birth target.birth births

  tests : (b : Bool) → (read.target.slot == target.slot) ≡ b → is_same_handle read.target target ≡ b
  tests b slot = λ i. birth-test i && slot i

  pub found-one : read.target.slot ≡ target.slot → IsFor target inboxes index
  found-one slot = record { inbox = read; there = there; is = tests true (same-test read.target.slot target.slot slot) }

  pub found-other : (read.target.slot ≡ target.slot → ⊥) → AreOthers target inboxes
  found-other slot = others-than inboxes rise target index read there births (tests false (not-equal read.target.slot target.slot slot))

-- births still rise
emptied-target : (target : Handle) (inbox : Inbox) → (emptied target inbox).target ≡ inbox.target
emptied-target target inbox = elim (is_same_handle inbox.target target) as (λ b. (cond b (without_gets inbox) inbox).target ≡ inbox.target) [ true ↦ refl | false ↦ refl ]

later-rise : (n : ℕ) (target : Handle) (inboxes : List Inbox) → AllByRecursion (λ later. n < later.target.birth) inboxes → AllByRecursion (λ later. n < later.target.birth) (map (emptied target) inboxes)
later-rise n target [] all = tt
later-rise n target (inbox ∷ inboxes) all = (subst (λ (own : Handle). n < own.birth) (sym (emptied-target target inbox)) all.0, later-rise n target inboxes all.1)

pub rise-emptied : (target : Handle) (inboxes : List Inbox) → Rise inboxes → Rise (map (emptied target) inboxes)
rise-emptied target [] rise = tt
rise-emptied target (inbox ∷ inboxes) rise = (
  subst (λ (own : Handle). AllByRecursion (λ (later : Inbox). own.birth < later.target.birth) (map (emptied target) inboxes)) (sym (emptied-target target inbox))
      (later-rise inbox.target.birth target inboxes rise.0),
  rise-emptied target inboxes rise.1,
)

-- an inbox that is there, and none
module _ (inboxes : List Inbox) (rise : Rise inboxes) (target : Handle) where
  pub taken-there : (index : ℕ) → IsFor target inboxes index → (gets : List Get) (new : List Inbox) → IfSome (slice_get inboxes index) (λ inbox. gets ≡ inbox.gets) → new ≡ changed index without_gets inboxes →
      (gets ≡ gets_for target inboxes) × (new ≡ map (emptied target) inboxes)
  taken-there index own gets new took left =
      let both = one-taken inboxes rise target index own.inbox own.there own.is in
      let got : gets ≡ own.inbox.gets = subst (λ (found : Option Inbox). IfSome found (λ (inbox : Inbox). gets ≡ inbox.gets)) own.there took in
      (got ∙ sym both.0, left ∙ both.1)

  pub taken-none : AreOthers target inboxes → (gets : List Get) → gets ≡ [] → (gets ≡ gets_for target inboxes) × (inboxes ≡ map (emptied target) inboxes)
  taken-none others gets none = (none ∙ sym (none-gets target inboxes others), sym (none-emptied target inboxes others))
