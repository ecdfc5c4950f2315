-- What the entries of a shelf hold under a name, before and after one of them changes.
use Rattle.std.proofs.Common.{◌≡◌, ◌≢◌, ℕ, zero, suc, ◌+◌, ◌<◌, Bool, true, false, cond, List, [], ◌∷◌, ◌++◌, length, take, get_or, set, refl, sym, ◌∙◌, ap, subst, arith}
use Rattle.std.specs.Prelude.{Option, Some, None, is_some, IfSome, IfNone, bytes_eq}
use Rattle.std.proofs.lemmas.Slice.Eq.{bytes_eq-Decides}
use Rattle.std.proofs.lemmas.Bool.{false_from_ne_true}
use Rattle.std.proofs.lemmas.List.{take_more, length-take, get_or-take}
use Rattle.dsde_io.specs.declared.stored.Stored.{Stored}
use Rattle.dsde_io.specs.Stored.{bytes_under, with_bytes, AreDistinct, IsPlaceOf}

-- names that are one, as the test has it
same_name : (one other : List ℕ) → one ≡ other → bytes_eq one other ≡ true
same_name one other same = (bytes_eq-Decides one other).1 same

-- names that differ, as the test has it
other_name : (one other : List ℕ) → one ≢ other → bytes_eq one other ≡ false
other_name one other apart =
    false_from_ne_true _ (λ same. apart ((bytes_eq-Decides one other).0 same))

-- Nothing was found: not here, and not behind it.
found_none : (here : Bool) (bytes : List ℕ) (behind : Option (List ℕ)) → cond here (Some bytes) behind ≡ None → (here ≡ false) × (behind ≡ None)
found_none true bytes behind none = cc
found_none false bytes behind none = (refl, none)

-- behind entries of other names
bytes_under-append : (xs ys : List Stored) (name : List ℕ) → bytes_under xs name ≡ None → bytes_under (xs ++ ys) name ≡ bytes_under ys name
bytes_under-append [] ys name none = refl
bytes_under-append (x ∷ xs) ys name none =
    let p = found_none (bytes_eq x.name name) x.bytes (bytes_under xs name) none in
    rw p.0 (bytes_under-append xs ys name p.1)

-- One entry more has another name.
pub none_more : (xs : List Stored) (i : ℕ) (x : Stored) (name : List ℕ) → i < length xs → x ≡ get_or xs i x → bytes_eq x.name name ≡ false → bytes_under (take i xs) name ≡ None → bytes_under (take (i + 1) xs) name ≡ None
none_more xs i x name within is apart none =
    let more = bytes_under-append (take i xs) (x ∷ []) name none in
    rw (take_more xs i x within, ← is) (more ∙ rw apart)

-- No entry has a name that nothing is under.
none_named : (xs : List Stored) (name : List ℕ) → bytes_under xs name ≡ None → (k : ℕ) (d : Stored) → k < length xs → (get_or xs k d).name ≢ name
none_named [] name none k d within same = absurd (omega arith)
none_named (x ∷ xs) name none zero d within same =
    let p = found_none (bytes_eq x.name name) x.bytes (bytes_under xs name) none in
    let q = same_name x.name name same in
    cc
none_named (x ∷ xs) name none (suc k) d within same =
    let p = found_none (bytes_eq x.name name) x.bytes (bytes_under xs name) none in
    none_named xs name p.1 k d (omega arith) same

-- the bytes of the first entry of that name
pub bytes_under-at : (xs : List Stored) (name : List ℕ) (place : ℕ) (d : Stored) → place < length xs → (get_or xs place d).name ≡ name → bytes_under (take place xs) name ≡ None → bytes_under xs name ≡ Some (get_or xs place d).bytes
bytes_under-at [] name place d within named first = absurd (omega arith)
bytes_under-at (x ∷ xs) name zero d within named first = rw (same_name x.name name named)
bytes_under-at (x ∷ xs) name (suc place) d within named first =
    let p = found_none (bytes_eq x.name name) x.bytes (bytes_under (take place xs) name) first in
    rw p.0 (bytes_under-at xs name place d (omega arith) named p.1)

-- the bytes that are there now, where this entry has the name or one behind it
under_changed : (here : Bool) (x : Stored) (xs ys : List Stored) (name bytes : List ℕ) → bytes_eq x.name name ≡ here → bytes_under ys name ≡ Some bytes → bytes_under (cond here (record x { bytes = bytes } ∷ xs) (x ∷ ys)) name ≡ Some bytes
under_changed true x xs ys name bytes is behind = rw is
under_changed false x xs ys name bytes is behind = rw is behind

-- the bytes that are there now
pub bytes_under-with_bytes : (xs : List Stored) (name bytes : List ℕ) → bytes_under (with_bytes xs name bytes) name ≡ Some bytes
bytes_under-with_bytes [] name bytes = rw (same_name name name refl)
bytes_under-with_bytes (x ∷ xs) name bytes =
    under_changed (bytes_eq x.name name) x xs (with_bytes xs name bytes) name bytes refl (bytes_under-with_bytes xs name bytes)

-- what is under another name, where this entry has the name or one behind it
under_changed_other : (here : Bool) (x : Stored) (xs ys : List Stored) (name bytes other : List ℕ) → other ≢ name → bytes_eq x.name name ≡ here → bytes_under ys other ≡ bytes_under xs other → bytes_under (cond here (record x { bytes = bytes } ∷ xs) (x ∷ ys)) other ≡ bytes_under (x ∷ xs) other
under_changed_other true x xs ys name bytes other apart is behind =
    let this = other_name x.name other (λ same. apart (sym same ∙ (bytes_eq-Decides x.name name).0 is)) in
    rw this
under_changed_other false x xs ys name bytes other apart is behind =
    ap (λ found. cond (bytes_eq x.name other) (Some x.bytes) found) behind

-- Other names keep their bytes.
pub bytes_under-with_bytes_other : (xs : List Stored) (name bytes other : List ℕ) → other ≢ name → bytes_under (with_bytes xs name bytes) other ≡ bytes_under xs other
bytes_under-with_bytes_other [] name bytes other apart =
    rw (other_name name other (λ same. apart (sym same)))
bytes_under-with_bytes_other (x ∷ xs) name bytes other apart =
    under_changed_other (bytes_eq x.name name) x xs (with_bytes xs name bytes) name bytes other apart refl (bytes_under-with_bytes_other xs name bytes other apart)

-- the entries, where the first of that name stands at a place
pub with_bytes_at : (xs : List Stored) (name bytes : List ℕ) (place : ℕ) (d : Stored) → place < length xs → (get_or xs place d).name ≡ name → bytes_under (take place xs) name ≡ None → with_bytes xs name bytes ≡ set xs place (record (get_or xs place d) { bytes = bytes })
with_bytes_at [] name bytes place d within named first = absurd (omega arith)
with_bytes_at (x ∷ xs) name bytes zero d within named first = rw (same_name x.name name named)
with_bytes_at (x ∷ xs) name bytes (suc place) d within named first =
    let p = found_none (bytes_eq x.name name) x.bytes (bytes_under (take place xs) name) first in
    rw p.0 (ap (λ rest. x ∷ rest) (with_bytes_at xs name bytes place d (omega arith) named p.1))

-- the entries, where none has that name
pub with_bytes_none : (xs : List Stored) (name bytes : List ℕ) → bytes_under xs name ≡ None → with_bytes xs name bytes ≡ xs ++ record { name = name; bytes = bytes } ∷ []
with_bytes_none [] name bytes none = refl
with_bytes_none (x ∷ xs) name bytes none =
    let p = found_none (bytes_eq x.name name) x.bytes (bytes_under xs name) none in
    rw p.0 (ap (λ rest. x ∷ rest) (with_bytes_none xs name bytes p.1))

-- Nothing is under a name that no entry has.
none_from_apart : (xs : List Stored) (name : List ℕ) → ((k : ℕ) (d : Stored) → k < length xs → (get_or xs k d).name ≢ name) → bytes_under xs name ≡ None
none_from_apart [] name apart = refl
none_from_apart (x ∷ xs) name apart =
    let behind = none_from_apart xs name (λ k d within. apart (suc k) d (omega arith)) in
    rw (other_name x.name name (apart 0 x (omega arith))) behind

-- One entry in front, whose name is not behind it.
AreDistinct-cons : (x : Stored) (xs : List Stored) → bytes_under xs x.name ≡ None → AreDistinct xs → AreDistinct (x ∷ xs)
AreDistinct-cons x xs none distinct zero zero d before within = absurd (omega arith)
AreDistinct-cons x xs none distinct zero (suc j) d before within =
    λ same. none_named xs x.name none j d (omega arith) (sym same)
AreDistinct-cons x xs none distinct (suc i) zero d before within = absurd (omega arith)
AreDistinct-cons x xs none distinct (suc i) (suc j) d before within =
    distinct i j d (omega arith) (omega arith)

-- The first entry's name is not behind it.
none_behind : (x : Stored) (xs : List Stored) → AreDistinct (x ∷ xs) → bytes_under xs x.name ≡ None
none_behind x xs distinct =
    none_from_apart xs x.name (λ k d within same. distinct 0 (suc k) d (omega arith) (omega arith) (sym same))

-- This entry has the name that gets other bytes, or one behind it has.
distinct_changed : (here : Bool) (x : Stored) (xs : List Stored) (name bytes : List ℕ) → bytes_eq x.name name ≡ here → AreDistinct (x ∷ xs) → AreDistinct (with_bytes xs name bytes) → AreDistinct (cond here (record x { bytes = bytes } ∷ xs) (x ∷ with_bytes xs name bytes))
distinct_changed true x xs name bytes is distinct behind =
    AreDistinct-cons (record x { bytes = bytes }) xs (none_behind x xs distinct) (λ i j d before within. distinct (suc i) (suc j) d (omega arith) (omega arith))
distinct_changed false x xs name bytes is distinct behind =
    let apart = bytes_under-with_bytes_other xs name bytes x.name (λ same. let found = same_name x.name name same in cc) in
    AreDistinct-cons x (with_bytes xs name bytes) (apart ∙ none_behind x xs distinct) behind

-- The names stay distinct.
pub AreDistinct-with_bytes : (xs : List Stored) (name bytes : List ℕ) → AreDistinct xs → AreDistinct (with_bytes xs name bytes)
AreDistinct-with_bytes [] name bytes distinct = λ i j d before within. absurd (omega arith)
AreDistinct-with_bytes (x ∷ xs) name bytes distinct =
    distinct_changed (bytes_eq x.name name) x xs name bytes refl distinct (AreDistinct-with_bytes xs name bytes (λ i j d before within. distinct (suc i) (suc j) d (omega arith) (omega arith)))

-- One entry more, whose name is not there yet.
pub distinct_more : (xs : List Stored) (i : ℕ) (x : Stored) → i < length xs → x ≡ get_or xs i x → bytes_under (take i xs) x.name ≡ None → AreDistinct (take i xs) → AreDistinct (take (i + 1) xs)
distinct_more xs i x within is none distinct =
    let longer : AreDistinct (take i xs ++ x ∷ []) = subst AreDistinct (with_bytes_none (take i xs) x.name x.bytes none) (AreDistinct-with_bytes (take i xs) x.name x.bytes distinct) in
    rw (take_more xs i x within, ← is) longer

-- Two entries of one name.
pub not_distinct : (xs : List Stored) (i place : ℕ) (x : Stored) → i < length xs → x ≡ get_or xs i x → IsPlaceOf (take i xs) x.name place → AreDistinct xs → ⊥
not_distinct xs i place x within is found distinct =
    let before : place < i = omega (arith, found.within, length-take i xs) in
    let same : get_or (take i xs) place x ≡ get_or xs place x = get_or-take i xs place x before in
    distinct place i x before within (ap (λ y. y.name) (sym same) ∙ found.named x ∙ ap (λ y. y.name) is)

-- Something was found.
pub some_found : (r : Option ℕ) (P : ℕ → Type 0) → true ≡ is_some r → IfSome r P → (place : ℕ) × P place
some_found None P is found = cc
some_found (Some place) P is found = (place, found)

-- Nothing was found.
pub none_found : (r : Option ℕ) (P : Type 0) → false ≡ is_some r → IfNone r P → P
none_found None P is none = none
none_found (Some place) P is none = cc
