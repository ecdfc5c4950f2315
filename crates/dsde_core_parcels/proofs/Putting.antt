-- A lot put into the last inbox.
use Rattle.std.proofs.Common.{◌≡◌, ℕ, ◌==◌, Bool, true, false, List, [], ◌∷◌, ◌++◌, refl, sym, ap, ◌∙◌, arith}
use Rattle.std.proofs.lemmas.Bool.Decides.{nat_tests}
use Rattle.dsde_bank.specs.declared.handle.Handle.{Handle}
use Rattle.dsde_core_parcels.specs.declared.inbox.Get.{Get}
use Rattle.dsde_core_parcels.specs.declared.inbox.Inbox.{Inbox}
use Rattle.dsde_core_parcels.specs.Inboxes.{Lot, inbox_of, put_by, put_lot, with_get}

pub put-behind : (front : List Inbox) (last : Inbox) (lot : Lot) → put_lot (front ++ last ∷ []) lot ≡ front ++ put_by (last.target.birth == lot.target.birth) last lot
put-behind [] last lot = refl
put-behind (inbox ∷ []) last lot = refl
put-behind (inbox ∷ next ∷ front) last lot = ap (λ (all : List Inbox). inbox ∷ all) (put-behind (next ∷ front) last lot)

is-same : (n m : ℕ) → n ≡ m → (n == m) ≡ true
is-same n m same = grind (arith, nat_tests)

is-other : (n m : ℕ) → (n ≡ m → ⊥) → (n == m) ≡ false
is-other n m other = grind (arith, nat_tests, other)

pub put-same : (front : List Inbox) (last : Inbox) (target : Handle) (get : Get) → last.target.birth ≡ target.birth →
    front ++ with_get last get ∷ [] ≡ put_lot (front ++ last ∷ []) (record { target = target; get = get })
put-same front last target get same =
    let lot : Lot = record { target = target; get = get } in
    sym (put-behind front last lot ∙ ap (λ (b : Bool). front ++ put_by b last lot) (is-same last.target.birth target.birth same))

pub put-other : (front : List Inbox) (last : Inbox) (target : Handle) (get : Get) → (last.target.birth ≡ target.birth → ⊥) →
    (front ++ last ∷ []) ++ with_get (record { target = target; gets = [] }) get ∷ [] ≡ put_lot (front ++ last ∷ []) (record { target = target; get = get })
put-other front last target get other =
    let lot : Lot = record { target = target; get = get } in
    append-twice front last (inbox_of lot)
    ∙ sym (put-behind front last lot ∙ ap (λ (b : Bool). front ++ put_by b last lot) (is-other last.target.birth target.birth other))
  where
    append-twice : (front : List Inbox) (last next : Inbox) → (front ++ last ∷ []) ++ next ∷ [] ≡ front ++ last ∷ next ∷ []
    append-twice [] last next = refl
    append-twice (inbox ∷ front) last next = ap (λ (all : List Inbox). inbox ∷ all) (append-twice front last next)
