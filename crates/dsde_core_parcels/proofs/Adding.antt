-- What one more value list adds.
use Rattle.std.proofs.Common.{◌≡◌, ℕ, zero, suc, ◌+◌, ◌<◌, ◌==◌, Bool, true, false, cond, List, [], ◌∷◌, ◌++◌, map, Option, Some, None, Result, Ok, Err, OnOk, slice_get, set, refl, sym, ◌∙◌, ap, append-nil, arith}
use Rattle.std.specs.List.{range_with_len}
use Rattle.std.proofs.lemmas.Bool.Decides.{nat_tests}
use Rattle.std.proofs.lemmas.List.{append_assoc}
use Rattle.dsde_values.specs.declared.value.Value.{Value}
use Rattle.dsde_core_parcels.specs.declared.inbox.Get.{Get}
use Rattle.dsde_core_parcels.specs.Inboxes.{spread, values_at}
use Rattle.dsde_core_moves.specs.given.sim_gathering.Boxes.{added, changed, empty_ports}
use Rattle.dsde_core_parcels.specs.Ports.{add_all}

-- what a test lets come
abbrev pub when : Bool → List Value → List Value
when test values = cond test values []

apart : (n m : ℕ) → n < m → (n == m) ≡ false
apart n m below = grind (arith, nat_tests)

past : (n m : ℕ) → m < n → (n == m) ≡ false
past n m below = grind (arith, nat_tests)

here-is : (at first : ℕ) → at ≡ first → (at == first) ≡ true
here-is at first same = grind (arith, nat_tests)

module _ (f : ℕ → List Value) (values : List Value) where
  -- no port behind a later number is this one
  none-later : (at first many : ℕ) → at < first → map (λ port. f port ++ when (at == port) values) (range_with_len first many) ≡ map f (range_with_len first many)
  none-later at first zero below = refl
  none-later at first (suc many) below = rw (apart at first below, append-nil, none-later at (first + 1) many (omega arith)) refl

  -- one port takes them
  pub one-takes : (port first at many : ℕ) → port + first ≡ at →
      map (λ port. f port ++ when (at == port) values) (range_with_len first many) ≡ added port values (map f (range_with_len first many))
  one-takes port first at zero is = refl
  one-takes zero first at (suc many) is =
      let here : at ≡ first = omega arith in
      rw (here-is at first here, none-later at (first + 1) many (omega arith)) refl
  one-takes (suc port) first at (suc many) is =
      rw (past at first (omega arith), append-nil, one-takes port (first + 1) at many (omega arith)) refl

-- The item at an index is written over by the changed one.
pub set-changed : {A : Type 0} (items : List A) (index : ℕ) (change : A → A) (old new : A) → slice_get items index ≡ Some old → new ≡ change old → set items index new ≡ changed index change items
set-changed [] index change old new found is = refl
set-changed (item ∷ items) zero change old new found is =
    let same : item ≡ old = (let e : (let r : Option _ = Some item in r) ≡ Some old = found in cc) in
    ap (λ x. x ∷ items) (is ∙ ap change (sym same))
set-changed (item ∷ items) (suc index) change old new found is = ap (λ xs. item ∷ xs) (set-changed items index change old new found is)

-- Where there is no item nothing is changed.
pub past-changed : {A : Type 0} (items : List A) (index : ℕ) (change : A → A) → slice_get items index ≡ None → changed index change items ≡ items
past-changed [] index change none = refl
past-changed (item ∷ items) zero change none = absurd (let e : (let r : Option _ = Some item in r) ≡ None = none in cc)
past-changed (item ∷ items) (suc index) change none = ap (λ xs. item ∷ xs) (past-changed items index change none)

-- the same where a call that may fail makes the new item
pub changed-on : {A E : Type 0} (result : Result (Unit {0}) E) (items : List A) (index : ℕ) (change : A → A) (old new : A) → slice_get items index ≡ Some old
    → OnOk result (new ≡ change old) → OnOk result (set items index new ≡ changed index change items)
changed-on (Ok done) items index change old new found is = set-changed items index change old new found is
changed-on (Err end) items index change old new found is = tt

-- values are added to those that are there, port by port
all-added : (gets : List Get) (f : ℕ → List Value) (many : ℕ) → add_all gets (map f (range_with_len 0 many)) ≡ map (λ port. f port ++ values_at port gets) (range_with_len 0 many)
all-added [] f many = (λ i. map (λ port. sym (append-nil (f port)) i) (range_with_len 0 many))
all-added (get ∷ gets) f many =
    ap (add_all gets) (sym (one-takes f get.values get.port 0 get.port many (omega arith)))
    ∙ all-added gets (λ port. f port ++ when (get.port == port) get.values) many
    ∙ (λ i. map (λ port. append_assoc (f port) (when (get.port == port) get.values) (values_at port gets) i) (range_with_len 0 many))

pub all-spread : (gets : List Get) (many : ℕ) → add_all gets (empty_ports many) ≡ spread many gets
all-spread gets many = all-added gets (λ port. []) many
