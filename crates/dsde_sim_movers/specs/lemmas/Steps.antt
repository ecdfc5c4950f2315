-- Steps one behind another.
use Rattle.std.proofs.Common.{◌≡◌, List, [], ◌++◌, Result, Ok, Err, refl, append_assoc, append-nil}
use Rattle.dsde_sim_tree.specs.declared.event.Event.{Event}
use Rattle.dsde_sim_tree.specs.declared.fault.TurnEnd.{TurnEnd}
use Rattle.dsde_sim_tree.specs.Told.{Told, told, telling, ◌then◌}

abbrev pub made : {A : Type 0} → List Event → Result A TurnEnd → Told A
made events end = record { events = events; end = end }

pub same-ok : {A : Type 0} (x y : A) → (let one : Result A TurnEnd = Ok x in one ≡ Ok y) → x ≡ y
same-ok x y is = cc

pub never-ok : {A : Type 0} (end : TurnEnd) (y : A) → (let one : Result A TurnEnd = Err end in one ≡ Ok y) → ⊥
never-ok end y is = cc

-- a step, and the next on what it came to, that come to an end
pub split-then : {A B : Type 0} (events : List Event) (end : Result A TurnEnd) (next : A → Told B) (z : B) → (made events end then next).end ≡ Ok z →
    (value : A) × (end ≡ Ok value) × ((next value).end ≡ Ok z) × ((made events end then next).events ≡ events ++ (next value).events)
split-then events (Ok value) next z is = (value, refl, is, refl)
split-then events (Err end) next z is = absurd (never-ok end z is)

module _ {A : Type 0} where
  then-told-by : (events : List Event) (end : Result A TurnEnd) →
      (let step : Told A = record { events = events; end = end } in (step then told []) ≡ step)
  then-told-by events (Ok value) = λ i. record { events = append-nil events i; end = Ok value }
  then-told-by events (Err end) = refl

  -- a step, and then nothing
  pub then-told : (step : Told A) → (step then told []) ≡ step
  then-told step = then-told-by step.events step.end

module _ {A B : Type 0} where
  telling-then-by : (events own : List Event) (end : Result A TurnEnd) (next : A → Told B) →
      (let step : Told A = record { events = own; end = end } in (telling events step then next) ≡ telling events (step then next))
  telling-then-by events own (Ok value) next = λ i. record { events = append_assoc events own (next value).events i; end = (next value).end }
  telling-then-by events own (Err end) next = refl

  pub telling-then : (events : List Event) (step : Told A) (next : A → Told B) → (telling events step then next) ≡ telling events (step then next)
  telling-then events step next = telling-then-by events step.events step.end next

module _ {A B C : Type 0} where
  then-assoc-by : (events : List Event) (end : Result A TurnEnd) (next : A → Told B) (last : B → Told C) →
      (let step : Told A = record { events = events; end = end } in ((step then next) then last) ≡ (step then (λ value. next value then last)))
  then-assoc-by events (Ok value) next last = telling-then events (next value) last
  then-assoc-by events (Err end) next last = refl

  pub then-assoc : (step : Told A) (next : A → Told B) (last : B → Told C) → ((step then next) then last) ≡ (step then (λ value. next value then last))
  then-assoc step next last = then-assoc-by step.events step.end next last

-- the same steps behind a step
pub then-same : {A B : Type 0} (step : Told A) (next other : A → Told B) → ((value : A) → next value ≡ other value) → (step then next) ≡ (step then other)
then-same step next other same = λ i. step then (λ value. same value i)
