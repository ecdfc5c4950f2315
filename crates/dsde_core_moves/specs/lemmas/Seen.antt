-- A step whose value is seen as another one.
use Rattle.std.proofs.Common.{◌≡◌, List, [], ◌++◌, Result, Ok, Err, refl, sym, ap, subst, ◌∙◌}
use Rattle.std.proofs.lemmas.List.{append-nil}
use Rattle.dsde_sim_tree.specs.declared.event.Event.{Event}
use Rattle.dsde_sim_tree.specs.declared.fault.TurnEnd.{TurnEnd}
use Rattle.dsde_sim_tree.specs.declared.fault.TurnEnd.TheVariants as turn_end
use Rattle.dsde_sim_tree.specs.Told.{Told, told, ◌then◌, Tells, IsCut}

-- a step whose value is seen as another one tells what it does
pub viewed-events : {A B : Type 0} (view : A → B) (events : List Event) (end : Result A TurnEnd) →
    (let step : Told A = record { events = events; end = end } in (step then (λ value. told [] (view value))).events) ≡ events
viewed-events view events (Ok value) = append-nil events
viewed-events view events (Err end) = refl

pub viewed-ok : {A B : Type 0} (view : A → B) (events : List Event) (end : Result A TurnEnd) (value : A) → end ≡ Ok value →
    (let step : Told A = record { events = events; end = end } in (step then (λ v. told [] (view v))).end) ≡ Ok (view value)
viewed-ok {A} view events end value is =
    let P : Result A TurnEnd → Type 0 = λ r. (let step : Told A = record { events = events; end = r } in (step then (λ v. told [] (view v))).end) ≡ Ok (view value) in subst P (sym is) refl

pub viewed-err : {A B : Type 0} (view : A → B) (events : List Event) (end : Result A TurnEnd) (fault : TurnEnd) → end ≡ Err fault →
    (let step : Told A = record { events = events; end = end } in (step then (λ v. told [] (view v))).end) ≡ Err fault
viewed-err {A} view events end fault is =
    let P : Result A TurnEnd → Type 0 = λ r. (let step : Told A = record { events = events; end = r } in (step then (λ v. told [] (view v))).end) ≡ Err fault in subst P (sym is) refl

pub seen-ok : {A B : Type 0} (step : Told A) (view : A → B) (old new : List Event) (value : A) → Tells step old new (Ok value) → Tells (step then (λ v. told [] (view v))) old new (Ok (view value))
seen-ok step view old new value tells =
    (tells.0 ∙ ap (λ (es : List Event). old ++ es) (sym (viewed-events view step.events step.end)), viewed-ok view step.events step.end value tells.1)

pub seen-err : {A B : Type 0} (step : Told A) (view : A → B) (old new : List Event) (end : TurnEnd) → Tells step old new (Err end) → Tells (step then (λ v. told [] (view v))) old new (Err end)
seen-err step view old new (turn_end.Fault path site kind place) tells =
    (tells.0 ∙ ap (λ (es : List Event). old ++ es) (sym (viewed-events view step.events step.end)), viewed-err view step.events step.end (turn_end.Fault path site kind place) tells.1)
seen-err step view old new turn_end.Memory tells = subst (λ (es : List Event). IsCut old es new) (sym (viewed-events view step.events step.end)) tells
