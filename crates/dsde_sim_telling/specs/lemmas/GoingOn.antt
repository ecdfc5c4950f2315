-- Steps one after another, as code takes them: what follows of the definitions of steps that tell events.
use Rattle.std.proofs.Common.{◌≡◌, ◌≤◌, List, [], ◌++◌, length, take, refl, sym, ap, subst, ◌∙◌, arith, append_assoc, append-nil, Result, Ok, Err}
use Rattle.std.proofs.lemmas.List.{take-append-le, take-take, length-take}
use Rattle.std.proofs.Math.Seq.{take-append_seam}
use Rattle.dsde_sim_tree.specs.declared.event.Event.{Event}
use Rattle.dsde_sim_tree.specs.declared.fault.TurnEnd.{TurnEnd}
use Rattle.dsde_sim_tree.specs.declared.fault.TurnEnd.TheVariants.{Fault, Memory}
use Rattle.dsde_sim_tree.specs.Told.{Told, Tells, IsCut, Comes, told, quietly, telling, ◌then◌}

-- What was told so far, followed by what the rest tells, is what the whole tells, and both come to the same.
pub record GoesOn {A : Type 0} (whole rest : Told A) (old new : List Event) : Type 0 where
  pub kept : take (length old) new ≡ old
  pub events : new ++ rest.events ≡ old ++ whole.events
  pub end : rest.end ≡ whole.end

-- a list that a cut leaves whole is not longer
pub fits : (xs ys : List Event) → take (length ys) xs ≡ ys → length ys ≤ length xs
fits xs ys e = omega (arith, ap length e, length-take (length ys) xs)

pub take-all : (xs : List Event) → take (length xs) xs ≡ xs
take-all xs = ap (take (length xs)) (sym (append-nil xs)) ∙ take-append_seam xs []

-- what is cut from the events is cut from more of them
pub cut-append : (old events more new : List Event) → IsCut old events new → IsCut old (events ++ more) new
cut-append old events more new cut = record {
  kept = cut.kept;
  front =
      ap (take (length new)) (sym (append_assoc old events more))
      ∙ take-append-le (length new) (old ++ events) more (fits (old ++ events) new cut.front)
      ∙ cut.front;
}

-- nothing more was told
pub cut-here : (events : List Event) → IsCut events [] events
cut-here events = record {
  kept = take-all events;
  front = take-append_seam events [];
}

-- what a step tells is the front of what it and the next tell
pub cut-then : {A B : Type 0} (end : Result A TurnEnd) (next : A → Told B) (events old new : List Event) →
    IsCut old events new → IsCut old (let step : Told A = record { events = events; end = end } in (step then next).events) new
cut-then (Ok value) next events old new cut = cut-append old events (next value).events new cut
cut-then (Err end) next events old new cut = cut

module _ {A B : Type 0} (step : Told A) (next : A → Told B) where
  pub then_ok-events : (value : A) → step.end ≡ Ok value → (step then next).events ≡ step.events ++ (next value).events
  then_ok-events value end =
      let P : Result A TurnEnd → Type 0 = λ e. (let s : Told A = record { events = step.events; end = e } in (s then next).events) ≡ step.events ++ (next value).events in
      subst P (sym end) refl

  pub then_ok-end : (value : A) → step.end ≡ Ok value → (step then next).end ≡ (next value).end
  then_ok-end value end =
      let P : Result A TurnEnd → Type 0 = λ e. (let s : Told A = record { events = step.events; end = e } in (s then next).end) ≡ (next value).end in
      subst P (sym end) refl

  pub then_err-events : (e : TurnEnd) → step.end ≡ Err e → (step then next).events ≡ step.events
  then_err-events e end =
      let P : Result A TurnEnd → Type 0 = λ r. (let s : Told A = record { events = step.events; end = r } in (s then next).events) ≡ step.events in
      subst P (sym end) refl

  pub then_err-end : (e : TurnEnd) → step.end ≡ Err e → (step then next).end ≡ Err e
  then_err-end e end =
      let P : Result A TurnEnd → Type 0 = λ r. (let s : Told A = record { events = step.events; end = r } in (s then next).end) ≡ Err e in
      subst P (sym end) refl

-- nothing is told yet
pub goes-begin : {A : Type 0} (whole : Told A) (events : List Event) → GoesOn whole whole events events
goes-begin whole events = record { kept = take-all events; events = refl; end = refl }

-- more is told of what goes on
pub goes-more : {A : Type 0} (whole rest next : Told A) (more old mid new : List Event) →
    GoesOn whole rest old mid → new ≡ mid ++ more → rest.events ≡ more ++ next.events → rest.end ≡ next.end → GoesOn whole next old new
goes-more whole rest next more old mid new goes is_new events end = record {
  kept = ap (take (length old)) is_new ∙ take-append-le (length old) mid more (fits mid old goes.kept) ∙ goes.kept;
  events =
      ap (λ told. told ++ next.events) is_new
      ∙ append_assoc mid more next.events
      ∙ ap (λ rest. mid ++ rest) (sym events)
      ∙ goes.events;
  end = sym end ∙ goes.end;
}

-- a step has come to a value
pub goes-step : {A B : Type 0} (whole : Told B) (step : Told A) (next : A → Told B) (old mid new : List Event) (value : A) →
    GoesOn whole (step then next) old mid → new ≡ mid ++ step.events → step.end ≡ Ok value → GoesOn whole (next value) old new
goes-step whole step next old mid new value goes is_new end =
    goes-more whole (step then next) (next value) step.events old mid new goes is_new (then_ok-events step next value end) (then_ok-end step next value end)

-- what is cut from the rest is cut from the whole
pub goes-cut : {A : Type 0} (whole rest : Told A) (old mid new : List Event) →
    GoesOn whole rest old mid → IsCut mid rest.events new → IsCut old whole.events new
goes-cut whole rest old mid new goes cut = record {
  kept =
      sym (take-take (length old) (length mid) new (fits mid old goes.kept))
      ∙ ap (take (length old)) cut.kept
      ∙ goes.kept;
  front = ap (take (length new)) (sym goes.events) ∙ cut.front;
}

-- without memory it ends where it is
pub goes-memory : {A : Type 0} (whole rest : Told A) (old new : List Event) → GoesOn whole rest old new → IsCut old whole.events new
goes-memory whole rest old new goes =
    goes-cut whole rest old new new goes (cut-append new [] rest.events new (cut-here new))

-- an error of a step ends all
pub goes-stops : {A B : Type 0} (whole : Told B) (step : Told A) (next : A → Told B) (old mid new : List Event) (end : TurnEnd) →
    GoesOn whole (step then next) old mid → Tells step mid new (Err end) → Tells whole old new (Err end)
goes-stops whole step next old mid new (Fault path site kind place) goes tells = (
  tells.0 ∙ ap (λ events. mid ++ events) (sym (then_err-events step next (Fault path site kind place) tells.1)) ∙ goes.events,
  sym goes.end ∙ then_err-end step next (Fault path site kind place) tells.1,
)
goes-stops whole step next old mid new Memory goes tells =
    goes-cut whole (step then next) old mid new goes (cut-then step.end next step.events mid new tells)

-- a quiet step's error ends all
pub goes-ends : {A B : Type 0} (whole : Told B) (expected : Result A TurnEnd) (next : A → Told B) (old mid : List Event) (end : TurnEnd) →
    GoesOn whole (quietly expected then next) old mid → Comes expected (Err end) → Tells whole old mid (Err end)
goes-ends whole expected next old mid (Fault path site kind place) goes comes =
    goes-stops whole (quietly expected) next old mid mid (Fault path site kind place) goes (sym (append-nil mid), comes)
goes-ends whole expected next old mid Memory goes comes = goes-memory whole (quietly expected then next) old mid goes

-- all is told
pub goes-end : {A : Type 0} (whole : Told A) (value : A) (old new : List Event) → GoesOn whole (told [] value) old new → Tells whole old new (Ok value)
goes-end whole value old new goes = (sym (append-nil new) ∙ goes.events, sym goes.end)

-- a quiet step has come to a value
pub goes-ok : {A B : Type 0} (whole : Told B) (expected : Result A TurnEnd) (next : A → Told B) (old mid : List Event) (value : A) →
    GoesOn whole (quietly expected then next) old mid → Comes expected (Ok value) → GoesOn whole (next value) old mid
goes-ok whole expected next old mid value goes comes =
    goes-step whole (quietly expected) next old mid mid value goes (sym (append-nil mid)) comes

-- events have been told
pub goes-told : {A : Type 0} (whole rest : Told A) (more old mid new : List Event) →
    GoesOn whole (telling more rest) old mid → new ≡ mid ++ more → GoesOn whole rest old new
goes-told whole rest more old mid new goes is_new = goes-more whole (telling more rest) rest more old mid new goes is_new refl refl

-- the code ends by an error of a step
pub stops : {A B : Type 0} (result : Result B TurnEnd) (end : TurnEnd) → result ≡ Err end → (whole : Told B) (step : Told A) (next : A → Told B) (old mid new : List Event) →
    GoesOn whole (step then next) old mid → Tells step mid new (Err end) → Tells whole old new result
stops result end is whole step next old mid new goes tells =
    subst (λ r. Tells whole old new r) (sym is) (goes-stops whole step next old mid new end goes tells)

-- the code ends by an error of a quiet step
pub ends : {A B : Type 0} (result : Result B TurnEnd) (end : TurnEnd) → result ≡ Err end → (whole : Told B) (expected : Result A TurnEnd) (next : A → Told B) (old mid : List Event) →
    GoesOn whole (quietly expected then next) old mid → Comes expected (Err end) → Tells whole old mid result
ends result end is whole expected next old mid goes comes =
    subst (λ r. Tells whole old mid r) (sym is) (goes-ends whole expected next old mid end goes comes)

-- the code ends without memory
pub lacks : {B : Type 0} (result : Result B TurnEnd) → result ≡ Err Memory → (whole rest : Told B) (old new : List Event) →
    GoesOn whole rest old new → Tells whole old new result
lacks result is whole rest old new goes = subst (λ r. Tells whole old new r) (sym is) (goes-memory whole rest old new goes)

-- the code ends as the rest does
pub tail : {A : Type 0} (whole rest : Told A) (old mid new : List Event) (result : Result A TurnEnd) →
    GoesOn whole rest old mid → Tells rest mid new result → Tells whole old new result
tail whole rest old mid new (Ok value) goes tells =
    (tells.0 ∙ goes.events, sym goes.end ∙ tells.1)
tail whole rest old mid new (Err (Fault path site kind place)) goes tells =
    (tells.0 ∙ goes.events, sym goes.end ∙ tells.1)
tail whole rest old mid new (Err Memory) goes tells = goes-cut whole rest old mid new goes tells

-- what is cut from one part of the events is cut from all of them
pub cut-within : (old all mid part rest new : List Event) →
    take (length old) mid ≡ old → mid ++ (part ++ rest) ≡ old ++ all → IsCut mid part new → IsCut old all new
cut-within old all mid part rest new kept whole cut =
    let more = cut-append mid part rest new cut in record {
      kept =
          sym (take-take (length old) (length mid) new (fits mid old kept))
          ∙ ap (take (length old)) cut.kept
          ∙ kept;
      front = ap (take (length new)) (sym whole) ∙ more.front;
    }
