-- Steps that tell events, one after another, and the paths at which they do.
use Rattle.std.specs.Prelude.{◌≡◌, List, [], ◌∷◌, ◌++◌, length, take, Result, Ok, Err}
use Rattle.dsde_values.specs.declared.name.Name.{Name}
use Rattle.dsde_values.specs.declared.path.Path.{Path}
use Rattle.dsde_values.specs.Path.{EXEC}
use Rattle.dsde_language.specs.given.faults.end_LeafEnd.{LeafEnd}
use Rattle.dsde_language.specs.given.faults.end_LeafEnd_TheVariants as leaf_end
use Rattle.dsde_sim_tree.specs.declared.event.Event.{Event}
use Rattle.dsde_sim_tree.specs.declared.fault.TurnEnd.{TurnEnd}
use Rattle.dsde_sim_tree.specs.declared.fault.TurnEnd.TheVariants as turn_end

-- the events that a step tells, and what it comes to
pub record Told (A : Type 0) : Type 0 where
  pub events : List Event
  pub end : Result A TurnEnd

-- the path of a component of the network at this path
abbrev pub below : Path → Name → Path
below path name = record { names = path.names ++ name ∷ [] }

-- the path of the executive of the network at this path
abbrev pub to_boss : Path → Path
to_boss path = below path EXEC

-- what the end of the step of the component at this path is for the whole model
abbrev pub at : {A : Type 0} → Path → Result A LeafEnd → Result A TurnEnd
at path (Ok value) = Ok value
at path (Err (leaf_end.Fault site kind place)) = Err (turn_end.Fault path site kind place)
at path (Err leaf_end.Memory) = Err turn_end.Memory

-- The result is this one, unless memory ran out.
abbrev pub Comes : {A : Type 0} → Result A TurnEnd → Result A TurnEnd → Type 0
Comes expected (Ok value) = expected ≡ Ok value
Comes expected (Err (turn_end.Fault path site kind place)) = expected ≡ Err (turn_end.Fault path site kind place)
Comes expected (Err turn_end.Memory) = Unit {0}

-- events alone
abbrev pub told : {A : Type 0} → List Event → A → Told A
told events value = record { events = events; end = Ok value }

-- no event, and a result
abbrev pub quietly : {A : Type 0} → Result A TurnEnd → Told A
quietly result = record { events = []; end = result }

-- events, and then a step
abbrev pub telling : {A : Type 0} → List Event → Told A → Told A
telling events step = record { events = events ++ step.events; end = step.end }

-- a step, and then the next on what it came to
infixl 10 ◌then◌
abbrev pub ◌then◌ : {A B : Type 0} → Told A → (A → Told B) → Told B
step then next = elim step.end [
  | Ok value ↦ record { events = step.events ++ (next value).events; end = (next value).end }
  | Err end ↦ record { events = step.events; end = Err end }
]

-- what stands behind the old events is some of these, from their front
pub record IsCut (old events new : List Event) : Type 0 where
  pub kept : take (length old) new ≡ old
  pub front : take (length new) (old ++ events) ≡ new

-- The events were told and the step came to this result; without memory, only events from the front were told.
abbrev pub Tells : {A : Type 0} → Told A → List Event → List Event → Result A TurnEnd → Type 0
Tells step old new (Ok value) = (new ≡ old ++ step.events) × (step.end ≡ Ok value)
Tells step old new (Err (turn_end.Fault path site kind place)) =
    (new ≡ old ++ step.events) × (step.end ≡ Err (turn_end.Fault path site kind place))
Tells step old new (Err turn_end.Memory) = IsCut old step.events new
