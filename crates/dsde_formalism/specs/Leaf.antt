-- What a component does: its start, what it sends, and its moves.
use Rattle.std.specs.Prelude.{◌≡◌, ℕ, ◌-◌, ◌==◌, nat_lt, Bool, false, if◌then◌else◌, List, [], length, Option, Some, None, Result, Ok, Err}
use Rattle.std.specs.List.{list_any}
use Rattle.dsde_values.specs.declared.arrival.Item.{Item}
use Rattle.dsde_values.specs.declared.value.Value.{Value}
use Rattle.dsde_values.specs.declared.when.When.TheVariants.{At, Never}
use Rattle.dsde_language.specs.given.faults.end_LeafEnd.{LeafEnd}
use Rattle.dsde_language.specs.given.faults.end_LeafEnd_TheVariants as leaf_end
use Rattle.dsde_language.specs.declared.ids.ModelId.{ModelId}
use Rattle.dsde_formalism.specs.declared.leaf.Leaf.{Leaf}
use Rattle.dsde_formalism.specs.declared.leaf.MoveKind.{MoveKind}
use Rattle.dsde_formalism.specs.declared.leaf.MoveKind.TheVariants.{Internal, External, Confluent}
use Rattle.dsde_formalism.specs.System.{State, Ports, Component, System}

-- the next step on what there is, or the fault that came before it
infixl 10 ◌>>=◌
abbrev pub ◌>>=◌ : {A B E : Type 0} → Result A E → (A → Result B E) → Result B E
Ok value >>= next = next value
Err end >>= next = Err end

-- The answer is this one, or memory ran out.
abbrev pub Gives : {A : Type 0} → Result A LeafEnd → Result A LeafEnd → Type 0
Gives expected (Ok value) = expected ≡ Ok value
Gives expected (Err (leaf_end.Fault site kind at)) = expected ≡ Err (leaf_end.Fault site kind at)
Gives expected (Err leaf_end.Memory) = Unit {0}

abbrev pub component_of : System → Leaf → Component
component_of system leaf = system.component leaf.model leaf.args

-- a component in this state after an event at this time
abbrev pub settled : System → ModelId → Bool → List Value → State → ℕ → Result Leaf LeafEnd
settled system model boss args state time =
    (system.component model args).advance state time >>= (λ next.
    Ok (record { model = model; boss = boss; args = args; state = state; last = time; next = next }))

-- a component that starts at this time
abbrev pub start_leaf : System → ModelId → Bool → List Value → ℕ → Result Leaf LeafEnd
start_leaf system model boss args time =
    (system.component model args).init >>= (λ state. settled system model boss args state time)

-- a component's next internal event is at this time
abbrev pub is_due : Leaf → ℕ → Bool
is_due leaf time = elim leaf.next [ At next ↦ next == time | Never ↦ false ]

-- what a component sends where it is due
abbrev pub output_leaf : System → Leaf → Result (List Item) LeafEnd
output_leaf system leaf = (component_of system leaf).output leaf.state

-- what it sends at this time: its output where it is due, else nothing
abbrev pub sent_at : System → Leaf → ℕ → Result (List Item) LeafEnd
sent_at system leaf time = if is_due leaf time then output_leaf system leaf else Ok []

-- some value came
abbrev pub has_come : Ports → Bool
has_come got = list_any (λ values. nat_lt 0 (length values)) got

-- which transition a component takes at this time: none where it is not due and nothing came
abbrev pub kind_of : Leaf → ℕ → Ports → Option MoveKind
kind_of leaf time got =
    if is_due leaf time
    then (if has_come got then Some Confluent else Some Internal)
    else (if has_come got then Some External else None)

-- the state after a transition
abbrev pub transition : Component → State → MoveKind → ℕ → Ports → Result State LeafEnd
transition component state Internal elapsed got = component.internal state
transition component state External elapsed got = component.external state elapsed got
transition component state Confluent elapsed got = component.confluent state elapsed got

-- a component after its move at this time
abbrev pub move_leaf : System → Leaf → MoveKind → ℕ → Ports → Result Leaf LeafEnd
move_leaf system leaf kind time got =
    transition (component_of system leaf) leaf.state kind (time - leaf.last) got >>= (λ state.
    settled system leaf.model leaf.boss leaf.args state time)
