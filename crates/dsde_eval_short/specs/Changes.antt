-- Assignments that make a list anew from the list in their own slot. The list is looked at behind the expressions
-- beside it: it stands in a slot, which has no fault. This project's profile.
use Rattle.std.specs.Prelude.{◌≡◌, ◌≢◌, ◌-◌, ℕ, List, [], ◌∷◌, Some, Result, Ok, Err, slice_get}
use Rattle.dsde_values.specs.declared.value.Value.{Value}
use Rattle.dsde_language.specs.declared.operator.Binary.TheVariants as binary
use Rattle.dsde_language.specs.declared.operator.Builtin.TheVariants as builtin
use Rattle.dsde_language.specs.declared.node_ids.ExprId.{ExprId}
use Rattle.dsde_language.specs.declared.node.Node.{Node}
use Rattle.dsde_language.specs.declared.node.Node.TheVariants as node
use Rattle.dsde_language.specs.declared.act.Act.TheVariants as act
use Rattle.dsde_faults.specs.declared.end.EvalEnd.{EvalEnd}
use Rattle.dsde_language.specs.Outcome.{Outcome, Stuck, Gives, ◌>>=◌, present}
use Rattle.dsde_language.specs.MeaningOperators.{joined, of_two, of_three}
use Rattle.dsde_language.specs.Flow.{Flow, over, why}
use Rattle.dsde_language.specs.MeaningTables.{Coded, Part, State, means_in, act_flow, set_slot}
use Rattle.dsde_eval_short.specs.declared.change.Change.{Change}
use Rattle.dsde_eval_short.specs.declared.change.Change.TheVariants as change
use Rattle.dsde_eval_short.specs.declared.change.Which.{Which}
use Rattle.dsde_eval_short.specs.declared.change.Which.TheVariants as which

-- whether an expression is the name of a slot
abbrev pub IsSlot : List Node → ℕ → ExprId → Type 0
IsSlot nodes slot number = slice_get nodes number.0 ≡ Some (node.Slot slot)

-- a node of a list and of one part beside it
abbrev pub node_by : Which → ℕ → ExprId → ExprId → Node
node_by which.Push at list part = node.Builtin builtin.Push at (list ∷ part ∷ [])
node_by which.Take at list part = node.Builtin builtin.Take at (list ∷ part ∷ [])
node_by which.Skip at list part = node.Builtin builtin.Skip at (list ∷ part ∷ [])
node_by which.Join at list part = node.Binary binary.Join at list part

-- the node of a change of this list
abbrev pub changing : Change → ExprId → Node
changing (change.By own at part) list = node_by own at list part
changing (change.Put at index part) list = node.Builtin builtin.Put at (list ∷ index ∷ part ∷ [])

-- whether a node makes a list anew so from the list in a slot
abbrev pub Makes : List Node → ℕ → Node → Change → Type 0
Makes nodes slot found own = (list : ExprId) × (found ≡ changing own list) × IsSlot nodes slot list

-- whether the expression with a number does
abbrev pub IsChange : List Node → ℕ → ExprId → Change → Type 0
IsChange nodes slot number own = (found : Node) × (slice_get nodes number.0 ≡ Some found) × Makes nodes slot found own

-- what is made of a list and of one value beside it
abbrev pub made_by : Which → ℕ → Value → Value → Outcome Value
made_by which.Push at list own = of_two builtin.Push at list own
made_by which.Take at list own = of_two builtin.Take at list own
made_by which.Skip at list own = of_two builtin.Skip at list own
made_by which.Join at list own = joined at list own

-- what is made of the list in a slot, there
abbrev pub made_in : ℕ → (Value → Outcome Value) → State → Flow State State
made_in slot made state = over state (present (slice_get state.slots slot) >>= made) >>= (λ own. set_slot slot own state)

-- the change, behind the expressions beside the list
abbrev pub changed_in : Part → ℕ → Change → State → Flow State State
changed_in part slot (change.By own at number) state =
    over state (part number state.slots) >>= (λ other. made_in slot (λ list. made_by own at list other) state)
changed_in part slot (change.Put at index number) state =
    over state (part index state.slots) >>= (λ place.
    over state (part number state.slots) >>= (λ other.
    made_in slot (λ list. of_three builtin.Put at list place other) state))

-- Such an assignment is that change.
abbrev pub AreChanges : Type 0
AreChanges =
    (coded : Coded) (depth slot : ℕ) (number : ExprId) (own : Change) (state : State) → IsChange coded.nodes slot number own
    → why (act_flow (means_in coded depth) (act.Set slot number) state) ≢ Some Stuck
    → act_flow (means_in coded depth) (act.Set slot number) state ≡ changed_in (means_in coded (depth - 1)).part slot own state

-- The value is then what is meant; or the answer says why not, and the value is as it was.
abbrev pub Changes : Outcome Value → Result (Unit {0}) EvalEnd → Value → Value → Type 0
Changes meant (Ok _) old new = meant ≡ Ok new
Changes meant (Err end) old new = Gives {A = Value} meant (Err end) × (new ≡ old)
