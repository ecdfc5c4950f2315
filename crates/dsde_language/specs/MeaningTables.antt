-- What the expressions and the blocks of tables mean, over slots and to a depth.
use Rattle.std.specs.Prelude.{◌≡◌, ℕ, zero, suc, nat_lt, Bool, true, if◌then◌else◌, List, [], ◌∷◌, ◌++◌, length, take, Option, Some, None, Result, Ok, Err, slice_get, slice_set}
use Rattle.dsde_values.specs.declared.arrival.Item.{Item}
use Rattle.dsde_values.specs.declared.value.Value.{Value}
use Rattle.dsde_values.specs.declared.value.Value.TheVariants as value
use Rattle.dsde_faults.specs.declared.end.EvalEnd.{EvalEnd}
use Rattle.dsde_faults.specs.declared.end.EvalEnd.TheVariants as end_of
use Rattle.dsde_language.specs.declared.act.Act.{Act}
use Rattle.dsde_language.specs.declared.act.Act.TheVariants as act
use Rattle.dsde_language.specs.declared.act.ActArm.{ActArm}
use Rattle.dsde_language.specs.declared.code.FnCode.{FnCode}
use Rattle.dsde_language.specs.declared.node_ids.BlockId.{BlockId}
use Rattle.dsde_language.specs.declared.node_ids.ExprId.{ExprId}
use Rattle.dsde_language.specs.declared.operator.Builtin.{Builtin}
use Rattle.dsde_language.specs.declared.node.Node.{Node}
use Rattle.dsde_language.specs.declared.node.Node.TheVariants as node
use Rattle.dsde_language.specs.declared.node.NodeArm.{NodeArm}
use Rattle.dsde_language.specs.Pieces.{Block}
use Rattle.dsde_language.specs.Outcome.{Fault, Stuck, Outcome, ◌>>=◌, present, truth_of, items_of, parts_of}
use Rattle.dsde_language.specs.MeaningOperators.{combined, denied, negated, or_else, unwrapped, indexed, listed, of_one, of_two, of_three}
use Rattle.dsde_language.specs.Flow.{Flow, stopped, over, inside, lifted}

-- the tables of expressions, of blocks and of functions
pub record Coded : Type 0 where
  pub nodes : List Node
  pub blocks : List Block
  pub functions : List FnCode

-- the slots, and what was sent by which out port
pub record State : Type 0 where
  pub slots : List Value
  pub sends : List Item

abbrev pub state_of : List Value → List Item → State
state_of slots sends = record { slots = slots; sends = sends }

-- what an expression comes to, by its number
abbrev pub Part : Type 0
Part = ExprId → List Value → Outcome Value

-- what a block does, by its number
abbrev pub Run : Type 0
Run = BlockId → State → Flow State State

-- what the expressions and the blocks of tables do
pub record Means : Type 0 where
  pub part : Part
  pub run : Run

-- the values so far, and those of the parts behind them
abbrev pub values_from : Part → List Value → List ExprId → List Value → Outcome (List Value)
values_from part done [] slots = Ok done
values_from part done (number ∷ numbers) slots =
    part number slots >>= (λ value. values_from part (done ++ value ∷ []) numbers slots)

-- whether a condition holds; one that is left out does
abbrev pub holds_at : Part → Option ExprId → List Value → Outcome Bool
holds_at part None slots = Ok true
holds_at part (Some cond) slots = part cond slots >>= (λ test. truth_of test)

-- a comprehension: the values so far, and those of the items behind them
abbrev pub kept_from : Part → ExprId → List Value → Bool → List Value → Outcome (List Value)
kept_from part number done keep slots = if keep then (part number slots >>= (λ value. Ok (done ++ value ∷ []))) else Ok done

abbrev pub each_from : Part → Option ExprId → ExprId → List Value → List Value → List Value → Outcome (List Value)
each_from part cond number done [] slots = Ok done
each_from part cond number done (item ∷ items) slots =
    holds_at part cond (slots ++ item ∷ []) >>= (λ keep.
    kept_from part number done keep (slots ++ item ∷ []) >>= (λ more.
    each_from part cond number more items slots))

-- the value behind the first condition that holds, and else the last one
abbrev pub arms_from : Part → List NodeArm → ExprId → List Value → Outcome Value
arms_from part [] other slots = part other slots
arms_from part (arm ∷ arms) other slots =
    part arm.cond slots >>= (λ test.
    truth_of test >>= (λ truth.
    if truth then part arm.value slots else arms_from part arms other slots))

-- a function's block, and its value over the slots behind it
abbrev pub run_code : Means → FnCode → List Value → Outcome Value
run_code means code values =
    lifted (means.run code.block (state_of values [])) >>= (λ after. means.part code.value after.slots)

-- a call of the function with a number
abbrev pub called_at : Means → List FnCode → ℕ → List Value → Outcome Value
called_at means functions number values = present (slice_get functions number) >>= (λ code. run_code means code values)

-- a builtin of its arguments
abbrev pub builtin_at : Part → Builtin → ℕ → List ExprId → List Value → Outcome Value
builtin_at part which at (one ∷ []) slots = part one slots >>= (λ first. of_one which first)
builtin_at part which at (one ∷ two ∷ []) slots =
    part one slots >>= (λ first. part two slots >>= (λ second. of_two which at first second))
builtin_at part which at (one ∷ two ∷ three ∷ []) slots =
    part one slots >>= (λ first. part two slots >>= (λ second. part three slots >>= (λ third. of_three which at first second third)))
builtin_at part which at _ slots = Err Stuck

-- the field with a number
abbrev pub field_at : ℕ → Value → Outcome Value
field_at number own = parts_of own >>= (λ parts. present (slice_get parts number))

-- one node, over what its parts come to
abbrev pub node_mean : Means → List FnCode → Node → List Value → Outcome Value
node_mean means functions (node.Slot number) slots = present (slice_get slots number)
node_mean means functions (node.Int number) slots = Ok (value.Int number)
node_mean means functions (node.Bool truth) slots = Ok (value.Bool truth)
node_mean means functions (node.Variant number variant) slots = Ok (value.Enum number variant)
node_mean means functions (node.New number parts) slots =
    values_from means.part [] parts slots >>= (λ values. Ok (value.Rec number values))
node_mean means functions node.Nothing slots = Ok value.Nothing
node_mean means functions node.Empty slots = Ok (value.List [])
node_mean means functions (node.Some part) slots = means.part part slots >>= (λ own. Ok (value.Some own))
node_mean means functions (node.Call number args) slots =
    values_from means.part [] args slots >>= (λ values. called_at means functions number values)
node_mean means functions (node.Builtin which at args) slots = builtin_at means.part which at args slots
node_mean means functions (node.List at items) slots =
    values_from means.part [] items slots >>= (λ values. listed at values)
node_mean means functions (node.Each list cond part) slots =
    means.part list slots >>= (λ own.
    items_of own >>= (λ items.
    each_from means.part cond part [] items slots >>= (λ values. Ok (value.List values))))
node_mean means functions (node.If arms other) slots = arms_from means.part arms other slots
node_mean means functions (node.OrElse left right) slots =
    means.part left slots >>= (λ own. or_else own (means.part right slots))
node_mean means functions (node.Binary which at left right) slots =
    means.part left slots >>= (λ own. combined which at own (means.part right slots))
node_mean means functions (node.Not part) slots = means.part part slots >>= (λ own. denied own)
node_mean means functions (node.Neg at part) slots = means.part part slots >>= (λ own. negated at own)
node_mean means functions (node.Field number part) slots = means.part part slots >>= (λ own. field_at number own)
node_mean means functions (node.Index at list index) slots =
    means.part list slots >>= (λ own. means.part index slots >>= (λ other. indexed at own other))
node_mean means functions (node.Unwrap at part) slots = means.part part slots >>= (λ own. unwrapped at own)

-- one more slot
abbrev pub with_slot : Value → State → State
with_slot own state = state_of (state.slots ++ own ∷ []) state.sends

-- the slots that there were before braces
abbrev pub cut : ℕ → State → State
cut size state = state_of (take size state.slots) state.sends

-- an assignment to a slot
abbrev pub set_slot : ℕ → Value → State → Flow State State
set_slot number own state =
    if nat_lt number (length state.slots) then Ok (state_of (slice_set state.slots number own) state.sends) else stopped state Stuck

-- a block in braces
abbrev pub braced_at : Run → BlockId → State → Flow State State
braced_at run block state = inside (cut (length state.slots)) (run block state)

-- a block over one more slot, for each item in order
abbrev pub once : Run → BlockId → Value → State → Flow State State
once run block item state = inside (cut (length state.slots)) (run block (with_slot item state))

abbrev pub for_each : Run → BlockId → List Value → State → Flow State State
for_each run block [] state = Ok state
for_each run block (item ∷ items) state = once run block item state >>= (λ after. for_each run block items after)

-- the block behind the first condition that holds
abbrev pub last_flow : Run → Option BlockId → State → Flow State State
last_flow run None state = Ok state
last_flow run (Some block) state = braced_at run block state

abbrev pub test_at : Part → ExprId → State → Flow State Bool
test_at part cond state = over state (part cond state.slots >>= (λ test. truth_of test))

abbrev pub arms_flow : Means → List ActArm → Option BlockId → State → Flow State State
arms_flow means [] last state = last_flow means.run last state
arms_flow means (arm ∷ arms) last state =
    test_at means.part arm.cond state >>= (λ truth.
    if truth then braced_at means.run arm.then state else arms_flow means arms last state)

-- one statement, over what expressions and blocks do
abbrev pub act_flow : Means → Act → State → Flow State State
act_flow means (act.Let number) state =
    over state (means.part number state.slots) >>= (λ own. Ok (with_slot own state))
act_flow means (act.Set slot number) state =
    over state (means.part number state.slots) >>= (λ own. set_slot slot own state)
act_flow means (act.Send port number) state =
    over state (means.part number state.slots) >>= (λ own.
    Ok (state_of state.slots (state.sends ++ record { port = port; value = own } ∷ [])))
act_flow means (act.If arms last) state = arms_flow means arms last state
act_flow means (act.For list block) state =
    over state (means.part list state.slots >>= (λ own. items_of own)) >>= (λ items.
    for_each means.run block items state)

abbrev pub acts_flow : Means → Block → State → Flow State State
acts_flow means [] state = Ok state
acts_flow means (own ∷ acts) state = act_flow means own state >>= (λ after. acts_flow means acts after)

-- the expression and the block that stand at a number
abbrev pub node_at : Means → List FnCode → Option Node → List Value → Outcome Value
node_at means functions found slots = present found >>= (λ own. node_mean means functions own slots)

abbrev pub block_at : Means → Option Block → State → Flow State State
block_at means found state = over state (present found) >>= (λ acts. acts_flow means acts state)

-- what the expressions and blocks of tables do, to a depth
unfoldable pub means_in : Coded → ℕ → Means
means_in coded zero = record { part = λ number slots. Err Stuck; run = λ number state. stopped state Stuck }
means_in coded (suc depth) = record {
  part = λ number slots. node_at (means_in coded depth) coded.functions (slice_get coded.nodes number.0) slots;
  run = λ number state. block_at (means_in coded depth) (slice_get coded.blocks number.0) state;
}

-- The answer and the state are what is meant, or memory ran out.
abbrev pub Flows : Flow State State → Result (Unit {0}) EvalEnd → List Value → List Item → Type 0
Flows meant (Ok _) slots sends = meant ≡ Ok (state_of slots sends)
Flows meant (Err (end_of.Fault kind at)) slots sends = meant ≡ stopped (state_of slots sends) (Fault kind at)
Flows meant (Err end_of.Memory) slots sends = Unit {0}

-- The same of a condition, which leaves the state as it is.
abbrev pub Tests : Flow State Bool → Result Bool EvalEnd → List Value → List Item → Type 0
Tests meant (Ok truth) slots sends = meant ≡ Ok truth
Tests meant (Err (end_of.Fault kind at)) slots sends = meant ≡ stopped (state_of slots sends) (Fault kind at)
Tests meant (Err end_of.Memory) slots sends = Unit {0}
