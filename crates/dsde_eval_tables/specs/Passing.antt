-- The states that statements pass through: the one before each of them, and the one behind the last. Where
-- memory runs out, statements leave one of these.
use Rattle.std.specs.Prelude.{◌≡◌, ◌⊎◌, ℕ, zero, suc, List, [], ◌∷◌, length, Option, Some, None, Ok, Err, MatchBool, slice_get}
use Rattle.dsde_values.specs.declared.value.Value.{Value}
use Rattle.dsde_language.specs.declared.node_ids.BlockId.{BlockId}
use Rattle.dsde_language.specs.declared.act.Act.{Act}
use Rattle.dsde_language.specs.declared.act.Act.TheVariants as act
use Rattle.dsde_language.specs.declared.act.ActArm.{ActArm}
use Rattle.dsde_language.specs.Pieces.{Block}
use Rattle.dsde_language.specs.Outcome.{◌>>=◌, present, items_of}
use Rattle.dsde_language.specs.Flow.{Flow, over}
use Rattle.dsde_language.specs.MeaningTables.{Coded, State, Means, means_in, act_flow, cut, once, test_at, with_slot}

-- from a state, by the block with a number, to another
abbrev pub Passing : Type 1
Passing = BlockId → State → State → Type 0

-- behind statements that came to their end
abbrev pub Behind : {S A : Type 0} → Flow S A → (A → Type 0) → Type 0
Behind (Ok value) P = P value
Behind (Err end) P = ⊥

-- a block within braces, which give back the slots that there were
abbrev pub BracedPasses : Passing → BlockId → State → State → State → Type 0
BracedPasses Inner block within state passed = (there : State) × Inner block within there × (passed ≡ cut (length state.slots) there)

-- the conditions of an `if`, and the block behind the first that holds
abbrev pub ArmsPass : Means → Passing → List ActArm → Option BlockId → State → State → Type 0
ArmsPass means Inner [] None state passed = passed ≡ state
ArmsPass means Inner [] (Some block) state passed = BracedPasses Inner block state state passed
ArmsPass means Inner (arm ∷ arms) last state passed =
    (passed ≡ state)
    ⊎ Behind (test_at means.part arm.cond state) (λ truth.
    MatchBool truth (BracedPasses Inner arm.then state state passed) (ArmsPass means Inner arms last state passed))

-- a block for each item in order, over one more slot
abbrev pub EachPasses : Means → Passing → BlockId → List Value → State → State → Type 0
EachPasses means Inner block [] state passed = passed ≡ state
EachPasses means Inner block (item ∷ items) state passed =
    (passed ≡ state)
    ⊎ (BracedPasses Inner block (with_slot item state) state passed
    ⊎ Behind (once means.run block item state) (λ after. EachPasses means Inner block items after passed))

-- one statement, before it is done
abbrev pub ActPasses : Means → Passing → Act → State → State → Type 0
ActPasses means Inner (act.If arms last) state passed = ArmsPass means Inner arms last state passed
ActPasses means Inner (act.For list block) state passed =
    (passed ≡ state)
    ⊎ Behind (over state (means.part list state.slots >>= (λ own. items_of own))) (λ items. EachPasses means Inner block items state passed)
ActPasses means Inner (act.Let number) state passed = passed ≡ state
ActPasses means Inner (act.Set slot number) state passed = passed ≡ state
ActPasses means Inner (act.Send port number) state passed = passed ≡ state

-- statements in their order
abbrev pub ActsPass : Means → Passing → Block → State → State → Type 0
ActsPass means Inner [] state passed = passed ≡ state
ActsPass means Inner (own ∷ acts) state passed =
    ActPasses means Inner own state passed ⊎ Behind (act_flow means own state) (λ after. ActsPass means Inner acts after passed)

-- the blocks of tables, to a depth
unfoldable pub PassesIn : Coded → ℕ → BlockId → State → State → Type 0
PassesIn coded zero number state passed = ⊥
PassesIn coded (suc depth) number state passed =
    Behind (over state (present (slice_get coded.blocks number.0))) (λ acts. ActsPass (means_in coded depth) (PassesIn coded depth) acts state passed)
