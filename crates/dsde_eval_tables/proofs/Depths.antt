-- What tables mean to a depth, by what they mean to the depth below.
use Rattle.std.proofs.Common.{◌≡◌, ℕ, zero, suc, ◌-◌, ◌<◌, List, Option, Some, None, refl, sym, ap, subst, arith, slice_get}
use Rattle.std.proofs.Common.{Err}
use Rattle.dsde_values.specs.declared.value.Value.{Value}
use Rattle.dsde_language.specs.declared.node_ids.BlockId.{BlockId}
use Rattle.dsde_language.specs.declared.node_ids.ExprId.{ExprId}
use Rattle.dsde_language.specs.declared.node.Node.{Node}
use Rattle.dsde_language.specs.Pieces.{Block}
use Rattle.dsde_language.specs.Outcome.{Stuck, present}
use Rattle.dsde_language.specs.Flow.{stopped, over}
use Rattle.dsde_language.specs.MeaningTables.{Coded, State, means_in, node_mean, acts_flow, node_at, block_at}
use Rattle.dsde_eval_tables.specs.Passing.{ActsPass, Behind, PassesIn}

pub part-at : (coded : Coded) (depth : ℕ) (number : ExprId) (slots : List Value) (own : Node) → 0 < depth → slice_get coded.nodes number.0 ≡ Some own → (means_in coded depth).part number slots ≡ node_mean (means_in coded (depth - 1)) coded.functions own slots
unfolding means_in
part-at coded zero number slots own above found = absurd (omega arith)
part-at coded (suc depth) number slots own above found =
    let e : suc depth - 1 ≡ depth = omega arith in
    rw e (ap (λ (o : Option Node). node_at (means_in coded depth) coded.functions o slots) found)

pub part-none : (coded : Coded) (depth : ℕ) (number : ExprId) (slots : List Value) → slice_get coded.nodes number.0 ≡ None → (means_in coded depth).part number slots ≡ Err Stuck
unfolding means_in
part-none coded zero number slots found = refl
part-none coded (suc depth) number slots found = ap (λ (o : Option Node). node_at (means_in coded depth) coded.functions o slots) found

pub part-zero : (coded : Coded) (depth : ℕ) (number : ExprId) (slots : List Value) → depth ≡ 0 → (means_in coded depth).part number slots ≡ Err Stuck
unfolding means_in
part-zero coded zero number slots is = refl
part-zero coded (suc depth) number slots is = absurd (omega (arith, is))

pub run-at : (coded : Coded) (depth : ℕ) (number : BlockId) (state : State) (acts : Block) → 0 < depth → slice_get coded.blocks number.0 ≡ Some acts → (means_in coded depth).run number state ≡ acts_flow (means_in coded (depth - 1)) acts state
unfolding means_in
run-at coded zero number state acts above found = absurd (omega arith)
run-at coded (suc depth) number state acts above found =
    let e : suc depth - 1 ≡ depth = omega arith in
    rw e (ap (λ (o : Option Block). block_at (means_in coded depth) o state) found)

pub run-none : (coded : Coded) (depth : ℕ) (number : BlockId) (state : State) → slice_get coded.blocks number.0 ≡ None → (means_in coded depth).run number state ≡ stopped state Stuck
unfolding means_in
run-none coded zero number state found = refl
run-none coded (suc depth) number state found = ap (λ (o : Option Block). block_at (means_in coded depth) o state) found

pub run-zero : (coded : Coded) (depth : ℕ) (number : BlockId) (state : State) → depth ≡ 0 → (means_in coded depth).run number state ≡ stopped state Stuck
unfolding means_in
run-zero coded zero number state is = refl
run-zero coded (suc depth) number state is = absurd (omega (arith, is))

-- the states that a block passes through are those of its statements
pub passes-at : (coded : Coded) (depth : ℕ) (number : BlockId) (state passed : State) (acts : Block) → 0 < depth → slice_get coded.blocks number.0 ≡ Some acts
    → ActsPass (means_in coded (depth - 1)) (PassesIn coded (depth - 1)) acts state passed → PassesIn coded depth number state passed
unfolding PassesIn
passes-at coded zero number state passed acts above found own = absurd (omega arith)
passes-at coded (suc depth) number state passed acts above found own =
    let e : suc depth - 1 ≡ depth = omega arith in
    subst (λ (o : Option Block). Behind (over state (present o)) (λ acts. ActsPass (means_in coded depth) (PassesIn coded depth) acts state passed)) (sym found)
    (subst (λ (n : ℕ). ActsPass (means_in coded n) (PassesIn coded n) acts state passed) e own)

pub ruleset depths = (part-at, part-none, part-zero, run-at, run-none, run-zero)
