-- Numbers of which expressions are made, and what operators make of them.
use Rattle.std.proofs.Common.{◌≡◌, ℕ, ℤ, ◌<◌, ◌-◌, true, List, Option, Some, None, Ok, refl, ◌∙◌, ap, slice_get, IfSome}
use Rattle.std.proofs.lemmas.Bool.{false≢true}
use Rattle.dsde_values.specs.declared.value.Value.{Value}
use Rattle.dsde_values.specs.declared.value.Value.TheVariants as value
use Rattle.dsde_language.specs.declared.node.Node.{Node}
use Rattle.dsde_language.specs.declared.node.Node.TheVariants as node
use Rattle.dsde_language.specs.declared.node_ids.ExprId.{ExprId}
use Rattle.dsde_language.specs.declared.operator.Binary.{Binary}
use Rattle.dsde_language.specs.declared.operator.Binary.TheVariants as binary
use Rattle.dsde_language.specs.Outcome.{Outcome, ◌>>=◌}
use Rattle.dsde_language.specs.MeaningOperators.{combined, operated}
use Rattle.dsde_language.specs.MeaningTables.{Coded, means_in, node_mean}
use Rattle.dsde_eval_short.specs.given.eval_operators.Reckoning.{reckons}
use Rattle.dsde_eval_tables.proofs.Depths.{part-at}

-- the number of a node is that of the expression with its number
pub node-number : (coded : Coded) (depth : ℕ) (number : ExprId) (slots : List Value) (own : Node) (result : Option ℤ) → 0 < depth → slice_get coded.nodes number.0 ≡ Some own
    → IfSome result (λ found. node_mean (means_in coded (depth - 1)) coded.functions own slots ≡ Ok (value.Int found))
    → IfSome result (λ found. (means_in coded depth).part number slots ≡ Ok (value.Int found))
node-number coded depth number slots own None above is means = tt
node-number coded depth number slots own (Some found) above is means = part-at coded depth number slots own above is ∙ means

-- the number in an option that is made of it
pub number-held : (coded : Coded) (depth : ℕ) (number part : ExprId) (slots : List Value) (result : Option ℤ) → 0 < depth → slice_get coded.nodes number.0 ≡ Some (node.Some part)
    → IfSome result (λ found. (means_in coded (depth - 1)).part part slots ≡ Ok (value.Int found))
    → IfSome result (λ found. (means_in coded depth).part number slots ≡ Ok (value.Some (value.Int found)))
number-held coded depth number part slots None above is means = tt
number-held coded depth number part slots (Some found) above is means =
    part-at coded depth number slots (node.Some part) above is ∙ ap (λ (o : Outcome Value). o >>= (λ own. Ok (value.Some own))) means

-- an operator that makes numbers looks at both sides
both-sides : (which : Binary) (at : ℕ) (left : Value) (right : Outcome Value) → reckons which ≡ true → combined which at left right ≡ right >>= (λ other. operated which at left other)
both-sides binary.Add at left right is = refl
both-sides binary.Sub at left right is = refl
both-sides binary.Mul at left right is = refl
both-sides binary.Div at left right is = refl
both-sides binary.Rem at left right is = refl
both-sides binary.CapAdd at left right is = refl
both-sides binary.CapSub at left right is = refl
both-sides binary.CapMul at left right is = refl
both-sides _ at left right is = absurd (false≢true is)

-- numbers on both sides, and the number that is made of them
pub sides-reckon : (which : Binary) (at : ℕ) (one other : ℤ) (left right : Outcome Value) (found : ℤ) → reckons which ≡ true → left ≡ Ok (value.Int one) → right ≡ Ok (value.Int other)
    → operated which at (value.Int one) (value.Int other) ≡ Ok (value.Int found) → (left >>= (λ own. combined which at own right)) ≡ Ok (value.Int found)
sides-reckon which at one other left right found is first second made =
    ap (λ (o : Outcome Value). o >>= (λ own. combined which at own right)) first
    ∙ both-sides which at (value.Int one) right is
    ∙ ap (λ (o : Outcome Value). o >>= (λ own. operated which at (value.Int one) own)) second
    ∙ made

pub ruleset sides = (sides-reckon)
