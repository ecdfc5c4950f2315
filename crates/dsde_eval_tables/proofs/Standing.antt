-- What is looked at where it stands, by the node at its number.
use Rattle.std.proofs.Common.{◌≡◌, ℕ, ◌<◌, ◌-◌, List, Option, Some, None, Ok, sym, ◌∙◌, ap, slice_get, IfSome, option_copied}
use Rattle.std.specs.Borrow.{Bor}
use Rattle.dsde_values.specs.declared.value.Value.{Value}
use Rattle.dsde_language.specs.declared.node_ids.ExprId.{ExprId}
use Rattle.dsde_language.specs.declared.node.Node.{Node}
use Rattle.dsde_language.specs.declared.node.Node.TheVariants as node
use Rattle.dsde_language.specs.Outcome.{present}
use Rattle.dsde_language.specs.MeaningTables.{Coded, means_in, node_mean}
use Rattle.dsde_eval_tables.proofs.Depths.{part-at}

-- what stands in the slot whose name an expression is
pub slot-lent : (coded : Coded) (depth : ℕ) (number : ExprId) (slots : List Value) (slot : ℕ) (result : Option (Bor Value)) → 0 < depth → slice_get coded.nodes number.0 ≡ Some (node.Slot slot)
    → option_copied result ≡ slice_get slots slot → IfSome result (λ own. (means_in coded depth).part number slots ≡ Ok own.now)
slot-lent coded depth number slots slot None above is lends = tt
slot-lent coded depth number slots slot (Some own) above is lends =
    part-at coded depth number slots (node.Slot slot) above is ∙ ap (λ (o : Option Value). present o) (sym lends)

-- what is lent of a node is lent of the expression with its number
pub node-lent : (coded : Coded) (depth : ℕ) (number : ExprId) (slots : List Value) (own : Node) (result : Option (Bor Value)) → 0 < depth → slice_get coded.nodes number.0 ≡ Some own
    → IfSome result (λ value. node_mean (means_in coded (depth - 1)) coded.functions own slots ≡ Ok value.now) → IfSome result (λ value. (means_in coded depth).part number slots ≡ Ok value.now)
node-lent coded depth number slots own None above is lends = tt
node-lent coded depth number slots own (Some value) above is lends = part-at coded depth number slots own above is ∙ lends
