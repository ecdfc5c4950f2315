-- What is laid for a field, for an arm and for what `or`, `and` or a sign joins, by their parts.
use Rattle.std.proofs.Common.{◌≡◌, ℕ, ◌-◌, length, slice_set, ap, ◌∙◌, rules}
use Rattle.dsde_syntax.specs.declared.expr.ExprArm.{ExprArm}
use Rattle.dsde_syntax.specs.declared.expr.FieldSet.{FieldSet}
use Rattle.dsde_syntax.specs.declared.expr.SignTail.{SignTail}
use Rattle.dsde_syntax.specs.declared.expr.Tail.{Tail}
use Rattle.dsde_syntax.specs.declared.expr.Expr.TheFolds.{the_lemmas}
use Rattle.dsde_values.specs.declared.types.Ty.{Ty}
use Rattle.dsde_values.specs.declared.types.Ty.TheVariants as ty
use Rattle.dsde_language.specs.declared.known.Known.{Known}
use Rattle.dsde_language.specs.declared.operator.Binary.{Binary}
use Rattle.dsde_language.specs.declared.node_ids.ExprId.{ExprId}
use Rattle.dsde_language.specs.declared.node.Node.{Node}
use Rattle.dsde_language.specs.declared.node.Node.TheVariants as node
use Rattle.dsde_language.specs.DeclaredOperators.{sign_binary}
use Rattle.dsde_language.specs.Names.{Scope}
use Rattle.dsde_language.specs.Expressions.{expr_id}
use Rattle.dsde_program_layout.specs.Lay.{Table, lay, lay_set, lay_arm, lay_tail, lay_sign_tail, put}

-- a field of a new record is laid as its value is
pub set_is : (known : Known) (set : FieldSet) → lay_set known set ≡ lay known set.value
set_is known set = search (rules, the_lemmas)

pub arm_is : (known : Known) (arm : ExprArm) → lay_arm known arm ≡ record { cond = lay known arm.cond; value = lay known arm.value }
arm_is known arm = search (rules, the_lemmas)

module _ (known : Known) (own : Ty) (scope : Scope) (left : ℕ) (table : Table) where
  pub tail_is : (tail : Tail) (which : Binary) → lay_tail known tail which own scope left table ≡ put ty.Bool (lay known tail.value scope table).table (left - 1) (node.Binary which tail.at (expr_id left) (expr_id (length table)))
  tail_is tail which = search (rules, the_lemmas)

  pub sign_tail_is : (tail : SignTail) → lay_sign_tail known tail own scope left table ≡ put own (lay known tail.value scope table).table (left - 1) (node.Binary (sign_binary tail.sign) tail.at (expr_id left) (expr_id (length table)))
  sign_tail_is tail = search (rules, the_lemmas)

-- a node of the left part and of one that was laid behind it
pub joined : (final last laid table : Table) (place : ℕ) (left part : ExprId) (made : ExprId → ExprId → Node) → final ≡ slice_set last place (made left part) → last ≡ laid → part ≡ expr_id (length table) → final ≡ slice_set laid place (made left (expr_id (length table)))
joined final last laid table place left part made is-final is-last is-part =
    is-final ∙ ap (λ (t : Table). slice_set t place (made left part)) is-last ∙ ap (λ (e : ExprId). slice_set laid place (made left e)) is-part
