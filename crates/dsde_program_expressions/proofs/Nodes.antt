-- Nodes of one part, of two, and of arms: what the code puts together is what the definitions do.
use Rattle.std.proofs.Common.{◌≡◌, ℕ, List, length, slice_set, Result, ap, subst, ◌∙◌}
use Rattle.std.specs.Prelude.{IfOk, OnOk}
use Rattle.dsde_values.specs.declared.types.Ty.{Ty}
use Rattle.dsde_language.specs.declared.node_ids.ExprId.{ExprId}
use Rattle.dsde_language.specs.declared.node.Node.{Node}
use Rattle.dsde_language.specs.declared.node.NodeArm.{NodeArm}
use Rattle.dsde_language.specs.declared.node.Node.TheVariants as node
use Rattle.dsde_language.specs.Names.{Scope}
use Rattle.dsde_language.specs.Expressions.{expr_id}
use Rattle.dsde_program_layout.specs.Lay.{Table, Laid, Lay, Arm, lay_arms, arm_numbers, lay_if, roomy}
use Rattle.dsde_program_expressions.specs.declared.resolver.Laid as found

-- a node of one part
pub one_table : (made : ExprId → Node) (final last behind table : Table) (own : ℕ) (part : ExprId) → final ≡ slice_set last own (made part) → last ≡ behind → own ≡ length table → part ≡ expr_id (length (roomy table)) → final ≡ slice_set behind (length table) (made (expr_id (length (roomy table))))
one_table made final last behind table own part is-final is-last is-own is-part =
    is-final
    ∙ ap (λ (t : Table). slice_set t own (made part)) is-last
    ∙ ap (λ (n : ℕ). slice_set behind n (made part)) is-own
    ∙ ap (λ (e : ExprId). slice_set behind (length table) (made e)) is-part

-- a node of two parts, the second laid behind the first
module _ (first second : Lay) (scope inside : Scope) (table one : Table) (is-scope : inside ≡ scope) (is-one : one ≡ (first scope (roomy table)).table) where
  second_is : second inside one ≡ second scope (first scope (roomy table)).table
  second_is = ap (λ (s : Scope). second s one) is-scope ∙ ap (second scope) is-one

  pub two_type : (own : Ty) → own ≡ (second inside one).ty → own ≡ (second scope (first scope (roomy table)).table).ty
  two_type own is = is ∙ ap (λ (laid : Laid). laid.ty) second_is

  pub two_table : (made : ExprId → ExprId → Node) (final last : Table) (own : ℕ) (part other : ExprId) → final ≡ slice_set last own (made part other) → last ≡ (second inside one).table → own ≡ length table → part ≡ expr_id (length (roomy table)) → other ≡ expr_id (length one)
      → final ≡ slice_set (second scope (first scope (roomy table)).table).table (length table) (made (expr_id (length (roomy table))) (expr_id (length (first scope (roomy table)).table)))
  two_table made final last own part other is-final is-last is-own is-part is-other =
      is-final
      ∙ ap (λ (t : Table). slice_set t own (made part other)) (is-last ∙ ap (λ (laid : Laid). laid.table) second_is)
      ∙ ap (λ (n : ℕ). slice_set (second scope (first scope (roomy table)).table).table n (made part other)) is-own
      ∙ ap (λ (e : ExprId). slice_set (second scope (first scope (roomy table)).table).table (length table) (made e other)) is-part
      ∙ ap (λ (e : ExprId). slice_set (second scope (first scope (roomy table)).table).table (length table) (made (expr_id (length (roomy table))) e)) (is-other ∙ ap (λ (t : Table). expr_id (length t)) is-one)

-- an `if`
module _ (arms : List Arm) (other : Lay) (scope inside : Scope) (table room one : Table) (own : ℕ) (numbers : List NodeArm) (is-room : room ≡ roomy table) (is-scope : inside ≡ scope) (is-one : one ≡ lay_arms arms scope room) where
  behind_is : one ≡ lay_arms arms scope (roomy table)
  behind_is = is-one ∙ ap (lay_arms arms scope) is-room

  other_is : other inside one ≡ other scope (lay_arms arms scope (roomy table))
  other_is = ap (λ (s : Scope). other s one) is-scope ∙ ap (other scope) behind_is

  module _ {E : Type 0} (result : Result found.Laid E) where
    pub if_type : IfOk result (λ laid. laid.ty ≡ (other inside one).ty) → IfOk result (λ laid. laid.ty ≡ (lay_if arms other scope table).ty)
    if_type e = subst (λ (l : Laid). IfOk result (λ laid. laid.ty ≡ l.ty)) other_is e

    pub if_table : (final : Table) → own ≡ length table → numbers ≡ arm_numbers arms scope room → OnOk result (final ≡ slice_set (other inside one).table own (node.If numbers (expr_id (length one)))) → OnOk result (final ≡ (lay_if arms other scope table).table)
    if_table final is-own is-numbers e =
        subst (λ (t : Table). OnOk result (final ≡ t))
        (ap (λ (laid : Laid). slice_set laid.table own (node.If numbers (expr_id (length one)))) other_is
        ∙ ap (λ (n : ℕ). slice_set (other scope (lay_arms arms scope (roomy table))).table n (node.If numbers (expr_id (length one)))) is-own
        ∙ ap (λ (a : List NodeArm). slice_set (other scope (lay_arms arms scope (roomy table))).table (length table) (node.If a (expr_id (length one)))) (is-numbers ∙ ap (arm_numbers arms scope) is-room)
        ∙ ap (λ (t : Table). slice_set (other scope (lay_arms arms scope (roomy table))).table (length table) (node.If (arm_numbers arms scope (roomy table)) (expr_id (length t)))) behind_is)
        e
