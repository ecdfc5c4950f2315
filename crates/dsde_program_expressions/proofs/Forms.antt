-- What is laid for an expression, by its form.
use Rattle.std.proofs.Common.{◌≡◌, List, length, Result, sym, ap, subst, ◌∙◌}
use Rattle.std.specs.Prelude.{IfOk, OnOk}
use Rattle.dsde_syntax.specs.declared.expr.Expr.{Expr}
use Rattle.dsde_syntax.specs.declared.expr.Suffix.{Suffix}
use Rattle.dsde_syntax.specs.declared.expr.ExprArm.{ExprArm}
use Rattle.dsde_syntax.specs.declared.expr.FieldSet.{FieldSet}
use Rattle.dsde_syntax.specs.declared.expr.SignTail.{SignTail}
use Rattle.dsde_syntax.specs.declared.expr.Tail.{Tail}
use Rattle.dsde_syntax.specs.declared.expr.Expr.TheOpen.{Expr-F}
use Rattle.dsde_syntax.specs.declared.expr.Expr.TheViews.{roll-Expr}
use Rattle.dsde_syntax.specs.declared.expr.Expr.TheFolds.{map-Expr, fold-roll-Expr}
use Rattle.dsde_values.specs.declared.types.Ty.{Ty}
use Rattle.dsde_language.specs.declared.known.Known.{Known}
use Rattle.dsde_language.specs.declared.operator.Binary.{Binary}
use Rattle.dsde_language.specs.declared.node_ids.ExprId.{ExprId}
use Rattle.dsde_language.specs.Names.{Scope}
use Rattle.dsde_language.specs.Expressions.{expr_id}
use Rattle.dsde_program_layout.specs.Lay.{Table, Laid, Lay, Link, Arm, lay, lay_suffix, lay_arm, lay_set, lay_sign_tail, lay_tail, lay_step, suffix_step, arm_step, set_step, sign_tail_step, tail_of, lay_links, lay_chain, rooms}
use Rattle.dsde_program_expressions.specs.declared.resolver.Laid as found

-- an expression's form, over expressions
abbrev pub Form : Type 0
Form = Expr-F Expr Suffix ExprArm FieldSet SignTail Tail

abbrev pub by_form : Known → Form → Lay
by_form known form = lay_step known (map-Expr Expr Suffix ExprArm FieldSet SignTail Tail Lay Link Arm Lay Link (Binary → Link) (lay known) (lay_suffix known) (lay_arm known) (lay_set known) (lay_sign_tail known) (lay_tail known) form)

pub of_form : (known : Known) (own : Expr) (form : Form) → own ≡ roll-Expr form → lay known own ≡ by_form known form
of_form known own form is =
    ap (λ (e : Expr). lay known e) is
    ∙ fold-roll-Expr Lay Link Arm Lay Link (Binary → Link) (lay_step known) (suffix_step known) arm_step set_step sign_tail_step tail_of form

module _ (known : Known) (own : Expr) (form : Form) (scope : Scope) (table : Table) (is : own ≡ roll-Expr form) where
  abbrev whole : Laid
  whole = lay known own scope table

  by_parts : by_form known form scope table ≡ whole
  by_parts = ap (λ (l : Lay). l scope table) (sym (of_form known own form is))

  -- a type and a table of the form
  pub laid_type : (by_form known form scope table).ty ≡ whole.ty
  laid_type = ap (λ (l : Laid). l.ty) by_parts

  pub laid_table : (by_form known form scope table).table ≡ whole.table
  laid_table = ap (λ (l : Laid). l.table) by_parts

  module _ {E : Type 0} (result : Result found.Laid E) where
    -- what a call answers, where it lays the form
    pub types : IfOk result (λ laid. laid.ty ≡ (by_form known form scope table).ty) → IfOk result (λ laid. laid.ty ≡ whole.ty)
    types e = subst (λ (l : Laid). IfOk result (λ laid. laid.ty ≡ l.ty)) by_parts e

    pub tables : (given : Table) → OnOk result (given ≡ (by_form known form scope table).table) → OnOk result (given ≡ whole.table)
    tables given e = subst (λ (l : Laid). OnOk result (given ≡ l.table)) by_parts e

  -- the same where the form is a chain, of which the first part is laid before
  module _ (first : Lay) (links others : List Link) (after : Scope) (between : Table) (ty : Ty) (number : ExprId) where
    abbrev base : Table
    base = rooms (length links) table

    pub record Begun : Type 0 where
      pub chain : by_form known form scope table ≡ lay_chain first links scope table
      pub links_is : others ≡ links
      pub scope_is : after ≡ scope
      pub number_is : number ≡ expr_id (length base)
      pub ty_is : ty ≡ (first scope base).ty
      pub table_is : between ≡ (first scope base).table

    linked : Begun → lay_links others ty after number.0 between ≡ whole
    linked begun =
        ap (λ (l : List Link). lay_links l ty after number.0 between) begun.links_is
        ∙ ap (λ (s : Scope). lay_links links ty s number.0 between) begun.scope_is
        ∙ ap (λ (n : ExprId). lay_links links ty scope n.0 between) begun.number_is
        ∙ ap (λ (t : Ty). lay_links links t scope (length base) between) begun.ty_is
        ∙ ap (λ (t : Table). lay_links links (first scope base).ty scope (length base) t) begun.table_is
        ∙ sym begun.chain
        ∙ by_parts

    module _ {E : Type 0} (result : Result found.Laid E) (begun : Begun) where
      pub chain_types : IfOk result (λ laid. laid.ty ≡ (lay_links others ty after number.0 between).ty) → IfOk result (λ laid. laid.ty ≡ whole.ty)
      chain_types e = subst (λ (l : Laid). IfOk result (λ laid. laid.ty ≡ l.ty)) (linked begun) e

      pub chain_tables : (given : Table) → OnOk result (given ≡ (lay_links others ty after number.0 between).table) → OnOk result (given ≡ whole.table)
      chain_tables given e = subst (λ (l : Laid). OnOk result (given ≡ l.table)) (linked begun) e
