-- What is laid for a comprehension, step by step.
use Rattle.std.proofs.Common.{◌≡◌, ℕ, Option, length, slice_set, sym, ap, ◌∙◌, rules}
use Rattle.std.specs.Option.{option_map}
use Rattle.dsde_syntax.specs.declared.id.Id.{Id}
use Rattle.dsde_syntax.specs.declared.expr.Expr.{Expr}
use Rattle.dsde_syntax.specs.declared.expr.Expr.TheVariants as expr
use Rattle.dsde_syntax.specs.declared.expr.Expr.TheFolds.{the_lemmas}
use Rattle.dsde_values.specs.declared.types.Ty.{Ty}
use Rattle.dsde_values.specs.declared.types.Ty.TheVariants as ty
use Rattle.dsde_language.specs.declared.known.Known.{Known}
use Rattle.dsde_language.specs.declared.node_ids.ExprId.{ExprId}
use Rattle.dsde_language.specs.declared.node.Node.TheVariants as node
use Rattle.dsde_language.specs.Names.{Scope, with_slot}
use Rattle.dsde_language.specs.Typing.{item_in}
use Rattle.dsde_language.specs.Expressions.{expr_id}
use Rattle.dsde_program_layout.specs.Lay.{Table, Laid, Lay, lay, lay_each, lay_cond, cond_number, roomy}

-- a comprehension is laid by its parts
pub lay_comprehension : (known : Known) (at : ℕ) (name : Id) (list : Expr) (cond : Option Expr) (value : Expr) (scope : Scope) (table : Table) → lay known (expr.Each at name list cond value) scope table ≡ lay_each name (lay known list) (option_map (lay known) cond) (lay known value) scope table
lay_comprehension known at name list cond value scope table =
    ap (λ own. lay known own scope table) (sym (expr.rolls-Each at name list cond value)) ∙ search (rules, the_lemmas)

-- the same of equal parts
pub comprehension : (known : Known) (own : Expr) (at : ℕ) (name : Id) (list : Expr) (cond : Option Expr) (value first last : Expr) (scope : Scope) (table : Table) → own ≡ expr.Each at name list cond value → first ≡ list → last ≡ value → lay known own scope table ≡ lay_each name (lay known first) (option_map (lay known) cond) (lay known last) scope table
comprehension known own at name list cond value first last scope table is is-first is-last =
    ap (λ (e : Expr). lay known e scope table)
    (is ∙ ap (λ (e : Expr). expr.Each at name e cond value) (sym is-first) ∙ ap (λ (e : Expr). expr.Each at name first cond e) (sym is-last))
    ∙ lay_comprehension known at name first cond last scope table

module _ (name : Id) (list : Lay) (cond : Option Lay) (value : Lay) (scope : Scope) (table : Table) where
  -- what the value of a comprehension sees, and the table before it
  abbrev inner : Scope
  inner = with_slot scope name.name (item_in (list scope (roomy table)).ty)

  abbrev tested : Table
  tested = lay_cond cond inner (list scope (roomy table)).table

  module _ (inside behind : Scope) (one two : Table) where
    cond_is : inside ≡ inner → one ≡ (list scope (roomy table)).table → two ≡ lay_cond cond inside one → two ≡ tested
    cond_is is-inside is-one is-two =
        is-two ∙ ap (λ (i : Scope). lay_cond cond i one) is-inside ∙ ap (λ (t : Table). lay_cond cond inner t) is-one

    value_is : inside ≡ inner → one ≡ (list scope (roomy table)).table → two ≡ lay_cond cond inside one → behind ≡ inside → value behind two ≡ value inner tested
    value_is is-inside is-one is-two is-behind =
        ap (λ (i : Scope). value i two) (is-behind ∙ is-inside) ∙ ap (value inner) (cond_is is-inside is-one is-two)

    -- the type of a comprehension
    pub each_type : (own item part : Ty) → inside ≡ inner → one ≡ (list scope (roomy table)).table → two ≡ lay_cond cond inside one → behind ≡ inside → own ≡ item → item ≡ ty.List part → part ≡ (value behind two).ty → own ≡ (lay_each name list cond value scope table).ty
    each_type own item part is-inside is-one is-two is-behind is-own is-item is-part =
        is-own ∙ is-item ∙ ap ty.List (is-part ∙ ap (λ (laid : Laid). laid.ty) (value_is is-inside is-one is-two is-behind))

    -- the table behind a comprehension
    pub each_table : (final last : Table) (own : ℕ) (first : ExprId) (test : Option ExprId) (part : ExprId) → inside ≡ inner → one ≡ (list scope (roomy table)).table → two ≡ lay_cond cond inside one → behind ≡ inside → final ≡ slice_set last own (node.Each first test part) → last ≡ (value behind two).table → own ≡ length table → first ≡ expr_id (length (roomy table)) → test ≡ cond_number cond one → part ≡ expr_id (length two) → final ≡ (lay_each name list cond value scope table).table
    each_table final last own first test part is-inside is-one is-two is-behind is-final is-last is-own is-first is-test is-part =
        is-final
        ∙ ap (λ (t : Table). slice_set t own (node.Each first test part)) (is-last ∙ ap (λ (laid : Laid). laid.table) (value_is is-inside is-one is-two is-behind))
        ∙ ap (λ (n : ℕ). slice_set (value inner tested).table n (node.Each first test part)) is-own
        ∙ ap (λ (e : ExprId). slice_set (value inner tested).table (length table) (node.Each e test part)) is-first
        ∙ ap (λ (e : Option ExprId). slice_set (value inner tested).table (length table) (node.Each (expr_id (length (roomy table))) e part)) (is-test ∙ ap (λ (t : Table). cond_number cond t) is-one)
        ∙ ap (λ (e : ExprId). slice_set (value inner tested).table (length table) (node.Each (expr_id (length (roomy table))) (cond_number cond (list scope (roomy table)).table) e)) (is-part ∙ ap (λ (t : Table). expr_id (length t)) (cond_is is-inside is-one is-two))
