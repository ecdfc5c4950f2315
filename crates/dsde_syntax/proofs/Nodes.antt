-- The tokens of those nodes that the tokens of their parts come to by more than a call or two.
use Rattle.std.proofs.Common.{◌≡◌, ℕ, List, ◌++◌, map, flat_map, Option, Some, None, rules, sym, ap, ◌∙◌}
use Rattle.dsde_syntax.specs.declared.id.Id.{Id}
use Rattle.dsde_syntax.specs.declared.token.Sign.{Sign}
use Rattle.dsde_syntax.specs.declared.token.Sign.TheVariants as sign
use Rattle.dsde_words.specs.declared.key.Key.TheVariants as key
use Rattle.dsde_syntax.specs.declared.expr.Expr.{Expr}
use Rattle.dsde_syntax.specs.declared.expr.ExprArm.{ExprArm}
use Rattle.dsde_syntax.specs.declared.expr.Tail.{Tail}
use Rattle.dsde_syntax.specs.declared.expr.Expr.TheVariants as expr
use Rattle.dsde_syntax.specs.declared.expr.Expr.TheFolds.{the_lemmas}
use Rattle.dsde_syntax.specs.Grammar.{word, mark, elses, optional, in_braces, in_brackets, for_tokens, if_tokens, expr_tokens, expr_arm_tokens, tail_tokens}

pub or_else_tokens : (at : ℕ) (left right l r e : Expr) → e ≡ expr.OrElse at left right → l ≡ left → r ≡ right
    → expr_tokens l ++ mark sign.QuestionQuestion ++ expr_tokens r ≡ expr_tokens e
or_else_tokens at left right l r e is here there =
    ap (λ x. expr_tokens x ++ mark sign.QuestionQuestion ++ expr_tokens r) here
    ∙ ap (λ x. expr_tokens left ++ mark sign.QuestionQuestion ++ expr_tokens x) there
    ∙ sym (ap expr_tokens (sym (expr.rolls-OrElse at left right)) ∙ search (rules, the_lemmas))
    ∙ ap expr_tokens (sym is)

pub compare_tokens : (which : Sign) (at : ℕ) (left right l r e : Expr) → e ≡ expr.Compare which at left right → l ≡ left → r ≡ right
    → expr_tokens l ++ mark which ++ expr_tokens r ≡ expr_tokens e
compare_tokens which at left right l r e is here there =
    ap (λ x. expr_tokens x ++ mark which ++ expr_tokens r) here
    ∙ ap (λ x. expr_tokens left ++ mark which ++ expr_tokens x) there
    ∙ sym (ap expr_tokens (sym (expr.rolls-Compare which at left right)) ∙ search (rules, the_lemmas))
    ∙ ap expr_tokens (sym is)

pub or_tokens : (first : Expr) (rest : List Tail) (f : Expr) (r : List Tail) (e : Expr) → e ≡ expr.Or first rest → f ≡ first → r ≡ rest
    → expr_tokens f ++ flat_map (λ value. word key.Or ++ value) (map tail_tokens r) ≡ expr_tokens e
or_tokens first rest f r e is here there =
    ap (λ x. expr_tokens x ++ flat_map (λ value. word key.Or ++ value) (map tail_tokens r)) here
    ∙ ap (λ x. expr_tokens first ++ flat_map (λ value. word key.Or ++ value) (map tail_tokens x)) there
    ∙ sym (ap expr_tokens (sym (expr.rolls-Or first rest)) ∙ search (rules, the_lemmas))
    ∙ ap expr_tokens (sym is)

pub and_tokens : (first : Expr) (rest : List Tail) (f : Expr) (r : List Tail) (e : Expr) → e ≡ expr.And first rest → f ≡ first → r ≡ rest
    → expr_tokens f ++ flat_map (λ value. word key.And ++ value) (map tail_tokens r) ≡ expr_tokens e
and_tokens first rest f r e is here there =
    ap (λ x. expr_tokens x ++ flat_map (λ value. word key.And ++ value) (map tail_tokens r)) here
    ∙ ap (λ x. expr_tokens first ++ flat_map (λ value. word key.And ++ value) (map tail_tokens x)) there
    ∙ sym (ap expr_tokens (sym (expr.rolls-And first rest)) ∙ search (rules, the_lemmas))
    ∙ ap expr_tokens (sym is)

each_parts : (at : ℕ) (name : Id) (list : Expr) (cond : Option Expr) (value : Expr)
    → expr_tokens (expr.Each at name list cond value)
    ≡ in_brackets (for_tokens name list ++ optional if_tokens cond ++ mark sign.Colon ++ expr_tokens value)
each_parts at name list None value = ap expr_tokens (sym (expr.rolls-Each at name list None value)) ∙ search (rules, the_lemmas)
each_parts at name list (Some test) value = ap expr_tokens (sym (expr.rolls-Each at name list (Some test) value)) ∙ search (rules, the_lemmas)

pub each_tokens : (at : ℕ) (name : Id) (list : Expr) (cond : Option Expr) (value l v e : Expr) → e ≡ expr.Each at name list cond value → l ≡ list → v ≡ value
    → in_brackets (for_tokens name l ++ optional if_tokens cond ++ mark sign.Colon ++ expr_tokens v) ≡ expr_tokens e
each_tokens at name list cond value l v e is here there =
    ap (λ x. in_brackets (for_tokens name x ++ optional if_tokens cond ++ mark sign.Colon ++ expr_tokens v)) here
    ∙ ap (λ x. in_brackets (for_tokens name list ++ optional if_tokens cond ++ mark sign.Colon ++ expr_tokens x)) there
    ∙ sym (each_parts at name list cond value)
    ∙ ap expr_tokens (sym is)

pub if_else_tokens : (at : ℕ) (arms : List ExprArm) (other : Expr) (a : List ExprArm) (o e : Expr) → e ≡ expr.If at arms other → a ≡ arms → o ≡ other
    → elses (map expr_arm_tokens a) ++ word key.Else ++ in_braces (expr_tokens o) ≡ expr_tokens e
if_else_tokens at arms other a o e is here there =
    ap (λ x. elses (map expr_arm_tokens x) ++ word key.Else ++ in_braces (expr_tokens o)) here
    ∙ ap (λ x. elses (map expr_arm_tokens arms) ++ word key.Else ++ in_braces (expr_tokens x)) there
    ∙ sym (ap expr_tokens (sym (expr.rolls-If at arms other)) ∙ search (rules, the_lemmas))
    ∙ ap expr_tokens (sym is)
