-- What is seen of a new record, of a variant, and of the items made for each of a list.
use Rattle.std.proofs.Common.{◌≡◌, ℕ, List, map, Option, sym, ap, ◌∙◌, rules}
use Rattle.std.specs.Option.{option_map}
use Rattle.dsde_syntax.specs.declared.expr.Expr.{Expr}
use Rattle.dsde_syntax.specs.declared.id.Id.{Id}
use Rattle.dsde_syntax.specs.declared.expr.FieldSet.{FieldSet}
use Rattle.dsde_syntax.specs.declared.expr.Expr.TheVariants as expr
use Rattle.dsde_syntax.specs.declared.expr.Expr.TheFolds.{the_lemmas}
use Rattle.dsde_language.specs.declared.known.Around.{Around}
use Rattle.dsde_language.specs.Judge.{Scope, judge, each_of, new_of, variant_of}
use Rattle.dsde_check_expressions.specs.Parts.{judge_set}

pub judge_new : (around : Around) (at : ℕ) (owner : Id) (sets : List FieldSet) (scope : Scope) → judge around (expr.New at owner sets) scope ≡ new_of around.known at owner (map (judge_set around) sets) scope
judge_new around at owner sets scope = ap (λ own. judge around own scope) (sym (expr.rolls-New at owner sets)) ∙ search (rules, the_lemmas)

pub judge_variant : (around : Around) (owner : Id) (variant : Id) (scope : Scope) → judge around (expr.Variant owner variant) scope ≡ variant_of around.known owner variant
judge_variant around owner variant scope = ap (λ own. judge around own scope) (sym (expr.rolls-Variant owner variant)) ∙ search (rules, the_lemmas)

pub judge_each : (around : Around) (at : ℕ) (name : Id) (list : Expr) (cond : Option Expr) (value : Expr) (scope : Scope) → judge around (expr.Each at name list cond value) scope ≡ each_of around at name (judge around list) (option_map (judge around) cond) (judge around value) scope
judge_each around at name list cond value scope = ap (λ own. judge around own scope) (sym (expr.rolls-Each at name list cond value)) ∙ search (rules, the_lemmas)
