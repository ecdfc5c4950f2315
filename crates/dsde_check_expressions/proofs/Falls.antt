-- The parts of an expression are less deep than the expression.
use Rattle.std.proofs.Common.{◌<◌, ℕ, List, max, arith}
use denote.Param.Weighed.{most}
use Rattle.dsde_syntax.specs.declared.token.Sign.{Sign}
use Rattle.dsde_syntax.specs.declared.expr.Expr.{Expr}
use Rattle.dsde_syntax.specs.declared.expr.ExprArm.{ExprArm}
use Rattle.dsde_syntax.specs.declared.expr.SignTail.{SignTail}
use Rattle.dsde_syntax.specs.declared.expr.Suffix.{Suffix}
use Rattle.dsde_syntax.specs.declared.expr.Tail.{Tail}
use Rattle.dsde_syntax.specs.declared.expr.Expr.TheVariants as expr
use Rattle.dsde_syntax.specs.declared.expr.Expr.TheViews.{sized-OrElse, sized-Or, sized-And, sized-Compare, sized-Sum, sized-Mul, sized-Post, sized-If}
use Rattle.dsde_syntax.proofs.expr.Expr.TheLaws as of_expr
use Rattle.dsde_syntax.proofs.expr.ExprArm.TheLaws as of_arm
use Rattle.dsde_syntax.proofs.expr.SignTail.TheLaws as of_sign_tail
use Rattle.dsde_syntax.proofs.expr.Suffix.TheLaws as of_suffix
use Rattle.dsde_syntax.proofs.expr.Tail.TheLaws as of_tail

pub or_else_falls : (at : ℕ) (left right : Expr) → max (of_expr.the_size left) (of_expr.the_size right) < of_expr.the_size (expr.OrElse at left right)
or_else_falls at left right = grind (arith, sized-OrElse at left right)

pub or_falls : (first : Expr) (rest : List Tail) → max (of_expr.the_size first) (most of_tail.the_size rest) < of_expr.the_size (expr.Or first rest)
or_falls first rest = grind (arith, sized-Or first rest)

pub and_falls : (first : Expr) (rest : List Tail) → max (of_expr.the_size first) (most of_tail.the_size rest) < of_expr.the_size (expr.And first rest)
and_falls first rest = grind (arith, sized-And first rest)

pub compare_falls : (sign : Sign) (at : ℕ) (left right : Expr) → max (of_expr.the_size left) (of_expr.the_size right) < of_expr.the_size (expr.Compare sign at left right)
compare_falls sign at left right = grind (arith, sized-Compare sign at left right)

pub sum_falls : (first : Expr) (rest : List SignTail) → max (of_expr.the_size first) (most of_sign_tail.the_size rest) < of_expr.the_size (expr.Sum first rest)
sum_falls first rest = grind (arith, sized-Sum first rest)

pub mul_falls : (first : Expr) (rest : List SignTail) → max (of_expr.the_size first) (most of_sign_tail.the_size rest) < of_expr.the_size (expr.Mul first rest)
mul_falls first rest = grind (arith, sized-Mul first rest)

pub post_falls : (first : Expr) (rest : List Suffix) → max (of_expr.the_size first) (most of_suffix.the_size rest) < of_expr.the_size (expr.Post first rest)
post_falls first rest = grind (arith, sized-Post first rest)

pub if_falls : (at : ℕ) (arms : List ExprArm) (other : Expr) → max (most of_arm.the_size arms) (of_expr.the_size other) < of_expr.the_size (expr.If at arms other)
if_falls at arms other = grind (arith, sized-If at arms other)
