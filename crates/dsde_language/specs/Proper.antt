-- What the grammar and the tokens of a text grant: numbers are of 63 bits, each sign and each builtin
-- is one of its level, an `if` has an arm, and no name is the word `elapsed`.
use Rattle.std.specs.Prelude.{◌^◌, nat_lt, Bool, true, ◌&&◌, not, List, Option}
use Rattle.std.specs.List.{list_all}
use Rattle.std.specs.Option.{option_map_or}
use Rattle.dsde_syntax.specs.declared.expr.Expr.{Expr}
use Rattle.dsde_syntax.specs.declared.expr.Expr.TheOpen.{Expr-F, Suffix-F, ExprArm-F, FieldSet-F, SignTail-F, Tail-F}
use Rattle.dsde_syntax.specs.declared.expr.Expr.TheFolds.{fold-Expr}
use Rattle.dsde_syntax.specs.declared.id.Id.{Id}
use Rattle.dsde_syntax.specs.declared.stmt.Stmt.{Stmt}
use Rattle.dsde_syntax.specs.declared.stmt.Stmt.TheOpen.{Stmt-F, StmtArm-F}
use Rattle.dsde_syntax.specs.declared.stmt.Stmt.TheFolds.{fold-Stmt}
use Rattle.dsde_syntax.specs.declared.decl.Body.{Body}
use Rattle.dsde_syntax.specs.declared.decl.Decl.{Decl}
use Rattle.dsde_syntax.specs.declared.decl.Decl.TheVariants as decl
use Rattle.dsde_syntax.specs.declared.decl.Phase.{Phase}
use Rattle.dsde_syntax.specs.declared.decl.PortDecl.{PortDecl}
use Rattle.dsde_syntax.specs.declared.decl.StateDecl.{StateDecl}
use Rattle.dsde_syntax.specs.declared.decl.Typed.{Typed}
use Rattle.dsde_syntax.specs.declared.token.Sign.{Sign}
use Rattle.dsde_syntax.specs.Levels.{has_first, is_comparison, is_sum_sign, is_mul_sign, is_builtin}
use Rattle.dsde_syntax.specs.given.words.Words.{is_reserved}

-- a name that is no word of the language
abbrev pub is_plain : Id → Bool
is_plain id = not (is_reserved id.name)

-- whether a part that may be left out is so
abbrev pub if_there : Option Bool → Bool
if_there part = option_map_or (λ own. own) part true

abbrev pub all_so : List Bool → Bool
all_so = list_all (λ own. own)

-- what stands behind a sign of these
abbrev pub Signed : Type 0
Signed = (Sign → Bool) → Bool

abbrev pub proper_step : Expr-F Bool Bool Bool Bool Signed Bool → Bool
proper_step (Expr-F.OrElse at left right) = left && right
proper_step (Expr-F.Or first rest) = first && all_so rest
proper_step (Expr-F.And first rest) = first && all_so rest
proper_step (Expr-F.Not at inner) = inner
proper_step (Expr-F.Compare which at left right) = is_comparison which && (left && right)
proper_step (Expr-F.Sum first rest) = first && list_all (λ (tail : Signed). tail is_sum_sign) rest
proper_step (Expr-F.Mul first rest) = first && list_all (λ (tail : Signed). tail is_mul_sign) rest
proper_step (Expr-F.Neg at inner) = inner
proper_step (Expr-F.Post first suffixes) = first && all_so suffixes
proper_step (Expr-F.Number at value) = nat_lt value (2 ^ 63)
proper_step (Expr-F.Truth at value) = true
proper_step (Expr-F.Elapsed at) = true
proper_step (Expr-F.Name id) = true
proper_step (Expr-F.Call name args) = all_so args
proper_step (Expr-F.Variant owner variant) = true
proper_step (Expr-F.New at owner sets) = all_so sets
proper_step (Expr-F.NoneOf at own) = true
proper_step (Expr-F.EmptyOf at own) = true
proper_step (Expr-F.Builtin which at args) = is_builtin which && all_so args
proper_step (Expr-F.Paren at inner) = inner
proper_step (Expr-F.List at items) = all_so items
proper_step (Expr-F.Each at name list cond value) = is_plain name && (list && (if_there cond && value))
proper_step (Expr-F.If at arms other) = has_first arms && (all_so arms && other)

abbrev pub suffix_step : Suffix-F Bool Bool Bool Bool Signed Bool → Bool
suffix_step (Suffix-F.Field at name) = true
suffix_step (Suffix-F.Index at value) = value
suffix_step (Suffix-F.Unwrap at) = true

abbrev pub arm_step : ExprArm-F Bool Bool Bool Bool Signed Bool → Bool
arm_step arm = arm.cond && arm.value

abbrev pub set_step : FieldSet-F Bool Bool Bool Bool Signed Bool → Bool
set_step set = set.value

abbrev pub sign_tail_step : SignTail-F Bool Bool Bool Bool Signed Bool → Signed
sign_tail_step tail is_sign = is_sign tail.sign && tail.value

abbrev pub tail_step : Tail-F Bool Bool Bool Bool Signed Bool → Bool
tail_step tail = tail.value

abbrev pub is_proper : Expr → Bool
is_proper = fold-Expr Bool Bool Bool Bool Signed Bool proper_step suffix_step arm_step set_step sign_tail_step tail_step

abbrev pub stmt_step : Stmt-F Bool Bool → Bool
stmt_step (Stmt-F.Let mutable name value) = is_plain name && is_proper value
stmt_step (Stmt-F.Set name value) = is_proper value
stmt_step (Stmt-F.Send port value) = is_proper value
stmt_step (Stmt-F.If arms other) = all_so arms && option_map_or all_so other true
stmt_step (Stmt-F.For name list body) = is_plain name && (is_proper list && all_so body)

abbrev pub stmt_arm_step : StmtArm-F Bool Bool → Bool
stmt_arm_step arm = is_proper arm.cond && all_so arm.body

abbrev pub is_proper_stmt : Stmt → Bool
is_proper_stmt = fold-Stmt Bool Bool stmt_step stmt_arm_step

abbrev pub are_plain : List Typed → Bool
are_plain = list_all (λ (typed : Typed). is_plain typed.name)

abbrev pub is_proper_phase : Option Phase → Bool
is_proper_phase phase = option_map_or (λ (own : Phase). list_all is_proper_stmt own.stmts) phase true

abbrev pub is_proper_body : Body → Bool
is_proper_body body =
    list_all (λ (port : PortDecl). is_plain port.name) body.ports
    && (list_all (λ (state : StateDecl). is_plain state.name && is_proper state.value) body.states
    && (is_proper body.advance
    && (is_proper_phase body.output && (is_proper_phase body.internal
    && (is_proper_phase body.external && is_proper_phase body.confluent)))))

-- functions, bodies and the arguments of `top`
abbrev pub is_proper_decl : Decl → Bool
is_proper_decl (decl.Enum name variants) = true
is_proper_decl (decl.Rec name fields) = true
is_proper_decl (decl.Func name params result stmts value) =
    are_plain params && (list_all is_proper_stmt stmts && is_proper value)
is_proper_decl (decl.Atomic at name params body) = are_plain params && is_proper_body body
is_proper_decl (decl.Network at name params ports exec_at body items) = are_plain params && is_proper_body body
is_proper_decl (decl.Top at name args) = list_all is_proper args
