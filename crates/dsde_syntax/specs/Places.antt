-- Whether each place in a model is the index of its token: the same steps as for the tokens, in
-- which each part is a span.
use Rattle.std.specs.Prelude.{ℕ, ◌+◌, ◌==◌, if◌then◌else◌, List, [], ◌∷◌, map, Option, Some, None, option_and_then}
use Rattle.dsde_syntax.specs.declared.id.Id.{Id}
use Rattle.dsde_syntax.specs.declared.type_name.TypeName.{TypeName}
use Rattle.dsde_syntax.specs.declared.type_name.TypeName.TheOpen.{TypeName-F}
use Rattle.dsde_syntax.specs.declared.type_name.TypeName.TheFolds.{fold-TypeName}
use Rattle.dsde_syntax.specs.declared.expr.Expr.{Expr}
use Rattle.dsde_syntax.specs.declared.expr.Suffix.{Suffix}
use Rattle.dsde_syntax.specs.declared.expr.ExprArm.{ExprArm}
use Rattle.dsde_syntax.specs.declared.expr.FieldSet.{FieldSet}
use Rattle.dsde_syntax.specs.declared.expr.SignTail.{SignTail}
use Rattle.dsde_syntax.specs.declared.expr.Tail.{Tail}
use Rattle.dsde_syntax.specs.declared.expr.Expr.TheOpen.{Expr-F, Suffix-F, ExprArm-F, FieldSet-F, SignTail-F, Tail-F}
use Rattle.dsde_syntax.specs.declared.expr.Expr.TheFolds.{fold-Expr, fold-Suffix, fold-ExprArm, fold-FieldSet, fold-SignTail, fold-Tail}
use Rattle.dsde_syntax.specs.declared.stmt.Stmt.{Stmt}
use Rattle.dsde_syntax.specs.declared.stmt.StmtArm.{StmtArm}
use Rattle.dsde_syntax.specs.declared.stmt.Stmt.TheOpen.{Stmt-F, StmtArm-F}
use Rattle.dsde_syntax.specs.declared.stmt.Stmt.TheFolds.{fold-Stmt, fold-StmtArm}
use Rattle.dsde_syntax.specs.declared.item.Item.{Item}
use Rattle.dsde_syntax.specs.declared.item.ItemArm.{ItemArm}
use Rattle.dsde_syntax.specs.declared.item.Item.TheOpen.{Item-F, ItemArm-F}
use Rattle.dsde_syntax.specs.declared.item.Item.TheFolds.{fold-Item, fold-ItemArm}
use Rattle.dsde_syntax.specs.declared.item.Bracket.{Bracket}
use Rattle.dsde_syntax.specs.declared.item.End.{End}
use Rattle.dsde_syntax.specs.declared.item.EndPart.{EndPart}
use Rattle.dsde_syntax.specs.declared.item.EndPart.TheVariants as end_part
use Rattle.dsde_syntax.specs.declared.item.ViaPart.{ViaPart}
use Rattle.dsde_syntax.specs.declared.item.ViaKey.{ViaKey}
use Rattle.dsde_syntax.specs.declared.decl.Model.{Model}
use Rattle.dsde_syntax.specs.declared.decl.Decl.{Decl}
use Rattle.dsde_syntax.specs.declared.decl.Decl.TheVariants as decl
use Rattle.dsde_syntax.specs.declared.decl.Typed.{Typed}
use Rattle.dsde_syntax.specs.declared.decl.PortDecl.{PortDecl}
use Rattle.dsde_syntax.specs.declared.decl.StateDecl.{StateDecl}
use Rattle.dsde_syntax.specs.declared.decl.Body.{Body}
use Rattle.dsde_syntax.specs.declared.decl.Phase.{Phase}

-- from the index of its first token a span gives the index behind its last one, where each place
-- in it is the index of its token
abbrev pub Span : Type 0
Span = ℕ → Option ℕ

-- a token that has no place in the tree
abbrev pub token : Span
token index = Some (index + 1)

-- the place of the token that comes next
abbrev pub begins_at : ℕ → Span
begins_at at index = if at == index then Some index else None

-- one span behind another
infixl 5 ◌>>◌
abbrev pub ◌>>◌ : Span → Span → Span
(first >> next) index = option_and_then next (first index)

-- a token and its place
abbrev pub token_at : ℕ → Span
token_at at = begins_at at >> token

-- {part}
abbrev pub all_spans : List Span → Span
all_spans [] = Some
all_spans (first ∷ rest) = first >> all_spans rest

-- part {separator part}, or nothing
abbrev pub spans_with : Span → List Span → Span
spans_with separator [] = Some
spans_with separator (first ∷ rest) = first >> all_spans (map (λ next. separator >> next) rest)

-- [part]
abbrev pub written_span : {A : Type 0} → (A → Span) → Option A → Span
written_span span None = Some
written_span span (Some part) = span part

-- a bracket that has no place in the tree, the inner span and the bracket that closes
abbrev pub bracketed : Span → Span
bracketed inner = token >> inner >> token

-- [part {"," part}] in brackets
abbrev pub args_span : List Span → Span
args_span args = bracketed (spans_with token args)

-- {part} in braces
abbrev pub block_span : List Span → Span
block_span parts = bracketed (all_spans parts)

-- "else" and a block
abbrev pub else_span : List Span → Span
else_span parts = token >> block_span parts

abbrev pub id_span : Id → Span
id_span id = token_at id.at

abbrev pub type_span_step : TypeName-F Span → Span
type_span_step (TypeName-F.Int at) = token_at at
type_span_step (TypeName-F.Bool at) = token_at at
type_span_step (TypeName-F.Named id) = id_span id
type_span_step (TypeName-F.List at part) = token_at at >> bracketed part
type_span_step (TypeName-F.Opt at part) = token_at at >> bracketed part

abbrev pub type_span : TypeName → Span
type_span = fold-TypeName Span type_span_step

-- in the place of each part stands its span
abbrev pub span_step : Expr-F Span Span Span Span Span Span → Span
span_step (Expr-F.OrElse at left right) = left >> token_at at >> right
span_step (Expr-F.Or first rest) = first >> all_spans rest
span_step (Expr-F.And first rest) = first >> all_spans rest
span_step (Expr-F.Not at part) = token_at at >> part
span_step (Expr-F.Compare which at left right) = left >> token_at at >> right
span_step (Expr-F.Sum first rest) = first >> all_spans rest
span_step (Expr-F.Mul first rest) = first >> all_spans rest
span_step (Expr-F.Neg at part) = token_at at >> part
span_step (Expr-F.Post first suffixes) = first >> all_spans suffixes
span_step (Expr-F.Number at value) = token_at at
span_step (Expr-F.Truth at value) = token_at at
span_step (Expr-F.Elapsed at) = token_at at
span_step (Expr-F.Name id) = id_span id
span_step (Expr-F.Call name args) = id_span name >> args_span args
span_step (Expr-F.Variant owner variant) = id_span owner >> token >> id_span variant
span_step (Expr-F.New at owner fields) = token_at at >> id_span owner >> args_span fields
span_step (Expr-F.NoneOf at ty) = token_at at >> bracketed (type_span ty)
span_step (Expr-F.EmptyOf at ty) = token_at at >> bracketed (type_span ty)
span_step (Expr-F.Builtin which at args) = token_at at >> args_span args
span_step (Expr-F.Paren at inner) = begins_at at >> bracketed inner
span_step (Expr-F.List at items) = begins_at at >> args_span items
span_step (Expr-F.Each at name list cond value) =
    begins_at at >> bracketed (token >> id_span name >> token >> list >> written_span (λ test. token >> test) cond >> token >> value)
span_step (Expr-F.If at arms other) = begins_at at >> spans_with token arms >> token >> bracketed other

abbrev pub suffix_span_step : Suffix-F Span Span Span Span Span Span → Span
suffix_span_step (Suffix-F.Field at name) = token_at at >> id_span name
suffix_span_step (Suffix-F.Index at value) = begins_at at >> bracketed value
suffix_span_step (Suffix-F.Unwrap at) = token_at at

abbrev pub expr_arm_span_step : ExprArm-F Span Span Span Span Span Span → Span
expr_arm_span_step arm = token >> arm.cond >> bracketed arm.value

abbrev pub field_set_span_step : FieldSet-F Span Span Span Span Span Span → Span
field_set_span_step field = id_span field.name >> token >> field.value

abbrev pub sign_tail_span_step : SignTail-F Span Span Span Span Span Span → Span
sign_tail_span_step tail = token_at tail.at >> tail.value

abbrev pub tail_span_step : Tail-F Span Span Span Span Span Span → Span
tail_span_step tail = token_at tail.at >> tail.value

abbrev pub expr_span : Expr → Span
expr_span =
    fold-Expr Span Span Span Span Span Span span_step suffix_span_step expr_arm_span_step field_set_span_step sign_tail_span_step tail_span_step

-- the spans of an expression's parts
abbrev pub suffix_span : Suffix → Span
suffix_span =
    fold-Suffix Span Span Span Span Span Span span_step suffix_span_step expr_arm_span_step field_set_span_step sign_tail_span_step tail_span_step

abbrev pub expr_arm_span : ExprArm → Span
expr_arm_span =
    fold-ExprArm Span Span Span Span Span Span span_step suffix_span_step expr_arm_span_step field_set_span_step sign_tail_span_step tail_span_step

abbrev pub field_set_span : FieldSet → Span
field_set_span =
    fold-FieldSet Span Span Span Span Span Span span_step suffix_span_step expr_arm_span_step field_set_span_step sign_tail_span_step tail_span_step

abbrev pub sign_tail_span : SignTail → Span
sign_tail_span =
    fold-SignTail Span Span Span Span Span Span span_step suffix_span_step expr_arm_span_step field_set_span_step sign_tail_span_step tail_span_step

abbrev pub tail_span : Tail → Span
tail_span =
    fold-Tail Span Span Span Span Span Span span_step suffix_span_step expr_arm_span_step field_set_span_step sign_tail_span_step tail_span_step

-- id "=" expr ";"
abbrev pub set_span : Id → Expr → Span
set_span name value = id_span name >> token >> expr_span value >> token

-- "for" id "in" expr
abbrev pub for_span : Id → Expr → Span
for_span name list = token >> id_span name >> token >> expr_span list

abbrev pub stmt_span_step : Stmt-F Span Span → Span
stmt_span_step (Stmt-F.Let mutable name value) = token >> set_span name value
stmt_span_step (Stmt-F.Set name value) = set_span name value
stmt_span_step (Stmt-F.Send port value) = token >> id_span port >> bracketed (expr_span value) >> token
stmt_span_step (Stmt-F.If arms other) = spans_with token arms >> written_span else_span other
stmt_span_step (Stmt-F.For name list body) = for_span name list >> block_span body

abbrev pub stmt_arm_span_step : StmtArm-F Span Span → Span
stmt_arm_span_step arm = token >> expr_span arm.cond >> block_span arm.body

abbrev pub stmt_span : Stmt → Span
stmt_span = fold-Stmt Span Span stmt_span_step stmt_arm_span_step

abbrev pub stmt_arm_span : StmtArm → Span
stmt_arm_span = fold-StmtArm Span Span stmt_span_step stmt_arm_span_step

abbrev pub bracket_span : Bracket → Span
bracket_span bracket = begins_at bracket.at >> bracketed (expr_span bracket.value)

abbrev pub component_span : Id → Option Bracket → Span
component_span name index = id_span name >> written_span bracket_span index

abbrev pub end_part_span : EndPart → Span
end_part_span end_part.Net = token
end_part_span end_part.Exec = token
end_part_span (end_part.Kid name index) = component_span name index

abbrev pub end_span : End → Span
end_span end = end_part_span end.part >> token >> id_span end.port

abbrev pub via_key_span : ViaKey → Span
via_key_span own = token >> id_span own.name >> token >> expr_span own.value

abbrev pub via_span : ViaPart → Span
via_span via = token >> bracketed (id_span via.value >> written_span via_key_span via.key) >> token >> expr_span via.body

abbrev pub item_span_step : Item-F Span Span → Span
item_span_step (Item-F.Comp at name index soft model args) =
    token_at at >> component_span name index >> token >> id_span model >> args_span (map expr_span args) >> token
item_span_step (Item-F.Link at source target via) =
    token_at at >> end_span source >> token >> end_span target >> written_span via_span via >> token
item_span_step (Item-F.Let name value) = token >> set_span name value
item_span_step (Item-F.If arms other) = spans_with token arms >> written_span else_span other
item_span_step (Item-F.For name list body) = for_span name list >> block_span body

abbrev pub item_arm_span_step : ItemArm-F Span Span → Span
item_arm_span_step arm = token >> expr_span arm.cond >> block_span arm.body

abbrev pub item_span : Item → Span
item_span = fold-Item Span Span item_span_step item_arm_span_step

abbrev pub item_arm_span : ItemArm → Span
item_arm_span = fold-ItemArm Span Span item_span_step item_arm_span_step

abbrev pub typed_span : Typed → Span
typed_span typed = id_span typed.name >> token >> type_span typed.ty

abbrev pub port_span : PortDecl → Span
port_span port = token >> id_span port.name >> token >> type_span port.ty >> token

abbrev pub state_span : StateDecl → Span
state_span state =
    token >> id_span state.name >> token >> type_span state.ty >> token >> expr_span state.value >> token

abbrev pub phase_span : Option Phase → Span
phase_span = written_span (λ (phase : Phase). token_at phase.at >> block_span (map stmt_span phase.stmts))

abbrev pub phases_span : Body → Span
phases_span body = phase_span body.output >> phase_span body.internal >> phase_span body.external >> phase_span body.confluent

abbrev pub body_span : Body → Span
body_span body =
    all_spans (map port_span body.ports)
    >> all_spans (map state_span body.states)
    >> token_at body.advance_at >> expr_span body.advance >> token
    >> phases_span body

-- "{" {stmt} "return" expr ";" "}"
abbrev pub result_span : List Stmt → Expr → Span
result_span stmts value = bracketed (all_spans (map stmt_span stmts) >> token >> expr_span value >> token)

-- "exec" "{" body "structure" items "}"
abbrev pub exec_span : ℕ → Body → List Item → Span
exec_span at body items = token_at at >> bracketed (body_span body >> token >> block_span (map item_span items))

abbrev pub decl_span : Decl → Span
decl_span (decl.Enum name variants) = token >> id_span name >> args_span (map id_span variants)
decl_span (decl.Rec name fields) = token >> id_span name >> args_span (map typed_span fields)
decl_span (decl.Func name params ty stmts value) =
    token >> id_span name >> args_span (map typed_span params) >> token >> type_span ty >> result_span stmts value
decl_span (decl.Atomic at name params body) =
    token_at at >> id_span name >> args_span (map typed_span params) >> bracketed (body_span body)
decl_span (decl.Network at name params ports exec_at body items) =
    token_at at >> id_span name >> args_span (map typed_span params)
    >> bracketed (all_spans (map port_span ports) >> exec_span exec_at body items)
decl_span (decl.Top at name args) = token_at at >> id_span name >> args_span (map expr_span args) >> token

abbrev pub span_of : Model → Span
span_of model = all_spans (map decl_span model.decls)
