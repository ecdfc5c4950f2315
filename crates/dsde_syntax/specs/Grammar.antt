-- The tokens of a model. Each construct has one step, which is read beside its rule of the grammar
-- above it: in the place of each part stand the tokens of that part.
use Rattle.std.specs.Prelude.{Bool, if◌then◌else◌, List, [], ◌∷◌, ◌++◌, map, flat_map, Option, Some, None}
use Rattle.std.specs.List.{join_by}
use Rattle.dsde_syntax.specs.declared.token.Tok.{Tok}
use Rattle.dsde_syntax.specs.declared.token.Tok.TheVariants as tok
use Rattle.dsde_words.specs.declared.key.Key.{Key}
use Rattle.dsde_words.specs.declared.key.Key.TheVariants as key
use Rattle.dsde_syntax.specs.declared.token.Sign.{Sign}
use Rattle.dsde_syntax.specs.declared.token.Sign.TheVariants as sign
use Rattle.dsde_syntax.specs.declared.id.Id.{Id}
use Rattle.dsde_syntax.specs.declared.type_name.TypeName.{TypeName}
use Rattle.dsde_syntax.specs.declared.type_name.TypeName.TheOpen.{TypeName-F}
use Rattle.dsde_syntax.specs.declared.type_name.TypeName.TheFolds.{fold-TypeName}
use Rattle.dsde_syntax.specs.declared.expr.Expr.{Expr}
use Rattle.dsde_syntax.specs.declared.expr.Suffix.{Suffix}
use Rattle.dsde_syntax.specs.declared.expr.ExprArm.{ExprArm}
use Rattle.dsde_syntax.specs.declared.expr.FieldSet.{FieldSet}
use Rattle.dsde_syntax.specs.declared.expr.SignTail.{SignTail}
use Rattle.dsde_syntax.specs.declared.expr.Tail.{Tail}
use Rattle.dsde_syntax.specs.declared.expr.Expr.TheOpen.{Expr-F, Suffix-F, ExprArm-F, FieldSet-F, SignTail-F, Tail-F}
use Rattle.dsde_syntax.specs.declared.expr.Expr.TheFolds.{fold-Expr, fold-Suffix, fold-ExprArm, fold-FieldSet, fold-SignTail, fold-Tail}
use Rattle.dsde_syntax.specs.declared.stmt.Stmt.{Stmt}
use Rattle.dsde_syntax.specs.declared.stmt.StmtArm.{StmtArm}
use Rattle.dsde_syntax.specs.declared.stmt.Stmt.TheOpen.{Stmt-F, StmtArm-F}
use Rattle.dsde_syntax.specs.declared.stmt.Stmt.TheFolds.{fold-Stmt, fold-StmtArm}
use Rattle.dsde_syntax.specs.declared.item.Item.{Item}
use Rattle.dsde_syntax.specs.declared.item.ItemArm.{ItemArm}
use Rattle.dsde_syntax.specs.declared.item.Item.TheOpen.{Item-F, ItemArm-F}
use Rattle.dsde_syntax.specs.declared.item.Item.TheFolds.{fold-Item, fold-ItemArm}
use Rattle.dsde_syntax.specs.declared.item.Bracket.{Bracket}
use Rattle.dsde_syntax.specs.declared.item.End.{End}
use Rattle.dsde_syntax.specs.declared.item.EndPart.{EndPart}
use Rattle.dsde_syntax.specs.declared.item.EndPart.TheVariants as end_part
use Rattle.dsde_syntax.specs.declared.item.ViaPart.{ViaPart}
use Rattle.dsde_syntax.specs.declared.item.ViaKey.{ViaKey}
use Rattle.dsde_syntax.specs.declared.decl.Model.{Model}
use Rattle.dsde_syntax.specs.declared.decl.Decl.{Decl}
use Rattle.dsde_syntax.specs.declared.decl.Decl.TheVariants as decl
use Rattle.dsde_syntax.specs.declared.decl.Typed.{Typed}
use Rattle.dsde_syntax.specs.declared.decl.PortDecl.{PortDecl}
use Rattle.dsde_syntax.specs.declared.decl.StateDecl.{StateDecl}
use Rattle.dsde_syntax.specs.declared.decl.Body.{Body}
use Rattle.dsde_syntax.specs.declared.decl.Phase.{Phase}

abbrev pub Tokens : Type 0
Tokens = List Tok

-- a reserved word
abbrev pub word : Key → Tokens
word which = tok.Key which ∷ []

-- a sign
abbrev pub mark : Sign → Tokens
mark which = tok.Sign which ∷ []

-- id
abbrev pub id_tokens : Id → Tokens
id_tokens id = tok.Ident id.name ∷ []

-- {part}
abbrev pub joined : List Tokens → Tokens
joined = flat_map (λ part. part)

-- [part {"," part}]
abbrev pub commas : List Tokens → Tokens
commas = join_by (λ part. part) (mark sign.Comma)

-- part {"else" part}
abbrev pub elses : List Tokens → Tokens
elses = join_by (λ part. part) (word key.Else)

-- [part], with what stands round the part
abbrev pub optional : {A : Type 0} → (A → Tokens) → Option A → Tokens
optional around None = []
optional around (Some part) = around part

-- "(" inner ")"
abbrev pub in_parens : Tokens → Tokens
in_parens inner = mark sign.OpenParen ++ inner ++ mark sign.CloseParen

-- "[" inner "]"
abbrev pub in_brackets : Tokens → Tokens
in_brackets inner = mark sign.OpenBracket ++ inner ++ mark sign.CloseBracket

-- "{" inner "}"
abbrev pub in_braces : Tokens → Tokens
in_braces inner = mark sign.OpenBrace ++ inner ++ mark sign.CloseBrace

-- "<" inner ">"
abbrev pub in_angles : Tokens → Tokens
in_angles inner = mark sign.Less ++ inner ++ mark sign.Greater

-- "int" | "bool" | id | ("list" | "opt") "<" type ">"
abbrev pub type_step : TypeName-F Tokens → Tokens
type_step (TypeName-F.Int at) = word key.Int
type_step (TypeName-F.Bool at) = word key.Bool
type_step (TypeName-F.Named id) = id_tokens id
type_step (TypeName-F.List at part) = word key.List ++ in_angles part
type_step (TypeName-F.Opt at part) = word key.Opt ++ in_angles part

abbrev pub type_tokens : TypeName → Tokens
type_tokens = fold-TypeName Tokens type_step

-- "true" | "false"
abbrev pub truth_tokens : Bool → Tokens
truth_tokens value = word (if value then key.True else key.False)

-- an expression, by the levels of the grammar from the weakest operator on
abbrev pub expr_step : Expr-F Tokens Tokens Tokens Tokens Tokens Tokens → Tokens
-- or "??" or
expr_step (Expr-F.OrElse at left right) = left ++ mark sign.QuestionQuestion ++ right
-- and {"or" and}
expr_step (Expr-F.Or first rest) = first ++ flat_map (λ value. word key.Or ++ value) rest
-- not {"and" not}
expr_step (Expr-F.And first rest) = first ++ flat_map (λ value. word key.And ++ value) rest
-- "not" cmp
expr_step (Expr-F.Not at part) = word key.Not ++ part
-- sum ("==" | "!=" | "<" | "<=" | ">" | ">=") sum
expr_step (Expr-F.Compare which at left right) = left ++ mark which ++ right
-- mul {("+" | "-" | "+|" | "-|" | "++") mul}
expr_step (Expr-F.Sum first rest) = first ++ joined rest
-- neg {("*" | "/" | "%" | "*|") neg}
expr_step (Expr-F.Mul first rest) = first ++ joined rest
-- "-" post
expr_step (Expr-F.Neg at part) = mark sign.Minus ++ part
-- prim {"." id | "[" expr "]" | "!"}
expr_step (Expr-F.Post first suffixes) = first ++ joined suffixes
-- number
expr_step (Expr-F.Number at value) = tok.Int value ∷ []
-- "true" | "false"
expr_step (Expr-F.Truth at value) = truth_tokens value
-- "elapsed"
expr_step (Expr-F.Elapsed at) = word key.Elapsed
-- id
expr_step (Expr-F.Name id) = id_tokens id
-- id args
expr_step (Expr-F.Call name args) = id_tokens name ++ in_parens (commas args)
-- id "::" id
expr_step (Expr-F.Variant owner variant) = id_tokens owner ++ mark sign.ColonColon ++ id_tokens variant
-- "new" id "{" id ":" expr {"," id ":" expr} "}"
expr_step (Expr-F.New at owner fields) = word key.New ++ id_tokens owner ++ in_braces (commas fields)
-- "none" "<" type ">"
expr_step (Expr-F.NoneOf at ty) = word key.NoneOf ++ in_angles (type_tokens ty)
-- "empty" "<" type ">"
expr_step (Expr-F.EmptyOf at ty) = word key.EmptyOf ++ in_angles (type_tokens ty)
-- builtin args
expr_step (Expr-F.Builtin which at args) = word which ++ in_parens (commas args)
-- "(" expr ")"
expr_step (Expr-F.Paren at inner) = in_parens inner
-- "[" expr {"," expr} "]"
expr_step (Expr-F.List at items) = in_brackets (commas items)
-- "[" "for" id "in" expr ["if" expr] ":" expr "]"
expr_step (Expr-F.Each at name list cond value) =
    in_brackets (word key.For ++ id_tokens name ++ word key.In ++ list ++ optional (λ test. word key.If ++ test) cond ++ mark sign.Colon ++ value)
-- "if" expr "{" expr "}" {"else" "if" expr "{" expr "}"} "else" "{" expr "}"
expr_step (Expr-F.If at arms other) = elses arms ++ word key.Else ++ in_braces other

-- what stands behind "or" or "and"
abbrev pub tail_step : Tail-F Tokens Tokens Tokens Tokens Tokens Tokens → Tokens
tail_step tail = tail.value

-- a sign and what stands behind it
abbrev pub sign_tail_step : SignTail-F Tokens Tokens Tokens Tokens Tokens Tokens → Tokens
sign_tail_step tail = mark tail.sign ++ tail.value

-- "." id | "[" expr "]" | "!"
abbrev pub suffix_step : Suffix-F Tokens Tokens Tokens Tokens Tokens Tokens → Tokens
suffix_step (Suffix-F.Field at name) = mark sign.Dot ++ id_tokens name
suffix_step (Suffix-F.Index at value) = in_brackets value
suffix_step (Suffix-F.Unwrap at) = mark sign.Bang

-- id ":" expr
abbrev pub field_set_step : FieldSet-F Tokens Tokens Tokens Tokens Tokens Tokens → Tokens
field_set_step field = id_tokens field.name ++ mark sign.Colon ++ field.value

-- "if" expr "{" expr "}"
abbrev pub expr_arm_step : ExprArm-F Tokens Tokens Tokens Tokens Tokens Tokens → Tokens
expr_arm_step arm = word key.If ++ arm.cond ++ in_braces arm.value

abbrev pub expr_tokens : Expr → Tokens
expr_tokens = fold-Expr Tokens Tokens Tokens Tokens Tokens Tokens expr_step suffix_step expr_arm_step field_set_step sign_tail_step tail_step

abbrev pub suffix_tokens : Suffix → Tokens
suffix_tokens = fold-Suffix Tokens Tokens Tokens Tokens Tokens Tokens expr_step suffix_step expr_arm_step field_set_step sign_tail_step tail_step

abbrev pub expr_arm_tokens : ExprArm → Tokens
expr_arm_tokens = fold-ExprArm Tokens Tokens Tokens Tokens Tokens Tokens expr_step suffix_step expr_arm_step field_set_step sign_tail_step tail_step

abbrev pub field_set_tokens : FieldSet → Tokens
field_set_tokens = fold-FieldSet Tokens Tokens Tokens Tokens Tokens Tokens expr_step suffix_step expr_arm_step field_set_step sign_tail_step tail_step

abbrev pub sign_tail_tokens : SignTail → Tokens
sign_tail_tokens = fold-SignTail Tokens Tokens Tokens Tokens Tokens Tokens expr_step suffix_step expr_arm_step field_set_step sign_tail_step tail_step

abbrev pub tail_tokens : Tail → Tokens
tail_tokens = fold-Tail Tokens Tokens Tokens Tokens Tokens Tokens expr_step suffix_step expr_arm_step field_set_step sign_tail_step tail_step

-- "(" [expr {"," expr}] ")"
abbrev pub args_tokens : List Expr → Tokens
args_tokens args = in_parens (commas (map expr_tokens args))

-- "let" | "var"
abbrev pub let_tokens : Bool → Tokens
let_tokens mutable = word (if mutable then key.Var else key.Let)

-- id "=" expr ";"
abbrev pub set_tokens : Id → Expr → Tokens
set_tokens name value = id_tokens name ++ mark sign.Equal ++ expr_tokens value ++ mark sign.Semicolon

-- "for" id "in" expr
abbrev pub for_tokens : Id → Expr → Tokens
for_tokens name list = word key.For ++ id_tokens name ++ word key.In ++ expr_tokens list

-- "if" expr
abbrev pub if_tokens : Expr → Tokens
if_tokens cond = word key.If ++ expr_tokens cond

-- "{" {part} "}"
abbrev pub block : List Tokens → Tokens
block parts = in_braces (joined parts)

-- "else" "{" {part} "}"
abbrev pub else_block : List Tokens → Tokens
else_block parts = word key.Else ++ block parts

-- a statement
abbrev pub stmt_step : Stmt-F Tokens Tokens → Tokens
-- ("let" | "var") id "=" expr ";"
stmt_step (Stmt-F.Let mutable name value) = let_tokens mutable ++ set_tokens name value
-- id "=" expr ";"
stmt_step (Stmt-F.Set name value) = set_tokens name value
-- "send" id "(" expr ")" ";"
stmt_step (Stmt-F.Send port value) =
    word key.Send ++ id_tokens port ++ in_parens (expr_tokens value) ++ mark sign.Semicolon
-- "if" expr block {"else" "if" expr block} ["else" block]
stmt_step (Stmt-F.If arms other) = elses arms ++ optional else_block other
-- "for" id "in" expr block
stmt_step (Stmt-F.For name list body) = for_tokens name list ++ block body

-- "if" expr block
abbrev pub stmt_arm_step : StmtArm-F Tokens Tokens → Tokens
stmt_arm_step arm = if_tokens arm.cond ++ block arm.body

abbrev pub stmt_tokens : Stmt → Tokens
stmt_tokens = fold-Stmt Tokens Tokens stmt_step stmt_arm_step

abbrev pub stmt_arm_tokens : StmtArm → Tokens
stmt_arm_tokens = fold-StmtArm Tokens Tokens stmt_step stmt_arm_step

-- "[" expr "]"
abbrev pub bracket_tokens : Bracket → Tokens
bracket_tokens bracket = in_brackets (expr_tokens bracket.value)

-- id ["[" expr "]"]
abbrev pub component_tokens : Id → Option Bracket → Tokens
component_tokens name index = id_tokens name ++ optional bracket_tokens index

-- "is" | ":", what makes an entry soft
abbrev pub entry_mark : Bool → Tokens
entry_mark soft = (if soft then tok.Sign sign.Colon else tok.Key key.Is) ∷ []

-- "net" | "exec" | id ["[" expr "]"]
abbrev pub end_part_tokens : EndPart → Tokens
end_part_tokens end_part.Net = word key.Net
end_part_tokens end_part.Exec = word key.Exec
end_part_tokens (end_part.Kid name index) = component_tokens name index

-- ("net" | "exec" | id ["[" expr "]"]) "." id
abbrev pub end_tokens : End → Tokens
end_tokens end = end_part_tokens end.part ++ mark sign.Dot ++ id_tokens end.port

-- "," id "=" expr
abbrev pub via_key_tokens : ViaKey → Tokens
via_key_tokens own = mark sign.Comma ++ id_tokens own.name ++ mark sign.Equal ++ expr_tokens own.value

-- "via" "(" id ["," id "=" expr] ")" "=>" expr
abbrev pub via_tokens : ViaPart → Tokens
via_tokens via =
    word key.Via ++ in_parens (id_tokens via.value ++ optional via_key_tokens via.key) ++ mark sign.FatArrow ++ expr_tokens via.body

-- "link" end "->" end ["via" "(" id ["," id "=" expr] ")" "=>" expr] ";"
abbrev pub link_tokens : End → End → Option ViaPart → Tokens
link_tokens source target via =
    word key.Link ++ end_tokens source ++ mark sign.Arrow ++ end_tokens target ++ optional via_tokens via ++ mark sign.Semicolon

-- an item
abbrev pub item_step : Item-F Tokens Tokens → Tokens
-- "comp" id ["[" expr "]"] ("is" | ":") id args ";"
item_step (Item-F.Comp at name index soft model args) =
    word key.Comp ++ component_tokens name index ++ entry_mark soft ++ id_tokens model ++ args_tokens args ++ mark sign.Semicolon
-- "link" end "->" end [..] ";"
item_step (Item-F.Link at source target via) = link_tokens source target via
-- "let" id "=" expr ";"
item_step (Item-F.Let name value) = word key.Let ++ set_tokens name value
-- "if" expr items {"else" "if" expr items} ["else" items]
item_step (Item-F.If arms other) = elses arms ++ optional else_block other
-- "for" id "in" expr items
item_step (Item-F.For name list body) = for_tokens name list ++ block body

-- "if" expr items
abbrev pub item_arm_step : ItemArm-F Tokens Tokens → Tokens
item_arm_step arm = if_tokens arm.cond ++ block arm.body

abbrev pub item_tokens : Item → Tokens
item_tokens = fold-Item Tokens Tokens item_step item_arm_step

abbrev pub item_arm_tokens : ItemArm → Tokens
item_arm_tokens = fold-ItemArm Tokens Tokens item_step item_arm_step

-- id ":" type
abbrev pub typed_tokens : Typed → Tokens
typed_tokens typed = id_tokens typed.name ++ mark sign.Colon ++ type_tokens typed.ty

-- "(" [id ":" type {"," id ":" type}] ")"
abbrev pub params_tokens : List Typed → Tokens
params_tokens params = in_parens (commas (map typed_tokens params))

-- ("in" | "out") id ":" type ";"
abbrev pub port_tokens : PortDecl → Tokens
port_tokens port =
    word (if port.out then key.Out else key.In) ++ id_tokens port.name ++ mark sign.Colon ++ type_tokens port.ty ++ mark sign.Semicolon

-- "state" id ":" type "=" expr ";"
abbrev pub state_tokens : StateDecl → Tokens
state_tokens state =
    word key.State ++ id_tokens state.name ++ mark sign.Colon ++ type_tokens state.ty ++ mark sign.Equal ++ expr_tokens state.value ++ mark sign.Semicolon

-- ["output" block], and so for the other phases
abbrev pub phase_tokens : Key → Option Phase → Tokens
phase_tokens begins = optional (λ (phase : Phase). word begins ++ block (map stmt_tokens phase.stmts))

-- ["output" block] ["internal" block] ["external" block] ["confluent" block]
abbrev pub phases_tokens : Body → Tokens
phases_tokens body =
    phase_tokens key.Output body.output
    ++ phase_tokens key.Internal body.internal
    ++ phase_tokens key.External body.external
    ++ phase_tokens key.Confluent body.confluent

-- {port} {"state" id ":" type "=" expr ";"} "advance" expr ";" and the blocks of the phases
abbrev pub body_tokens : Body → Tokens
body_tokens body =
    joined (map port_tokens body.ports)
    ++ joined (map state_tokens body.states)
    ++ word key.Advance ++ expr_tokens body.advance ++ mark sign.Semicolon
    ++ phases_tokens body

-- "{" {stmt} "return" expr ";" "}"
abbrev pub result_tokens : List Stmt → Expr → Tokens
result_tokens stmts value =
    in_braces (joined (map stmt_tokens stmts) ++ word key.Return ++ expr_tokens value ++ mark sign.Semicolon)

-- "exec" "{" body "structure" items "}"
abbrev pub exec_tokens : Body → List Item → Tokens
exec_tokens body items =
    word key.Exec ++ in_braces (body_tokens body ++ word key.Structure ++ block (map item_tokens items))

-- a declaration
abbrev pub decl_tokens : Decl → Tokens
-- "enum" id "{" id {"," id} "}"
decl_tokens (decl.Enum name variants) = word key.Enum ++ id_tokens name ++ in_braces (commas (map id_tokens variants))
-- "record" id "{" id ":" type {"," id ":" type} "}"
decl_tokens (decl.Rec name fields) = word key.Record ++ id_tokens name ++ in_braces (commas (map typed_tokens fields))
-- "fn" id params "->" type "{" {stmt} "return" expr ";" "}"
decl_tokens (decl.Func name params ty stmts value) =
    word key.Fn ++ id_tokens name ++ params_tokens params ++ mark sign.Arrow ++ type_tokens ty ++ result_tokens stmts value
-- "atomic" id params "{" body "}"
decl_tokens (decl.Atomic at name params body) =
    word key.Atomic ++ id_tokens name ++ params_tokens params ++ in_braces (body_tokens body)
-- "network" id params "{" {port} "exec" "{" body "structure" items "}" "}"
decl_tokens (decl.Network at name params ports exec_at body items) =
    word key.Network ++ id_tokens name ++ params_tokens params ++ in_braces (joined (map port_tokens ports) ++ exec_tokens body items)
-- "top" id args ";"
decl_tokens (decl.Top at name args) = word key.Top ++ id_tokens name ++ args_tokens args ++ mark sign.Semicolon

-- {decl}
abbrev pub tokens_of : Model → Tokens
tokens_of model = joined (map decl_tokens model.decls)
