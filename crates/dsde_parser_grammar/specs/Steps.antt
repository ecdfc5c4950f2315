-- The grammar as steps from token to token: what is wanted behind a token, where it may come.
-- Proofs alone read this; the grammar to believe is that of the tokens of a model.
use Rattle.std.specs.Prelude.{ℕ, ◌+◌, Bool, true, false, ◌&&◌, if◌then◌else◌, List, [], ◌∷◌, ◌++◌, Option, Some, None}
use denote.Enum.Bare.{sameb}
use Rattle.dsde_words.specs.contracts.key.Key.{the_type as keys}
use Rattle.dsde_syntax.specs.contracts.token.Sign.{the_type as signs}
use Rattle.dsde_syntax.specs.declared.token.Tok.{Tok}
use Rattle.dsde_syntax.specs.declared.token.Tok.TheVariants as tok
use Rattle.dsde_words.specs.declared.key.Key.{Key}
use Rattle.dsde_words.specs.declared.key.Key.TheVariants as key
use Rattle.dsde_syntax.specs.declared.token.Sign.{Sign}
use Rattle.dsde_syntax.specs.declared.token.Sign.TheVariants as sign
use Rattle.dsde_syntax.specs.Grammar.{Tokens}
use Rattle.dsde_syntax.specs.Levels.{is_builtin, is_comparison, is_sum_sign, is_mul_sign}
use Rattle.dsde_parser_grammar.specs.Want.{Want}
use Rattle.dsde_parser_grammar.specs.Want as want

abbrev pub Wants : Type 0
Wants = List Want

-- What a want makes of a token: the token is taken, and this is wanted behind it; the want is met
-- by nothing, and the token is for the wants behind; or the token cannot come.
pub data Step : Type 0 where
  go : (wants : List Want) → Step
  pass : Step
  halt : Step

-- a token, and then what is wanted
abbrev pub go_if : Bool → Wants → Step
go_if true wants = go wants
go_if false wants = halt

-- [part], by the step of the part
abbrev pub optional : Step → Step
optional (go wants) = go wants
optional pass = pass
optional halt = pass

-- {part}, by the step of the part
abbrev pub repeated : Want → Step → Step
repeated again (go wants) = go (wants ++ again ∷ [])
repeated again pass = pass
repeated again halt = pass

abbrev pub is_key : Key → Tok → Bool
is_key which (tok.Key own) = sameb keys own which
is_key which (tok.Sign own) = false
is_key which (tok.Ident name) = false
is_key which (tok.Int value) = false

abbrev pub is_sign : Sign → Tok → Bool
is_sign which (tok.Key own) = false
is_sign which (tok.Sign own) = sameb signs own which
is_sign which (tok.Ident name) = false
is_sign which (tok.Int value) = false

abbrev pub is_name : Tok → Bool
is_name (tok.Key own) = false
is_name (tok.Sign own) = false
is_name (tok.Ident name) = true
is_name (tok.Int value) = false

abbrev pub is_number : Tok → Bool
is_number (tok.Key own) = false
is_number (tok.Sign own) = false
is_number (tok.Ident name) = false
is_number (tok.Int value) = true

-- id
abbrev pub name_step : Tok → Step
name_step (tok.Ident name) = go []
name_step _ = halt

-- "<" type ">"
abbrev pub angles : Wants
angles = want.mark sign.Less ∷ want.ty ∷ want.mark sign.Greater ∷ []

-- "int" | "bool" | id | ("list" | "opt") "<" type ">"
abbrev pub type_step : Tok → Step
type_step (tok.Key key.Int) = go []
type_step (tok.Key key.Bool) = go []
type_step (tok.Key key.List) = go angles
type_step (tok.Key key.Opt) = go angles
type_step (tok.Ident name) = go []
type_step _ = halt

-- the levels of expressions
abbrev pub post_wants : Wants
post_wants = want.prim ∷ want.suffixes ∷ []

abbrev pub neg_wants : Wants
neg_wants = want.minus ∷ post_wants

abbrev pub mul_wants : Wants
mul_wants = neg_wants ++ want.factors ∷ []

abbrev pub sum_wants : Wants
sum_wants = mul_wants ++ want.terms ∷ []

abbrev pub cmp_wants : Wants
cmp_wants = sum_wants ++ want.comparison ∷ []

abbrev pub not_wants : Wants
not_wants = want.negation ∷ cmp_wants

abbrev pub and_wants : Wants
and_wants = not_wants ++ want.conjuncts ∷ []

abbrev pub or_wants : Wants
or_wants = and_wants ++ want.disjuncts ∷ []

abbrev pub expr_wants : Wants
expr_wants = or_wants ++ want.fallback ∷ []

-- "(" [expr {"," expr}] ")"
abbrev pub args : Wants
args = want.mark sign.OpenParen ∷ want.args_rest ∷ []

-- expr {"," expr}
abbrev pub exprs : Wants
exprs = want.expr ∷ want.more_exprs ∷ []

-- id ":" expr
abbrev pub field_set : Wants
field_set = want.name ∷ want.mark sign.Colon ∷ want.expr ∷ []

-- "{" expr "}"
abbrev pub braced_expr : Wants
braced_expr = want.mark sign.OpenBrace ∷ want.expr ∷ want.mark sign.CloseBrace ∷ []

-- behind "if": expr "{" expr "}" "else" ..
abbrev pub choice_rest : Wants
choice_rest = want.expr ∷ (braced_expr ++ want.word key.Else ∷ want.else_rest ∷ [])

-- a primary expression, by its first token
abbrev pub prim_key : Key → Step
prim_key key.True = go []
prim_key key.False = go []
prim_key key.Elapsed = go []
prim_key key.New =
    go (want.name ∷ want.mark sign.OpenBrace ∷ (field_set ++ want.more_fields ∷ want.mark sign.CloseBrace ∷ []))
prim_key key.NoneOf = go angles
prim_key key.EmptyOf = go angles
prim_key key.If = go choice_rest
prim_key which = go_if (is_builtin which) args

abbrev pub prim_step : Tok → Step
prim_step (tok.Int value) = go []
prim_step (tok.Ident name) = go (want.after_name ∷ [])
prim_step (tok.Key which) = prim_key which
prim_step (tok.Sign sign.OpenParen) = go (want.expr ∷ want.mark sign.CloseParen ∷ [])
prim_step (tok.Sign sign.OpenBracket) = go (want.row_rest ∷ [])
prim_step _ = halt

-- "not"
abbrev pub negation_step : Tok → Step
negation_step (tok.Key key.Not) = go []
negation_step _ = halt

-- "-"
abbrev pub minus_step : Tok → Step
minus_step (tok.Sign sign.Minus) = go []
minus_step _ = halt

-- a step, and then what else is wanted
abbrev pub followed : Step → Wants → Step
followed (go wants) more = go (wants ++ more)
followed pass more = halt
followed halt more = halt

-- the first token of an expression
abbrev pub expr_step : Tok → Step
expr_step (tok.Key key.Not) =
    go (want.minus ∷ want.prim ∷ want.suffixes ∷ want.factors ∷ want.terms ∷ want.comparison ∷ want.conjuncts ∷ want.disjuncts ∷ want.fallback ∷ [])
expr_step (tok.Sign sign.Minus) =
    go (want.prim ∷ want.suffixes ∷ want.factors ∷ want.terms ∷ want.comparison ∷ want.conjuncts ∷ want.disjuncts ∷ want.fallback ∷ [])
expr_step t =
    followed (prim_step t) (want.suffixes ∷ want.factors ∷ want.terms ∷ want.comparison ∷ want.conjuncts ∷ want.disjuncts ∷ want.fallback ∷ [])

-- "." id | "[" expr "]" | "!"
abbrev pub suffix_step : Tok → Step
suffix_step (tok.Sign sign.Dot) = go (want.name ∷ [])
suffix_step (tok.Sign sign.OpenBracket) = go (want.expr ∷ want.mark sign.CloseBracket ∷ [])
suffix_step (tok.Sign sign.Bang) = go []
suffix_step _ = halt

-- ("*" | "/" | "%" | "*|") neg
abbrev pub factor_step : Tok → Step
factor_step (tok.Sign which) = go_if (is_mul_sign which) neg_wants
factor_step _ = halt

-- ("+" | "-" | "+|" | "-|" | "++") mul
abbrev pub term_step : Tok → Step
term_step (tok.Sign which) = go_if (is_sum_sign which) mul_wants
term_step _ = halt

-- ("==" | "!=" | "<" | "<=" | ">" | ">=") sum
abbrev pub comparison_step : Tok → Step
comparison_step (tok.Sign which) = go_if (is_comparison which) sum_wants
comparison_step _ = halt

-- "and" not
abbrev pub conjunct_step : Tok → Step
conjunct_step (tok.Key key.And) = go not_wants
conjunct_step _ = halt

-- "or" and
abbrev pub disjunct_step : Tok → Step
disjunct_step (tok.Key key.Or) = go and_wants
disjunct_step _ = halt

-- "??" or
abbrev pub fallback_step : Tok → Step
fallback_step (tok.Sign sign.QuestionQuestion) = go or_wants
fallback_step _ = halt

-- args | "::" id
abbrev pub after_name_step : Tok → Step
after_name_step (tok.Sign sign.OpenParen) = go (want.args_rest ∷ [])
after_name_step (tok.Sign sign.ColonColon) = go (want.name ∷ [])
after_name_step _ = halt

-- ")" | expr {"," expr} ")"
abbrev pub args_rest_step : Tok → Step
args_rest_step (tok.Sign sign.CloseParen) = go []
args_rest_step t = followed (expr_step t) (want.more_exprs ∷ want.mark sign.CloseParen ∷ [])

-- "," expr
abbrev pub more_expr_step : Tok → Step
more_expr_step (tok.Sign sign.Comma) = go (want.expr ∷ [])
more_expr_step _ = halt

-- "," id ":" expr
abbrev pub more_field_step : Tok → Step
more_field_step (tok.Sign sign.Comma) = go field_set
more_field_step _ = halt

-- "for" id "in" expr ["if" expr] ":" expr "]" | expr {"," expr} "]"
abbrev pub row_rest_step : Tok → Step
row_rest_step (tok.Key key.For) =
    go (want.name ∷ want.word key.In ∷ want.expr ∷ want.test ∷ want.mark sign.Colon ∷ want.expr ∷ want.mark sign.CloseBracket ∷ [])
row_rest_step t = followed (expr_step t) (want.more_exprs ∷ want.mark sign.CloseBracket ∷ [])

-- "if" expr
abbrev pub test_step : Tok → Step
test_step (tok.Key key.If) = go (want.expr ∷ [])
test_step _ = halt

-- "if" expr "{" expr "}" "else" .. | "{" expr "}"
abbrev pub else_rest_step : Tok → Step
else_rest_step (tok.Key key.If) = go choice_rest
else_rest_step (tok.Sign sign.OpenBrace) = go (want.expr ∷ want.mark sign.CloseBrace ∷ [])
else_rest_step _ = halt

-- id "=" expr ";"
abbrev pub set : Wants
set = want.name ∷ want.mark sign.Equal ∷ want.expr ∷ want.mark sign.Semicolon ∷ []

-- "{" {part} "}"
abbrev pub block : Want → Wants
block inner = want.mark sign.OpenBrace ∷ inner ∷ want.mark sign.CloseBrace ∷ []

-- behind "for": id "in" expr "{" {part} "}"
abbrev pub loop_rest : Want → Wants
loop_rest inner = want.name ∷ want.word key.In ∷ want.expr ∷ block inner

-- behind "if": expr "{" {part} "}" and what follows
abbrev pub arm_rest : Want → Want → Wants
arm_rest inner others = want.expr ∷ (block inner ++ others ∷ [])

-- a statement, by its first token
abbrev pub stmt_step : Tok → Step
stmt_step (tok.Ident name) = go (want.mark sign.Equal ∷ want.expr ∷ want.mark sign.Semicolon ∷ [])
stmt_step (tok.Key key.Let) = go set
stmt_step (tok.Key key.Var) = go set
stmt_step (tok.Key key.Send) =
    go (want.name ∷ want.mark sign.OpenParen ∷ want.expr ∷ want.mark sign.CloseParen ∷ want.mark sign.Semicolon ∷ [])
stmt_step (tok.Key key.If) = go (arm_rest want.stmts want.other_stmts)
stmt_step (tok.Key key.For) = go (loop_rest want.stmts)
stmt_step _ = halt

-- "else" ..
abbrev pub else_step : Want → Tok → Step
else_step behind (tok.Key key.Else) = go (behind ∷ [])
else_step behind _ = halt

-- "if" expr "{" {part} "}" .. | "{" {part} "}"
abbrev pub else_block_step : Want → Want → Tok → Step
else_block_step inner others (tok.Key key.If) = go (arm_rest inner others)
else_block_step inner others (tok.Sign sign.OpenBrace) = go (inner ∷ want.mark sign.CloseBrace ∷ [])
else_block_step inner others _ = halt

-- an item, by its first token
abbrev pub item_step : Tok → Step
item_step (tok.Key key.Comp) =
    go (want.name ∷ want.index ∷ want.entry_mark ∷ want.name ∷ (args ++ want.mark sign.Semicolon ∷ []))
item_step (tok.Key key.Link) = go (want.end ∷ want.mark sign.Arrow ∷ want.end ∷ want.via ∷ want.mark sign.Semicolon ∷ [])
item_step (tok.Key key.Let) = go set
item_step (tok.Key key.If) = go (arm_rest want.items want.other_items)
item_step (tok.Key key.For) = go (loop_rest want.items)
item_step _ = halt

-- "[" expr "]"
abbrev pub index_step : Tok → Step
index_step (tok.Sign sign.OpenBracket) = go (want.expr ∷ want.mark sign.CloseBracket ∷ [])
index_step _ = halt

-- "is" | ":"
abbrev pub entry_mark_step : Tok → Step
entry_mark_step (tok.Key key.Is) = go []
entry_mark_step (tok.Sign sign.Colon) = go []
entry_mark_step _ = halt

-- ("net" | "exec" | id ["[" expr "]"]) "." id
abbrev pub end_step : Tok → Step
end_step (tok.Key key.Net) = go (want.mark sign.Dot ∷ want.name ∷ [])
end_step (tok.Key key.Exec) = go (want.mark sign.Dot ∷ want.name ∷ [])
end_step (tok.Ident name) = go (want.index ∷ want.mark sign.Dot ∷ want.name ∷ [])
end_step _ = halt

-- "via" "(" id ["," id "=" expr] ")" "=>" expr
abbrev pub via_step : Tok → Step
via_step (tok.Key key.Via) =
    go (want.mark sign.OpenParen ∷ want.name ∷ want.via_key ∷ want.mark sign.CloseParen ∷ want.mark sign.FatArrow ∷ want.expr ∷ [])
via_step _ = halt

-- "," id "=" expr
abbrev pub via_key_step : Tok → Step
via_key_step (tok.Sign sign.Comma) = go (want.name ∷ want.mark sign.Equal ∷ want.expr ∷ [])
via_key_step _ = halt

-- id ":" type
abbrev pub typed : Wants
typed = want.name ∷ want.mark sign.Colon ∷ want.ty ∷ []

-- "(" [id ":" type {"," id ":" type}] ")"
abbrev pub params : Wants
params = want.mark sign.OpenParen ∷ want.params_rest ∷ []

-- {port} {state} "advance" expr ";" and the phases
abbrev pub body : Wants
body =
    want.ports ∷ want.states ∷ want.word key.Advance ∷ want.expr ∷ want.mark sign.Semicolon
    ∷ want.phase key.Output ∷ want.phase key.Internal ∷ want.phase key.External ∷ want.phase key.Confluent ∷ []

-- "{" {stmt} "return" expr ";" "}"
abbrev pub function_body : Wants
function_body =
    want.mark sign.OpenBrace ∷ want.stmts ∷ want.word key.Return ∷ want.expr ∷ want.mark sign.Semicolon ∷ want.mark sign.CloseBrace ∷ []

-- "structure" items "}"
abbrev pub structure : Wants
structure = want.word key.Structure ∷ (block want.items ++ want.mark sign.CloseBrace ∷ [])

-- "exec" "{" body "structure" items "}"
abbrev pub executive : Wants
executive = want.word key.Exec ∷ want.mark sign.OpenBrace ∷ (body ++ structure)

-- "{" {port} "exec" .. "}"
abbrev pub network_body : Wants
network_body = want.mark sign.OpenBrace ∷ want.ports ∷ (executive ++ want.mark sign.CloseBrace ∷ [])

-- a declaration, by its first token
abbrev pub decl_step : Tok → Step
decl_step (tok.Key key.Enum) =
    go (want.name ∷ want.mark sign.OpenBrace ∷ want.name ∷ want.more_names ∷ want.mark sign.CloseBrace ∷ [])
decl_step (tok.Key key.Record) =
    go (want.name ∷ want.mark sign.OpenBrace ∷ (typed ++ want.more_typed ∷ want.mark sign.CloseBrace ∷ []))
decl_step (tok.Key key.Fn) = go (want.name ∷ (params ++ want.mark sign.Arrow ∷ want.ty ∷ function_body))
decl_step (tok.Key key.Atomic) = go (want.name ∷ (params ++ want.mark sign.OpenBrace ∷ (body ++ want.mark sign.CloseBrace ∷ [])))
decl_step (tok.Key key.Network) = go (want.name ∷ (params ++ network_body))
decl_step (tok.Key key.Top) = go (want.name ∷ (args ++ want.mark sign.Semicolon ∷ []))
decl_step _ = halt

-- "," id
abbrev pub more_name_step : Tok → Step
more_name_step (tok.Sign sign.Comma) = go (want.name ∷ [])
more_name_step _ = halt

-- "," id ":" type
abbrev pub more_typed_step : Tok → Step
more_typed_step (tok.Sign sign.Comma) = go typed
more_typed_step _ = halt

-- ")" | id ":" type {"," id ":" type} ")"
abbrev pub params_rest_step : Tok → Step
params_rest_step (tok.Sign sign.CloseParen) = go []
params_rest_step (tok.Ident name) = go (want.mark sign.Colon ∷ want.ty ∷ want.more_typed ∷ want.mark sign.CloseParen ∷ [])
params_rest_step _ = halt

-- ("in" | "out") id ":" type ";"
abbrev pub port_step : Tok → Step
port_step (tok.Key key.In) = go (typed ++ want.mark sign.Semicolon ∷ [])
port_step (tok.Key key.Out) = go (typed ++ want.mark sign.Semicolon ∷ [])
port_step _ = halt

-- "state" id ":" type "=" expr ";"
abbrev pub state_step : Tok → Step
state_step (tok.Key key.State) = go (typed ++ want.mark sign.Equal ∷ want.expr ∷ want.mark sign.Semicolon ∷ [])
state_step _ = halt

-- the step of each want
abbrev pub step : Want → Tok → Step
step (want.word which) t = go_if (is_key which t) []
step (want.mark which) t = go_if (is_sign which t) []
step want.name t = name_step t
step want.ty t = type_step t
step want.expr t = expr_step t
step want.negation t = optional (negation_step t)
step want.minus t = optional (minus_step t)
step want.prim t = prim_step t
step want.suffix t = suffix_step t
step want.suffixes t = repeated want.suffixes (suffix_step t)
step want.factors t = repeated want.factors (factor_step t)
step want.terms t = repeated want.terms (term_step t)
step want.comparison t = optional (comparison_step t)
step want.conjuncts t = repeated want.conjuncts (conjunct_step t)
step want.disjuncts t = repeated want.disjuncts (disjunct_step t)
step want.fallback t = optional (fallback_step t)
step want.after_name t = optional (after_name_step t)
step want.args_rest t = args_rest_step t
step want.more_exprs t = repeated want.more_exprs (more_expr_step t)
step want.more_fields t = repeated want.more_fields (more_field_step t)
step want.row_rest t = row_rest_step t
step want.test t = optional (test_step t)
step want.else_rest t = else_rest_step t
step want.stmt t = stmt_step t
step want.stmts t = repeated want.stmts (stmt_step t)
step want.other_stmts t = optional (else_step want.else_stmts t)
step want.else_stmts t = else_block_step want.stmts want.other_stmts t
step want.item t = item_step t
step want.items t = repeated want.items (item_step t)
step want.other_items t = optional (else_step want.else_items t)
step want.else_items t = else_block_step want.items want.other_items t
step want.index t = optional (index_step t)
step want.entry_mark t = entry_mark_step t
step want.end t = end_step t
step want.via t = optional (via_step t)
step want.via_key t = optional (via_key_step t)
step want.decl t = decl_step t
step want.decls t = repeated want.decls (decl_step t)
step want.more_names t = repeated want.more_names (more_name_step t)
step want.more_typed t = repeated want.more_typed (more_typed_step t)
step want.params_rest t = params_rest_step t
step want.port t = port_step t
step want.ports t = repeated want.ports (port_step t)
step want.state t = state_step t
step want.states t = repeated want.states (state_step t)
step (want.phase which) t = optional (go_if (is_key which t) (block want.stmts))

-- whether a want may be met by nothing
abbrev pub may_end : Want → Bool
may_end want.negation = true
may_end want.minus = true
may_end want.suffixes = true
may_end want.factors = true
may_end want.terms = true
may_end want.comparison = true
may_end want.conjuncts = true
may_end want.disjuncts = true
may_end want.fallback = true
may_end want.after_name = true
may_end want.more_exprs = true
may_end want.more_fields = true
may_end want.test = true
may_end want.stmts = true
may_end want.other_stmts = true
may_end want.items = true
may_end want.other_items = true
may_end want.index = true
may_end want.via = true
may_end want.via_key = true
may_end want.decls = true
may_end want.more_names = true
may_end want.more_typed = true
may_end want.ports = true
may_end want.states = true
may_end (want.phase which) = true
may_end _ = false

abbrev pub all_may_end : Wants → Bool
all_may_end [] = true
all_may_end (first ∷ rest) = may_end first && all_may_end rest

abbrev pub onward : Step → Wants → Option Wants → Option Wants
onward (go wants) behind passed = Some (wants ++ behind)
onward pass behind passed = passed
onward halt behind passed = None

-- what is wanted behind a token, if it may come
abbrev pub behind : Wants → Tok → Option Wants
behind [] t = None
behind (first ∷ rest) t = onward (step first t) rest (behind rest t)

-- the index of the first token that cannot come, or that of the end where more is wanted
abbrev pub stop : Wants → ℕ → Tokens → Option ℕ
stop wants at [] = if all_may_end wants then None else Some at
stop wants at (t ∷ ts) = elim (behind wants t) [ None ↦ Some at | Some next ↦ stop next (at + 1) ts ]

-- what a text of the grammar wants at its start
abbrev pub start : Wants
start = want.decls ∷ []
