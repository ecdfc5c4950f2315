-- How what is read goes with the steps of the grammar: a device for the parser's proofs alone.
use Rattle.std.specs.Prelude.{◌≡◌, ℕ, Bool, true, false, [], ◌∷◌, ◌++◌, Option, Some, Result, Ok, Err, ⊤}
use Rattle.dsde_syntax.specs.declared.token.Tok.{Tok}
use Rattle.dsde_syntax.specs.declared.token.Tok.TheVariants as tok
use Rattle.dsde_words.specs.declared.key.Key.{Key}
use Rattle.dsde_words.specs.declared.key.Key.TheVariants as key
use Rattle.dsde_syntax.specs.declared.token.Sign.TheVariants as sign
use Rattle.dsde_syntax.specs.Grammar.{Tokens}
use Rattle.dsde_syntax.specs.Levels.{is_builtin}
use Rattle.dsde_parser_grammar.specs.Steps.{Wants, Step, go, stop, suffix_step, stmt_step, item_step, port_step}
use Rattle.dsde_parser_expressions.specs.declared.parser.ParseError.{ParseError}
use Rattle.dsde_parser_expressions.specs.declared.parser.ParseError.TheVariants as parse_error
use Rattle.dsde_parser_expressions.specs.Took.{Spot}

-- where the grammar stops from a place on, with these wants
abbrev pub stop_at : Wants → Spot → Option ℕ
stop_at wants spot = stop wants spot.0 spot.1

-- a refusal is that of the grammar's stop
abbrev pub StopsBy : ParseError → Option ℕ → Type 0
StopsBy (parse_error.Syntax at) found = found ≡ Some at
StopsBy (parse_error.Nested at) found = ⊥
StopsBy parse_error.Memory found = ⊤

-- what is read leads from some wants to others, whatever is wanted behind them; a refusal stands
-- where the grammar stops
abbrev pub Leads : {A : Type 0} → Wants → Wants → Spot → Result A ParseError → Spot → Type 0
Leads from to before (Ok value) after = (s : Wants) → stop_at (from ++ s) before ≡ stop_at (to ++ s) after
Leads from to before (Err error) after = (s : Wants) → StopsBy error (stop_at (from ++ s) before)

-- what is read meets some wants
abbrev pub Meets : {A : Type 0} → Wants → Spot → Result A ParseError → Spot → Type 0
Meets wants before result after = Leads wants [] before result after

-- whether the next token passes a test
abbrev pub next_is : (Tok → Bool) → Tokens → Bool
next_is test [] = false
next_is test (t ∷ ts) = test t

-- whether the token behind it does
abbrev pub second_is : (Tok → Bool) → Tokens → Bool
second_is test [] = false
second_is test (t ∷ ts) = next_is test ts

-- what begins a primary expression of several tokens
abbrev pub is_builtin_key : Tok → Bool
is_builtin_key (tok.Key which) = is_builtin which
is_builtin_key _ = false

abbrev pub form_key : Key → Bool
form_key key.New = true
form_key key.NoneOf = true
form_key key.EmptyOf = true
form_key key.If = true
form_key which = is_builtin which

abbrev pub begins_form : Tok → Bool
begins_form (tok.Ident name) = true
begins_form (tok.Sign sign.OpenParen) = true
begins_form (tok.Sign sign.OpenBracket) = true
begins_form (tok.Key which) = form_key which
begins_form _ = false

abbrev pub goes : Step → Bool
goes (go wants) = true
goes _ = false

abbrev pub begins_suffix : Tok → Bool
begins_suffix t = goes (suffix_step t)

abbrev pub begins_stmt : Tok → Bool
begins_stmt t = goes (stmt_step t)

abbrev pub begins_item : Tok → Bool
begins_item t = goes (item_step t)

abbrev pub begins_port : Tok → Bool
begins_port t = goes (port_step t)

-- "else" "if" comes next
abbrev pub is_else_if : Tokens → Bool
is_else_if (tok.Key key.Else ∷ tok.Key key.If ∷ ts) = true
is_else_if _ = false

-- from one place to another the steps lead from some wants to others
abbrev pub Led : Wants → Wants → Spot → Spot → Type 0
Led from to before after = (s : Wants) → stop_at (from ++ s) before ≡ stop_at (to ++ s) after
