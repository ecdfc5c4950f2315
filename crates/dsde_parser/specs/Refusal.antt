-- Why tokens give no model.
use Rattle.std.specs.Prelude.{◌≤◌, ℕ, take, ⊤}
use Rattle.dsde_syntax.specs.Grammar.{Tokens}
use Rattle.dsde_parser_grammar.specs.Begins.{IsFirstWrong}
use Rattle.dsde_parser_expressions.specs.declared.parser.ParseError.{ParseError}
use Rattle.dsde_parser_expressions.specs.declared.parser.ParseError.TheVariants as parse_error
use Rattle.dsde_parser.specs.Depth.{open_after, IsWithin, IsFirstDeep}

-- The cause of each refusal. The first wrong thing is told where nothing before it stands too deep,
-- and the first bracket or `if` that stands too deep where nothing wrong stands at it or before it.
-- Want of memory alone has no cause.
abbrev pub IsRefused : Tokens → ParseError → Type 0
IsRefused tokens (parse_error.Syntax at) = IsFirstWrong tokens at × ((n : ℕ) → n ≤ at → IsWithin (open_after (take n tokens)))
IsRefused tokens (parse_error.Nested at) = IsFirstDeep tokens at × ((wrong : ℕ) → wrong ≤ at → ¬ (IsFirstWrong tokens wrong))
IsRefused tokens parse_error.Memory = ⊤
