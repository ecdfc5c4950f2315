-- The verdict of a text: the model that is accepted, or the one refusal with its place.
use Rattle.std.specs.Prelude.{◌≡◌, ◌<◌, ℕ, List, length, map, Some, None, Result, Ok, Err}
use Rattle.dsde_syntax.specs.declared.token.Token.{Token}
use Rattle.dsde_syntax.specs.declared.decl.Model.{Model}
use Rattle.dsde_syntax.specs.Grammar.{Tokens, tokens_of}
use Rattle.dsde_syntax.specs.Shape.{IsShaped}
use Rattle.dsde_lexer.specs.declared.lexer.LexError.{LexError}
use Rattle.dsde_lexer.specs.declared.lexer.LexError.TheVariants as lex_error
use Rattle.dsde_lexer.specs.Lines.{line_of, column_of, place_of}
use Rattle.dsde_lexer.specs.Tokens.{tokens}
use Rattle.dsde_parser_expressions.specs.declared.parser.ParseError.TheVariants as parse_error
use Rattle.dsde_parser.specs.Depth.{IsShallow}
use Rattle.dsde_parser.specs.Refusal.{IsRefused}
use Rattle.dsde_language.specs.declared.wrong.WrongKind.{WrongKind}
use Rattle.dsde_language.specs.Rules.{first_wrong}
use Rattle.dsde_cli_verdict.specs.declared.refusal.Refusal.{Refusal}
use Rattle.dsde_cli_verdict.specs.declared.refusal.Refusal.TheVariants as refusal
use Rattle.dsde_cli_verdict.specs.declared.refusal.ReadModel.{ReadModel}
use Rattle.dsde_cli_verdict.specs.declared.refusal.ReadModel.TheVariants as read_model

-- What tokens are, without where they stand.
abbrev pub toks_of : List Token → Tokens
toks_of = map (λ (token : Token). token.tok)

-- The tokens are those of a shaped model, and nowhere in them more than 256 brackets or 512
-- conditions are open.
pub record Gives (toks : Tokens) (model : Model) : Type 0 where
  pub shaped : IsShaped model
  pub written : tokens_of model ≡ toks
  pub shallow : IsShallow toks

-- They give the model, and nothing is wrong in it.
pub record IsSound (toks : Tokens) (model : Model) : Type 0 where
  pub gives : Gives toks model
  pub sound : first_wrong model ≡ None

-- The text is accepted: it is cut into tokens, which give the model, and nothing is wrong in it.
pub record Accepts (bytes : List ℕ) (model : Model) : Type 0 where
  pub cut : List Token
  pub lexed : tokens bytes ≡ Ok cut
  pub sound : IsSound (toks_of cut) model

-- The line and the column of a byte.
abbrev pub place_at : List ℕ → ℕ → ℕ × ℕ
place_at bytes offset = (line_of bytes offset, column_of bytes offset)

-- The text has no tokens, for what stands at a byte: the line and column are those of the byte.
pub record AtByte (bytes : List ℕ) (offence : ℕ → LexError) (line column : ℕ) : Type 0 where
  pub offset : ℕ
  pub lexed : tokens bytes ≡ Err (offence offset)
  pub place : place_at bytes offset ≡ (line, column)

-- The tokens of the text are refused for what stands at one of them, or at their end: the line and
-- column are those of the token's first byte, or of the end of the text.
pub record AtToken (bytes : List ℕ) (Offence : Tokens → ℕ → Type 0) (line column : ℕ) : Type 0 where
  pub cut : List Token
  pub lexed : tokens bytes ≡ Ok cut
  pub at : ℕ
  pub offence : Offence (toks_of cut) at
  pub place : place_of bytes cut at ≡ (line, column)

-- The tokens give a model, whose first wrong thing is of this kind and stands there.
pub record IsWrong (kind : WrongKind) (toks : Tokens) (at : ℕ) : Type 0 where
  pub model : Model
  pub gives : Gives toks model
  pub first : first_wrong model ≡ Some (record { kind = kind; at = at })

-- Tokens give no model in which nothing is wrong, for what stands at one of them or at their end.
abbrev pub Offends : Refusal → Tokens → ℕ → Type 0
Offends refusal.Syntax toks at = IsRefused toks (parse_error.Syntax at)
Offends refusal.Nested toks at = IsRefused toks (parse_error.Nested at)
Offends (refusal.Check kind) toks at = IsWrong kind toks at
Offends other toks at = ⊥

-- The text is refused, for this and there.
abbrev pub Refuses : List ℕ → Refusal → ℕ → ℕ → Type 0
Refuses bytes refusal.BadByte line column = AtByte bytes lex_error.BadByte line column
Refuses bytes refusal.BadNumber line column = AtByte bytes lex_error.BadNumber line column
Refuses bytes kind line column = AtToken bytes (Offends kind) line column

-- The verdict of the text.
abbrev pub IsVerdict : List ℕ → Result Model ReadModel → Type 0
IsVerdict bytes (Ok model) = Accepts bytes model
IsVerdict bytes (Err (read_model.Refused kind line column)) = Refuses bytes kind line column
IsVerdict bytes (Err read_model.TooLong) = 1_048_576 < length bytes
IsVerdict bytes (Err read_model.Memory) = ⊥
