-- The text of a model.
use Rattle.std.specs.Prelude.{ℕ, List, ◌++◌, codes, decimal}
use Rattle.std.specs.List.{join_by}
use Rattle.dsde_syntax.specs.declared.token.Tok.{Tok}
use Rattle.dsde_syntax.specs.declared.token.Tok.TheVariants as tok
use Rattle.dsde_syntax.specs.declared.decl.Model.{Model}
use Rattle.dsde_words.specs.Words.{key_text}
use Rattle.dsde_syntax.specs.Spelling.{sign_text}
use Rattle.dsde_syntax.specs.Grammar.{tokens_of}

-- a token as it is written, a number without leading zeros
abbrev pub tok_text : Tok → List ℕ
tok_text (tok.Key word) = key_text word
tok_text (tok.Sign mark) = sign_text mark
tok_text (tok.Ident name) = name
tok_text (tok.Int value) = decimal value

-- the tokens joined by single spaces, and a line feed
abbrev pub text_of : Model → List ℕ
text_of model = join_by tok_text (codes " ") (tokens_of model) ++ codes "\n"
