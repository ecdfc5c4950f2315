-- How signs and numbers are written, and what tokens are well formed.
use Rattle.std.specs.Prelude.{◌≤◌, ⊤, ℕ, nat_eq, List, [], ◌∷◌, ◌++◌, Option, codes, find}
use Rattle.std.specs.List.{starts_with}
use Rattle.dsde_words.specs.Words.{IsIdentifier}
use Rattle.dsde_syntax.specs.declared.token.Token.{Token}
use Rattle.dsde_syntax.specs.declared.token.Tok.{Tok}
use Rattle.dsde_syntax.specs.declared.token.Tok.TheVariants as tok
use Rattle.dsde_syntax.specs.declared.token.Sign.{Sign}
use Rattle.dsde_syntax.specs.declared.token.Sign.TheVariants as sign

-- the signs as they are written
abbrev pub sign_text : Sign → List ℕ
sign_text sign.OpenParen = codes "("
sign_text sign.CloseParen = codes ")"
sign_text sign.OpenBracket = codes "["
sign_text sign.CloseBracket = codes "]"
sign_text sign.OpenBrace = codes "{"
sign_text sign.CloseBrace = codes "}"
sign_text sign.Less = codes "<"
sign_text sign.Greater = codes ">"
sign_text sign.LessEqual = codes "<="
sign_text sign.GreaterEqual = codes ">="
sign_text sign.EqualEqual = codes "=="
sign_text sign.NotEqual = codes "!="
sign_text sign.Equal = codes "="
sign_text sign.Plus = codes "+"
sign_text sign.Minus = codes "-"
sign_text sign.Star = codes "*"
sign_text sign.Slash = codes "/"
sign_text sign.Percent = codes "%"
sign_text sign.PlusBar = codes "+|"
sign_text sign.MinusBar = codes "-|"
sign_text sign.StarBar = codes "*|"
sign_text sign.PlusPlus = codes "++"
sign_text sign.QuestionQuestion = codes "??"
sign_text sign.Bang = codes "!"
sign_text sign.Dot = codes "."
sign_text sign.Comma = codes ","
sign_text sign.Colon = codes ":"
sign_text sign.ColonColon = codes "::"
sign_text sign.Semicolon = codes ";"
sign_text sign.Arrow = codes "->"
sign_text sign.FatArrow = codes "=>"

-- the signs of two bytes
abbrev pub long_signs : List Sign
long_signs =
    sign.LessEqual ∷ sign.GreaterEqual ∷ sign.EqualEqual ∷ sign.NotEqual ∷ sign.PlusBar ∷ sign.MinusBar ∷ sign.StarBar ∷
    sign.PlusPlus ∷ sign.QuestionQuestion ∷ sign.ColonColon ∷ sign.Arrow ∷ sign.FatArrow ∷ []

-- the signs of one byte
abbrev pub short_signs : List Sign
short_signs =
    sign.OpenParen ∷ sign.CloseParen ∷ sign.OpenBracket ∷ sign.CloseBracket ∷ sign.OpenBrace ∷ sign.CloseBrace ∷ sign.Less ∷
    sign.Greater ∷ sign.Equal ∷ sign.Plus ∷ sign.Minus ∷ sign.Star ∷ sign.Slash ∷ sign.Percent ∷
    sign.Bang ∷ sign.Dot ∷ sign.Comma ∷ sign.Colon ∷ sign.Semicolon ∷ []

-- the longest sign that a text begins with, if it begins with one
abbrev pub sign_of : List ℕ → Option Sign
sign_of text = find (λ mark. starts_with nat_eq text (sign_text mark)) (long_signs ++ short_signs)

abbrev pub IsNumber : ℕ → Type 0
IsNumber value = value ≤ 9223372036854775807

-- what an identifier and a number among tokens are
abbrev pub IsToken : Tok → Type 0
IsToken (tok.Key word) = ⊤
IsToken (tok.Sign mark) = ⊤
IsToken (tok.Ident name) = IsIdentifier name
IsToken (tok.Int value) = IsNumber value

abbrev pub HasToken : Token → Type 0
HasToken token = IsToken token.tok
