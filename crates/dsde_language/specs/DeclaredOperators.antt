-- The operators and the builtins that words and signs are, and how a chain of operators is nested.
use Rattle.std.specs.Prelude.{List, [], ◌∷◌}
use Rattle.dsde_syntax.specs.given.words.key_Key.{Key}
use Rattle.dsde_syntax.specs.given.words.key_Key_TheVariants as key
use Rattle.dsde_syntax.specs.declared.token.Sign.{Sign}
use Rattle.dsde_syntax.specs.declared.token.Sign.TheVariants as sign
use Rattle.dsde_language.specs.declared.operator.Binary.{Binary}
use Rattle.dsde_language.specs.declared.operator.Binary.TheVariants as binary
use Rattle.dsde_language.specs.declared.operator.Builtin.{Builtin}
use Rattle.dsde_language.specs.declared.operator.Builtin.TheVariants as builtin

-- A chain is nested to the left: each link makes one of what stands before it.
abbrev pub nested : {A : Type 0} → A → List (A → A) → A
nested left [] = left
nested left (link ∷ links) = nested (link left) links

abbrev pub sign_binary : Sign → Binary
sign_binary sign.Plus = binary.Add
sign_binary sign.Minus = binary.Sub
sign_binary sign.PlusBar = binary.CapAdd
sign_binary sign.MinusBar = binary.CapSub
sign_binary sign.PlusPlus = binary.Join
sign_binary sign.Star = binary.Mul
sign_binary sign.Slash = binary.Div
sign_binary sign.Percent = binary.Rem
sign_binary sign.StarBar = binary.CapMul
sign_binary sign.EqualEqual = binary.Equal
sign_binary sign.NotEqual = binary.NotEqual
sign_binary sign.Less = binary.Less
sign_binary sign.LessEqual = binary.LessEqual
sign_binary sign.Greater = binary.Greater
sign_binary _ = binary.GreaterEqual

abbrev pub builtin_of : Key → Builtin
builtin_of key.Len = builtin.Len
builtin_of key.Range = builtin.Range
builtin_of key.Push = builtin.Push
builtin_of key.Put = builtin.Put
builtin_of key.Take = builtin.Take
builtin_of key.Skip = builtin.Skip
builtin_of key.Min = builtin.Min
builtin_of key.Max = builtin.Max
builtin_of _ = builtin.IsSome
