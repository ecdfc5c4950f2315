-- A sign at the front of a text is a part of it.
use Rattle.std.proofs.Common.{◌≡◌, ℕ, ◌<◌, ◌≤◌, Bool, true, false, cond, List, [], ◌∷◌, ◌++◌, length, drop, Option, Some, MatchOption, refl, sym, subst, ap, arith, length-append, nat_eq}
use Rattle.std.proofs.lemmas.Bool.Decides.{Decides-eqb}
use Rattle.std.specs.Prelude.{⊤, find}
use Rattle.std.specs.List.{starts_with}
use Rattle.std.proofs.lemmas.Slice.Eq.{starts_is}
use Rattle.dsde_syntax.specs.declared.token.Sign.{Sign}
use Rattle.dsde_syntax.specs.declared.token.Sign.TheVariants as sign
use Rattle.dsde_syntax.specs.Spelling.{sign_text, sign_of, long_signs, short_signs}

IfSome-cond : {X : Type 0} (P : X → Type 0) (passes : Bool) (x : X) (rest : Option X) → (passes ≡ true → P x) → MatchOption rest ⊤ P → MatchOption (cond passes (Some x) rest) ⊤ P
IfSome-cond P true x rest here behind = here refl
IfSome-cond P false x rest here behind = behind

IfSome-find : {X : Type 0} (test : X → Bool) (P : X → Type 0) → ((x : X) → test x ≡ true → P x) → (xs : List X) → MatchOption (find test xs) ⊤ P
IfSome-find test P says [] = tt
IfSome-find test P says (x ∷ xs) = IfSome-cond P (test x) x (find test xs) (says x) (IfSome-find test P says xs)

starts_with-length : (text start : List ℕ) → starts_with nat_eq text start ≡ true → length start ≤ length text
starts_with-length text start h =
    let split = (starts_is Decides-eqb text start _ refl).0 h in
    omega (arith, length-append start (drop (length start) text), ap length split)

Fits : List ℕ → Sign → Type 0
Fits text mark = length (sign_text mark) ≤ length text

sign_of-fits : (text : List ℕ) → MatchOption (sign_of text) ⊤ (Fits text)
unfolding Fits
sign_of-fits text = IfSome-find _ (Fits text) (λ mark h. starts_with-length text (sign_text mark) h) (long_signs ++ short_signs)

-- no sign is empty
pub 0-lt-sign_text : (mark : Sign) → 0 < length (sign_text mark)
0-lt-sign_text sign.OpenParen = omega arith
0-lt-sign_text sign.CloseParen = omega arith
0-lt-sign_text sign.OpenBracket = omega arith
0-lt-sign_text sign.CloseBracket = omega arith
0-lt-sign_text sign.OpenBrace = omega arith
0-lt-sign_text sign.CloseBrace = omega arith
0-lt-sign_text sign.Less = omega arith
0-lt-sign_text sign.Greater = omega arith
0-lt-sign_text sign.LessEqual = omega arith
0-lt-sign_text sign.GreaterEqual = omega arith
0-lt-sign_text sign.EqualEqual = omega arith
0-lt-sign_text sign.NotEqual = omega arith
0-lt-sign_text sign.Equal = omega arith
0-lt-sign_text sign.Plus = omega arith
0-lt-sign_text sign.Minus = omega arith
0-lt-sign_text sign.Star = omega arith
0-lt-sign_text sign.Slash = omega arith
0-lt-sign_text sign.Percent = omega arith
0-lt-sign_text sign.PlusBar = omega arith
0-lt-sign_text sign.MinusBar = omega arith
0-lt-sign_text sign.StarBar = omega arith
0-lt-sign_text sign.PlusPlus = omega arith
0-lt-sign_text sign.QuestionQuestion = omega arith
0-lt-sign_text sign.Bang = omega arith
0-lt-sign_text sign.Dot = omega arith
0-lt-sign_text sign.Comma = omega arith
0-lt-sign_text sign.Colon = omega arith
0-lt-sign_text sign.ColonColon = omega arith
0-lt-sign_text sign.Semicolon = omega arith
0-lt-sign_text sign.Arrow = omega arith
0-lt-sign_text sign.FatArrow = omega arith

-- a sign that a text begins with lies within it
pub sign_of-within : (text : List ℕ) (mark : Sign) → Some mark ≡ sign_of text → length (sign_text mark) ≤ length text
unfolding Fits
sign_of-within text mark h = let P : Option Sign → Type 0 = λ found. MatchOption found ⊤ (Fits text) in subst P (sym h) (sign_of-fits text)

pub ruleset signs = (0-lt-sign_text, sign_of-within)
