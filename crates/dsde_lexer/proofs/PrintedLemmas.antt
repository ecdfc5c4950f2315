-- What is printed of tokens is cut into these tokens again.
use Rattle.std.proofs.Common.{◌≡◌, ℕ, ◌+◌, ◌<◌, ◌≤◌, Bool, true, false, ◌&&◌, not, cond, List, [], ◌∷◌, ◌++◌, length, get_or, drop, map, Option, Result, Ok, Err, IsTrue, refl, sym, ap, subst, ◌∙◌, arith, append_assoc, length-append}
use Rattle.std.specs.Prelude.{All, IsOkAnd, take_while, flat_map, decimal, codes, nat_le, ◌==◌}
use Rattle.std.specs.List.{join_by, list_all}
use Rattle.std.specs.Option.{option_map_or}
use Rattle.std.specs.Char.{is_ascii_digit}
use Rattle.std.specs.Str.Parse.{AllDigits, digits_value}
use Rattle.std.proofs.Math.Seq.{drop-append_seam}
use Rattle.std.proofs.lemmas.Bool.{false≢true}
use Rattle.std.proofs.lemmas.Bool.Decides.{nat_tests}
use Rattle.std.proofs.lemmas.Fmt.{decimal_is_IsNumeral}
use Rattle.std.proofs.lemmas.List.{get_or_default}
use Rattle.std.proofs.lemmas.List.Elements.{All-tail}
use Rattle.std.proofs.lemmas.List.Sums.{take_while-cons, AllPass-from_list_all}
use Rattle.std.proofs.lemmas.Str.Parse.{digit_at}
use Rattle.dsde_syntax.specs.declared.token.Token.{Token}
use Rattle.dsde_syntax.specs.declared.token.Tok.{Tok}
use Rattle.dsde_syntax.specs.declared.token.Tok.TheVariants as tok
use Rattle.dsde_words.specs.declared.key.Key.{Key}
use Rattle.dsde_words.specs.declared.key.Key.TheVariants as key
use Rattle.dsde_syntax.specs.declared.token.Sign.{Sign}
use Rattle.dsde_syntax.specs.declared.token.Sign.TheVariants as sign
use Rattle.dsde_words.specs.Words.{key_text, is_word_byte, IsIdentifier}
use Rattle.dsde_syntax.specs.Spelling.{sign_text, IsNumber, IsToken}
use Rattle.dsde_syntax.specs.Print.{tok_text}
use Rattle.dsde_lexer.specs.declared.lexer.Front.{Front}
use Rattle.dsde_lexer.specs.declared.lexer.Front.TheVariants as front
use Rattle.dsde_lexer.specs.declared.lexer.LexError.{LexError}
use Rattle.dsde_lexer.specs.Tokens.{is_blank, word_token, word_piece, number_piece, number_front, front_of, before, placed, tokens_from, tokens}
use Rattle.dsde_lexer.proofs.SignLemmas.{0-lt-sign_text}
use Rattle.dsde_lexer.proofs.TokensLemmas.{tokens_from-piece, tokens-short}

-- a space, or the line feed at the end
abbrev pub blank : Bool → ℕ
blank true = 32
blank false = 10

abbrev Cuts : Tok → List ℕ → List ℕ → Type 0
Cuts t text behind = (front.Token t, length text) ≡ front_of (text ++ behind)

key-Cuts : (k : Key) (space : Bool) (rest : List ℕ) → Cuts (tok.Key k) (key_text k) (blank space ∷ rest)
key-Cuts key.Enum true rest = refl
key-Cuts key.Enum false rest = refl
key-Cuts key.Record true rest = refl
key-Cuts key.Record false rest = refl
key-Cuts key.Fn true rest = refl
key-Cuts key.Fn false rest = refl
key-Cuts key.Atomic true rest = refl
key-Cuts key.Atomic false rest = refl
key-Cuts key.Network true rest = refl
key-Cuts key.Network false rest = refl
key-Cuts key.Exec true rest = refl
key-Cuts key.Exec false rest = refl
key-Cuts key.In true rest = refl
key-Cuts key.In false rest = refl
key-Cuts key.Out true rest = refl
key-Cuts key.Out false rest = refl
key-Cuts key.State true rest = refl
key-Cuts key.State false rest = refl
key-Cuts key.Advance true rest = refl
key-Cuts key.Advance false rest = refl
key-Cuts key.Output true rest = refl
key-Cuts key.Output false rest = refl
key-Cuts key.Internal true rest = refl
key-Cuts key.Internal false rest = refl
key-Cuts key.External true rest = refl
key-Cuts key.External false rest = refl
key-Cuts key.Confluent true rest = refl
key-Cuts key.Confluent false rest = refl
key-Cuts key.Structure true rest = refl
key-Cuts key.Structure false rest = refl
key-Cuts key.Comp true rest = refl
key-Cuts key.Comp false rest = refl
key-Cuts key.Link true rest = refl
key-Cuts key.Link false rest = refl
key-Cuts key.Via true rest = refl
key-Cuts key.Via false rest = refl
key-Cuts key.Is true rest = refl
key-Cuts key.Is false rest = refl
key-Cuts key.For true rest = refl
key-Cuts key.For false rest = refl
key-Cuts key.If true rest = refl
key-Cuts key.If false rest = refl
key-Cuts key.Else true rest = refl
key-Cuts key.Else false rest = refl
key-Cuts key.Let true rest = refl
key-Cuts key.Let false rest = refl
key-Cuts key.Var true rest = refl
key-Cuts key.Var false rest = refl
key-Cuts key.Send true rest = refl
key-Cuts key.Send false rest = refl
key-Cuts key.Return true rest = refl
key-Cuts key.Return false rest = refl
key-Cuts key.New true rest = refl
key-Cuts key.New false rest = refl
key-Cuts key.NoneOf true rest = refl
key-Cuts key.NoneOf false rest = refl
key-Cuts key.EmptyOf true rest = refl
key-Cuts key.EmptyOf false rest = refl
key-Cuts key.SomeOf true rest = refl
key-Cuts key.SomeOf false rest = refl
key-Cuts key.True true rest = refl
key-Cuts key.True false rest = refl
key-Cuts key.False true rest = refl
key-Cuts key.False false rest = refl
key-Cuts key.And true rest = refl
key-Cuts key.And false rest = refl
key-Cuts key.Or true rest = refl
key-Cuts key.Or false rest = refl
key-Cuts key.Not true rest = refl
key-Cuts key.Not false rest = refl
key-Cuts key.Len true rest = refl
key-Cuts key.Len false rest = refl
key-Cuts key.Range true rest = refl
key-Cuts key.Range false rest = refl
key-Cuts key.Push true rest = refl
key-Cuts key.Push false rest = refl
key-Cuts key.Put true rest = refl
key-Cuts key.Put false rest = refl
key-Cuts key.Take true rest = refl
key-Cuts key.Take false rest = refl
key-Cuts key.Skip true rest = refl
key-Cuts key.Skip false rest = refl
key-Cuts key.Min true rest = refl
key-Cuts key.Min false rest = refl
key-Cuts key.Max true rest = refl
key-Cuts key.Max false rest = refl
key-Cuts key.IsSome true rest = refl
key-Cuts key.IsSome false rest = refl
key-Cuts key.Int true rest = refl
key-Cuts key.Int false rest = refl
key-Cuts key.Bool true rest = refl
key-Cuts key.Bool false rest = refl
key-Cuts key.List true rest = refl
key-Cuts key.List false rest = refl
key-Cuts key.Opt true rest = refl
key-Cuts key.Opt false rest = refl
key-Cuts key.Top true rest = refl
key-Cuts key.Top false rest = refl
key-Cuts key.Net true rest = refl
key-Cuts key.Net false rest = refl
key-Cuts key.Elapsed true rest = refl
key-Cuts key.Elapsed false rest = refl

sign-Cuts : (s : Sign) (space : Bool) (rest : List ℕ) → Cuts (tok.Sign s) (sign_text s) (blank space ∷ rest)
sign-Cuts sign.OpenParen true rest = refl
sign-Cuts sign.OpenParen false rest = refl
sign-Cuts sign.CloseParen true rest = refl
sign-Cuts sign.CloseParen false rest = refl
sign-Cuts sign.OpenBracket true rest = refl
sign-Cuts sign.OpenBracket false rest = refl
sign-Cuts sign.CloseBracket true rest = refl
sign-Cuts sign.CloseBracket false rest = refl
sign-Cuts sign.OpenBrace true rest = refl
sign-Cuts sign.OpenBrace false rest = refl
sign-Cuts sign.CloseBrace true rest = refl
sign-Cuts sign.CloseBrace false rest = refl
sign-Cuts sign.Less true rest = refl
sign-Cuts sign.Less false rest = refl
sign-Cuts sign.Greater true rest = refl
sign-Cuts sign.Greater false rest = refl
sign-Cuts sign.LessEqual true rest = refl
sign-Cuts sign.LessEqual false rest = refl
sign-Cuts sign.GreaterEqual true rest = refl
sign-Cuts sign.GreaterEqual false rest = refl
sign-Cuts sign.EqualEqual true rest = refl
sign-Cuts sign.EqualEqual false rest = refl
sign-Cuts sign.NotEqual true rest = refl
sign-Cuts sign.NotEqual false rest = refl
sign-Cuts sign.Equal true rest = refl
sign-Cuts sign.Equal false rest = refl
sign-Cuts sign.Plus true rest = refl
sign-Cuts sign.Plus false rest = refl
sign-Cuts sign.Minus true rest = refl
sign-Cuts sign.Minus false rest = refl
sign-Cuts sign.Star true rest = refl
sign-Cuts sign.Star false rest = refl
sign-Cuts sign.Slash true rest = refl
sign-Cuts sign.Slash false rest = refl
sign-Cuts sign.Percent true rest = refl
sign-Cuts sign.Percent false rest = refl
sign-Cuts sign.PlusBar true rest = refl
sign-Cuts sign.PlusBar false rest = refl
sign-Cuts sign.MinusBar true rest = refl
sign-Cuts sign.MinusBar false rest = refl
sign-Cuts sign.StarBar true rest = refl
sign-Cuts sign.StarBar false rest = refl
sign-Cuts sign.PlusPlus true rest = refl
sign-Cuts sign.PlusPlus false rest = refl
sign-Cuts sign.QuestionQuestion true rest = refl
sign-Cuts sign.QuestionQuestion false rest = refl
sign-Cuts sign.Bang true rest = refl
sign-Cuts sign.Bang false rest = refl
sign-Cuts sign.Dot true rest = refl
sign-Cuts sign.Dot false rest = refl
sign-Cuts sign.Comma true rest = refl
sign-Cuts sign.Comma false rest = refl
sign-Cuts sign.Colon true rest = refl
sign-Cuts sign.Colon false rest = refl
sign-Cuts sign.ColonColon true rest = refl
sign-Cuts sign.ColonColon false rest = refl
sign-Cuts sign.Semicolon true rest = refl
sign-Cuts sign.Semicolon false rest = refl
sign-Cuts sign.Arrow true rest = refl
sign-Cuts sign.Arrow false rest = refl
sign-Cuts sign.FatArrow true rest = refl
sign-Cuts sign.FatArrow false rest = refl

-- no word is empty
key_text-some : (k : Key) → 0 < length (key_text k)
key_text-some key.Enum = omega arith
key_text-some key.Record = omega arith
key_text-some key.Fn = omega arith
key_text-some key.Atomic = omega arith
key_text-some key.Network = omega arith
key_text-some key.Exec = omega arith
key_text-some key.In = omega arith
key_text-some key.Out = omega arith
key_text-some key.State = omega arith
key_text-some key.Advance = omega arith
key_text-some key.Output = omega arith
key_text-some key.Internal = omega arith
key_text-some key.External = omega arith
key_text-some key.Confluent = omega arith
key_text-some key.Structure = omega arith
key_text-some key.Comp = omega arith
key_text-some key.Link = omega arith
key_text-some key.Via = omega arith
key_text-some key.Is = omega arith
key_text-some key.For = omega arith
key_text-some key.If = omega arith
key_text-some key.Else = omega arith
key_text-some key.Let = omega arith
key_text-some key.Var = omega arith
key_text-some key.Send = omega arith
key_text-some key.Return = omega arith
key_text-some key.New = omega arith
key_text-some key.NoneOf = omega arith
key_text-some key.EmptyOf = omega arith
key_text-some key.SomeOf = omega arith
key_text-some key.True = omega arith
key_text-some key.False = omega arith
key_text-some key.And = omega arith
key_text-some key.Or = omega arith
key_text-some key.Not = omega arith
key_text-some key.Len = omega arith
key_text-some key.Range = omega arith
key_text-some key.Push = omega arith
key_text-some key.Put = omega arith
key_text-some key.Take = omega arith
key_text-some key.Skip = omega arith
key_text-some key.Min = omega arith
key_text-some key.Max = omega arith
key_text-some key.IsSome = omega arith
key_text-some key.Int = omega arith
key_text-some key.Bool = omega arith
key_text-some key.List = omega arith
key_text-some key.Opt = omega arith
key_text-some key.Top = omega arith
key_text-some key.Net = omega arith
key_text-some key.Elapsed = omega arith

-- what passes a test at the front of a text, where what is behind begins with a byte that does not
take_while-append : (p : ℕ → Bool) (text : List ℕ) (byte : ℕ) (rest : List ℕ) → All (λ own. IsTrue (p own)) text → p byte ≡ false → take_while p (text ++ byte ∷ rest) ≡ text
take_while-append p [] byte rest all h = rw (take_while-cons p byte rest, h) refl
take_while-append p (own ∷ text) byte rest all h =
    let here : p own ≡ true = all 0 own (omega arith) in
    rw (take_while-cons p own (text ++ byte ∷ rest), here) (ap (λ behind. own ∷ behind) (take_while-append p text byte rest (All-tail (λ own. IsTrue (p own)) own text all) h))

blank-no_word : (space : Bool) → is_word_byte (blank space) ≡ false
blank-no_word true = refl
blank-no_word false = refl

blank-no_digit : (space : Bool) → is_ascii_digit (blank space) ≡ false
blank-no_digit true = refl
blank-no_digit false = refl

not_both : (a b : Bool) → (a ≡ true → b ≡ false) → b ≡ true → a ≡ false
not_both true b h is = let no : true ≡ false = sym is ∙ h refl in cc
not_both false b h is = refl

word-no_blank : (byte : ℕ) → is_word_byte byte ≡ true → is_blank byte ≡ false
word-no_blank byte h = grind (arith, nat_tests)

word-no_hash : (byte : ℕ) → is_word_byte byte ≡ true → (byte == 35) ≡ false
word-no_hash byte h = grind (arith, nat_tests)

digit-no_blank : (byte : ℕ) → 48 ≤ byte → byte ≤ 57 → is_blank byte ≡ false
digit-no_blank byte low high = grind (arith, nat_tests)

digit-no_hash : (byte : ℕ) → 48 ≤ byte → byte ≤ 57 → (byte == 35) ≡ false
digit-no_hash byte low high = grind (arith, nat_tests)

is_digit : (byte : ℕ) → 48 ≤ byte → byte ≤ 57 → is_ascii_digit byte ≡ true
is_digit byte low high = grind (arith, nat_tests)

digits-pass : (text : List ℕ) → AllDigits 10 text → All (λ own. IsTrue (is_ascii_digit own)) text
digits-pass text all = λ k d h.
    let here = digit_at text k all h in
    let P : ℕ → Type 0 = λ own. is_ascii_digit own ≡ true in
    subst P (get_or_default text k 0 d h) (is_digit (get_or text k 0) here.0 here.1)

cond-yes : {A : Type 0} (b : Bool) (x y : A) → b ≡ true → cond b x y ≡ x
cond-yes true x y h = refl
cond-yes false x y h = cc

cond-no : {A : Type 0} (b : Bool) (x y : A) → b ≡ false → cond b x y ≡ y
cond-no true x y h = cc
cond-no false x y h = refl

-- a text that begins with a letter or `_` has a word at its front
front_of-word : (byte : ℕ) (bytes : List ℕ) → is_ascii_digit byte ≡ false → is_word_byte byte ≡ true → front_of (byte ∷ bytes) ≡ word_piece (byte ∷ bytes)
front_of-word byte bytes digit word =
    cond-no (is_blank byte) _ _ (word-no_blank byte word)
    ∙ (cond-no (byte == 35) _ _ (word-no_hash byte word)
    ∙ (cond-no (is_ascii_digit byte) _ _ digit
    ∙ cond-yes (is_word_byte byte) _ _ word))

-- and one that begins with a digit has a number there
front_of-number : (byte : ℕ) (bytes : List ℕ) → 48 ≤ byte → byte ≤ 57 → front_of (byte ∷ bytes) ≡ number_piece (byte ∷ bytes)
front_of-number byte bytes low high =
    cond-no (is_blank byte) _ _ (digit-no_blank byte low high)
    ∙ (cond-no (byte == 35) _ _ (digit-no_hash byte low high)
    ∙ cond-yes (is_ascii_digit byte) _ _ (is_digit byte low high))

-- a word's first byte is no digit, and each is a word's
word_parts : (digit all : Bool) → (not digit && all) ≡ true → (digit ≡ false) × (all ≡ true)
word_parts false all h = (refl, h)
word_parts true all h = absurd (false≢true h)

name-Cuts : (name : List ℕ) (space : Bool) (rest : List ℕ) → IsIdentifier name → Cuts (tok.Ident name) name (blank space ∷ rest)
name-Cuts [] space rest is = absurd (false≢true is.word)
name-Cuts (byte ∷ bytes) space rest is =
    let name = byte ∷ bytes in
    let text = name ++ blank space ∷ rest in
    let parts = word_parts (is_ascii_digit byte) (list_all is_word_byte name) is.word in
    let all : All (λ own. IsTrue (is_word_byte own)) name = AllPass-from_list_all is_word_byte name parts.1 in
    let word : is_word_byte byte ≡ true = all 0 byte (omega arith) in
    let taken : take_while is_word_byte text ≡ name = take_while-append is_word_byte name (blank space) rest all (blank-no_word space) in
    let piece : word_piece text ≡ (front.Token (word_token name), length name) = ap (λ (own : List ℕ). (front.Token (word_token own), length own)) taken in
    let free : (front.Token (word_token name), length name) ≡ (front.Token (tok.Ident name), length name) = ap (λ (found : Option Key). (front.Token (option_map_or tok.Key found (tok.Ident name)), length name)) is.free in
    sym (front_of-word byte (bytes ++ blank space ∷ rest) parts.0 word ∙ (piece ∙ free))

number_front-fits : (value : ℕ) (digits : List ℕ) (space : Bool) (rest : List ℕ) → IsNumber value → digits_value 10 digits ≡ value → number_front digits (blank space ∷ rest) ≡ front.Token (tok.Int value)
number_front-fits value digits space rest is h =
    let small : nat_le (digits_value 10 digits) 9223372036854775807 ≡ true = rw h (grind (arith, nat_tests)) in
    rw (small, blank-no_word space, h) refl

number-Cuts : (value : ℕ) (space : Bool) (rest : List ℕ) → IsNumber value → (text : List ℕ) → 0 < length text → AllDigits 10 text → digits_value 10 text ≡ value → Cuts (tok.Int value) text (blank space ∷ rest)
number-Cuts value space rest is [] some all h = absurd (omega (arith, some))
number-Cuts value space rest is (byte ∷ bytes) some all h =
    let own = byte ∷ bytes in
    let behind = blank space ∷ rest in
    let text = own ++ behind in
    let begins = digit_at own 0 all some in
    let taken : take_while is_ascii_digit text ≡ own = take_while-append is_ascii_digit own (blank space) rest (digits-pass own all) (blank-no_digit space) in
    let piece : number_piece text ≡ (number_front own (drop (length own) text), length own) = ap (λ (digits : List ℕ). (number_front digits (drop (length digits) text), length digits)) taken in
    let left : (number_front own (drop (length own) text), length own) ≡ (number_front own behind, length own) = ap (λ (more : List ℕ). (number_front own more, length own)) (drop-append_seam own behind) in
    let fits : (number_front own behind, length own) ≡ (front.Token (tok.Int value), length own) = ap (λ (piece : Front). (piece, length own)) (number_front-fits value own space rest is h) in
    sym (front_of-number byte (bytes ++ behind) begins.0 begins.1 ∙ (piece ∙ (left ∙ fits)))

-- a token that a blank follows is cut off whole
tok-Cuts : (t : Tok) (space : Bool) (rest : List ℕ) → IsToken t → Cuts t (tok_text t) (blank space ∷ rest)
tok-Cuts (tok.Key k) space rest is = key-Cuts k space rest
tok-Cuts (tok.Sign s) space rest is = sign-Cuts s space rest
tok-Cuts (tok.Ident name) space rest is = name-Cuts name space rest is
tok-Cuts (tok.Int value) space rest is =
    let own = decimal_is_IsNumeral value (omega (arith, is)) in
    number-Cuts value space rest is (decimal value) own.0.0 own.0.1 own.1

name-some : (name : List ℕ) → IsIdentifier name → 0 < length name
name-some [] is = absurd (false≢true is.word)
name-some (byte ∷ bytes) is = omega arith

tok_text-some : (t : Tok) → IsToken t → 0 < length (tok_text t)
tok_text-some (tok.Key k) is = key_text-some k
tok_text-some (tok.Sign s) is = 0-lt-sign_text s
tok_text-some (tok.Ident name) is = name-some name is
tok_text-some (tok.Int value) is = (decimal_is_IsNumeral value (omega (arith, is))).0.0

-- what stands behind a token in a printed text: each further token behind a space, and a line feed
abbrev behind_text : List Tok → List ℕ
behind_text [] = 10 ∷ []
behind_text (t ∷ ts) = 32 ∷ (tok_text t ++ behind_text ts)

abbrev tok_of : Token → Tok
tok_of token = token.tok

-- a text at an offset is cut into tokens
abbrev Gives : ℕ → List ℕ → List Tok → Type 0
Gives at text toks = IsOkAnd (tokens_from at 0 text) (λ list. map tok_of list ≡ toks)

before-Gives : (first : Token) (behind : Result (List Token) LexError) (toks : List Tok) → IsOkAnd behind (λ list. map tok_of list ≡ toks) → IsOkAnd (before (first ∷ []) behind) (λ list. map tok_of list ≡ first.tok ∷ toks)
before-Gives first (Ok list) toks h = ap (λ (more : List Tok). first.tok ∷ more) h
before-Gives first (Err error) toks h = absurd h

-- a blank is passed over
blank-Gives : (at : ℕ) (space : Bool) (rest : List ℕ) (toks : List Tok) → Gives (at + 1) rest toks → Gives at (blank space ∷ rest) toks
unfolding tokens_from
blank-Gives at true rest toks h = h
blank-Gives at false rest toks h = h

tok-Gives : (at : ℕ) (t : Tok) (space : Bool) (rest : List ℕ) (toks : List Tok) → IsToken t → ((later : ℕ) → Gives later (blank space ∷ rest) toks) → Gives at (tok_text t ++ blank space ∷ rest) (t ∷ toks)
tok-Gives at t space rest toks is h =
    let own = tok_text t in
    let behind = blank space ∷ rest in
    let cut = tokens_from-piece at (length own) (front.Token t) (own ++ behind) (tok-Cuts t space rest is) (tok_text-some t is) (omega (arith, length-append own behind)) in
    let P : List ℕ → Type 0 = λ left. IsOkAnd (placed at (length own) (front.Token t) (tokens_from (at + length own) 0 left)) (λ list. map tok_of list ≡ t ∷ toks) in
    let Q : Result (List Token) LexError → Type 0 = λ answer. IsOkAnd answer (λ list. map tok_of list ≡ t ∷ toks) in
    let there : P behind = before-Gives _ (tokens_from (at + length own) 0 behind) toks (h (at + length own)) in
    subst Q (sym cut) (subst P (sym (drop-append_seam own behind)) there)

-- the first of some tokens, and what stands behind it
first-Gives : (at : ℕ) (t : Tok) (toks : List Tok) → IsToken t → ((later : ℕ) → Gives later (behind_text toks) toks) → Gives at (tok_text t ++ behind_text toks) (t ∷ toks)
first-Gives at t [] is h = tok-Gives at t false [] [] is h
first-Gives at t (next ∷ toks) is h = tok-Gives at t true (tok_text next ++ behind_text toks) (next ∷ toks) is h

behind-Gives : (toks : List Tok) → All IsToken toks → (at : ℕ) → Gives at (behind_text toks) toks
unfolding tokens_from
behind-Gives [] all at = refl
behind-Gives (t ∷ toks) all at =
    blank-Gives at true (tok_text t ++ behind_text toks) (t ∷ toks) (first-Gives (at + 1) t toks (all 0 t (omega arith)) (behind-Gives toks (All-tail IsToken t toks all)))

joined-behind : (toks : List Tok) → flat_map (λ t. codes " " ++ tok_text t) toks ++ codes "\n" ≡ behind_text toks
joined-behind [] = refl
joined-behind (t ∷ toks) =
    let more = flat_map (λ t. codes " " ++ tok_text t) toks in
    ap (λ (own : List ℕ). 32 ∷ own) (append_assoc (tok_text t) more (codes "\n") ∙ ap (λ (own : List ℕ). tok_text t ++ own) (joined-behind toks))

text-Gives : (toks : List Tok) → All IsToken toks → Gives 0 (join_by tok_text (codes " ") toks ++ codes "\n") toks
text-Gives [] all = behind-Gives [] all 0
text-Gives (t ∷ toks) all =
    let more = flat_map (λ t. codes " " ++ tok_text t) toks in
    let P : List ℕ → Type 0 = λ text. Gives 0 text (t ∷ toks) in
    let same : (tok_text t ++ more) ++ codes "\n" ≡ tok_text t ++ behind_text toks = append_assoc (tok_text t) more (codes "\n") ∙ ap (λ (own : List ℕ). tok_text t ++ own) (joined-behind toks) in
    subst P (sym same) (first-Gives 0 t toks (all 0 t (omega arith)) (behind-Gives toks (All-tail IsToken t toks all)))

-- the tokens of a printed text are those that were printed
pub printed-tokens : (toks : List Tok) → All IsToken toks → length (join_by tok_text (codes " ") toks ++ codes "\n") ≤ 1048576 → IsOkAnd (tokens (join_by tok_text (codes " ") toks ++ codes "\n")) (λ list. map (λ (token : Token). token.tok) list ≡ toks)
printed-tokens toks all short =
    let text = join_by tok_text (codes " ") toks ++ codes "\n" in
    let Q : Result (List Token) LexError → Type 0 = λ answer. IsOkAnd answer (λ list. map tok_of list ≡ toks) in
    subst Q (sym (tokens-short text short)) (text-Gives toks all)
