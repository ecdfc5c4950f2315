-- How what is open goes over statements, items and declarations, before and behind which no
-- condition is open, and over their lists and blocks.
use Rattle.std.proofs.Common.{◌≡◌, ℕ, ◌+◌, ◌≤◌, Bool, true, false, List, [], ◌∷◌, ◌++◌, refl, arith}
use Rattle.std.specs.Prelude.{max, flat_map}
use Rattle.std.proofs.Math.Nat.{le-max_left, le-max_right}
use Rattle.dsde_syntax.specs.declared.token.Tok.TheVariants as tok
use Rattle.dsde_words.specs.declared.key.Key.TheVariants as key
use Rattle.dsde_syntax.specs.declared.token.Sign.TheVariants as sign
use Rattle.dsde_syntax.specs.declared.id.Id.{Id}
use Rattle.dsde_syntax.specs.declared.expr.Expr.{Expr}
use Rattle.dsde_syntax.specs.Grammar.{Tokens, word, joined, elses, block, else_block, in_braces, expr_tokens, set_tokens, let_tokens, for_tokens, if_tokens}
use Rattle.dsde_syntax.specs.Levels.{is_expr}
use Rattle.dsde_parser.specs.declared.depth.Last.{Last}
use Rattle.dsde_parser.specs.declared.depth.Last.TheVariants as last
use Rattle.dsde_parser.specs.Depth.{opened, innermost, with_bracket}
use Rattle.dsde_sound_depth.proofs.Nests.{most, nest}
use Rattle.dsde_sound_depth.proofs.Going.{Goes, stay, step, one, before-is, join, here, inner, brace, closed}
use Rattle.dsde_sound_depth.proofs.Lists.{Goes-on, plain}
use Rattle.dsde_sound_depth.proofs.ExprGoes.{expr-goes}

-- the more of two is no more than each of them
pub left-within : (a b limit : ℕ) → max a b ≤ limit → a ≤ limit
left-within a b limit few = omega (arith, le-max_left a b, few)

pub right-within : (a b limit : ℕ) → max a b ≤ limit → b ≤ limit
right-within a b limit few = omega (arith, le-max_right a b, few)

-- behind the innermost of these brackets no condition is open
abbrev pub IsClear : List ℕ → Type 0
IsClear brackets = innermost brackets ≡ 0

-- a statement, an item or the like
pub record Line (nest : ℕ) (tokens : Tokens) : Type 0 where
  pub goes : (brackets : List ℕ) (limit : ℕ) (before : Last) → IsClear brackets → nest ≤ limit → Goes-on limit brackets 0 before tokens

-- one of the grammar
pub record GoodLine (ok : Bool) (tokens : Tokens) (nest : ℕ) : Type 0 where
  pub holds : ok ≡ true → Line nest tokens

abbrev pub AllLines : List ℕ → List Tokens → Type 0
AllLines [] [] = Unit {0}
AllLines (nest ∷ nests) (part ∷ parts) = Line nest part × AllLines nests parts
AllLines _ _ = ⊥

-- no line, and one behind another
pub none-on : {limit : ℕ} {brackets : List ℕ} {before : Last} → Goes-on limit brackets 0 before []
none-on {limit} {brackets} {before} = record { after = before; goes = stay (omega arith) }

pub on-on : {limit : ℕ} {brackets : List ℕ} {before : Last} {front behind : Tokens} → Goes-on limit brackets 0 before front → ((mid : Last) → Goes-on limit brackets 0 mid behind) → Goes-on limit brackets 0 before (front ++ behind)
on-on own next = let more = next own.after in record { after = more.after; goes = join own.goes more.goes }

-- lines one behind the other
pub lines-go : (nests : List ℕ) (parts : List Tokens) → AllLines nests parts → (brackets : List ℕ) (limit : ℕ) (before : Last) → IsClear brackets → most nests ≤ limit → Goes-on limit brackets 0 before (joined parts)
lines-go [] [] all brackets limit before clear few = none-on
lines-go (nest ∷ nests) (part ∷ parts) all brackets limit before clear few =
    on-on (all.0.goes brackets limit before clear (left-within nest (most nests) limit few)) (λ mid. lines-go nests parts all.1 brackets limit mid clear (right-within nest (most nests) limit few))
lines-go [] (part ∷ parts) all brackets limit before clear few = absurd all
lines-go (nest ∷ nests) [] all brackets limit before clear few = absurd all

-- arms with `else` between them
behind-else : (nests : List ℕ) (parts : List Tokens) → AllLines nests parts → (brackets : List ℕ) (limit : ℕ) (before : Last) → IsClear brackets → most nests ≤ limit → Goes-on limit brackets 0 before (flat_map (λ part. word key.Else ++ part) parts)
behind-else [] [] all brackets limit before clear few = none-on
behind-else (nest ∷ nests) (part ∷ parts) all brackets limit before clear few =
    let own = all.0.goes brackets limit last.Else clear (left-within nest (most nests) limit few) in
    let more = behind-else nests parts all.1 brackets limit own.after clear (right-within nest (most nests) limit few) in
    record { after = more.after; goes = step (tok.Key key.Else) (omega arith) (join own.goes more.goes) }
behind-else [] (part ∷ parts) all brackets limit before clear few = absurd all
behind-else (nest ∷ nests) [] all brackets limit before clear few = absurd all

arms-go : (nests : List ℕ) (parts : List Tokens) → AllLines nests parts → (brackets : List ℕ) (limit : ℕ) (before : Last) → IsClear brackets → most nests ≤ limit → Goes-on limit brackets 0 before (elses parts)
arms-go [] [] all brackets limit before clear few = none-on
arms-go (nest ∷ nests) (part ∷ parts) all brackets limit before clear few =
    on-on (all.0.goes brackets limit before clear (left-within nest (most nests) limit few)) (λ mid. behind-else nests parts all.1 brackets limit mid clear (right-within nest (most nests) limit few))
arms-go [] (part ∷ parts) all brackets limit before clear few = absurd all
arms-go (nest ∷ nests) [] all brackets limit before clear few = absurd all

-- "{" where no condition is open
open-brace : (brackets : List ℕ) (before : Last) → opened (here brackets 0 before) (tok.Sign sign.OpenBrace) ≡ here (with_bracket brackets 0) 0 last.Start
open-brace brackets last.RecordName = refl
open-brace brackets last.Else = refl
open-brace brackets _ = refl

-- braces where no condition is open
pub braces-go : {limit : ℕ} {tokens : Tokens} (brackets : List ℕ) (before : Last) → Goes-on limit (with_bracket brackets 0) 0 last.Start tokens → Goes-on limit brackets 0 before (in_braces tokens)
braces-go {limit} {tokens} brackets before own = record {
  after = last.Other;
  goes = step (tok.Sign sign.OpenBrace) (omega arith) (before-is (open-brace brackets before) (join own.goes (closed brackets 0 own.after sign.CloseBrace refl (omega arith))));
}

pub block-go : (nests : List ℕ) (parts : List Tokens) → AllLines nests parts → (brackets : List ℕ) (limit : ℕ) (before : Last) → most nests ≤ limit → Goes-on limit brackets 0 before (block parts)
block-go nests parts all brackets limit before few = braces-go brackets before (lines-go nests parts all (with_bracket brackets 0) limit last.Start (inner brackets 0) few)

-- an expression where no condition is open
pub value-go : (e : Expr) → is_expr e ≡ true → (brackets : List ℕ) (limit : ℕ) → nest e ≤ limit → Goes limit (here brackets 0 last.Other) (expr_tokens e) (here brackets 0 last.Other)
value-go e level brackets limit few = plain ((expr-goes e).holds level) brackets 0 limit (omega (arith, few))

-- id "=" expr ";"
pub set-line : (name : Id) (e : Expr) → is_expr e ≡ true → Line (nest e) (set_tokens name e)
set-line name e level = record {
  goes = λ brackets limit before clear few. record {
    after = last.Other;
    goes = step (tok.Ident name.name) (omega arith) (step (tok.Sign sign.Equal) (omega arith) (join (value-go e level brackets limit few) (one (tok.Sign sign.Semicolon) (omega arith) (omega arith))));
  };
}

pub let-line : (mutable : Bool) (name : Id) (e : Expr) → is_expr e ≡ true → Line (nest e) (let_tokens mutable ++ set_tokens name e)
let-line true name e level = record {
  goes = λ brackets limit before clear few.
      let own = (set-line name e level).goes brackets limit last.Other clear few in
      record { after = own.after; goes = step (tok.Key key.Var) (omega arith) own.goes };
}
let-line false name e level = record {
  goes = λ brackets limit before clear few.
      let own = (set-line name e level).goes brackets limit last.Other clear few in
      record { after = own.after; goes = step (tok.Key key.Let) (omega arith) own.goes };
}

-- "if" expr block
pub arm-line : (e : Expr) → is_expr e ≡ true → (nests : List ℕ) (parts : List Tokens) → AllLines nests parts → Line (max (nest e + 1) (most nests)) (if_tokens e ++ block parts)
arm-line e level nests parts all = record {
  goes = λ brackets limit before clear few.
      let less : nest e + 1 ≤ limit = left-within (nest e + 1) (most nests) limit few in
      let test = plain ((expr-goes e).holds level) brackets 1 limit (omega (arith, less)) in
      let inside = lines-go nests parts all (with_bracket brackets 0) limit last.Start (inner brackets 0) (right-within (nest e + 1) (most nests) limit few) in
      record {
        after = last.Other;
        goes = step (tok.Key key.If) (omega arith) (join test (join (join (brace {conditions = 0} brackets (omega (arith, less))) inside.goes) (closed brackets 0 inside.after sign.CloseBrace refl (omega arith))));
      };
}

-- "if" expr block {"else" "if" expr block} ["else" block]
pub choice-line : (nests : List ℕ) (parts : List Tokens) → AllLines nests parts → (nest : ℕ) (other : Tokens) → Line nest other → Line (max (most nests) nest) (elses parts ++ other)
choice-line nests parts all nest other last = record {
  goes = λ brackets limit before clear few.
      on-on (arms-go nests parts all brackets limit before clear (left-within (most nests) nest limit few)) (λ mid. last.goes brackets limit mid clear (right-within (most nests) nest limit few));
}

pub no-else : Line 0 []
no-else = record { goes = λ brackets limit before clear few. none-on }

pub else-line : (nests : List ℕ) (parts : List Tokens) → AllLines nests parts → Line (most nests) (else_block parts)
else-line nests parts all = record {
  goes = λ brackets limit before clear few.
      let own = block-go nests parts all brackets limit last.Else few in
      record { after = own.after; goes = step (tok.Key key.Else) (omega arith) own.goes };
}

-- "for" id "in" expr block
pub for-line : (name : Id) (e : Expr) → is_expr e ≡ true → (nests : List ℕ) (parts : List Tokens) → AllLines nests parts → Line (max (nest e) (most nests)) (for_tokens name e ++ block parts)
for-line name e level nests parts all = record {
  goes = λ brackets limit before clear few.
      let own = block-go nests parts all brackets limit last.Other (right-within (nest e) (most nests) limit few) in
      record {
        after = own.after;
        goes = step (tok.Key key.For) (omega arith) (step (tok.Ident name.name) (omega arith) (step (tok.Key key.In) (omega arith)
            (join (value-go e level brackets limit (left-within (nest e) (most nests) limit few)) own.goes)));
      };
}
