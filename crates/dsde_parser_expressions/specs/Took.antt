-- What the parser reads: a device for its proofs alone.
use Rattle.std.specs.Prelude.{◌≡◌, ◌≤◌, ◌<◌, ℕ, ◌+◌, Bool, true, false, ◌∷◌, ◌++◌, length, Some, Result, ⊤, IfOk}
use Rattle.dsde_syntax.specs.declared.token.Tok.{Tok}
use Rattle.dsde_syntax.specs.Grammar.{Tokens}
use Rattle.dsde_syntax.specs.Places.{Span}
use Rattle.dsde_parser_expressions.specs.declared.parser.ParseError.{ParseError}

-- where a parser stands: the index of the next token, and the tokens from there on
abbrev pub Spot : Type 0
Spot = ℕ × Tokens

-- a value was read: the tokens are its own and those that are left, each place is right, and it is
-- of its level
pub record Took {A : Type 0} (spelled : A → Tokens) (span : A → Span) (Good : A → Type 0) (before after : Spot) (value : A) : Type 0 where
  pub spells : before.1 ≡ spelled value ++ after.1
  pub placed : span value before.0 ≡ Some after.0
  pub good : Good value
  pub shorter : length after.1 < length before.1
  pub moved : after.0 + length after.1 ≡ before.0 + length before.1

-- the same, where there may be no token
pub record TookAll {A : Type 0} (spelled : A → Tokens) (span : A → Span) (Good : A → Type 0) (before after : Spot) (value : A) : Type 0 where
  pub spells : before.1 ≡ spelled value ++ after.1
  pub placed : span value before.0 ≡ Some after.0
  pub good : Good value
  pub shorter : length after.1 ≤ length before.1
  pub moved : after.0 + length after.1 ≡ before.0 + length before.1

abbrev pub ReadsAll : {A : Type 0} → (A → Tokens) → (A → Span) → (A → Type 0) → Spot → Result A ParseError → Spot → Type 0
ReadsAll spelled span Good before result after = IfOk result (TookAll spelled span Good before after)

abbrev pub Reads : {A : Type 0} → (A → Tokens) → (A → Span) → (A → Type 0) → Spot → Result A ParseError → Spot → Type 0
Reads spelled span Good before result after = IfOk result (Took spelled span Good before after)

-- whatever is read
abbrev pub Any : {A : Type 0} → A → Type 0
Any value = ⊤

-- one token was taken
pub record TookOne (token : Tok) (before after : Spot) : Type 0 where
  pub comes : before.1 ≡ token ∷ after.1
  pub next : after.0 ≡ before.0 + 1

-- a token is taken if it comes next
abbrev pub Takes : Tok → Spot → Bool → Spot → Type 0
Takes token before true after = TookOne token before after
Takes token before false after = after ≡ before
