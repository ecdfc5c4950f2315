-- How many brackets and conditions are open behind some tokens.
use Rattle.std.specs.Prelude.{ℕ, ◌+◌, ◌-◌, ◌<◌, ◌≤◌, zero, suc, List, [], ◌∷◌, ◌++◌, length, take, slice_get, unwrap_or}
use Rattle.std.specs.List.{fold}
use Rattle.dsde_syntax.specs.declared.token.Tok.{Tok}
use Rattle.dsde_syntax.specs.declared.token.Tok.TheVariants as tok
use Rattle.dsde_words.specs.declared.key.Key.{Key}
use Rattle.dsde_words.specs.declared.key.Key.TheVariants as key
use Rattle.dsde_syntax.specs.declared.token.Sign.{Sign}
use Rattle.dsde_syntax.specs.declared.token.Sign.TheVariants as sign
use Rattle.dsde_syntax.specs.Grammar.{Tokens}
use Rattle.dsde_parser.specs.declared.depth.Last.{Last}
use Rattle.dsde_parser.specs.declared.depth.Last.TheVariants as last
use Rattle.dsde_parser.specs.declared.depth.Open.{Open}

-- a "<" behind `list`, `opt`, `none` or `empty` is the bracket of a type
abbrev pub last_of_key : Key → Last
last_of_key key.List = last.TypeWord
last_of_key key.Opt = last.TypeWord
last_of_key key.NoneOf = last.TypeWord
last_of_key key.EmptyOf = last.TypeWord
last_of_key key.New = last.New
last_of_key key.Else = last.Else
last_of_key _ = last.Other

abbrev pub last_of_sign : Sign → Last
last_of_sign sign.OpenBrace = last.Start
last_of_sign sign.Comma = last.Start
last_of_sign _ = last.Other

-- a name behind `new` is a record's, and one behind "{" or "," may be a field's
abbrev pub behind_name : Last → Last
behind_name last.New = last.RecordName
behind_name last.Start = last.FieldName
behind_name _ = last.Other

-- Behind a "{": it ends the condition that was opened last, unless it is that of a record or of the
-- last arm of an `if`.
abbrev pub behind_brace : ℕ → Last → ℕ
behind_brace conditions last.RecordName = conditions
behind_brace conditions last.Else = conditions
behind_brace conditions _ = conditions - 1

-- how many conditions were open behind the innermost bracket that is open
abbrev pub innermost : List ℕ → ℕ
innermost brackets = unwrap_or (slice_get brackets (length brackets - 1)) 0

-- Behind a ":": unless it is that of a record's field, it ends what was opened in its brackets, in a
-- comprehension its condition, if there is one. Where a component is named none is open in its
-- brackets, so that the ":" of a soft entry ends none.
abbrev pub behind_colon : ℕ → List ℕ → Last → ℕ
behind_colon conditions brackets last.FieldName = conditions
behind_colon conditions brackets _ = innermost brackets

-- how many conditions are open behind a sign
abbrev pub conditions_after : Open → Sign → ℕ
conditions_after before sign.OpenBrace = behind_brace before.conditions before.last
conditions_after before sign.Colon = behind_colon before.conditions before.brackets before.last
conditions_after before _ = before.conditions

-- a bracket more, behind which so many conditions are open
abbrev pub with_bracket : List ℕ → ℕ → List ℕ
with_bracket brackets conditions = brackets ++ conditions ∷ []

-- a bracket less
abbrev pub without_bracket : List ℕ → List ℕ
without_bracket brackets = take (length brackets - 1) brackets

-- behind a "<": a bracket more, if it is one of a type
abbrev pub behind_less : Open → Last → List ℕ × ℕ
behind_less before last.TypeWord = (with_bracket before.brackets before.conditions, before.angles + 1)
behind_less before _ = (before.brackets, before.angles)

-- behind a ">": a bracket less, if one of a type is open
abbrev pub behind_greater : List ℕ → ℕ → List ℕ × ℕ
behind_greater brackets zero = (brackets, 0)
behind_greater brackets (suc angles) = (without_bracket brackets, angles)

-- the brackets that are open behind a sign, and how many of them are of types
abbrev pub brackets_after : Open → Sign → List ℕ × ℕ
brackets_after before sign.OpenParen = (with_bracket before.brackets before.conditions, before.angles)
brackets_after before sign.OpenBracket = (with_bracket before.brackets before.conditions, before.angles)
brackets_after before sign.OpenBrace = (with_bracket before.brackets (behind_brace before.conditions before.last), before.angles)
brackets_after before sign.CloseParen = (without_bracket before.brackets, before.angles)
brackets_after before sign.CloseBracket = (without_bracket before.brackets, before.angles)
brackets_after before sign.CloseBrace = (without_bracket before.brackets, before.angles)
brackets_after before sign.Less = behind_less before before.last
brackets_after before sign.Greater = behind_greater before.brackets before.angles
brackets_after before _ = (before.brackets, before.angles)

abbrev pub behind_sign : Open → Sign → Open
behind_sign before which = record {
  brackets = (brackets_after before which).0;
  angles = (brackets_after before which).1;
  conditions = conditions_after before which;
  last = last_of_sign which;
}

-- `if` opens a condition
abbrev pub conditions_behind : Key → ℕ → ℕ
conditions_behind key.If conditions = conditions + 1
conditions_behind _ conditions = conditions

abbrev pub behind_key : Open → Key → Open
behind_key before which = record {
  brackets = before.brackets;
  angles = before.angles;
  conditions = conditions_behind which before.conditions;
  last = last_of_key which;
}

-- what is open behind one token more
abbrev pub opened : Open → Tok → Open
opened before (tok.Sign which) = behind_sign before which
opened before (tok.Key which) = behind_key before which
opened before (tok.Ident name) = record { brackets = before.brackets; angles = before.angles; conditions = before.conditions; last = behind_name before.last }
opened before (tok.Int value) = record { brackets = before.brackets; angles = before.angles; conditions = before.conditions; last = last.Other }

abbrev pub none_open : Open
none_open = record { brackets = []; angles = 0; conditions = 0; last = last.Other }

-- what is open behind some tokens
unfoldable pub open_after : Tokens → Open
open_after tokens = fold opened none_open tokens

-- at most 256 brackets and 512 conditions are open
abbrev pub IsWithin : Open → Type 0
IsWithin now = (length now.brackets ≤ 256) × (now.conditions ≤ 512)

-- At no place more is open than may be.
abbrev pub IsShallow : Tokens → Type 0
IsShallow tokens = (n : ℕ) → IsWithin (open_after (take n tokens))

-- The token at this index is the first behind which more is open than may be.
pub record IsFirstDeep (tokens : Tokens) (at : ℕ) : Type 0 where
  pub within : at < length tokens
  pub deep : ¬ (IsWithin (open_after (take (at + 1) tokens)))
  pub before : (n : ℕ) → n ≤ at → IsWithin (open_after (take n tokens))
