-- The levels and the spans of the parts of expressions.
use Rattle.std.specs.Prelude.{◌≡◌, ◌≤◌, ℕ, Bool, true, List, ◌++◌, map, Option}
use Rattle.std.specs.Option.{option_map}
use Rattle.std.specs.List.{list_all}
use Rattle.dsde_syntax.specs.declared.expr.Expr.{Expr}
use Rattle.dsde_syntax.specs.declared.expr.ExprArm.{ExprArm}
use Rattle.dsde_syntax.specs.declared.expr.Tail.{Tail}
use Rattle.dsde_syntax.specs.declared.token.Sign.{Sign}
use Rattle.dsde_syntax.specs.Levels.{has_first, level_of}
use Rattle.dsde_words.specs.declared.key.Key.TheVariants as key
use Rattle.dsde_syntax.specs.Grammar.{Tokens, word, mark, joined, commas, elses, optional, expr_tokens, expr_arm_tokens, tail_tokens}
use Rattle.dsde_syntax.specs.Places.{◌>>◌, token, all_spans, spans_with, written_span, expr_span, Span}

-- an expression that may stand at a level
abbrev pub IsWithin : ℕ → Expr → Type 0
IsWithin level expr = level_of expr ≤ level

-- each of some parts is of the grammar
abbrev pub AllOk : {A : Type 0} → (A → Bool) → List A → Type 0
AllOk ok list = list_all ok list ≡ true

abbrev pub IsOk : {A : Type 0} → (A → Bool) → A → Type 0
IsOk ok value = ok value ≡ true

pub record SomeOk {A : Type 0} (ok : A → Bool) (list : List A) : Type 0 where
  pub some : has_first list ≡ true
  pub all : list_all ok list ≡ true

-- ["if" expr]
abbrev pub test_tokens : Option Expr → Tokens
test_tokens cond = optional (λ test. word key.If ++ test) (option_map expr_tokens cond)

abbrev pub test_span : Option Expr → Span
test_span cond = written_span (λ test. token >> test) (option_map expr_span cond)

-- operands behind "or" and "and"
abbrev pub or_tail_tokens : Tail → Tokens
or_tail_tokens tail = word key.Or ++ tail_tokens tail

abbrev pub and_tail_tokens : Tail → Tokens
and_tail_tokens tail = word key.And ++ tail_tokens tail

abbrev pub joined_by : {A : Type 0} → (A → Tokens) → List A → Tokens
joined_by spelled list = joined (map spelled list)

abbrev pub all_by : {A : Type 0} → (A → Span) → List A → Span
all_by span list = all_spans (map span list)

abbrev pub commas_by : {A : Type 0} → (A → Tokens) → List A → Tokens
commas_by spelled list = commas (map spelled list)

abbrev pub spans_by : {A : Type 0} → (A → Span) → List A → Span
spans_by span list = spans_with token (map span list)

abbrev pub elses_by : {A : Type 0} → (A → Tokens) → List A → Tokens
elses_by spelled list = elses (map spelled list)

-- the parts with commas between them, and the sign behind them
abbrev pub closed_tokens : {A : Type 0} → Sign → (A → Tokens) → List A → Tokens
closed_tokens close spelled list = commas (map spelled list) ++ mark close

abbrev pub closed_span : {A : Type 0} → (A → Span) → List A → Span
closed_span span list = spans_with token (map span list) >> token

-- the arms of a choice, and the "else" behind them
abbrev pub arms_tokens : List ExprArm → Tokens
arms_tokens arms = elses (map expr_arm_tokens arms) ++ word key.Else

abbrev pub any_ok : {A : Type 0} → A → Bool
any_ok value = true
