-- The readers of types and expressions, level by level.
use Rattle.std.proofs.Common.{ℕ, zero, suc, Bool, true, false, List, [], ◌∷◌, map, Option, Some, None}
use Rattle.std.specs.Prelude.{if◌then◌else◌, ◌==◌, nat_le, nat_lt}
use Rattle.dsde_syntax.specs.declared.token.Tok.TheVariants as tok
use Rattle.dsde_words.specs.declared.key.Key.{Key}
use Rattle.dsde_words.specs.declared.key.Key.TheVariants as key
use Rattle.dsde_syntax.specs.declared.token.Sign.{Sign}
use Rattle.dsde_syntax.specs.declared.token.Sign.TheVariants as sign
use Rattle.dsde_syntax.specs.declared.type_name.TypeName.{TypeName}
use Rattle.dsde_syntax.specs.declared.type_name.TypeName.TheOpen.{TypeName-F}
use Rattle.dsde_syntax.specs.declared.type_name.TypeName.TheViews.{roll-TypeName}
use Rattle.dsde_syntax.specs.declared.expr.Expr.{Expr}
use Rattle.dsde_syntax.specs.declared.expr.Suffix.{Suffix}
use Rattle.dsde_syntax.specs.declared.expr.ExprArm.{ExprArm}
use Rattle.dsde_syntax.specs.declared.expr.FieldSet.{FieldSet}
use Rattle.dsde_syntax.specs.declared.expr.SignTail.{SignTail}
use Rattle.dsde_syntax.specs.declared.expr.Tail.{Tail}
use Rattle.dsde_syntax.specs.declared.expr.Expr.TheOpen.{Expr-F, Suffix-F}
use Rattle.dsde_syntax.specs.declared.expr.Expr.TheViews.{roll-Expr, roll-Suffix, roll-ExprArm, roll-FieldSet, roll-SignTail, roll-Tail}
use Rattle.dsde_syntax.specs.Grammar.{Tokens}
use Rattle.dsde_syntax.specs.Levels.{is_builtin, is_comparison, is_sum_sign, is_mul_sign}
use Rattle.dsde_parser_grammar.proofs.Reading.{Reader, skip, place, here, ident, number, a_sign, a_key, pair, made, either, many, maybe, ending}

-- the level at which a sign goes on with a chain; 0 for what goes on with a name, 10 for none
abbrev pub other_sign : Sign → ℕ
other_sign sign.OpenParen = 0
other_sign sign.ColonColon = 0
other_sign sign.Dot = 1
other_sign sign.OpenBracket = 1
other_sign sign.Bang = 1
other_sign sign.QuestionQuestion = 9
other_sign _ = 10

abbrev pub sign_continues : Sign → ℕ
sign_continues which =
    if is_mul_sign which then 3 else (if is_sum_sign which then 4 else (if is_comparison which then 5 else other_sign which))

abbrev pub key_continues : Key → ℕ
key_continues key.And = 7
key_continues key.Or = 8
key_continues _ = 10

abbrev pub continues : Tokens → ℕ
continues [] = 10
continues (tok.Key which ∷ ts) = key_continues which
continues (tok.Sign which ∷ ts) = sign_continues which
continues (tok.Ident name ∷ ts) = 10
continues (tok.Int value ∷ ts) = 10

-- an expression of a level ends here
abbrev pub stops : ℕ → Tokens → Bool
stops level ts = nat_lt level (continues ts)

abbrev pub goes_on : ℕ → Tokens → Bool
goes_on level ts = continues ts == level

-- the least level of an expression that begins with a word or a sign; 10 for none
abbrev pub other_key : Key → ℕ
other_key key.True = 0
other_key key.False = 0
other_key key.Elapsed = 0
other_key key.New = 0
other_key key.NoneOf = 0
other_key key.EmptyOf = 0
other_key key.If = 0
other_key key.Not = 6
other_key _ = 10

abbrev pub sign_begins : Sign → ℕ
sign_begins sign.OpenParen = 0
sign_begins sign.OpenBracket = 0
sign_begins sign.Minus = 2
sign_begins _ = 10

abbrev pub begin_of : Tokens → ℕ
begin_of [] = 10
begin_of (tok.Key which ∷ ts) = if is_builtin which then 0 else other_key which
begin_of (tok.Sign which ∷ ts) = sign_begins which
begin_of (tok.Ident name ∷ ts) = 0
begin_of (tok.Int value ∷ ts) = 0

abbrev pub begins_expr : Tokens → Bool
begins_expr ts = nat_le (begin_of ts) 9

abbrev pub is_comma : Tokens → Bool
is_comma (tok.Sign sign.Comma ∷ ts) = true
is_comma _ = false

abbrev pub is_if : Tokens → Bool
is_if (tok.Key key.If ∷ ts) = true
is_if _ = false

abbrev pub is_else_if : Tokens → Bool
is_else_if (tok.Key key.Else ∷ ts) = is_if ts
is_else_if _ = false

-- what is fit to follow a list in brackets
abbrev pub closing : Tokens → Bool
closing = ending is_comma (ending begins_expr (stops 9))

abbrev pub bracketed : {A : Type 0} → Reader A → Reader A
bracketed inner = made (λ v. v.0.1) (pair (pair skip inner) skip)

-- part {separator part}
abbrev pub separated : {A : Type 0} → ℕ → (Tokens → Bool) → Reader A → Reader (List A)
separated n test item = made (λ v. v.0 ∷ map (λ w. w.1) v.1) (pair item (many n test (pair skip item)))

abbrev pub nothing : {A : Type 0} → Reader (List A)
nothing at ts = Some ([], at, ts)

-- [expr {"," expr}]
abbrev pub exprs : ℕ → Reader Expr → Reader (List Expr)
exprs n sub = either begins_expr (separated n is_comma sub) nothing

abbrev pub args : ℕ → Reader Expr → Reader (List Expr)
args n sub = bracketed (exprs n sub)

-- the forms of types
pub data TypeForm : Type 0 where
  an_int : TypeForm
  a_bool : TypeForm
  a_list : TypeForm
  an_opt : TypeForm
  named : TypeForm

abbrev pub type_form : Tokens → TypeForm
type_form (tok.Key key.Int ∷ ts) = an_int
type_form (tok.Key key.Bool ∷ ts) = a_bool
type_form (tok.Key key.List ∷ ts) = a_list
type_form (tok.Key key.Opt ∷ ts) = an_opt
type_form _ = named

abbrev pub type_branch : TypeForm → Reader TypeName → Reader TypeName
type_branch an_int sub = made (λ at. roll-TypeName (TypeName-F.Int at)) place
type_branch a_bool sub = made (λ at. roll-TypeName (TypeName-F.Bool at)) place
type_branch a_list sub = made (λ v. roll-TypeName (TypeName-F.List v.0 v.1)) (pair place (bracketed sub))
type_branch an_opt sub = made (λ v. roll-TypeName (TypeName-F.Opt v.0 v.1)) (pair place (bracketed sub))
type_branch named sub = made (λ id. roll-TypeName (TypeName-F.Named id)) ident

abbrev pub read_type : ℕ → Reader TypeName
read_type zero at ts = None
read_type (suc n) at ts = type_branch (type_form ts) (read_type n) at ts

-- the forms of primary expressions
pub data Form : Type 0 where
  a_number : Form
  a_name : Form
  a_call : Form
  a_variant : Form
  a_truth : Form
  the_elapsed : Form
  a_record : Form
  a_none : Form
  an_empty : Form
  a_choice : Form
  a_paren : Form
  a_row : Form
  an_each : Form
  a_builtin : Form

abbrev pub name_form : Tokens → Form
name_form (tok.Sign sign.OpenParen ∷ ts) = a_call
name_form (tok.Sign sign.ColonColon ∷ ts) = a_variant
name_form _ = a_name

abbrev pub bracket_form : Tokens → Form
bracket_form ts = if begins_expr ts then a_row else an_each

abbrev pub key_form : Key → Form
key_form key.True = a_truth
key_form key.False = a_truth
key_form key.Elapsed = the_elapsed
key_form key.New = a_record
key_form key.NoneOf = a_none
key_form key.EmptyOf = an_empty
key_form key.If = a_choice
key_form _ = a_builtin

abbrev pub form_of : Tokens → Form
form_of [] = a_number
form_of (tok.Int value ∷ ts) = a_number
form_of (tok.Ident name ∷ ts) = name_form ts
form_of (tok.Key which ∷ ts) = if is_builtin which then a_builtin else key_form which
form_of (tok.Sign sign.OpenBracket ∷ ts) = bracket_form ts
form_of (tok.Sign _ ∷ ts) = a_paren

abbrev pub is_true : Key → Bool
is_true key.True = true
is_true _ = false

-- id ":" expr
abbrev pub field_set : Reader Expr → Reader FieldSet
field_set sub = made (λ v. roll-FieldSet (record { name = v.0.0; value = v.1 })) (pair (pair ident skip) sub)

-- "if" expr "{" expr "}"
abbrev pub expr_arm : Reader Expr → Reader ExprArm
expr_arm sub = made (λ v. roll-ExprArm (record { cond = v.0.1; value = v.1 })) (pair (pair skip sub) (bracketed sub))

abbrev pub prim_branch : Form → ℕ → Reader Expr → Reader Expr
prim_branch a_number n sub = made (λ v. roll-Expr (Expr-F.Number v.1 v.0)) number
prim_branch a_name n sub = made (λ id. roll-Expr (Expr-F.Name id)) ident
prim_branch a_call n sub = made (λ v. roll-Expr (Expr-F.Call v.0 v.1)) (pair ident (args n sub))
prim_branch a_variant n sub = made (λ v. roll-Expr (Expr-F.Variant v.0.0 v.1)) (pair (pair ident skip) ident)
prim_branch a_truth n sub = made (λ v. roll-Expr (Expr-F.Truth v.1 (is_true v.0))) a_key
prim_branch the_elapsed n sub = made (λ at. roll-Expr (Expr-F.Elapsed at)) place
prim_branch a_record n sub =
    made (λ v. roll-Expr (Expr-F.New v.0.0 v.0.1 v.1)) (pair (pair place ident) (bracketed (separated n is_comma (field_set sub))))
prim_branch a_none n sub = made (λ v. roll-Expr (Expr-F.NoneOf v.0 v.1)) (pair place (bracketed (read_type n)))
prim_branch an_empty n sub = made (λ v. roll-Expr (Expr-F.EmptyOf v.0 v.1)) (pair place (bracketed (read_type n)))
prim_branch a_choice n sub =
    made (λ v. roll-Expr (Expr-F.If v.0.0.0 v.0.0.1 v.1)) (pair (pair (pair here (separated n is_else_if (expr_arm sub))) skip) (bracketed sub))
prim_branch a_paren n sub = made (λ v. roll-Expr (Expr-F.Paren v.0 v.1)) (pair here (bracketed sub))
prim_branch a_row n sub = made (λ v. roll-Expr (Expr-F.List v.0 v.1)) (pair here (bracketed (separated n is_comma sub)))
prim_branch an_each n sub =
    made (λ v. roll-Expr (Expr-F.Each v.0 v.1.0.0.0.0.0.1 v.1.0.0.0.1 v.1.0.0.1 v.1.1))
    (pair here (bracketed (pair (pair (pair (pair (pair (pair skip ident) skip) sub) (maybe is_if (made (λ w. w.1) (pair skip sub)))) skip) sub)))
prim_branch a_builtin n sub = made (λ v. roll-Expr (Expr-F.Builtin v.0.0 v.0.1 v.1)) (pair a_key (args n sub))

abbrev pub prim : ℕ → Reader Expr → Reader Expr
prim n sub at ts = prim_branch (form_of ts) n sub at ts

-- the forms of suffixes
pub data SuffixForm : Type 0 where
  a_field : SuffixForm
  an_index : SuffixForm
  an_unwrap : SuffixForm

abbrev pub suffix_form : Tokens → SuffixForm
suffix_form (tok.Sign sign.Dot ∷ ts) = a_field
suffix_form (tok.Sign sign.OpenBracket ∷ ts) = an_index
suffix_form _ = an_unwrap

abbrev pub suffix_branch : SuffixForm → Reader Expr → Reader Suffix
suffix_branch a_field sub = made (λ v. roll-Suffix (Suffix-F.Field v.0 v.1)) (pair place ident)
suffix_branch an_index sub = made (λ v. roll-Suffix (Suffix-F.Index v.0 v.1)) (pair here (bracketed sub))
suffix_branch an_unwrap sub = made (λ at. roll-Suffix (Suffix-F.Unwrap at)) place

abbrev pub suffix : Reader Expr → Reader Suffix
suffix sub at ts = suffix_branch (suffix_form ts) sub at ts

abbrev pub sign_tail : Reader Expr → Reader SignTail
sign_tail lower = made (λ v. roll-SignTail (record { sign = v.0.0; at = v.0.1; value = v.1 })) (pair a_sign lower)

abbrev pub tail : Reader Expr → Reader Tail
tail lower = made (λ v. roll-Tail (record { at = v.0; value = v.1 })) (pair place lower)

-- a chain, or its first part alone
abbrev pub chained : {B : Type 0} → (Expr → List B → Expr) → Expr × List B → Expr
chained chain (first, []) = first
chained chain (first, more ∷ rest) = chain first (more ∷ rest)

abbrev pub chain : {B : Type 0} → (Expr → List B → Expr) → ℕ → ℕ → Reader B → Reader Expr → Reader Expr
chain link level n more lower = made (chained link) (pair lower (many n (goes_on level) more))

abbrev pub compared : Expr × Option ((Sign × ℕ) × Expr) → Expr
compared (left, None) = left
compared (left, Some right) = roll-Expr (Expr-F.Compare right.0.0 right.0.1 left right.1)

abbrev pub or_else : Expr × Option (ℕ × Expr) → Expr
or_else (left, None) = left
or_else (left, Some right) = roll-Expr (Expr-F.OrElse right.0 left right.1)

abbrev pub post_of : Expr → List Suffix → Expr
post_of first rest = roll-Expr (Expr-F.Post first rest)

abbrev pub mul_of : Expr → List SignTail → Expr
mul_of first rest = roll-Expr (Expr-F.Mul first rest)

abbrev pub sum_of : Expr → List SignTail → Expr
sum_of first rest = roll-Expr (Expr-F.Sum first rest)

abbrev pub and_of : Expr → List Tail → Expr
and_of first rest = roll-Expr (Expr-F.And first rest)

abbrev pub or_of : Expr → List Tail → Expr
or_of first rest = roll-Expr (Expr-F.Or first rest)

-- what stands between a level and the next lower one
abbrev pub layer : ℕ → ℕ → Reader Expr → Reader Expr → Reader Expr
layer zero n sub lower = chain post_of 1 n (suffix sub) lower
layer (suc zero) n sub lower =
    either (λ ts. begin_of ts == 2) (made (λ v. roll-Expr (Expr-F.Neg v.0 v.1)) (pair place lower)) lower
layer (suc (suc zero)) n sub lower = chain mul_of 3 n (sign_tail lower) lower
layer (suc (suc (suc zero))) n sub lower = chain sum_of 4 n (sign_tail lower) lower
layer (suc (suc (suc (suc zero)))) n sub lower = made compared (pair lower (maybe (goes_on 5) (pair a_sign lower)))
layer (suc (suc (suc (suc (suc zero))))) n sub lower =
    either (λ ts. begin_of ts == 6) (made (λ v. roll-Expr (Expr-F.Not v.0 v.1)) (pair place lower)) lower
layer (suc (suc (suc (suc (suc (suc zero)))))) n sub lower = chain and_of 7 n (tail lower) lower
layer (suc (suc (suc (suc (suc (suc (suc zero))))))) n sub lower =
    chain or_of 8 n (tail lower) lower
layer (suc (suc (suc (suc (suc (suc (suc (suc level)))))))) n sub lower = made or_else (pair lower (maybe (goes_on 9) (pair place lower)))

abbrev pub level : ℕ → ℕ → Reader Expr → Reader Expr
level zero n sub = prim n sub
level (suc k) n sub = layer k n sub (level k n sub)

abbrev pub read_expr : ℕ → Reader Expr
read_expr zero at ts = None
read_expr (suc n) at ts = level 9 n (read_expr n) at ts
