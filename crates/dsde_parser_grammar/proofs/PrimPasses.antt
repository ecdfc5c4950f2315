-- Primary expressions pass.
use Rattle.std.proofs.Common.{◌≡◌, ℕ, ◌+◌, ◌≤◌, Bool, true, false, ◌&&◌, List, [], ◌∷◌, ◌++◌, map, Option, Some, None, refl, arith, append_assoc}
use Rattle.std.specs.Prelude.{flat_map, nat_le}
use Rattle.std.specs.List.{list_all}
use Rattle.std.specs.Option.{option_map}
use Rattle.std.proofs.lemmas.Bool.Decides.{nat_tests}
use Rattle.dsde_syntax.specs.declared.token.Tok.TheVariants as tok
use Rattle.dsde_words.specs.declared.key.Key.{Key}
use Rattle.dsde_words.specs.declared.key.Key.TheVariants as key
use Rattle.dsde_syntax.specs.declared.token.Sign.TheVariants as sign
use Rattle.dsde_syntax.specs.declared.id.Id.{Id}
use Rattle.dsde_syntax.specs.declared.type_name.TypeName.{TypeName}
use Rattle.dsde_syntax.specs.declared.expr.Expr.{Expr}
use Rattle.dsde_syntax.specs.declared.expr.ExprArm.{ExprArm}
use Rattle.dsde_syntax.specs.declared.expr.FieldSet.{FieldSet}
use Rattle.dsde_syntax.specs.Grammar.{Tokens, word, mark, id_tokens, commas, elses, in_parens, in_brackets, in_braces, in_angles, truth_tokens, type_tokens, expr_tokens, expr_arm_tokens, field_set_tokens}
use Rattle.dsde_syntax.specs.Grammar.{optional as optional_tokens}
use Rattle.dsde_syntax.specs.Levels.{level_if, stands_at, has_first, all_hold, if_written, is_builtin, level_of, is_expr_arm, is_field_set}
use Rattle.dsde_parser_grammar.proofs.ExprReaders.{stops, begin_of, begins_expr, is_if}
use Rattle.dsde_parser_grammar.proofs.ListReads.{and-true}
use Rattle.dsde_parser_grammar.specs.Want as want
use Rattle.dsde_parser_grammar.specs.Steps.{Wants, stop, args, field_set}
use Rattle.dsde_parser_grammar.proofs.Leading.{any, Leads, AllFrom, AllPass, alternated, take, takes, last, lasts, closed, pair, beside, fewer, turned, ended, left, separated}
use Rattle.dsde_parser_grammar.proofs.LevelPasses.{ExprPasses, if-ExprPasses, WholeExpr, whole, after_name-passed}
use Rattle.dsde_parser_grammar.proofs.OperatorPasses.{SuffixPasses}
use Rattle.dsde_parser_grammar.proofs.TypePasses.{type-passes}

abbrev pub ExprClaim : Expr → Type 0
ExprClaim e = ExprPasses (expr_tokens e) (level_of e)

-- an arm of a choice passes, and begins with "if"
pub record ArmPasses (t : Tokens) (ok : Bool) : Type 0 where
  pub begins : (rest : Tokens) → is_if (t ++ rest) ≡ true
  pub passes : ok ≡ true → Leads any (want.else_rest ∷ []) (want.word key.Else ∷ want.else_rest ∷ []) t

-- a field of a new record passes
pub record FieldPasses (t : Tokens) (ok : Bool) : Type 0 where
  pub passes : ok ≡ true → Leads (stops 9) field_set [] t

abbrev pub ArmClaim : ExprArm → Type 0
ArmClaim v = ArmPasses (expr_arm_tokens v) (is_expr_arm v)

abbrev pub FieldClaim : FieldSet → Type 0
FieldClaim v = FieldPasses (field_set_tokens v) (is_field_set v)

abbrev E : Type 0
E = (e : Expr) × ExprClaim e

abbrev A : Type 0
A = (v : ExprArm) × ArmClaim v

abbrev F : Type 0
F = (v : FieldSet) × FieldClaim v

-- the parts of expressions

pub field_suffix : (name : Id) → SuffixPasses (mark sign.Dot ++ id_tokens name) true
field_suffix name = record {
  begins = λ rest. refl;
  passes = λ h. lasts (tok.Sign sign.Dot ∷ tok.Ident name.name ∷ []) (λ more at rest. refl);
}

pub index_suffix : {t : Tokens} {own : ℕ} → ExprPasses t own → SuffixPasses (in_brackets t) (stands_at 9 own)
index_suffix value = record {
  begins = λ rest. refl;
  passes = λ h. take (tok.Sign sign.OpenBracket) (closed (tok.Sign sign.CloseBracket) (beside (whole value h).passes (want.mark sign.CloseBracket ∷ want.suffixes ∷ [])) (λ rest. refl) (λ more at rest. refl)) (λ more at rest. refl);
}

pub unwrap_suffix : SuffixPasses (mark sign.Bang) true
unwrap_suffix = record {
  begins = λ rest. refl;
  passes = λ h. last (tok.Sign sign.Bang) (λ more at rest. refl);
}

pub field_set-passes : {t : Tokens} {own : ℕ} (name : Id) → ExprPasses t own → FieldPasses ((id_tokens name ++ mark sign.Colon) ++ t) (stands_at 9 own)
field_set-passes name value = record {
  passes = λ h. takes (tok.Ident name.name ∷ tok.Sign sign.Colon ∷ []) (whole value h).passes (λ more at rest. refl);
}

-- "{" expr "}"
braced-passes : {t : Tokens} (wants : Wants) → WholeExpr t → Leads any (want.mark sign.OpenBrace ∷ want.expr ∷ want.mark sign.CloseBrace ∷ wants) wants (in_braces t)
braced-passes wants value =
    take (tok.Sign sign.OpenBrace) (closed (tok.Sign sign.CloseBrace) (beside value.passes (want.mark sign.CloseBrace ∷ wants)) (λ rest. refl) (λ more at rest. refl)) (λ more at rest. refl)

pub expr_arm-passes : {tc te : Tokens} {lc le : ℕ} → ExprPasses tc lc → ExprPasses te le → ArmPasses ((word key.If ++ tc) ++ in_braces te) (stands_at 9 lc && stands_at 9 le)
expr_arm-passes {tc} {te} {lc} {le} cond value = record {
  begins = λ rest. refl;
  passes = λ h.
      let both = and-true (stands_at 9 lc) (stands_at 9 le) h in
      let wants = want.word key.Else ∷ want.else_rest ∷ [] in
      take (tok.Key key.If) (pair (beside (whole cond both.0).passes (want.mark sign.OpenBrace ∷ want.expr ∷ want.mark sign.CloseBrace ∷ wants)) (braced-passes wants (whole value both.1)) (λ rest h. refl)) (λ more at rest. refl);
}

-- expressions

-- a primary expression that anything may follow
prim-ExprPasses : {t : Tokens} → ((rest : Tokens) → begin_of (t ++ rest) ≡ 0) → Leads any (want.prim ∷ []) [] t → ExprPasses t 0
prim-ExprPasses begins own = record {
  begins = λ less rest. omega (arith, begins rest);
  passes = λ less. fewer (stops 0) (λ rest h. refl) own;
}

pub number-passes : (value : ℕ) → ExprPasses (tok.Int value ∷ []) 0
number-passes value = prim-ExprPasses (λ rest. refl) (last (tok.Int value) (λ more at rest. refl))

pub truth-passes : (value : Bool) → ExprPasses (truth_tokens value) 0
truth-passes true = prim-ExprPasses (λ rest. refl) (last (tok.Key key.True) (λ more at rest. refl))
truth-passes false = prim-ExprPasses (λ rest. refl) (last (tok.Key key.False) (λ more at rest. refl))

pub elapsed-passes : ExprPasses (word key.Elapsed) 0
elapsed-passes = prim-ExprPasses (λ rest. refl) (last (tok.Key key.Elapsed) (λ more at rest. refl))

name-leads : (id : Id) → Leads any (want.prim ∷ []) (want.after_name ∷ []) (id_tokens id)
name-leads id = last (tok.Ident id.name) (λ more at rest. refl)

pub name-passes : (id : Id) → ExprPasses (id_tokens id) 0
name-passes id = record {
  begins = λ less rest. omega arith;
  passes = λ less. ended (stops 0) want.after_name (name-leads id) (λ rest h. refl) after_name-passed;
}

pub variant-passes : (owner variant : Id) → ExprPasses ((id_tokens owner ++ mark sign.ColonColon) ++ id_tokens variant) 0
variant-passes owner variant = prim-ExprPasses (λ rest. refl)
    (lasts (tok.Ident owner.name ∷ tok.Sign sign.ColonColon ∷ tok.Ident variant.name ∷ []) (λ more at rest. refl))

-- "<" type ">"
angles-passes : (ty : TypeName) → Leads any (want.mark sign.Less ∷ want.ty ∷ want.mark sign.Greater ∷ []) [] (in_angles (type_tokens ty))
angles-passes ty =
    take (tok.Sign sign.Less) (closed (tok.Sign sign.Greater) (beside (type-passes ty) (want.mark sign.Greater ∷ [])) (λ rest. refl) (λ more at rest. refl)) (λ more at rest. refl)

pub none-passes : (ty : TypeName) → ExprPasses (word key.NoneOf ++ in_angles (type_tokens ty)) 0
none-passes ty = prim-ExprPasses (λ rest. refl) (take (tok.Key key.NoneOf) (angles-passes ty) (λ more at rest. refl))

pub empty-passes : (ty : TypeName) → ExprPasses (word key.EmptyOf ++ in_angles (type_tokens ty)) 0
empty-passes ty = prim-ExprPasses (λ rest. refl) (take (tok.Key key.EmptyOf) (angles-passes ty) (λ more at rest. refl))

pub paren-passes : {t : Tokens} {own : ℕ} → ExprPasses t own → ExprPasses (in_parens t) (level_if (stands_at 9 own) 0)
paren-passes inner = if-ExprPasses _ 0 (λ h. prim-ExprPasses (λ rest. refl)
    (take (tok.Sign sign.OpenParen) (closed (tok.Sign sign.CloseParen) (beside (whole inner h).passes (want.mark sign.CloseParen ∷ [])) (λ rest. refl) (λ more at rest. refl)) (λ more at rest. refl)))

-- lists of expressions

abbrev pub AllWhole : List Tokens → Type 0
AllWhole [] = Unit {0}
AllWhole (t ∷ ts) = WholeExpr t × AllWhole ts

whole-all : (ts : List Tokens) → AllWhole ts → AllPass (stops 9) (want.expr ∷ []) ts
whole-all [] all = tt
whole-all (t ∷ ts) all = (all.0.passes, whole-all ts all.1)

exprs-all : (list : List E) → list_all (stands_at 9) (map level_of (map (λ e. e.0) list)) ≡ true → AllWhole (map expr_tokens (map (λ e. e.0) list))
exprs-all [] h = tt
exprs-all ((e, own) ∷ list) h =
    let both = and-true (stands_at 9 (level_of e)) (list_all (stands_at 9) (map level_of (map (λ e. e.0) list))) h in
    (whole own both.0, exprs-all list both.1)

-- one expression or more, with commas between them
some_exprs : (t : Tokens) (ts : List Tokens) → AllWhole (t ∷ ts) → Leads (stops 9) (want.expr ∷ want.more_exprs ∷ []) (want.more_exprs ∷ []) (commas (t ∷ ts))
some_exprs t ts all = separated (stops 9) (want.expr ∷ []) (tok.Sign sign.Comma) want.more_exprs (λ rest. refl) (λ more at rest. refl) t ts (whole-all (t ∷ ts) all)

begins-le : (a : ℕ) → a ≤ 9 → nat_le a 9 ≡ true
begins-le a h = grind (arith, nat_tests)

-- the first of some expressions begins one
first-begins : {t : Tokens} → WholeExpr t → (m1 m2 rest : Tokens) → begins_expr (((t ++ m1) ++ m2) ++ rest) ≡ true
first-begins {t} own m1 m2 rest =
    begins-le _ (rw (append_assoc (t ++ m1) m2 rest, append_assoc t m1 (m2 ++ rest)) (own.begins (m1 ++ (m2 ++ rest))))

-- what begins an expression goes on with arguments, and so behind "["
args-wants : (more : Wants) (at : ℕ) (ts : Tokens) → begins_expr ts ≡ true → stop (want.args_rest ∷ more) at ts ≡ stop (want.expr ∷ want.more_exprs ∷ want.mark sign.CloseParen ∷ more) at ts
args-wants more at [] h = cc
args-wants more at (tok.Int value ∷ ts) h = refl
args-wants more at (tok.Ident name ∷ ts) h = refl
args-wants more at (tok.Key which ∷ ts) h = args-key which more at ts
  where
    args-key : (which : Key) (more : Wants) (at : ℕ) (ts : Tokens) → stop (want.args_rest ∷ more) at (tok.Key which ∷ ts) ≡ stop (want.expr ∷ want.more_exprs ∷ want.mark sign.CloseParen ∷ more) at (tok.Key which ∷ ts)
    args-key key.Not more at ts = refl
    args-key _ more at ts = refl
args-wants more at (tok.Sign sign.CloseParen ∷ ts) h = cc
args-wants more at (tok.Sign which ∷ ts) h = refl

row-wants : (more : Wants) (at : ℕ) (ts : Tokens) → begins_expr ts ≡ true → stop (want.row_rest ∷ more) at ts ≡ stop (want.expr ∷ want.more_exprs ∷ want.mark sign.CloseBracket ∷ more) at ts
row-wants more at [] h = cc
row-wants more at (tok.Int value ∷ ts) h = refl
row-wants more at (tok.Ident name ∷ ts) h = refl
row-wants more at (tok.Key key.For ∷ ts) h = cc
row-wants more at (tok.Key which ∷ ts) h = refl
row-wants more at (tok.Sign sign.Minus ∷ ts) h = refl
row-wants more at (tok.Sign which ∷ ts) h = refl

-- [expr {"," expr}] ")"
pub args-passes : (ts : List Tokens) → AllWhole ts → Leads any (want.args_rest ∷ []) [] (commas ts ++ mark sign.CloseParen)
args-passes [] all = last (tok.Sign sign.CloseParen) (λ more at rest. refl)
args-passes (t ∷ ts) all =
    turned (closed (tok.Sign sign.CloseParen) (beside (some_exprs t ts all) (want.mark sign.CloseParen ∷ [])) (λ rest. refl) (λ more at rest. refl))
    (λ more at rest fits. args-wants more at _ (first-begins all.0 (flat_map (λ own. mark sign.Comma ++ own) ts) (mark sign.CloseParen) rest))

pub call-passes : (name : Id) (list : List E) → ExprPasses (id_tokens name ++ in_parens (commas (map expr_tokens (map (λ e. e.0) list)))) (level_if (list_all (stands_at 9) (map level_of (map (λ e. e.0) list))) 0)
call-passes name list = if-ExprPasses _ 0 (λ h. prim-ExprPasses (λ rest. refl)
    (takes (tok.Ident name.name ∷ tok.Sign sign.OpenParen ∷ []) (args-passes _ (exprs-all list h)) (λ more at rest. refl)))

builtin-wants : (which : Key) → is_builtin which ≡ true → (more : Wants) (at : ℕ) (rest : Tokens) → stop (want.prim ∷ more) at (tok.Key which ∷ rest) ≡ stop (args ++ more) (at + 1) rest
builtin-wants key.SomeOf h more at rest = refl
builtin-wants key.Len h more at rest = refl
builtin-wants key.Range h more at rest = refl
builtin-wants key.Push h more at rest = refl
builtin-wants key.Put h more at rest = refl
builtin-wants key.Take h more at rest = refl
builtin-wants key.Skip h more at rest = refl
builtin-wants key.Min h more at rest = refl
builtin-wants key.Max h more at rest = refl
builtin-wants key.IsSome h more at rest = refl
builtin-wants _ h more at rest = cc

pub builtin-passes : (which : Key) (list : List E) → ExprPasses (word which ++ in_parens (commas (map expr_tokens (map (λ e. e.0) list)))) (level_if (is_builtin which && list_all (stands_at 9) (map level_of (map (λ e. e.0) list))) 0)
builtin-passes which list = if-ExprPasses _ 0 (λ h.
    let both = and-true (is_builtin which) (list_all (stands_at 9) (map level_of (map (λ e. e.0) list))) h in
    prim-ExprPasses (λ rest. rw both.0 refl)
    (take {mid = args} (tok.Key which) (take (tok.Sign sign.OpenParen) (args-passes _ (exprs-all list both.1)) (λ more at rest. refl)) (builtin-wants which both.0)))

pub false-no : false ≡ true → ⊥
false-no h = cc

pub row-passes : (list : List E) → ExprPasses (in_brackets (commas (map expr_tokens (map (λ e. e.0) list)))) (level_if (has_first (map level_of (map (λ e. e.0) list)) && list_all (stands_at 9) (map level_of (map (λ e. e.0) list))) 0)
row-passes [] = if-ExprPasses _ 0 (λ h. absurd (false-no (and-true false true h).0))
row-passes ((e, own) ∷ list) = if-ExprPasses _ 0 (λ h.
    let all = exprs-all ((e, own) ∷ list) h in
    prim-ExprPasses (λ rest. refl)
    (take {mid = want.row_rest ∷ []} (tok.Sign sign.OpenBracket)
    (turned (closed (tok.Sign sign.CloseBracket) (beside (some_exprs _ _ all) (want.mark sign.CloseBracket ∷ [])) (λ rest. refl) (λ more at rest. refl))
    (λ more at rest fits. row-wants more at _ (first-begins all.0 (flat_map (λ own. mark sign.Comma ++ own) (map expr_tokens (map (λ e. e.0) list))) (mark sign.CloseBracket) rest)))
    (λ more at rest. refl)))

fields-all : (list : List F) → all_hold (map is_field_set (map (λ e. e.0) list)) ≡ true → AllPass (stops 9) field_set (map field_set_tokens (map (λ e. e.0) list))
fields-all [] h = tt
fields-all ((v, own) ∷ list) h =
    let both = and-true (is_field_set v) (all_hold (map is_field_set (map (λ e. e.0) list))) h in
    (own.passes both.0, fields-all list both.1)

pub new-passes : (owner : Id) (list : List F) → ExprPasses ((word key.New ++ id_tokens owner) ++ in_braces (commas (map field_set_tokens (map (λ e. e.0) list)))) (level_if (has_first (map is_field_set (map (λ e. e.0) list)) && all_hold (map is_field_set (map (λ e. e.0) list))) 0)
new-passes owner [] = if-ExprPasses _ 0 (λ h. absurd (false-no (and-true false true h).0))
new-passes owner ((v, own) ∷ list) = if-ExprPasses _ 0 (λ h.
    let fields = separated (stops 9) field_set (tok.Sign sign.Comma) want.more_fields (λ rest. refl) (λ more at rest. refl) _ _ (fields-all ((v, own) ∷ list) h) in
    prim-ExprPasses (λ rest. refl)
    (takes (tok.Key key.New ∷ tok.Ident owner.name ∷ tok.Sign sign.OpenBrace ∷ [])
    (closed (tok.Sign sign.CloseBrace) (beside fields (want.mark sign.CloseBrace ∷ [])) (λ rest. refl) (λ more at rest. refl))
    (λ more at rest. refl)))

arms-all : (list : List A) → all_hold (map is_expr_arm (map (λ e. e.0) list)) ≡ true → AllFrom (want.else_rest ∷ []) (want.word key.Else ∷ want.else_rest ∷ []) (map expr_arm_tokens (map (λ e. e.0) list))
arms-all [] h = tt
arms-all ((v, own) ∷ list) h =
    let both = and-true (is_expr_arm v) (all_hold (map is_expr_arm (map (λ e. e.0) list))) h in
    (own.passes both.0, arms-all list both.1)

-- what begins with "if" is a choice
if-wants : (more : Wants) (at : ℕ) (ts : Tokens) → is_if ts ≡ true → stop (want.prim ∷ more) at ts ≡ stop (want.else_rest ∷ more) at ts
if-wants more at (tok.Key key.If ∷ ts) h = refl
if-wants more at _ h = cc

if-begins : (ts : Tokens) → is_if ts ≡ true → begin_of ts ≡ 0
if-begins (tok.Key key.If ∷ ts) h = refl
if-begins _ h = cc

first-if : {t : Tokens} {ok : Bool} → ArmPasses t ok → (m1 m2 m3 rest : Tokens) → is_if ((((t ++ m1) ++ m2) ++ m3) ++ rest) ≡ true
first-if {t} own m1 m2 m3 rest =
    rw (append_assoc ((t ++ m1) ++ m2) m3 rest, append_assoc (t ++ m1) m2 (m3 ++ rest), append_assoc t m1 (m2 ++ (m3 ++ rest))) (own.begins (m1 ++ (m2 ++ (m3 ++ rest))))

pub choice-passes : {t : Tokens} {own : ℕ} (list : List A) → ExprPasses t own → ExprPasses ((elses (map expr_arm_tokens (map (λ e. e.0) list)) ++ word key.Else) ++ in_braces t) (level_if ((has_first (map is_expr_arm (map (λ e. e.0) list)) && all_hold (map is_expr_arm (map (λ e. e.0) list))) && stands_at 9 own) 0)
choice-passes {t} {own} [] other = if-ExprPasses _ 0 (λ h. absurd (false-no (and-true false (stands_at 9 own) h).0))
choice-passes {t} {own} ((v, arm) ∷ list) other = if-ExprPasses _ 0 (λ h.
    let all : List A = (v, arm) ∷ list in
    let both = and-true (all_hold (map is_expr_arm (map (λ e. e.0) all))) (stands_at 9 own) h in
    let arms = alternated (want.else_rest ∷ []) (want.word key.Else ∷ want.else_rest ∷ []) (tok.Key key.Else) (λ more at rest. refl) _ _ (arms-all all both.0) in
    let begun : Leads any (want.else_rest ∷ []) (want.else_rest ∷ []) (elses (map expr_arm_tokens (map (λ e. e.0) all)) ++ word key.Else) = closed (tok.Key key.Else) arms (λ rest. refl) (λ more at rest. refl) in
    let value : Leads any (want.else_rest ∷ []) [] (in_braces t) = take (tok.Sign sign.OpenBrace) (closed (tok.Sign sign.CloseBrace) (beside (whole other both.1).passes (want.mark sign.CloseBrace ∷ [])) (λ rest. refl) (λ more at rest. refl)) (λ more at rest. refl) in
    let begins = λ (rest : Tokens). first-if arm (flat_map (λ own. word key.Else ++ own) (map expr_arm_tokens (map (λ e. e.0) list))) (word key.Else) (in_braces t) rest in
    prim-ExprPasses (λ rest. if-begins _ (begins rest))
    (turned (pair begun value (λ rest h. refl)) (λ more at rest fits. if-wants more at _ (begins rest))))

-- ["if" expr] ":"
record Asked (tc : Tokens) : Type 0 where
  passes : Leads any (want.test ∷ want.mark sign.Colon ∷ want.expr ∷ want.mark sign.CloseBracket ∷ []) (want.expr ∷ want.mark sign.CloseBracket ∷ []) (tc ++ mark sign.Colon)
  fits : (rest : Tokens) → stops 9 ((tc ++ mark sign.Colon) ++ rest) ≡ true

each-by : {tl tv tc : Tokens} (name : Id) → WholeExpr tl → Asked tc → WholeExpr tv → ExprPasses (in_brackets ((((((word key.For ++ id_tokens name) ++ word key.In) ++ tl) ++ tc) ++ mark sign.Colon) ++ tv)) 0
each-by {tl} {tv} {tc} name list asked value =
    let wants = want.expr ∷ want.mark sign.CloseBracket ∷ [] in
    let begun = left tl tc (mark sign.Colon) (pair (beside list.passes (want.test ∷ want.mark sign.Colon ∷ wants)) asked.passes (λ rest h. asked.fits rest)) in
    prim-ExprPasses (λ rest. refl)
    (takes (tok.Sign sign.OpenBracket ∷ tok.Key key.For ∷ tok.Ident name.name ∷ tok.Key key.In ∷ [])
    (closed (tok.Sign sign.CloseBracket) (pair begun (beside value.passes (want.mark sign.CloseBracket ∷ [])) (λ rest h. refl)) (λ rest. refl) (λ more at rest. refl))
    (λ more at rest. refl))

pub each-passes : {tl tv : Tokens} {ll lv : ℕ} (name : Id) → ExprPasses tl ll → (cond : Option E) → ExprPasses tv lv → ExprPasses (in_brackets ((((((word key.For ++ id_tokens name) ++ word key.In) ++ tl) ++ optional_tokens (λ test. word key.If ++ test) (option_map expr_tokens (option_map (λ e. e.0) cond))) ++ mark sign.Colon) ++ tv)) (level_if ((stands_at 9 ll && if_written (stands_at 9) (option_map level_of (option_map (λ e. e.0) cond))) && stands_at 9 lv) 0)
each-passes {tl} {tv} {ll} {lv} name list None value = if-ExprPasses _ 0 (λ h.
    let both = and-true (stands_at 9 ll && true) (stands_at 9 lv) h in
    let begun = and-true (stands_at 9 ll) true both.0 in
    each-by name (whole list begun.0) (record { passes = last (tok.Sign sign.Colon) (λ more at rest. refl); fits = λ rest. refl }) (whole value both.1))
each-passes {tl} {tv} {ll} {lv} name list (Some (c, own)) value = if-ExprPasses _ 0 (λ h.
    let both = and-true (stands_at 9 ll && stands_at 9 (level_of c)) (stands_at 9 lv) h in
    let begun = and-true (stands_at 9 ll) (stands_at 9 (level_of c)) both.0 in
    let wants = want.mark sign.Colon ∷ want.expr ∷ want.mark sign.CloseBracket ∷ [] in
    each-by name (whole list begun.0)
    (record {
      passes = take (tok.Key key.If) (closed (tok.Sign sign.Colon) (beside (whole own begun.1).passes wants) (λ rest. refl) (λ more at rest. refl)) (λ more at rest. refl);
      fits = λ rest. refl;
    })
    (whole value both.1))
