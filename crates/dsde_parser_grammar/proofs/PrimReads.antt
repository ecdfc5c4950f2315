-- Primary expressions are read.
use Rattle.std.proofs.Common.{◌≡◌, ℕ, ◌≤◌, Bool, true, false, not, ◌&&◌, List, [], ◌∷◌, ◌++◌, map, Option, Some, None, refl, ap, ◌∙◌, arith, append_assoc}
use Rattle.std.specs.Prelude.{flat_map, nat_le, if◌then◌else◌}
use Rattle.std.specs.List.{list_all}
use Rattle.std.specs.Option.{option_map}
use Rattle.std.proofs.lemmas.Bool.Decides.{nat_tests}
use Rattle.dsde_syntax.specs.declared.token.Tok.{Tok}
use Rattle.dsde_syntax.specs.declared.token.Tok.TheVariants as tok
use Rattle.dsde_words.specs.declared.key.Key.{Key}
use Rattle.dsde_words.specs.declared.key.Key.TheVariants as key
use Rattle.dsde_syntax.specs.declared.token.Sign.TheVariants as sign
use Rattle.dsde_syntax.specs.declared.id.Id.{Id}
use Rattle.dsde_syntax.specs.declared.type_name.TypeName.{TypeName}
use Rattle.dsde_syntax.specs.declared.expr.Expr.{Expr}
use Rattle.dsde_syntax.specs.declared.expr.Suffix.{Suffix}
use Rattle.dsde_syntax.specs.declared.expr.ExprArm.{ExprArm}
use Rattle.dsde_syntax.specs.declared.expr.FieldSet.{FieldSet}
use Rattle.dsde_syntax.specs.declared.expr.Expr.TheOpen.{Expr-F, Suffix-F}
use Rattle.dsde_syntax.specs.declared.expr.Expr.TheViews.{roll-Expr, roll-Suffix, roll-ExprArm, roll-FieldSet}
use Rattle.dsde_syntax.specs.Grammar.{Tokens, word, mark, id_tokens, commas, elses, optional, in_parens, in_brackets, in_braces, in_angles, truth_tokens, type_tokens, expr_tokens, expr_arm_tokens, field_set_tokens}
use Rattle.dsde_syntax.specs.Places.{Span, ◌>>◌, token, token_at, begins_at, id_span, spans_with, written_span, type_span, expr_span}
use Rattle.dsde_syntax.specs.Places.{bracketed as bracketed_span, args_span, expr_arm_span, field_set_span}
use Rattle.dsde_syntax.specs.Levels.{level_if, stands_at, has_first, all_hold, if_written, is_builtin, level_of, is_expr_arm, is_field_set}
use Rattle.dsde_parser_grammar.proofs.Reading.{Reader, Reads, AllRead, any, ending, ending-test, ending-fit, pair, made, maybe, skip, pair-Reads, made-Reads, fewer-Reads, either-first, either-second, maybe-none, maybe-some, skip-Reads, place-Reads, here-Reads, ident-Reads, number-Reads, key-Reads}
use Rattle.dsde_parser_grammar.proofs.ExprReaders.{stops, begin_of, begins_expr, is_comma, is_if, is_else_if, closing, bracketed, separated, nothing, exprs, args, Form, a_number, a_name, a_call, a_variant, a_truth, the_elapsed, a_record, a_none, an_empty, a_choice, a_paren, a_row, an_each, a_builtin, name_form, form_of, is_true, field_set, expr_arm, prim_branch, prim, suffix, SuffixForm, suffix_form, suffix_branch, a_field, an_index, an_unwrap, read_expr}
use Rattle.dsde_parser_grammar.proofs.TypeReads.{bracketed-Reads, type-Reads}
use Rattle.dsde_parser_grammar.proofs.LevelReads.{ExprReads, if-ExprReads, WholeExpr, whole}
use Rattle.dsde_parser_grammar.proofs.ListReads.{and-true, separated-Reads, nothing-Reads}
use Rattle.dsde_parser_grammar.proofs.OperatorReads.{SuffixReads}

abbrev pub ExprClaim : Expr → Type 0
ExprClaim e = ExprReads e (expr_tokens e) (level_of e) (expr_span e)

-- an arm of a choice is read, and begins with "if"
pub record ArmReads (v : ExprArm) (t : Tokens) (ok : Bool) (s : Span) : Type 0 where
  pub begins : (rest : Tokens) → is_if (t ++ rest) ≡ true
  pub reads : ok ≡ true → Reads any (λ n. expr_arm (read_expr n)) v t s

-- a field of a new record is read
pub record FieldReads (v : FieldSet) (t : Tokens) (ok : Bool) (s : Span) : Type 0 where
  pub reads : ok ≡ true → Reads (stops 9) (λ n. field_set (read_expr n)) v t s

abbrev pub ArmClaim : ExprArm → Type 0
ArmClaim v = ArmReads v (expr_arm_tokens v) (is_expr_arm v) (expr_arm_span v)

abbrev pub FieldClaim : FieldSet → Type 0
FieldClaim v = FieldReads v (field_set_tokens v) (is_field_set v) (field_set_span v)

-- an expression in brackets
bracketed_expr : {e : Expr} {t : Tokens} {s : Span} (open_tok close_tok : Tok) → WholeExpr e t s → ((rest : Tokens) → stops 9 (close_tok ∷ rest) ≡ true) → Reads any (λ n. bracketed (read_expr n)) e (((open_tok ∷ []) ++ t) ++ (close_tok ∷ [])) (bracketed_span s)
bracketed_expr open_tok close_tok own closes = bracketed-Reads open_tok close_tok own.reads closes

suffix-by : {v : Suffix} {t : Tokens} {s : Span} (form : SuffixForm) → Reads any (λ n. suffix_branch form (read_expr n)) v t s → ((rest : Tokens) → suffix_form (t ++ rest) ≡ form) → Reads any (λ n. suffix (read_expr n)) v t s
suffix-by {v} {t} {s} form own begins = record {
  least = own.least;
  gets = λ fuel at end rest enough is fits. ap (λ (form : SuffixForm). suffix_branch form (read_expr fuel) at (t ++ rest)) (begins rest) ∙ own.gets fuel at end rest enough is fits;
}

-- the parts of expressions

pub field_suffix : (at : ℕ) (name : Id) → SuffixReads (roll-Suffix (Suffix-F.Field at name)) (mark sign.Dot ++ id_tokens name) true (token_at at >> id_span name)
field_suffix at name = record {
  begins = λ rest. refl;
  reads = λ h. suffix-by a_field (made-Reads (λ v. roll-Suffix (Suffix-F.Field v.0 v.1)) (pair-Reads (place-Reads (tok.Sign sign.Dot) at) (ident-Reads name) (λ rest h. refl))) (λ rest. refl);
}

pub index_suffix : {e : Expr} {t : Tokens} {own : ℕ} {s : Span} (at : ℕ) → ExprReads e t own s → SuffixReads (roll-Suffix (Suffix-F.Index at e)) (in_brackets t) (stands_at 9 own) (begins_at at >> bracketed_span s)
index_suffix at value = record {
  begins = λ rest. refl;
  reads = λ h. suffix-by an_index (made-Reads (λ v. roll-Suffix (Suffix-F.Index v.0 v.1)) (pair-Reads (here-Reads at) (bracketed_expr (tok.Sign sign.OpenBracket) (tok.Sign sign.CloseBracket) (whole value h) (λ rest. refl)) (λ rest h. refl))) (λ rest. refl);
}

pub unwrap_suffix : (at : ℕ) → SuffixReads (roll-Suffix (Suffix-F.Unwrap at)) (mark sign.Bang) true (token_at at)
unwrap_suffix at = record {
  begins = λ rest. refl;
  reads = λ h. suffix-by an_unwrap (made-Reads (λ at. roll-Suffix (Suffix-F.Unwrap at)) (place-Reads (tok.Sign sign.Bang) at)) (λ rest. refl);
}

pub field_set-reads : {e : Expr} {t : Tokens} {own : ℕ} {s : Span} (name : Id) → ExprReads e t own s → FieldReads (roll-FieldSet (record { name = name; value = e })) ((id_tokens name ++ mark sign.Colon) ++ t) (stands_at 9 own) ((id_span name >> token) >> s)
field_set-reads name value = record {
  reads = λ h. made-Reads (λ v. roll-FieldSet (record { name = v.0.0; value = v.1 })) (pair-Reads (pair-Reads (ident-Reads name) (skip-Reads (tok.Sign sign.Colon)) (λ rest h. refl)) (whole value h).reads (λ rest h. refl));
}

pub expr_arm-reads : {c e : Expr} {tc te : Tokens} {lc le : ℕ} {sc se : Span} → ExprReads c tc lc sc → ExprReads e te le se → ArmReads (roll-ExprArm (record { cond = c; value = e })) ((word key.If ++ tc) ++ in_braces te) (stands_at 9 lc && stands_at 9 le) ((token >> sc) >> bracketed_span se)
expr_arm-reads {c} {e} {tc} {te} {lc} {le} cond value = record {
  begins = λ rest. refl;
  reads = λ h.
      let both = and-true (stands_at 9 lc) (stands_at 9 le) h in
      made-Reads (λ v. roll-ExprArm (record { cond = v.0.1; value = v.1 }))
      (pair-Reads (pair-Reads (skip-Reads (tok.Key key.If)) (whole cond both.0).reads (λ rest h. refl)) (bracketed_expr (tok.Sign sign.OpenBrace) (tok.Sign sign.CloseBrace) (whole value both.1) (λ rest. refl)) (λ rest h. refl));
}

-- expressions

prim-by : {e : Expr} {t : Tokens} {s : Span} {fit : Tokens → Bool} (form : Form) → Reads fit (λ n. prim_branch form n (read_expr n)) e t s → ((rest : Tokens) → fit rest ≡ true → form_of (t ++ rest) ≡ form) → Reads fit (λ n. prim n (read_expr n)) e t s
prim-by {e} {t} {s} {fit} form own begins = record {
  least = own.least;
  gets = λ fuel at end rest enough is fits. ap (λ (form : Form). prim_branch form fuel (read_expr fuel) at (t ++ rest)) (begins rest fits) ∙ own.gets fuel at end rest enough is fits;
}

-- a primary expression that anything may follow
prim-ExprReads : {e : Expr} {t : Tokens} {s : Span} (form : Form) → ((rest : Tokens) → begin_of (t ++ rest) ≡ 0) → Reads any (λ n. prim_branch form n (read_expr n)) e t s → ((rest : Tokens) → form_of (t ++ rest) ≡ form) → ExprReads e t 0 s
prim-ExprReads form begins own is = record {
  begins = λ less rest. omega (arith, begins rest);
  reads = λ less. fewer-Reads (stops 0) (λ rest h. refl) (prim-by form own (λ rest h. is rest));
}

pub number-reads : (at value : ℕ) → ExprReads (roll-Expr (Expr-F.Number at value)) (tok.Int value ∷ []) 0 (token_at at)
number-reads at value = prim-ExprReads a_number (λ rest. refl) (made-Reads (λ v. roll-Expr (Expr-F.Number v.1 v.0)) (number-Reads value at)) (λ rest. refl)

pub truth-reads : (at : ℕ) (value : Bool) → ExprReads (roll-Expr (Expr-F.Truth at value)) (truth_tokens value) 0 (token_at at)
truth-reads at true = prim-ExprReads a_truth (λ rest. refl) (made-Reads (λ v. roll-Expr (Expr-F.Truth v.1 (is_true v.0))) (key-Reads key.True at)) (λ rest. refl)
truth-reads at false = prim-ExprReads a_truth (λ rest. refl) (made-Reads (λ v. roll-Expr (Expr-F.Truth v.1 (is_true v.0))) (key-Reads key.False at)) (λ rest. refl)

pub elapsed-reads : (at : ℕ) → ExprReads (roll-Expr (Expr-F.Elapsed at)) (word key.Elapsed) 0 (token_at at)
elapsed-reads at = prim-ExprReads the_elapsed (λ rest. refl) (made-Reads (λ at. roll-Expr (Expr-F.Elapsed at)) (place-Reads (tok.Key key.Elapsed) at)) (λ rest. refl)

stops-name : (rest : Tokens) → stops 0 rest ≡ true → name_form rest ≡ a_name
stops-name (tok.Sign sign.OpenParen ∷ rest) h = cc
stops-name (tok.Sign sign.ColonColon ∷ rest) h = cc
stops-name _ h = refl

pub name-reads : (id : Id) → ExprReads (roll-Expr (Expr-F.Name id)) (id_tokens id) 0 (id_span id)
name-reads id = record {
  begins = λ less rest. omega arith;
  reads = λ less. prim-by a_name (fewer-Reads (stops 0) (λ rest h. refl) (made-Reads (λ id. roll-Expr (Expr-F.Name id)) (ident-Reads id))) stops-name;
}

pub variant-reads : (owner variant : Id) → ExprReads (roll-Expr (Expr-F.Variant owner variant)) ((id_tokens owner ++ mark sign.ColonColon) ++ id_tokens variant) 0 ((id_span owner >> token) >> id_span variant)
variant-reads owner variant = prim-ExprReads a_variant (λ rest. refl)
    (made-Reads (λ v. roll-Expr (Expr-F.Variant v.0.0 v.1)) (pair-Reads (pair-Reads (ident-Reads owner) (skip-Reads (tok.Sign sign.ColonColon)) (λ rest h. refl)) (ident-Reads variant) (λ rest h. refl)))
    (λ rest. refl)

pub none-reads : (at : ℕ) (ty : TypeName) → ExprReads (roll-Expr (Expr-F.NoneOf at ty)) (word key.NoneOf ++ in_angles (type_tokens ty)) 0 (token_at at >> bracketed_span (type_span ty))
none-reads at ty = prim-ExprReads a_none (λ rest. refl)
    (made-Reads (λ v. roll-Expr (Expr-F.NoneOf v.0 v.1)) (pair-Reads (place-Reads (tok.Key key.NoneOf) at) (bracketed-Reads (tok.Sign sign.Less) (tok.Sign sign.Greater) (type-Reads ty) (λ rest. refl)) (λ rest h. refl)))
    (λ rest. refl)

pub empty-reads : (at : ℕ) (ty : TypeName) → ExprReads (roll-Expr (Expr-F.EmptyOf at ty)) (word key.EmptyOf ++ in_angles (type_tokens ty)) 0 (token_at at >> bracketed_span (type_span ty))
empty-reads at ty = prim-ExprReads an_empty (λ rest. refl)
    (made-Reads (λ v. roll-Expr (Expr-F.EmptyOf v.0 v.1)) (pair-Reads (place-Reads (tok.Key key.EmptyOf) at) (bracketed-Reads (tok.Sign sign.Less) (tok.Sign sign.Greater) (type-Reads ty) (λ rest. refl)) (λ rest h. refl)))
    (λ rest. refl)

pub paren-reads : {e : Expr} {t : Tokens} {own : ℕ} {s : Span} (at : ℕ) → ExprReads e t own s → ExprReads (roll-Expr (Expr-F.Paren at e)) (in_parens t) (level_if (stands_at 9 own) 0) (begins_at at >> bracketed_span s)
paren-reads at inner = if-ExprReads _ 0 (λ h. prim-ExprReads a_paren (λ rest. refl)
    (made-Reads (λ v. roll-Expr (Expr-F.Paren v.0 v.1)) (pair-Reads (here-Reads at) (bracketed_expr (tok.Sign sign.OpenParen) (tok.Sign sign.CloseParen) (whole inner h) (λ rest. refl)) (λ rest h. refl)))
    (λ rest. refl))

-- lists of expressions

exprs-all : (list : List ((e : Expr) × ExprClaim e)) → list_all (stands_at 9) (map level_of (map (λ e. e.0) list)) ≡ true → AllRead any (stops 9) read_expr (map (λ e. e.0) list) (map expr_tokens (map (λ e. e.0) list)) (map expr_span (map (λ e. e.0) list))
exprs-all [] h = tt
exprs-all ((e, own) ∷ list) h =
    let both = and-true (stands_at 9 (level_of e)) (list_all (stands_at 9) (map level_of (map (λ e. e.0) list))) h in
    ((whole own both.0).reads, (λ rest. refl), exprs-all list both.1)

comma-stops : (rest : Tokens) → is_comma rest ≡ true → stops 9 rest ≡ true
comma-stops (tok.Sign sign.Comma ∷ rest) h = refl
comma-stops _ h = cc

-- one expression or more, with commas between them
some_exprs : (first : (e : Expr) × ExprClaim e) (list : List ((e : Expr) × ExprClaim e)) → list_all (stands_at 9) (map level_of (map (λ e. e.0) (first ∷ list))) ≡ true → Reads (ending is_comma (stops 9)) (λ n. separated n is_comma (read_expr n)) (map (λ e. e.0) (first ∷ list)) (commas (map expr_tokens (map (λ e. e.0) (first ∷ list)))) (spans_with token (map expr_span (map (λ e. e.0) (first ∷ list))))
some_exprs first list h =
    separated-Reads (tok.Sign sign.Comma) is_comma any (stops 9) read_expr (λ ts h. refl) comma-stops _ _ _ _ _ _ (exprs-all (first ∷ list) h)

begins-le : (a : ℕ) → a ≤ 9 → nat_le a 9 ≡ true
begins-le a h = grind (arith, nat_tests)

-- the first of some expressions begins one
first-begins : (first : (e : Expr) × ExprClaim e) → stands_at 9 (level_of first.0) ≡ true → (more rest : Tokens) → begins_expr ((expr_tokens first.0 ++ more) ++ rest) ≡ true
first-begins (e, own) h more rest =
    begins-le _ (rw (append_assoc (expr_tokens e) more rest) ((whole own h).begins (more ++ rest)))

closing-test : (rest : Tokens) → closing rest ≡ true → begins_expr rest ≡ false
closing-test rest h = ending-test (begins_expr rest) (stops 9 rest) (ending-fit (is_comma rest) (ending begins_expr (stops 9) rest) h)

closing-ends : (rest : Tokens) → closing rest ≡ true → ending is_comma (stops 9) rest ≡ true
closing-ends rest h =
    both-true (is_comma rest) (stops 9 rest) (ending-test (is_comma rest) (ending begins_expr (stops 9) rest) h)
    (ending-fit (begins_expr rest) (stops 9 rest) (ending-fit (is_comma rest) (ending begins_expr (stops 9) rest) h))
  where
    both-true : (a b : Bool) → a ≡ false → b ≡ true → (not a && b) ≡ true
    both-true true b h1 h2 = cc
    both-true false b h1 h2 = h2

pub exprs-reads : (list : List ((e : Expr) × ExprClaim e)) → list_all (stands_at 9) (map level_of (map (λ e. e.0) list)) ≡ true → Reads closing (λ n. exprs n (read_expr n)) (map (λ e. e.0) list) (commas (map expr_tokens (map (λ e. e.0) list))) (spans_with token (map expr_span (map (λ e. e.0) list)))
exprs-reads [] h = either-second (λ n. separated n is_comma (read_expr n)) begins_expr (fewer-Reads closing (λ rest h. refl) nothing-Reads) closing-test
exprs-reads (first ∷ list) h =
    let both = and-true (stands_at 9 (level_of first.0)) (list_all (stands_at 9) (map level_of (map (λ e. e.0) list))) h in
    either-first (λ n. nothing) begins_expr (fewer-Reads closing closing-ends (some_exprs first list h)) (λ rest h. first-begins first both.0 _ rest)

pub args-reads : (list : List ((e : Expr) × ExprClaim e)) → list_all (stands_at 9) (map level_of (map (λ e. e.0) list)) ≡ true → Reads any (λ n. args n (read_expr n)) (map (λ e. e.0) list) (in_parens (commas (map expr_tokens (map (λ e. e.0) list)))) (args_span (map expr_span (map (λ e. e.0) list)))
args-reads list h = bracketed-Reads (tok.Sign sign.OpenParen) (tok.Sign sign.CloseParen) (exprs-reads list h) (λ rest. refl)

pub call-reads : (name : Id) (list : List ((e : Expr) × ExprClaim e)) → ExprReads (roll-Expr (Expr-F.Call name (map (λ e. e.0) list))) (id_tokens name ++ in_parens (commas (map expr_tokens (map (λ e. e.0) list)))) (level_if (list_all (stands_at 9) (map level_of (map (λ e. e.0) list))) 0) (id_span name >> args_span (map expr_span (map (λ e. e.0) list)))
call-reads name list = if-ExprReads _ 0 (λ h. prim-ExprReads a_call (λ rest. refl)
    (made-Reads (λ v. roll-Expr (Expr-F.Call v.0 v.1)) (pair-Reads (ident-Reads name) (args-reads list h) (λ rest h. refl)))
    (λ rest. refl))

pub builtin-reads : (which : Key) (at : ℕ) (list : List ((e : Expr) × ExprClaim e)) → ExprReads (roll-Expr (Expr-F.Builtin which at (map (λ e. e.0) list))) (word which ++ in_parens (commas (map expr_tokens (map (λ e. e.0) list)))) (level_if (is_builtin which && list_all (stands_at 9) (map level_of (map (λ e. e.0) list))) 0) (token_at at >> args_span (map expr_span (map (λ e. e.0) list)))
builtin-reads which at list = if-ExprReads _ 0 (λ h.
    let both = and-true (is_builtin which) (list_all (stands_at 9) (map level_of (map (λ e. e.0) list))) h in
    prim-ExprReads a_builtin (λ rest. rw both.0 refl)
    (made-Reads (λ v. roll-Expr (Expr-F.Builtin v.0.0 v.0.1 v.1)) (pair-Reads (key-Reads which at) (args-reads list both.1) (λ rest h. refl)))
    (λ rest. rw both.0 refl))

false-no : false ≡ true → ⊥
false-no h = cc

row-form : (b : Bool) → b ≡ true → (if b then a_row else an_each) ≡ a_row
row-form true h = refl
row-form false h = cc

pub row-reads : (at : ℕ) (list : List ((e : Expr) × ExprClaim e)) → ExprReads (roll-Expr (Expr-F.List at (map (λ e. e.0) list))) (in_brackets (commas (map expr_tokens (map (λ e. e.0) list)))) (level_if (has_first (map level_of (map (λ e. e.0) list)) && list_all (stands_at 9) (map level_of (map (λ e. e.0) list))) 0) (begins_at at >> args_span (map expr_span (map (λ e. e.0) list)))
row-reads at [] = if-ExprReads _ 0 (λ h. absurd (false-no (and-true false true h).0))
row-reads at (first ∷ list) = if-ExprReads _ 0 (λ h.
    let all : List ((e : Expr) × ExprClaim e) = first ∷ list in
    let both = and-true (stands_at 9 (level_of first.0)) (list_all (stands_at 9) (map level_of (map (λ e. e.0) list))) h in
    prim-ExprReads a_row (λ rest. refl)
    (made-Reads (λ v. roll-Expr (Expr-F.List v.0 v.1)) (pair-Reads (here-Reads at) (bracketed-Reads (tok.Sign sign.OpenBracket) (tok.Sign sign.CloseBracket) (some_exprs first list h) (λ rest. refl)) (λ rest h. refl)))
    (λ rest.
    let more = flat_map (λ own. mark sign.Comma ++ own) (map expr_tokens (map (λ e. e.0) list)) in
    row-form _ (rw (append_assoc (expr_tokens first.0 ++ more) (mark sign.CloseBracket) rest) (first-begins first both.0 more (mark sign.CloseBracket ++ rest)))))

fields-all : (list : List ((v : FieldSet) × FieldClaim v)) → all_hold (map is_field_set (map (λ e. e.0) list)) ≡ true → AllRead any (stops 9) (λ n. field_set (read_expr n)) (map (λ e. e.0) list) (map field_set_tokens (map (λ e. e.0) list)) (map field_set_span (map (λ e. e.0) list))
fields-all [] h = tt
fields-all ((v, own) ∷ list) h =
    let both = and-true (is_field_set v) (all_hold (map is_field_set (map (λ e. e.0) list))) h in
    (own.reads both.0, (λ rest. refl), fields-all list both.1)

pub new-reads : (at : ℕ) (owner : Id) (list : List ((v : FieldSet) × FieldClaim v)) → ExprReads (roll-Expr (Expr-F.New at owner (map (λ e. e.0) list))) ((word key.New ++ id_tokens owner) ++ in_braces (commas (map field_set_tokens (map (λ e. e.0) list)))) (level_if (has_first (map is_field_set (map (λ e. e.0) list)) && all_hold (map is_field_set (map (λ e. e.0) list))) 0) ((token_at at >> id_span owner) >> args_span (map field_set_span (map (λ e. e.0) list)))
new-reads at owner [] = if-ExprReads _ 0 (λ h. absurd (false-no (and-true false true h).0))
new-reads at owner (first ∷ list) = if-ExprReads _ 0 (λ h.
    let fields = separated-Reads (tok.Sign sign.Comma) is_comma any (stops 9) (λ n. field_set (read_expr n)) (λ ts h. refl) comma-stops _ _ _ _ _ _ (fields-all (first ∷ list) h) in
    prim-ExprReads a_record (λ rest. refl)
    (made-Reads (λ v. roll-Expr (Expr-F.New v.0.0 v.0.1 v.1)) (pair-Reads (pair-Reads (place-Reads (tok.Key key.New) at) (ident-Reads owner) (λ rest h. refl)) (bracketed-Reads (tok.Sign sign.OpenBrace) (tok.Sign sign.CloseBrace) fields (λ rest. refl)) (λ rest h. refl)))
    (λ rest. refl))

arms-all : (list : List ((v : ExprArm) × ArmClaim v)) → all_hold (map is_expr_arm (map (λ e. e.0) list)) ≡ true → AllRead is_if any (λ n. expr_arm (read_expr n)) (map (λ e. e.0) list) (map expr_arm_tokens (map (λ e. e.0) list)) (map expr_arm_span (map (λ e. e.0) list))
arms-all [] h = tt
arms-all ((v, own) ∷ list) h =
    let both = and-true (is_expr_arm v) (all_hold (map is_expr_arm (map (λ e. e.0) list))) h in
    (own.reads both.0, own.begins, arms-all list both.1)

-- what begins with "if" is a choice
if-choice : (ts : Tokens) → is_if ts ≡ true → form_of ts ≡ a_choice
if-choice (tok.Key key.If ∷ ts) h = refl
if-choice _ h = cc

if-begins : (ts : Tokens) → is_if ts ≡ true → begin_of ts ≡ 0
if-begins (tok.Key key.If ∷ ts) h = refl
if-begins _ h = cc

-- an opening brace comes next
abbrev opens : Tokens → Bool
opens (tok.Sign sign.OpenBrace ∷ ts) = true
opens _ = false

opens-no_if : (rest : Tokens) → opens rest ≡ true → ending is_else_if any (tok.Key key.Else ∷ rest) ≡ true
opens-no_if (tok.Sign sign.OpenBrace ∷ rest) h = refl
opens-no_if _ h = cc

-- the arms of a choice, and the word behind them
pub arms-reads : {A : Type 0} (item : ℕ → Reader A) (v : A) (vs : List A) (t : Tokens) (ts : List Tokens) (s : Span) (ss : List Span) → AllRead is_if any item (v ∷ vs) (t ∷ ts) (s ∷ ss) → Reads (ending is_else_if any) (λ n. separated n is_else_if (item n)) (v ∷ vs) (elses (t ∷ ts)) (spans_with token (s ∷ ss))
arms-reads item v vs t ts s ss all = separated-Reads (tok.Key key.Else) is_else_if is_if any item (λ ts h. h) (λ rest h. refl) v vs t ts s ss all

first-if : {v : ExprArm} {t : Tokens} {ok : Bool} {s : Span} → ArmReads v t ok s → (m1 m2 m3 rest : Tokens) → is_if ((((t ++ m1) ++ m2) ++ m3) ++ rest) ≡ true
first-if {v} {t} own m1 m2 m3 rest =
    rw (append_assoc ((t ++ m1) ++ m2) m3 rest, append_assoc (t ++ m1) m2 (m3 ++ rest), append_assoc t m1 (m2 ++ (m3 ++ rest))) (own.begins (m1 ++ (m2 ++ (m3 ++ rest))))

pub choice-reads : {e : Expr} {t : Tokens} {own : ℕ} {s : Span} (at : ℕ) (list : List ((v : ExprArm) × ArmClaim v)) → ExprReads e t own s → ExprReads (roll-Expr (Expr-F.If at (map (λ e. e.0) list) e)) ((elses (map expr_arm_tokens (map (λ e. e.0) list)) ++ word key.Else) ++ in_braces t) (level_if ((has_first (map is_expr_arm (map (λ e. e.0) list)) && all_hold (map is_expr_arm (map (λ e. e.0) list))) && stands_at 9 own) 0) (((begins_at at >> spans_with token (map expr_arm_span (map (λ e. e.0) list))) >> token) >> bracketed_span s)
choice-reads {e} {t} {own} {s} at [] other = if-ExprReads _ 0 (λ h. absurd (false-no (and-true false (stands_at 9 own) h).0))
choice-reads {e} {t} {own} {s} at (first ∷ list) other = if-ExprReads _ 0 (λ h.
    let all : List ((v : ExprArm) × ArmClaim v) = first ∷ list in
    let both = and-true (all_hold (map is_expr_arm (map (λ e. e.0) all))) (stands_at 9 own) h in
    let arms = arms-reads (λ n. expr_arm (read_expr n)) _ _ _ _ _ _ (arms-all all both.0) in
    let behind = fewer-Reads opens (λ rest h. refl) (skip-Reads (tok.Key key.Else)) in
    let more = flat_map (λ own. word key.Else ++ own) (map expr_arm_tokens (map (λ e. e.0) list)) in
    let begins = λ (rest : Tokens). first-if first.1 more (word key.Else) (in_braces t) rest in
    prim-ExprReads a_choice (λ rest. if-begins _ (begins rest))
    (made-Reads (λ v. roll-Expr (Expr-F.If v.0.0.0 v.0.0.1 v.1))
    (pair-Reads (pair-Reads (pair-Reads (here-Reads at) arms (λ rest h. refl)) behind opens-no_if) (bracketed_expr (tok.Sign sign.OpenBrace) (tok.Sign sign.CloseBrace) (whole other both.1) (λ rest. refl)) (λ rest h. refl)))
    (λ rest. if-choice _ (begins rest)))

not-if : (a b : Bool) → (not a && b) ≡ true → not a ≡ true
not-if true b h = cc
not-if false b h = refl

each-by : {l v : Expr} {tl tv tc : Tokens} {sl sv sc : Span} {cond : Option Expr} (at : ℕ) (name : Id) → WholeExpr l tl sl → Reads (ending is_if (stops 9)) (λ n. maybe is_if (made (λ w. w.1) (pair skip (read_expr n)))) cond tc sc → ((rest : Tokens) → ending is_if (stops 9) rest ≡ true → stops 9 (tc ++ rest) ≡ true) → WholeExpr v tv sv → ExprReads (roll-Expr (Expr-F.Each at name l cond v)) (in_brackets ((((((word key.For ++ id_tokens name) ++ word key.In) ++ tl) ++ tc) ++ mark sign.Colon) ++ tv)) 0 (begins_at at >> bracketed_span ((((((token >> id_span name) >> token) >> sl) >> sc) >> token) >> sv))
each-by at name list cond follows value =
    let begun = pair-Reads (pair-Reads (skip-Reads (tok.Key key.For)) (ident-Reads name) (λ rest h. refl)) (skip-Reads (tok.Key key.In)) (λ rest h. refl) in
    let tested = pair-Reads (pair-Reads begun list.reads (λ rest h. refl)) cond follows in
    let all = pair-Reads (pair-Reads tested (skip-Reads (tok.Sign sign.Colon)) (λ rest h. refl)) value.reads (λ rest h. refl) in
    prim-ExprReads an_each (λ rest. refl)
    (made-Reads (λ v. roll-Expr (Expr-F.Each v.0 v.1.0.0.0.0.0.1 v.1.0.0.0.1 v.1.0.0.1 v.1.1))
    (pair-Reads (here-Reads at) (bracketed-Reads (tok.Sign sign.OpenBracket) (tok.Sign sign.CloseBracket) all (λ rest. refl)) (λ rest h. refl)))
    (λ rest. refl)

pub each-reads : {l v : Expr} {tl tv : Tokens} {ll lv : ℕ} {sl sv : Span} (at : ℕ) (name : Id) → ExprReads l tl ll sl → (cond : Option ((e : Expr) × ExprClaim e)) → ExprReads v tv lv sv → ExprReads (roll-Expr (Expr-F.Each at name l (option_map (λ e. e.0) cond) v)) (in_brackets ((((((word key.For ++ id_tokens name) ++ word key.In) ++ tl) ++ optional (λ test. word key.If ++ test) (option_map expr_tokens (option_map (λ e. e.0) cond))) ++ mark sign.Colon) ++ tv)) (level_if ((stands_at 9 ll && if_written (stands_at 9) (option_map level_of (option_map (λ e. e.0) cond))) && stands_at 9 lv) 0) (begins_at at >> bracketed_span ((((((token >> id_span name) >> token) >> sl) >> written_span (λ test. token >> test) (option_map expr_span (option_map (λ e. e.0) cond))) >> token) >> sv))
each-reads {l} {v} {tl} {tv} {ll} {lv} at name list None value = if-ExprReads _ 0 (λ h.
    let both = and-true (stands_at 9 ll && true) (stands_at 9 lv) h in
    let begun = and-true (stands_at 9 ll) true both.0 in
    each-by at name (whole list begun.0)
    (fewer-Reads (ending is_if (stops 9)) (λ rest h. not-if (is_if rest) (stops 9 rest) h) (maybe-none is_if (λ n. made (λ w. w.1) (pair skip (read_expr n)))))
    (λ rest h. ending-fit (is_if rest) (stops 9 rest) h) (whole value both.1))
each-reads {l} {v} {tl} {tv} {ll} {lv} at name list (Some (c, own)) value = if-ExprReads _ 0 (λ h.
    let both = and-true (stands_at 9 ll && stands_at 9 (level_of c)) (stands_at 9 lv) h in
    let begun = and-true (stands_at 9 ll) (stands_at 9 (level_of c)) both.0 in
    each-by at name (whole list begun.0)
    (fewer-Reads (ending is_if (stops 9)) (λ rest h. ending-fit (is_if rest) (stops 9 rest) h)
    (maybe-some is_if (made-Reads (λ w. w.1) (pair-Reads (skip-Reads (tok.Key key.If)) (whole own begun.1).reads (λ rest h. refl))) (λ rest h. refl)))
    (λ rest h. refl) (whole value both.1))
