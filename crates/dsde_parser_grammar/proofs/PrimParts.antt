-- The steps of primary expressions are sound.
use Rattle.std.proofs.Common.{◌≡◌, true, false, List, [], ◌∷◌, ◌++◌, map, Option, Some, None, refl, sym, ap, ◌∙◌, append_assoc}
use Rattle.std.proofs.lemmas.List.{append-nil}
use Rattle.std.specs.Prelude.{flat_map}
use Rattle.dsde_syntax.specs.declared.token.Tok.{Tok}
use Rattle.dsde_syntax.specs.declared.token.Tok.TheVariants as tok
use Rattle.dsde_words.specs.declared.key.Key.{Key}
use Rattle.dsde_words.specs.declared.key.Key.TheVariants as key
use Rattle.dsde_syntax.specs.declared.token.Sign.TheVariants as sign
use Rattle.dsde_syntax.specs.declared.id.Id.{Id}
use Rattle.dsde_syntax.specs.declared.expr.Expr.{Expr}
use Rattle.dsde_syntax.specs.declared.expr.Suffix.{Suffix}
use Rattle.dsde_syntax.specs.declared.expr.ExprArm.{ExprArm}
use Rattle.dsde_syntax.specs.declared.expr.FieldSet.{FieldSet}
use Rattle.dsde_syntax.specs.declared.expr.SignTail.{SignTail}
use Rattle.dsde_syntax.specs.declared.expr.Tail.{Tail}
use Rattle.dsde_syntax.specs.declared.expr.Expr.TheOpen.{Expr-F, ExprArm-F, FieldSet-F}
use Rattle.dsde_syntax.specs.declared.expr.Expr.TheViews.{roll-ExprArm, roll-FieldSet}
use Rattle.dsde_syntax.specs.Grammar.{Tokens, word, mark, id_tokens, commas, elses, in_braces, expr_tokens, expr_arm_tokens, field_set_tokens}
use Rattle.dsde_syntax.specs.Levels.{stands_at, level_of, is_expr, is_builtin, is_expr_arm, is_field_set}
use Rattle.dsde_parser_grammar.specs.Want as want
use Rattle.dsde_parser_grammar.specs.Steps.{Wants, repeated, followed, args, choice_rest, field_set, prim_key, prim_step, expr_step, after_name_step, args_rest_step, more_expr_step, more_field_step, row_rest_step, test_step, else_rest_step}
use Rattle.dsde_parser_grammar.proofs.Layers.{expr_arm-tokens, expr_arm-level, field_set-tokens, field_set-level}
use Rattle.dsde_parser_grammar.proofs.Values.{Good, Several, ExprOf, Spelled, Value, spelled, Values, spells, Meets, spelled-same, commas_rest, choice_tokens}
use Rattle.dsde_parser_grammar.proofs.Taking.{Takes, Sound, repeated-sound, go_if-takes, followed-takes, named, one_more, true-and, three}
use Rattle.dsde_parser_grammar.proofs.Levels.{made, placed, expr-of}
use Rattle.dsde_parser_grammar.proofs.ExprParts.{several-join}

-- id ":" expr
abbrev FieldOf : Tokens → Type 0
FieldOf = Spelled (λ (v : Good is_field_set). field_set_tokens v.value)

field-of : (name : Id) (value : Good is_expr) → FieldOf (id_tokens name ++ (mark sign.Colon ++ expr_tokens value.value))
field-of name value =
    let x : FieldSet-F Expr Suffix ExprArm FieldSet SignTail Tail = record { name = name; value = value.value } in
    record { value = record { value = roll-FieldSet x; good = field_set-level x ∙ value.good }; spells = field_set-tokens x }

-- "if" expr "{" expr "}"
abbrev ArmOf : Tokens → Type 0
ArmOf = Spelled (λ (v : Good is_expr_arm). expr_arm_tokens v.value)

arm-of : (cond value : Good is_expr) → ArmOf ((word key.If ++ expr_tokens cond.value) ++ in_braces (expr_tokens value.value))
arm-of cond value =
    let x : ExprArm-F Expr Suffix ExprArm FieldSet SignTail Tail = record { cond = cond.value; value = value.value } in
    record { value = record { value = roll-ExprArm x; good = expr_arm-level x ∙ true-and (is_expr cond.value) (is_expr value.value) cond.good value.good }; spells = expr_arm-tokens x }

new-of : (owner name : Id) (value : Good is_expr) (more : Value want.more_fields) → ExprOf 0 (tok.Key key.New ∷ (id_tokens owner ++ (mark sign.OpenBrace ++ (id_tokens name ++ (mark sign.Colon ++ (expr_tokens value.value ++ (commas_rest (map field_set_tokens more.items) ++ (mark sign.CloseBrace ++ []))))))))
new-of owner name value more =
    let first = field-of name value in
    let rest = commas_rest (map field_set_tokens more.items) in
    made 0 (Expr-F.New 0 owner (first.value.value ∷ more.items))
    (ap (λ (t : Tokens). (word key.New ++ id_tokens owner) ++ in_braces (t ++ rest)) first.spells
    ∙ ap (λ (t : Tokens). tok.Key key.New ∷ (id_tokens owner ++ (mark sign.OpenBrace ++ (id_tokens name ++ (mark sign.Colon ++ t))))) (three (expr_tokens value.value) rest (mark sign.CloseBrace)))
    (placed 0 0 _ (true-and _ _ refl (true-and _ _ first.value.good more.all)) refl)

-- the "else" behind each arm, in place of that before each
else-behind : (arms : List Tokens) → flat_map (λ arm. word key.Else ++ arm) arms ++ word key.Else ≡ word key.Else ++ flat_map (λ arm. arm ++ word key.Else) arms
else-behind [] = refl
else-behind (arm ∷ arms) =
    three (word key.Else ++ arm) (flat_map (λ arm. word key.Else ++ arm) arms) (word key.Else)
    ∙ ap (λ (t : Tokens). (word key.Else ++ arm) ++ t) (else-behind arms)
    ∙ sym (three (word key.Else ++ arm) (word key.Else) (flat_map (λ arm. arm ++ word key.Else) arms))

-- an arm, and what stands behind its "else"
elses-behind : (arm : Tokens) (arms : List Tokens) (other : Tokens) → (elses (arm ∷ arms) ++ word key.Else) ++ other ≡ arm ++ (word key.Else ++ (flat_map (λ arm. arm ++ word key.Else) arms ++ other))
elses-behind arm arms other =
    ap (λ (t : Tokens). t ++ other) (three arm (flat_map (λ arm. word key.Else ++ arm) arms) (word key.Else) ∙ ap (λ (t : Tokens). arm ++ t) (else-behind arms))
    ∙ three arm (word key.Else ++ flat_map (λ arm. arm ++ word key.Else) arms) other

-- an arm, "else" and what follows, as they are wanted behind the "if"
arm-parts : (cond value rest : Tokens) → ((word key.If ++ cond) ++ in_braces value) ++ (word key.Else ++ rest) ≡ tok.Key key.If ∷ (cond ++ (mark sign.OpenBrace ++ (value ++ (mark sign.CloseBrace ++ (word key.Else ++ (rest ++ []))))))
arm-parts cond value rest =
    ap (λ (t : Tokens). tok.Key key.If ∷ t)
    (three cond (in_braces value) (word key.Else ++ rest)
    ∙ ap (λ (t : Tokens). cond ++ (mark sign.OpenBrace ++ t)) (three value (mark sign.CloseBrace) (word key.Else ++ rest)
    ∙ ap (λ (t : Tokens). value ++ (mark sign.CloseBrace ++ (word key.Else ++ t))) (sym (append-nil rest))))

choice-of : (vs : Values choice_rest) → ExprOf 0 (tok.Key key.If ∷ spells choice_rest vs)
choice-of (cond, (left, (value, (close, (other, (rest, end)))))) =
    let arm = arm-of cond value in
    made 0 (Expr-F.If 0 (arm.value.value ∷ rest.arms.items) rest.other.value)
    (elses-behind (expr_arm_tokens arm.value.value) (map expr_arm_tokens rest.arms.items) (in_braces (expr_tokens rest.other.value))
    ∙ ap (λ (t : Tokens). t ++ (word key.Else ++ choice_tokens rest)) arm.spells
    ∙ arm-parts (expr_tokens cond.value) (expr_tokens value.value) (choice_tokens rest))
    (placed 0 0 _ (true-and _ _ (true-and _ _ refl (true-and _ _ arm.value.good rest.arms.all)) rest.other.good) refl)

pub else_rest-takes : (t : Tok) → Takes (λ u. Meets want.else_rest (t ∷ u)) (else_rest_step t)
else_rest-takes (tok.Key key.If) = λ vs. more-arms vs
  where
    more-arms : (vs : Values choice_rest) → Meets want.else_rest (tok.Key key.If ∷ spells choice_rest vs)
    more-arms (cond, (left, (value, (close, (other, (rest, end)))))) =
        let arm = arm-of cond value in
        record {
          value = record { arms = one_more arm.value.value arm.value.good rest.arms; other = rest.other };
          spells =
              three (expr_arm_tokens arm.value.value ++ word key.Else) (flat_map (λ arm. arm ++ word key.Else) (map expr_arm_tokens rest.arms.items)) (in_braces (expr_tokens rest.other.value))
              ∙ three (expr_arm_tokens arm.value.value) (word key.Else) (choice_tokens rest)
              ∙ ap (λ (t : Tokens). t ++ (word key.Else ++ choice_tokens rest)) arm.spells
              ∙ arm-parts (expr_tokens cond.value) (expr_tokens value.value) (choice_tokens rest);
        }
else_rest-takes (tok.Sign sign.OpenBrace) = λ (value, (close, end)). record { value = record { arms = record { items = []; all = refl }; other = value }; spells = refl }
else_rest-takes _ = tt

-- an expression that begins with a builtin's word
builtin-of : (which : Key) → is_builtin which ≡ true → (vs : Values args) → ExprOf 0 (tok.Key which ∷ spells args vs)
builtin-of which h (left, (own, end)) =
    made 0 (Expr-F.Builtin which 0 own.items)
    (ap (λ (t : Tokens). tok.Key which ∷ tok.Sign sign.OpenParen ∷ t) (sym (append-nil (spelled want.args_rest own))))
    (placed 0 0 _ (true-and _ _ h own.all) refl)

prim_key-takes : (which : Key) → Takes (λ u. ExprOf 0 (tok.Key which ∷ u)) (prim_key which)
prim_key-takes key.True = λ vs. made 0 (Expr-F.Truth 0 true) refl refl
prim_key-takes key.False = λ vs. made 0 (Expr-F.Truth 0 false) refl refl
prim_key-takes key.Elapsed = λ vs. made 0 (Expr-F.Elapsed 0) refl refl
prim_key-takes key.New = λ (owner, (left, (name, (colon, (value, (more, (close, end))))))). new-of owner name value more
prim_key-takes key.NoneOf = λ (left, (ty, (close, end))). made 0 (Expr-F.NoneOf 0 ty) refl refl
prim_key-takes key.EmptyOf = λ (left, (ty, (close, end))). made 0 (Expr-F.EmptyOf 0 ty) refl refl
prim_key-takes key.If = choice-of
prim_key-takes which = go_if-takes (λ u. ExprOf 0 (tok.Key which ∷ u)) (is_builtin which) args (builtin-of which)

pub prim-takes : (t : Tok) → Takes (λ u. ExprOf 0 (t ∷ u)) (prim_step t)
prim-takes (tok.Int value) = λ vs. made 0 (Expr-F.Number 0 value) refl refl
prim-takes (tok.Ident name) = λ (own, end). spelled-same (ap (λ (t : Tokens). tok.Ident name ∷ t) (sym (append-nil own.tokens))) (own.whole (named name))
prim-takes (tok.Key which) = prim_key-takes which
prim-takes (tok.Sign sign.OpenParen) = λ (inner, (close, end)). made 0 (Expr-F.Paren 0 inner.value) refl (placed 0 0 _ inner.good refl)
prim-takes (tok.Sign sign.OpenBracket) = λ (own, end). spelled-same (ap (λ (t : Tokens). tok.Sign sign.OpenBracket ∷ t) (sym (append-nil own.tokens))) (own.whole tt)
prim-takes _ = tt

-- the first token of an expression that begins as a primary one
followed-expr : (t : Tok) → Takes (λ u. ExprOf 9 (t ∷ u)) (followed (prim_step t) (want.suffixes ∷ want.factors ∷ want.terms ∷ want.comparison ∷ want.conjuncts ∷ want.disjuncts ∷ want.fallback ∷ []))
followed-expr t =
    followed-takes (λ u. ExprOf 0 (t ∷ u)) (λ u. ExprOf 9 (t ∷ u)) (prim_step t) _ (prim-takes t)
    (λ u own vs. spelled-same (ap (λ (w : Tokens). w ++ spells (want.suffixes ∷ want.factors ∷ want.terms ∷ want.comparison ∷ want.conjuncts ∷ want.disjuncts ∷ want.fallback ∷ []) vs) own.spells) (expr-of (false, (false, (own.value, vs)))))

pub expr-takes : (t : Tok) → Takes (λ u. ExprOf 9 (t ∷ u)) (expr_step t)
expr-takes (tok.Key key.Not) = λ vs. expr-of (true, vs)
expr-takes (tok.Sign sign.Minus) = λ vs. expr-of (false, (true, vs))
expr-takes t = followed-expr t

pub after_name-takes : (t : Tok) → Takes (λ u. Meets want.after_name (t ∷ u)) (after_name_step t)
after_name-takes (tok.Sign sign.OpenParen) = λ (own, end). record {
  value = record {
    tokens = tok.Sign sign.OpenParen ∷ (spelled want.args_rest own ++ []);
    whole = λ name. made 0 (Expr-F.Call name own.items) (ap (λ (t : Tokens). id_tokens name ++ (tok.Sign sign.OpenParen ∷ t)) (sym (append-nil (spelled want.args_rest own)))) (placed 0 0 _ own.all refl);
  };
  spells = refl;
}
after_name-takes (tok.Sign sign.ColonColon) = λ (variant, end). record {
  value = record { tokens = tok.Sign sign.ColonColon ∷ id_tokens variant; whole = λ name. made 0 (Expr-F.Variant name variant) refl refl };
  spells = refl;
}
after_name-takes _ = tt

pub after_name-none : Meets want.after_name []
after_name-none = record { value = record { tokens = []; whole = λ name. made 0 (Expr-F.Name name) refl refl }; spells = refl }

-- {"," expr} behind an expression
several-of : {u : Tokens} → ExprOf 9 u → (more : Value want.more_exprs) (last : Tokens) → Spelled (λ (v : Several level_of (stands_at 9)). commas (map expr_tokens v.items) ++ last) (u ++ (commas_rest (map expr_tokens more.items) ++ (last ++ [])))
several-of {u} own more last = record {
  value = one_more own.value.value own.value.good more;
  spells =
      three (expr_tokens own.value.value) (commas_rest (map expr_tokens more.items)) last
      ∙ ap (λ (t : Tokens). t ++ (commas_rest (map expr_tokens more.items) ++ last)) own.spells
      ∙ ap (λ (t : Tokens). u ++ (commas_rest (map expr_tokens more.items) ++ t)) (sym (append-nil last));
}

args-behind : (t : Tok) → Takes (λ u. Meets want.args_rest (t ∷ u)) (followed (expr_step t) (want.more_exprs ∷ want.mark sign.CloseParen ∷ []))
args-behind t =
    followed-takes (λ u. ExprOf 9 (t ∷ u)) (λ u. Meets want.args_rest (t ∷ u)) (expr_step t) _ (expr-takes t)
    (λ u own vs. several-of own vs.0 (mark sign.CloseParen))

pub args_rest-takes : (t : Tok) → Takes (λ u. Meets want.args_rest (t ∷ u)) (args_rest_step t)
args_rest-takes (tok.Sign sign.CloseParen) = λ vs. record { value = record { items = []; all = refl }; spells = refl }
args_rest-takes t = args-behind t

more_expr-takes : (t : Tok) → Takes (λ u. Spelled (λ (v : Good (λ e. stands_at 9 (level_of e))). mark sign.Comma ++ expr_tokens v.value) (t ∷ u)) (more_expr_step t)
more_expr-takes (tok.Sign sign.Comma) = λ (value, end). record { value = value; spells = ap (λ (t : Tokens). tok.Sign sign.Comma ∷ t) (sym (append-nil (expr_tokens value.value))) }
more_expr-takes _ = tt

pub more_exprs-sound : (t : Tok) → Sound (λ u. Meets want.more_exprs (t ∷ u)) (Meets want.more_exprs []) (repeated want.more_exprs (more_expr_step t))
more_exprs-sound t =
    repeated-sound (Spelled (λ (v : Good (λ e. stands_at 9 (level_of e))). mark sign.Comma ++ expr_tokens v.value)) want.more_exprs t (more_expr_step t) (more_expr-takes t)
    (several-join level_of (stands_at 9) (λ v. mark sign.Comma ++ expr_tokens v) (λ items. commas_rest (map expr_tokens items)) (λ x xs. refl))
    (record { value = record { items = []; all = refl }; spells = refl })

abbrev MoreField : Tokens → Type 0
MoreField = Spelled (λ (v : Good is_field_set). mark sign.Comma ++ field_set_tokens v.value)

more_field-of : (vs : Values field_set) → MoreField (tok.Sign sign.Comma ∷ spells field_set vs)
more_field-of (name, (colon, (value, end))) =
    let own = field-of name value in
    record { value = own.value; spells = ap (λ (t : Tokens). tok.Sign sign.Comma ∷ t) (own.spells ∙ ap (λ (t : Tokens). id_tokens name ++ (mark sign.Colon ++ t)) (sym (append-nil (expr_tokens value.value)))) }

more_field-takes : (t : Tok) → Takes (λ u. MoreField (t ∷ u)) (more_field_step t)
more_field-takes (tok.Sign sign.Comma) = more_field-of
more_field-takes _ = tt

pub more_fields-sound : (t : Tok) → Sound (λ u. Meets want.more_fields (t ∷ u)) (Meets want.more_fields []) (repeated want.more_fields (more_field_step t))
more_fields-sound t =
    repeated-sound MoreField want.more_fields t (more_field_step t) (more_field-takes t)
    (several-join is_field_set (λ holds. holds) (λ v. mark sign.Comma ++ field_set_tokens v) (λ items. commas_rest (map field_set_tokens items)) (λ x xs. refl))
    (record { value = record { items = []; all = refl }; spells = refl })

pub test-takes : (t : Tok) → Takes (λ u. Meets want.test (t ∷ u)) (test_step t)
test-takes (tok.Key key.If) = λ (value, end). record { value = Some value; spells = ap (λ (t : Tokens). tok.Key key.If ∷ t) (sym (append-nil (expr_tokens value.value))) }
test-takes _ = tt

-- "[" "for" id "in" expr ["if" expr] ":" expr "]"
abbrev each_wants : Wants
each_wants = want.name ∷ want.word key.In ∷ want.expr ∷ want.test ∷ want.mark sign.Colon ∷ want.expr ∷ want.mark sign.CloseBracket ∷ []

each-of : (name : Id) (list : Good is_expr) (test : Option (Good is_expr)) (value : Good is_expr) → ExprOf 0 (tok.Sign sign.OpenBracket ∷ tok.Key key.For ∷ (id_tokens name ++ (word key.In ++ (expr_tokens list.value ++ (spelled want.test test ++ (mark sign.Colon ++ (expr_tokens value.value ++ mark sign.CloseBracket)))))))
each-of name list None value =
    made 0 (Expr-F.Each 0 name list.value None value.value)
    (simp append_assoc)
    (placed 0 0 _ (true-and _ _ (true-and _ _ list.good refl) value.good) refl)
each-of name list (Some test) value =
    made 0 (Expr-F.Each 0 name list.value (Some test.value) value.value)
    (simp append_assoc)
    (placed 0 0 _ (true-and _ _ (true-and _ _ list.good test.good) value.good) refl)

row-behind : (t : Tok) → Takes (λ u. Meets want.row_rest (t ∷ u)) (followed (expr_step t) (want.more_exprs ∷ want.mark sign.CloseBracket ∷ []))
unfolding several-of
row-behind t =
    followed-takes (λ u. ExprOf 9 (t ∷ u)) (λ u. Meets want.row_rest (t ∷ u)) (expr_step t) _ (expr-takes t)
    (λ u own vs. let items = several-of own vs.0 (mark sign.CloseBracket) in record {
      value = record {
        tokens = commas (map expr_tokens items.value.items) ++ mark sign.CloseBracket;
        whole = λ left. made 0 (Expr-F.List 0 (own.value.value ∷ vs.0.items)) refl (placed 0 0 _ (true-and _ _ refl items.value.all) refl);
      };
      spells = items.spells;
    })

pub row_rest-takes : (t : Tok) → Takes (λ u. Meets want.row_rest (t ∷ u)) (row_rest_step t)
row_rest-takes (tok.Key key.For) = λ (name, (word_in, (list, (test, (colon, (value, (close, end))))))). record {
  value = record { tokens = _; whole = λ left. each-of name list test value };
  spells = refl;
}
row_rest-takes t = row-behind t
