-- Expressions with lists of parts that were read, and the parts of chains.
use Rattle.std.proofs.Common.{◌≡◌, ℕ, ◌+◌, ◌<◌, ◌≤◌, Bool, true, false, ◌&&◌, List, [], ◌∷◌, ◌++◌, length, map, Option, Some, Result, Ok, Err, refl, sym, ap, subst, ◌∙◌, arith, append_assoc}
use Rattle.std.specs.Prelude.{option_and_then, ◌==◌, IfOk}
use Rattle.std.specs.List.{list_all}
use Rattle.std.proofs.lemmas.Bool.Decides.{Decides-eqb}
use Rattle.dsde_syntax.specs.declared.token.Tok.{Tok}
use Rattle.dsde_syntax.specs.declared.token.Tok.TheVariants as tok
use Rattle.dsde_words.specs.declared.key.Key.{Key}
use Rattle.dsde_words.specs.declared.key.Key.TheVariants as key
use Rattle.dsde_syntax.specs.declared.token.Sign.{Sign}
use Rattle.dsde_syntax.specs.declared.token.Sign.TheVariants as sign
use Rattle.dsde_syntax.specs.declared.id.Id.{Id}
use Rattle.dsde_syntax.specs.declared.expr.Expr.{Expr}
use Rattle.dsde_syntax.specs.declared.expr.Expr.TheVariants as expr
use Rattle.dsde_syntax.specs.declared.expr.Expr.TheVariants.{rolls-Call, rolls-New, rolls-Builtin, rolls-List, rolls-If}
use Rattle.dsde_syntax.specs.declared.expr.Suffix.{Suffix}
use Rattle.dsde_syntax.specs.declared.expr.ExprArm.{ExprArm}
use Rattle.dsde_syntax.specs.declared.expr.FieldSet.{FieldSet}
use Rattle.dsde_syntax.specs.declared.expr.SignTail.{SignTail}
use Rattle.dsde_syntax.specs.declared.expr.Tail.{Tail}
use Rattle.dsde_syntax.specs.declared.expr.Expr.TheOpen.{Expr-F, SignTail-F, Tail-F}
use Rattle.dsde_syntax.specs.declared.expr.Expr.TheViews.{roll-SignTail, roll-Tail}
use Rattle.dsde_syntax.specs.declared.expr.Expr.TheFolds.{fold-roll-Expr, fold-roll-SignTail, fold-roll-Tail}
use Rattle.dsde_syntax.specs.Grammar.{Tokens, word, mark, commas, elses, in_parens, in_braces, id_tokens, expr_step, suffix_step, expr_arm_step, field_set_step, sign_tail_step, tail_step, expr_tokens, expr_arm_tokens, field_set_tokens, sign_tail_tokens}
use Rattle.dsde_syntax.specs.Levels.{level_if, stands_at, has_first, may_follow, is_builtin, is_expr, is_sum_sign, is_mul_sign, level_step, suffix_level_step, expr_arm_level_step, field_set_level_step, sign_tail_level_step, tail_level_step, level_of, is_expr_arm, is_field_set, sign_tail_level, tail_level}
use Rattle.dsde_syntax.specs.Places.{Span, ◌>>◌, token, token_at, begins_at, id_span, args_span, bracketed, spans_with, span_step, suffix_span_step, expr_arm_span_step, field_set_span_step, sign_tail_span_step, tail_span_step, expr_span, expr_arm_span, field_set_span, sign_tail_span, tail_span}
use Rattle.dsde_parser_expressions.specs.declared.parser.ParseError.{ParseError}
use Rattle.dsde_parser_expressions.specs.Took.{Spot, Took, TookOne, Takes, Reads}
use Rattle.dsde_parser_expressions.specs.Parts.{IsWithin, AllOk, SomeOk, IsOk, commas_by, elses_by, spans_by, or_tail_tokens, and_tail_tokens}
use Rattle.dsde_parser_expressions.proofs.ChainLemmas.{le-stands, all-map}
use Rattle.dsde_parser_expressions.proofs.TookLemmas.{Took-between}

pub boxed-Reads : {before after : Spot} {k : ℕ} (result : Result Expr ParseError) (e : Expr) → IfOk result (λ own. own ≡ e) → Took expr_tokens expr_span (IsWithin k) before after e → Reads expr_tokens expr_span (IsWithin k) before result after
boxed-Reads {before} {after} {k} (Ok own) e h took = subst (λ (e : Expr). Took expr_tokens expr_span (IsWithin k) before after e) (sym h) took
boxed-Reads (Err error) e h took = tt

pub no-empty : {A : Type 0} {list : List A} → (list ≡ [] → false ≡ true) → list ≡ [] → ⊥
no-empty h e = let no : false ≡ true = h e in cc

-- a token was taken where a test found it
pub taken : (token : Tok) (before after : Spot) (test : Bool) → Takes token before test after → test ≡ true → TookOne token before after
taken token before after true took h = took
taken token before after false took h = cc

pub begins-here : (at index : ℕ) → at ≡ index → begins_at at index ≡ Some index
begins-here at index h = let same : (at == index) ≡ true = (Decides-eqb at index).1 h in rw same refl

pub token-here : (at index : ℕ) → at ≡ index → token_at at index ≡ Some (index + 1)
token-here at index h = let same : (at == index) ≡ true = (Decides-eqb at index).1 h in rw same refl

-- the operands of a chain

pub or_tail-Took : {before mid after : Spot} (at : ℕ) (e : Expr) → TookOne (tok.Key key.Or) before mid → at ≡ before.0 → Took expr_tokens expr_span (IsWithin 7) mid after e → Took or_tail_tokens tail_span (IsOk (λ tail. stands_at 7 (tail_level tail))) before after (roll-Tail (record { at = at; value = e }))
or_tail-Took {before} {mid} {after} at e one place own =
    let x : Tail-F Expr Suffix ExprArm FieldSet SignTail Tail = record { at = at; value = e } in
    let toks = fold-roll-Tail Tokens Tokens Tokens Tokens Tokens Tokens expr_step suffix_step expr_arm_step field_set_step sign_tail_step tail_step x in
    let span = fold-roll-Tail Span Span Span Span Span Span span_step suffix_span_step expr_arm_span_step field_set_span_step sign_tail_span_step tail_span_step x in
    let lvl = fold-roll-Tail ℕ Bool Bool Bool (Sign × ℕ) ℕ level_step suffix_level_step expr_arm_level_step field_set_level_step sign_tail_level_step tail_level_step x in
    record {
      spells = one.comes ∙ ap (λ (own : Tokens). tok.Key key.Or ∷ own) (own.spells ∙ ap (λ (own : Tokens). own ++ after.1) (sym toks));
      placed = ap (λ (own : Span). own before.0) span ∙ (ap (λ (got : Option ℕ). option_and_then (expr_span e) got) (token-here at before.0 place) ∙ (ap (expr_span e) (sym one.next) ∙ own.placed));
      good = ap (stands_at 7) lvl ∙ le-stands (level_of e) 7 own.good;
      shorter = omega (arith, ap length one.comes, own.shorter);
      moved = omega (arith, one.next, ap length one.comes, own.moved);
    }

pub and_tail-Took : {before mid after : Spot} (at : ℕ) (e : Expr) → TookOne (tok.Key key.And) before mid → at ≡ before.0 → Took expr_tokens expr_span (IsWithin 6) mid after e → Took and_tail_tokens tail_span (IsOk (λ tail. stands_at 6 (tail_level tail))) before after (roll-Tail (record { at = at; value = e }))
and_tail-Took {before} {mid} {after} at e one place own =
    let x : Tail-F Expr Suffix ExprArm FieldSet SignTail Tail = record { at = at; value = e } in
    let toks = fold-roll-Tail Tokens Tokens Tokens Tokens Tokens Tokens expr_step suffix_step expr_arm_step field_set_step sign_tail_step tail_step x in
    let span = fold-roll-Tail Span Span Span Span Span Span span_step suffix_span_step expr_arm_span_step field_set_span_step sign_tail_span_step tail_span_step x in
    let lvl = fold-roll-Tail ℕ Bool Bool Bool (Sign × ℕ) ℕ level_step suffix_level_step expr_arm_level_step field_set_level_step sign_tail_level_step tail_level_step x in
    record {
      spells = one.comes ∙ ap (λ (own : Tokens). tok.Key key.And ∷ own) (own.spells ∙ ap (λ (own : Tokens). own ++ after.1) (sym toks));
      placed = ap (λ (own : Span). own before.0) span ∙ (ap (λ (got : Option ℕ). option_and_then (expr_span e) got) (token-here at before.0 place) ∙ (ap (expr_span e) (sym one.next) ∙ own.placed));
      good = ap (stands_at 6) lvl ∙ le-stands (level_of e) 6 own.good;
      shorter = omega (arith, ap length one.comes, own.shorter);
      moved = omega (arith, one.next, ap length one.comes, own.moved);
    }

pub sum_tail-Took : {before mid after : Spot} (which : Sign) (at : ℕ) (e : Expr) → TookOne (tok.Sign which) before mid → is_sum_sign which ≡ true → at ≡ before.0 → Took expr_tokens expr_span (IsWithin 3) mid after e → Took sign_tail_tokens sign_tail_span (IsOk (λ tail. may_follow is_sum_sign 3 (sign_tail_level tail))) before after (roll-SignTail (record { sign = which; at = at; value = e }))
sum_tail-Took {before} {mid} {after} which at e one fits place own =
    let x : SignTail-F Expr Suffix ExprArm FieldSet SignTail Tail = record { sign = which; at = at; value = e } in
    let toks = fold-roll-SignTail Tokens Tokens Tokens Tokens Tokens Tokens expr_step suffix_step expr_arm_step field_set_step sign_tail_step tail_step x in
    let span = fold-roll-SignTail Span Span Span Span Span Span span_step suffix_span_step expr_arm_span_step field_set_span_step sign_tail_span_step tail_span_step x in
    let lvl = fold-roll-SignTail ℕ Bool Bool Bool (Sign × ℕ) ℕ level_step suffix_level_step expr_arm_level_step field_set_level_step sign_tail_level_step tail_level_step x in
    let stands = le-stands (level_of e) 3 own.good in
    record {
      spells = one.comes ∙ (ap (λ (own : Tokens). tok.Sign which ∷ own) own.spells ∙ ap (λ (own : Tokens). own ++ after.1) (sym toks));
      placed = ap (λ (own : Span). own before.0) span ∙ (ap (λ (got : Option ℕ). option_and_then (expr_span e) got) (token-here at before.0 place) ∙ (ap (expr_span e) (sym one.next) ∙ own.placed));
      good = ap (may_follow is_sum_sign 3) lvl ∙ rw (fits, stands) refl;
      shorter = omega (arith, ap length one.comes, own.shorter);
      moved = omega (arith, one.next, ap length one.comes, own.moved);
    }

pub mul_tail-Took : {before mid after : Spot} (which : Sign) (at : ℕ) (e : Expr) → TookOne (tok.Sign which) before mid → is_mul_sign which ≡ true → at ≡ before.0 → Took expr_tokens expr_span (IsWithin 2) mid after e → Took sign_tail_tokens sign_tail_span (IsOk (λ tail. may_follow is_mul_sign 2 (sign_tail_level tail))) before after (roll-SignTail (record { sign = which; at = at; value = e }))
mul_tail-Took {before} {mid} {after} which at e one fits place own =
    let x : SignTail-F Expr Suffix ExprArm FieldSet SignTail Tail = record { sign = which; at = at; value = e } in
    let toks = fold-roll-SignTail Tokens Tokens Tokens Tokens Tokens Tokens expr_step suffix_step expr_arm_step field_set_step sign_tail_step tail_step x in
    let span = fold-roll-SignTail Span Span Span Span Span Span span_step suffix_span_step expr_arm_span_step field_set_span_step sign_tail_span_step tail_span_step x in
    let lvl = fold-roll-SignTail ℕ Bool Bool Bool (Sign × ℕ) ℕ level_step suffix_level_step expr_arm_level_step field_set_level_step sign_tail_level_step tail_level_step x in
    let stands = le-stands (level_of e) 2 own.good in
    record {
      spells = one.comes ∙ (ap (λ (own : Tokens). tok.Sign which ∷ own) own.spells ∙ ap (λ (own : Tokens). own ++ after.1) (sym toks));
      placed = ap (λ (own : Span). own before.0) span ∙ (ap (λ (got : Option ℕ). option_and_then (expr_span e) got) (token-here at before.0 place) ∙ (ap (expr_span e) (sym one.next) ∙ own.placed));
      good = ap (may_follow is_mul_sign 2) lvl ∙ rw (fits, stands) refl;
      shorter = omega (arith, ap length one.comes, own.shorter);
      moved = omega (arith, one.next, ap length one.comes, own.moved);
    }

-- a node whose tokens, span and level are these
node-Took : {before after : Spot} (node : Expr) (t : Tokens) (s : Span) (own k : ℕ) → expr_tokens node ≡ t → expr_span node ≡ s → level_of node ≡ own → before.1 ≡ t ++ after.1 → s before.0 ≡ Some after.0 → own ≤ k → length after.1 < length before.1 → after.0 + length after.1 ≡ before.0 + length before.1 → Took expr_tokens expr_span (IsWithin k) before after node
node-Took {before} {after} node t s own k toks span lvl spells placed level shorter moved = record {
  spells = spells ∙ ap (λ (own : Tokens). own ++ after.1) (sym toks);
  placed = ap (λ (own : Span). own before.0) span ∙ placed;
  good = let P : ℕ → Type 0 = λ own. own ≤ k in subst P (sym lvl) level;
  shorter = shorter;
  moved = moved;
}

level-one : (b : Bool) (k : ℕ) → b ≡ true → level_if b k ≤ k
level-one b k h = rw h (omega arith)

true-and : (a b : Bool) → a ≡ true → b ≡ true → (a && b) ≡ true
true-and a b h1 h2 = rw (h1, h2) refl

has-map : {A B : Type 0} (f : A → B) (xs : List A) → has_first xs ≡ true → has_first (map f xs) ≡ true
has-map f [] h = h
has-map f (x ∷ xs) h = refl

pub call-Took : {before mid after : Spot} (name : Id) (args : List Expr) → before.1 ≡ id_tokens name ++ mid.1 → id_span name before.0 ≡ Some mid.0 → length mid.1 < length before.1 → mid.0 + length mid.1 ≡ before.0 + length before.1 → Took (λ args. in_parens (commas (map expr_tokens args))) (λ args. args_span (map expr_span args)) (AllOk is_expr) mid after args → Took expr_tokens expr_span (IsWithin 0) before after (expr.Call name args)
call-Took {before} {mid} {after} name args spells placed shorter moved own =
    node-Took (expr.Call name args) _ _ _ 0
    (ap expr_tokens (sym (rolls-Call name args)) ∙ fold-roll-Expr Tokens Tokens Tokens Tokens Tokens Tokens expr_step suffix_step expr_arm_step field_set_step sign_tail_step tail_step (Expr-F.Call name args))
    (ap expr_span (sym (rolls-Call name args)) ∙ fold-roll-Expr Span Span Span Span Span Span span_step suffix_span_step expr_arm_span_step field_set_span_step sign_tail_span_step tail_span_step (Expr-F.Call name args))
    (ap level_of (sym (rolls-Call name args)) ∙ fold-roll-Expr ℕ Bool Bool Bool (Sign × ℕ) ℕ level_step suffix_level_step expr_arm_level_step field_set_level_step sign_tail_level_step tail_level_step (Expr-F.Call name args))
    (spells ∙ ap (λ (own : Tokens). id_tokens name ++ own) own.spells)
    (ap (λ (got : Option ℕ). option_and_then (args_span (map expr_span args)) got) placed ∙ own.placed)
    (level-one (list_all (stands_at 9) (map level_of args)) 0 (all-map level_of (stands_at 9) args own.good))
    (omega (arith, shorter, own.shorter))
    (omega (arith, moved, own.moved))

pub builtin-Took : {before mid after : Spot} (which : Key) (at : ℕ) (args : List Expr) → TookOne (tok.Key which) before mid → is_builtin which ≡ true → at ≡ before.0 → Took (λ args. in_parens (commas (map expr_tokens args))) (λ args. args_span (map expr_span args)) (AllOk is_expr) mid after args → Took expr_tokens expr_span (IsWithin 0) before after (expr.Builtin which at args)
builtin-Took {before} {mid} {after} which at args one fits place own =
    node-Took (expr.Builtin which at args) _ _ _ 0
    (ap expr_tokens (sym (rolls-Builtin which at args)) ∙ fold-roll-Expr Tokens Tokens Tokens Tokens Tokens Tokens expr_step suffix_step expr_arm_step field_set_step sign_tail_step tail_step (Expr-F.Builtin which at args))
    (ap expr_span (sym (rolls-Builtin which at args)) ∙ fold-roll-Expr Span Span Span Span Span Span span_step suffix_span_step expr_arm_span_step field_set_span_step sign_tail_span_step tail_span_step (Expr-F.Builtin which at args))
    (ap level_of (sym (rolls-Builtin which at args)) ∙ fold-roll-Expr ℕ Bool Bool Bool (Sign × ℕ) ℕ level_step suffix_level_step expr_arm_level_step field_set_level_step sign_tail_level_step tail_level_step (Expr-F.Builtin which at args))
    (one.comes ∙ ap (λ (own : Tokens). tok.Key which ∷ own) own.spells)
    (ap (λ (got : Option ℕ). option_and_then (args_span (map expr_span args)) got) (token-here at before.0 place) ∙ (ap (args_span (map expr_span args)) (sym one.next) ∙ own.placed))
    (level-one (is_builtin which && list_all (stands_at 9) (map level_of args)) 0 (true-and (is_builtin which) (list_all (stands_at 9) (map level_of args)) fits (all-map level_of (stands_at 9) args own.good)))
    (omega (arith, ap length one.comes, own.shorter))
    (omega (arith, one.next, ap length one.comes, own.moved))

pub row-Took : {before mid after : Spot} (at : ℕ) (items : List Expr) → TookOne (tok.Sign sign.OpenBracket) before mid → at ≡ before.0 → Took (λ own. commas_by expr_tokens own ++ mark sign.CloseBracket) (λ own. spans_by expr_span own >> token) (SomeOk is_expr) mid after items → Took expr_tokens expr_span (IsWithin 0) before after (expr.List at items)
row-Took {before} {mid} {after} at items one place own =
    let whole = Took-between (commas_by expr_tokens) (spans_by expr_span) (tok.Sign sign.CloseBracket) one own in
    node-Took (expr.List at items) _ _ _ 0
    (ap expr_tokens (sym (rolls-List at items)) ∙ fold-roll-Expr Tokens Tokens Tokens Tokens Tokens Tokens expr_step suffix_step expr_arm_step field_set_step sign_tail_step tail_step (Expr-F.List at items))
    (ap expr_span (sym (rolls-List at items)) ∙ fold-roll-Expr Span Span Span Span Span Span span_step suffix_span_step expr_arm_span_step field_set_span_step sign_tail_span_step tail_span_step (Expr-F.List at items))
    (ap level_of (sym (rolls-List at items)) ∙ fold-roll-Expr ℕ Bool Bool Bool (Sign × ℕ) ℕ level_step suffix_level_step expr_arm_level_step field_set_level_step sign_tail_level_step tail_level_step (Expr-F.List at items))
    whole.spells
    (ap (λ (got : Option ℕ). option_and_then (args_span (map expr_span items)) got) (begins-here at before.0 place) ∙ whole.placed)
    (level-one (has_first (map level_of items) && list_all (stands_at 9) (map level_of items)) 0 (true-and (has_first (map level_of items)) (list_all (stands_at 9) (map level_of items)) (has-map level_of items own.good.some) (all-map level_of (stands_at 9) items own.good.all)))
    whole.shorter
    whole.moved

pub new-Took : {before mid next after : Spot} (at : ℕ) (owner : Id) (fields : List FieldSet) → TookOne (tok.Key key.New) before mid → at ≡ before.0 → mid.1 ≡ id_tokens owner ++ next.1 → id_span owner mid.0 ≡ Some next.0 → length next.1 < length mid.1 → next.0 + length next.1 ≡ mid.0 + length mid.1 → Took (λ fields. in_braces (commas (map field_set_tokens fields))) (λ fields. args_span (map field_set_span fields)) (SomeOk is_field_set) next after fields → Took expr_tokens expr_span (IsWithin 0) before after (expr.New at owner fields)
new-Took {before} {mid} {next} {after} at owner fields one place spells placed shorter moved own =
    node-Took (expr.New at owner fields) _ _ _ 0
    (ap expr_tokens (sym (rolls-New at owner fields)) ∙ fold-roll-Expr Tokens Tokens Tokens Tokens Tokens Tokens expr_step suffix_step expr_arm_step field_set_step sign_tail_step tail_step (Expr-F.New at owner fields))
    (ap expr_span (sym (rolls-New at owner fields)) ∙ fold-roll-Expr Span Span Span Span Span Span span_step suffix_span_step expr_arm_span_step field_set_span_step sign_tail_span_step tail_span_step (Expr-F.New at owner fields))
    (ap level_of (sym (rolls-New at owner fields)) ∙ fold-roll-Expr ℕ Bool Bool Bool (Sign × ℕ) ℕ level_step suffix_level_step expr_arm_level_step field_set_level_step sign_tail_level_step tail_level_step (Expr-F.New at owner fields))
    (one.comes ∙ ap (λ (own : Tokens). tok.Key key.New ∷ own) (spells ∙ ap (λ (own : Tokens). id_tokens owner ++ own) own.spells))
    (ap (λ (got : Option ℕ). option_and_then (args_span (map field_set_span fields)) (option_and_then (id_span owner) got)) (token-here at before.0 place)
    ∙ (ap (λ (index : ℕ). option_and_then (args_span (map field_set_span fields)) (id_span owner index)) (sym one.next)
    ∙ (ap (λ (got : Option ℕ). option_and_then (args_span (map field_set_span fields)) got) placed ∙ own.placed)))
    (level-one (has_first (map is_field_set fields) && list_all (λ ok. ok) (map is_field_set fields)) 0 (true-and (has_first (map is_field_set fields)) (list_all (λ ok. ok) (map is_field_set fields)) (has-map is_field_set fields own.good.some) (all-map is_field_set (λ ok. ok) fields own.good.all)))
    (omega (arith, ap length one.comes, shorter, own.shorter))
    (omega (arith, one.next, ap length one.comes, moved, own.moved))

pub choice-Took : {before mid after : Spot} (at : ℕ) (arms : List ExprArm) (other : Expr) → at ≡ before.0 → Took (λ own. elses_by expr_arm_tokens own ++ word key.Else) (λ own. spans_by expr_arm_span own >> token) (SomeOk is_expr_arm) before mid arms → Took (λ expr. in_braces (expr_tokens expr)) (λ expr. bracketed (expr_span expr)) (IsWithin 9) mid after other → Took expr_tokens expr_span (IsWithin 0) before after (expr.If at arms other)
choice-Took {before} {mid} {after} at arms other place begun own =
    node-Took (expr.If at arms other) _ _ _ 0
    (ap expr_tokens (sym (rolls-If at arms other)) ∙ fold-roll-Expr Tokens Tokens Tokens Tokens Tokens Tokens expr_step suffix_step expr_arm_step field_set_step sign_tail_step tail_step (Expr-F.If at arms other))
    (ap expr_span (sym (rolls-If at arms other)) ∙ fold-roll-Expr Span Span Span Span Span Span span_step suffix_span_step expr_arm_span_step field_set_span_step sign_tail_span_step tail_span_step (Expr-F.If at arms other))
    (ap level_of (sym (rolls-If at arms other)) ∙ fold-roll-Expr ℕ Bool Bool Bool (Sign × ℕ) ℕ level_step suffix_level_step expr_arm_level_step field_set_level_step sign_tail_level_step tail_level_step (Expr-F.If at arms other))
    (begun.spells ∙ (ap (λ (own : Tokens). (elses (map expr_arm_tokens arms) ++ word key.Else) ++ own) own.spells
    ∙ sym (append_assoc (elses (map expr_arm_tokens arms) ++ word key.Else) (in_braces (expr_tokens other)) after.1)))
    (ap (λ (got : Option ℕ). option_and_then (bracketed (expr_span other)) (option_and_then token (option_and_then (spans_with token (map expr_arm_span arms)) got))) (begins-here at before.0 place)
    ∙ (ap (λ (got : Option ℕ). option_and_then (bracketed (expr_span other)) got) begun.placed
    ∙ own.placed))
    (level-one ((has_first (map is_expr_arm arms) && list_all (λ ok. ok) (map is_expr_arm arms)) && stands_at 9 (level_of other)) 0
    (true-and (has_first (map is_expr_arm arms) && list_all (λ ok. ok) (map is_expr_arm arms)) (stands_at 9 (level_of other))
    (true-and (has_first (map is_expr_arm arms)) (list_all (λ ok. ok) (map is_expr_arm arms)) (has-map is_expr_arm arms begun.good.some) (all-map is_expr_arm (λ ok. ok) arms begun.good.all))
    (le-stands (level_of other) 9 own.good)))
    (omega (arith, begun.shorter, own.shorter))
    (omega (arith, begun.moved, own.moved))

-- an expression of the highest level is one of the grammar
pub whole-Took : {before after : Spot} {e : Expr} → Took expr_tokens expr_span (IsWithin 9) before after e → Took expr_tokens expr_span (IsOk is_expr) before after e
whole-Took {before} {after} {e} own = record { spells = own.spells; placed = own.placed; good = le-stands (level_of e) 9 own.good; shorter = own.shorter; moved = own.moved }
