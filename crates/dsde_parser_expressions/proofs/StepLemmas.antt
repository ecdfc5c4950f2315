-- Where the steps of the grammar pass over a want, and where they go as another want does.
use Rattle.std.proofs.Common.{◌≡◌, ℕ, ◌+◌, Bool, true, false, [], ◌∷◌, ◌++◌, Option, Some, None, refl, sym, ap, ◌∙◌, append_assoc}
use Rattle.std.specs.Prelude.{if◌then◌else◌}
use Rattle.dsde_syntax.specs.declared.token.Tok.{Tok}
use Rattle.dsde_syntax.specs.declared.token.Tok.TheVariants as tok
use Rattle.dsde_words.specs.declared.key.Key.{Key}
use Rattle.dsde_words.specs.declared.key.Key.TheVariants as key
use Rattle.dsde_syntax.specs.declared.token.Sign.TheVariants as sign
use Rattle.dsde_syntax.specs.Grammar.{Tokens}
use Rattle.dsde_syntax.specs.Levels.{is_builtin}
use Rattle.dsde_parser_grammar.specs.Want.{Want}
use Rattle.dsde_parser_grammar.specs.Want as want
use Rattle.dsde_parser_grammar.specs.Steps.{Wants, Step, go, pass, halt, go_if, repeated, optional, onward, behind, stop, all_may_end, is_key, is_sign, is_name, angles, args, exprs, field_set, choice_rest, braced_expr, set, block, loop_rest, arm_rest, typed, params, body, function_body, network_body, expr_wants, suffix_step, stmt_step, item_step, port_step, decl_step, factor_step, term_step, comparison_step}
use Rattle.dsde_parser_expressions.specs.Follows.{next_is, second_is, goes, is_else_if}
use Rattle.dsde_parser_expressions.specs.Took.{Spot, TookOne}

-- wants by which the same stands behind each token, and at the end, stop at the same place
pub same-stop : (some other : Wants) → all_may_end some ≡ all_may_end other → ((t : Tok) → behind some t ≡ behind other t) → (at : ℕ) (ts : Tokens) → stop some at ts ≡ stop other at ts
same-stop some other ends same at [] = ap (λ (b : Bool). if b then None else Some at) ends
same-stop some other ends same at (t ∷ ts) = ap (λ (next : Option Wants). elim next [ None ↦ Some at | Some wants ↦ stop wants (at + 1) ts ]) (same t)

more-behind : (again : Want) (s : Wants) (one : Step) (passed other : Option Wants) → goes one ≡ true → onward (repeated again one) s passed ≡ onward one (again ∷ s) other
more-behind again s (go wants) passed other h = ap (λ (w : Wants). Some w) (append_assoc wants (again ∷ []) s)
more-behind again s pass passed other h = cc
more-behind again s halt passed other h = cc

none-behind : (again : Want) (s : Wants) (one : Step) (passed : Option Wants) → goes one ≡ false → onward (repeated again one) s passed ≡ passed
none-behind again s (go wants) passed h = cc
none-behind again s pass passed h = refl
none-behind again s halt passed h = refl

some-behind : (s : Wants) (one : Step) (passed other : Option Wants) → goes one ≡ true → onward (optional one) s passed ≡ onward one s other
some-behind s (go wants) passed other h = refl
some-behind s pass passed other h = cc
some-behind s halt passed other h = cc

no-behind : (s : Wants) (one : Step) (passed : Option Wants) → goes one ≡ false → onward (optional one) s passed ≡ passed
no-behind s (go wants) passed h = cc
no-behind s pass passed h = refl
no-behind s halt passed h = refl

abbrev on : ℕ → Tokens → Option Wants → Option ℕ
on at ts next = elim next [ None ↦ Some at | Some wants ↦ stop wants (at + 1) ts ]

pub suffixes-more : (s : Wants) (at : ℕ) (ts : Tokens) → next_is (λ t. goes (suffix_step t)) ts ≡ true → stop (want.suffixes ∷ s) at ts ≡ stop (want.suffix ∷ want.suffixes ∷ s) at ts
suffixes-more s at [] h = cc
suffixes-more s at (t ∷ ts) h = ap (on at ts) (more-behind want.suffixes s (suffix_step t) (behind s t) (behind (want.suffixes ∷ s) t) h)

pub stmts-more : (s : Wants) (at : ℕ) (ts : Tokens) → next_is (λ t. goes (stmt_step t)) ts ≡ true → stop (want.stmts ∷ s) at ts ≡ stop (want.stmt ∷ want.stmts ∷ s) at ts
stmts-more s at [] h = cc
stmts-more s at (t ∷ ts) h = ap (on at ts) (more-behind want.stmts s (stmt_step t) (behind s t) (behind (want.stmts ∷ s) t) h)

pub items-more : (s : Wants) (at : ℕ) (ts : Tokens) → next_is (λ t. goes (item_step t)) ts ≡ true → stop (want.items ∷ s) at ts ≡ stop (want.item ∷ want.items ∷ s) at ts
items-more s at [] h = cc
items-more s at (t ∷ ts) h = ap (on at ts) (more-behind want.items s (item_step t) (behind s t) (behind (want.items ∷ s) t) h)

pub ports-more : (s : Wants) (at : ℕ) (ts : Tokens) → next_is (λ t. goes (port_step t)) ts ≡ true → stop (want.ports ∷ s) at ts ≡ stop (want.port ∷ want.ports ∷ s) at ts
ports-more s at [] h = cc
ports-more s at (t ∷ ts) h = ap (on at ts) (more-behind want.ports s (port_step t) (behind s t) (behind (want.ports ∷ s) t) h)

pub suffixes-none : (s : Wants) (at : ℕ) (ts : Tokens) → next_is (λ t. goes (suffix_step t)) ts ≡ false → stop (want.suffixes ∷ s) at ts ≡ stop s at ts
suffixes-none s at [] h = refl
suffixes-none s at (t ∷ ts) h = ap (on at ts) (none-behind want.suffixes s (suffix_step t) (behind s t) h)

pub stmts-none : (s : Wants) (at : ℕ) (ts : Tokens) → next_is (λ t. goes (stmt_step t)) ts ≡ false → stop (want.stmts ∷ s) at ts ≡ stop s at ts
stmts-none s at [] h = refl
stmts-none s at (t ∷ ts) h = ap (on at ts) (none-behind want.stmts s (stmt_step t) (behind s t) h)

pub items-none : (s : Wants) (at : ℕ) (ts : Tokens) → next_is (λ t. goes (item_step t)) ts ≡ false → stop (want.items ∷ s) at ts ≡ stop s at ts
items-none s at [] h = refl
items-none s at (t ∷ ts) h = ap (on at ts) (none-behind want.items s (item_step t) (behind s t) h)

pub ports-none : (s : Wants) (at : ℕ) (ts : Tokens) → next_is (λ t. goes (port_step t)) ts ≡ false → stop (want.ports ∷ s) at ts ≡ stop s at ts
ports-none s at [] h = refl
ports-none s at (t ∷ ts) h = ap (on at ts) (none-behind want.ports s (port_step t) (behind s t) h)

pub factors-none : (s : Wants) (at : ℕ) (ts : Tokens) → next_is (λ t. goes (factor_step t)) ts ≡ false → stop (want.factors ∷ s) at ts ≡ stop s at ts
factors-none s at [] h = refl
factors-none s at (t ∷ ts) h = ap (on at ts) (none-behind want.factors s (factor_step t) (behind s t) h)

pub terms-none : (s : Wants) (at : ℕ) (ts : Tokens) → next_is (λ t. goes (term_step t)) ts ≡ false → stop (want.terms ∷ s) at ts ≡ stop s at ts
terms-none s at [] h = refl
terms-none s at (t ∷ ts) h = ap (on at ts) (none-behind want.terms s (term_step t) (behind s t) h)

pub comparison-none : (s : Wants) (at : ℕ) (ts : Tokens) → next_is (λ t. goes (comparison_step t)) ts ≡ false → stop (want.comparison ∷ s) at ts ≡ stop s at ts
comparison-none s at [] h = refl
comparison-none s at (t ∷ ts) h = ap (on at ts) (no-behind s (comparison_step t) (behind s t) h)

pub disjuncts-none : (s : Wants) (at : ℕ) (ts : Tokens) → next_is (is_key key.Or) ts ≡ false → stop (want.disjuncts ∷ s) at ts ≡ stop s at ts
disjuncts-none s at (tok.Key key.Or ∷ ts) h = cc
disjuncts-none s at _ h = refl

pub conjuncts-none : (s : Wants) (at : ℕ) (ts : Tokens) → next_is (is_key key.And) ts ≡ false → stop (want.conjuncts ∷ s) at ts ≡ stop s at ts
conjuncts-none s at (tok.Key key.And ∷ ts) h = cc
conjuncts-none s at _ h = refl

pub negation-none : (s : Wants) (at : ℕ) (ts : Tokens) → next_is (is_key key.Not) ts ≡ false → stop (want.negation ∷ s) at ts ≡ stop s at ts
negation-none s at (tok.Key key.Not ∷ ts) h = cc
negation-none s at _ h = refl

pub minus-none : (s : Wants) (at : ℕ) (ts : Tokens) → next_is (is_sign sign.Minus) ts ≡ false → stop (want.minus ∷ s) at ts ≡ stop s at ts
minus-none s at (tok.Sign sign.Minus ∷ ts) h = cc
minus-none s at _ h = refl

pub fallback-none : (s : Wants) (at : ℕ) (ts : Tokens) → next_is (is_sign sign.QuestionQuestion) ts ≡ false → stop (want.fallback ∷ s) at ts ≡ stop s at ts
fallback-none s at (tok.Sign sign.QuestionQuestion ∷ ts) h = cc
fallback-none s at _ h = refl

pub more_exprs-none : (s : Wants) (at : ℕ) (ts : Tokens) → next_is (is_sign sign.Comma) ts ≡ false → stop (want.more_exprs ∷ s) at ts ≡ stop s at ts
more_exprs-none s at (tok.Sign sign.Comma ∷ ts) h = cc
more_exprs-none s at _ h = refl

pub more_fields-none : (s : Wants) (at : ℕ) (ts : Tokens) → next_is (is_sign sign.Comma) ts ≡ false → stop (want.more_fields ∷ s) at ts ≡ stop s at ts
more_fields-none s at (tok.Sign sign.Comma ∷ ts) h = cc
more_fields-none s at _ h = refl

pub more_names-none : (s : Wants) (at : ℕ) (ts : Tokens) → next_is (is_sign sign.Comma) ts ≡ false → stop (want.more_names ∷ s) at ts ≡ stop s at ts
more_names-none s at (tok.Sign sign.Comma ∷ ts) h = cc
more_names-none s at _ h = refl

pub more_typed-none : (s : Wants) (at : ℕ) (ts : Tokens) → next_is (is_sign sign.Comma) ts ≡ false → stop (want.more_typed ∷ s) at ts ≡ stop s at ts
more_typed-none s at (tok.Sign sign.Comma ∷ ts) h = cc
more_typed-none s at _ h = refl

pub test-none : (s : Wants) (at : ℕ) (ts : Tokens) → next_is (is_key key.If) ts ≡ false → stop (want.test ∷ s) at ts ≡ stop s at ts
test-none s at (tok.Key key.If ∷ ts) h = cc
test-none s at _ h = refl

pub other_stmts-none : (s : Wants) (at : ℕ) (ts : Tokens) → next_is (is_key key.Else) ts ≡ false → stop (want.other_stmts ∷ s) at ts ≡ stop s at ts
other_stmts-none s at (tok.Key key.Else ∷ ts) h = cc
other_stmts-none s at _ h = refl

pub other_items-none : (s : Wants) (at : ℕ) (ts : Tokens) → next_is (is_key key.Else) ts ≡ false → stop (want.other_items ∷ s) at ts ≡ stop s at ts
other_items-none s at (tok.Key key.Else ∷ ts) h = cc
other_items-none s at _ h = refl

pub index-none : (s : Wants) (at : ℕ) (ts : Tokens) → next_is (is_sign sign.OpenBracket) ts ≡ false → stop (want.index ∷ s) at ts ≡ stop s at ts
index-none s at (tok.Sign sign.OpenBracket ∷ ts) h = cc
index-none s at _ h = refl

pub entry_mark-soft : (s : Wants) (at : ℕ) (ts : Tokens) → next_is (is_sign sign.Colon) ts ≡ true → stop (want.entry_mark ∷ s) at ts ≡ stop (want.mark sign.Colon ∷ s) at ts
entry_mark-soft s at (tok.Sign sign.Colon ∷ ts) h = refl
entry_mark-soft s at _ h = cc

pub entry_mark-hard : (s : Wants) (at : ℕ) (ts : Tokens) → next_is (is_sign sign.Colon) ts ≡ false → stop (want.entry_mark ∷ s) at ts ≡ stop (want.word key.Is ∷ s) at ts
entry_mark-hard s at (tok.Sign sign.Colon ∷ ts) h = cc
entry_mark-hard s at (tok.Key key.Is ∷ ts) h = refl
entry_mark-hard s at _ h = refl

pub via-none : (s : Wants) (at : ℕ) (ts : Tokens) → next_is (is_key key.Via) ts ≡ false → stop (want.via ∷ s) at ts ≡ stop s at ts
via-none s at (tok.Key key.Via ∷ ts) h = cc
via-none s at _ h = refl

pub via_key-none : (s : Wants) (at : ℕ) (ts : Tokens) → next_is (is_sign sign.Comma) ts ≡ false → stop (want.via_key ∷ s) at ts ≡ stop s at ts
via_key-none s at (tok.Sign sign.Comma ∷ ts) h = cc
via_key-none s at _ h = refl

pub states-none : (s : Wants) (at : ℕ) (ts : Tokens) → next_is (is_key key.State) ts ≡ false → stop (want.states ∷ s) at ts ≡ stop s at ts
states-none s at (tok.Key key.State ∷ ts) h = cc
states-none s at _ h = refl

pub after_name-none : (s : Wants) (at : ℕ) (ts : Tokens) → next_is (is_sign sign.OpenParen) ts ≡ false → next_is (is_sign sign.ColonColon) ts ≡ false → stop (want.after_name ∷ s) at ts ≡ stop s at ts
after_name-none s at (tok.Sign sign.OpenParen ∷ ts) h g = cc
after_name-none s at (tok.Sign sign.ColonColon ∷ ts) h g = cc
after_name-none s at _ h g = refl

pub prim-named : (s : Wants) (at : ℕ) (ts : Tokens) → next_is is_name ts ≡ true → stop (want.prim ∷ s) at ts ≡ stop (want.name ∷ want.after_name ∷ s) at ts
prim-named s at (tok.Ident name ∷ ts) h = refl
prim-named s at _ h = cc

pub prim-paren : (s : Wants) (at : ℕ) (ts : Tokens) → next_is (is_sign sign.OpenParen) ts ≡ true → stop (want.prim ∷ s) at ts ≡ stop (want.mark sign.OpenParen ∷ want.expr ∷ want.mark sign.CloseParen ∷ s) at ts
prim-paren s at (tok.Sign sign.OpenParen ∷ ts) h = refl
prim-paren s at _ h = cc

pub prim-record : (s : Wants) (at : ℕ) (ts : Tokens) → next_is (is_key key.New) ts ≡ true → stop (want.prim ∷ s) at ts ≡ stop (want.word key.New ∷ want.name ∷ want.mark sign.OpenBrace ∷ (field_set ++ want.more_fields ∷ want.mark sign.CloseBrace ∷ s)) at ts
prim-record s at (tok.Key key.New ∷ ts) h = refl
prim-record s at _ h = cc

pub prim-none_of : (s : Wants) (at : ℕ) (ts : Tokens) → next_is (is_key key.NoneOf) ts ≡ true → stop (want.prim ∷ s) at ts ≡ stop (want.word key.NoneOf ∷ (angles ++ s)) at ts
prim-none_of s at (tok.Key key.NoneOf ∷ ts) h = refl
prim-none_of s at _ h = cc

pub prim-empty_of : (s : Wants) (at : ℕ) (ts : Tokens) → next_is (is_key key.EmptyOf) ts ≡ true → stop (want.prim ∷ s) at ts ≡ stop (want.word key.EmptyOf ∷ (angles ++ s)) at ts
prim-empty_of s at (tok.Key key.EmptyOf ∷ ts) h = refl
prim-empty_of s at _ h = cc

pub prim-choice : (s : Wants) (at : ℕ) (ts : Tokens) → next_is (is_key key.If) ts ≡ true → stop (want.prim ∷ s) at ts ≡ stop (want.word key.If ∷ (choice_rest ++ s)) at ts
prim-choice s at (tok.Key key.If ∷ ts) h = refl
prim-choice s at _ h = cc

pub suffix-field : (s : Wants) (at : ℕ) (ts : Tokens) → next_is (is_sign sign.Dot) ts ≡ true → stop (want.suffix ∷ s) at ts ≡ stop (want.mark sign.Dot ∷ want.name ∷ s) at ts
suffix-field s at (tok.Sign sign.Dot ∷ ts) h = refl
suffix-field s at _ h = cc

pub suffix-index : (s : Wants) (at : ℕ) (ts : Tokens) → next_is (is_sign sign.OpenBracket) ts ≡ true → stop (want.suffix ∷ s) at ts ≡ stop (want.mark sign.OpenBracket ∷ want.expr ∷ want.mark sign.CloseBracket ∷ s) at ts
suffix-index s at (tok.Sign sign.OpenBracket ∷ ts) h = refl
suffix-index s at _ h = cc

pub stmt-assign : (s : Wants) (at : ℕ) (ts : Tokens) → next_is is_name ts ≡ true → stop (want.stmt ∷ s) at ts ≡ stop (set ++ s) at ts
stmt-assign s at (tok.Ident name ∷ ts) h = refl
stmt-assign s at _ h = cc

pub stmt-send : (s : Wants) (at : ℕ) (ts : Tokens) → next_is (is_key key.Send) ts ≡ true → stop (want.stmt ∷ s) at ts ≡ stop (want.word key.Send ∷ want.name ∷ want.mark sign.OpenParen ∷ want.expr ∷ want.mark sign.CloseParen ∷ want.mark sign.Semicolon ∷ s) at ts
stmt-send s at (tok.Key key.Send ∷ ts) h = refl
stmt-send s at _ h = cc

pub stmt-choice : (s : Wants) (at : ℕ) (ts : Tokens) → next_is (is_key key.If) ts ≡ true → stop (want.stmt ∷ s) at ts ≡ stop (want.word key.If ∷ (arm_rest want.stmts want.other_stmts ++ s)) at ts
stmt-choice s at (tok.Key key.If ∷ ts) h = refl
stmt-choice s at _ h = cc

pub stmt-loop : (s : Wants) (at : ℕ) (ts : Tokens) → next_is (is_key key.For) ts ≡ true → stop (want.stmt ∷ s) at ts ≡ stop (want.word key.For ∷ (loop_rest want.stmts ++ s)) at ts
stmt-loop s at (tok.Key key.For ∷ ts) h = refl
stmt-loop s at _ h = cc

pub stmt-var : (s : Wants) (at : ℕ) (ts : Tokens) → next_is (is_key key.Var) ts ≡ true → stop (want.stmt ∷ s) at ts ≡ stop (want.word key.Var ∷ (set ++ s)) at ts
stmt-var s at (tok.Key key.Var ∷ ts) h = refl
stmt-var s at _ h = cc

pub item-comp : (s : Wants) (at : ℕ) (ts : Tokens) → next_is (is_key key.Comp) ts ≡ true → stop (want.item ∷ s) at ts ≡ stop (want.word key.Comp ∷ want.name ∷ want.index ∷ want.entry_mark ∷ want.name ∷ (args ++ want.mark sign.Semicolon ∷ s)) at ts
item-comp s at (tok.Key key.Comp ∷ ts) h = refl
item-comp s at _ h = cc

pub item-link : (s : Wants) (at : ℕ) (ts : Tokens) → next_is (is_key key.Link) ts ≡ true → stop (want.item ∷ s) at ts ≡ stop (want.word key.Link ∷ want.end ∷ want.mark sign.Arrow ∷ want.end ∷ want.via ∷ want.mark sign.Semicolon ∷ s) at ts
item-link s at (tok.Key key.Link ∷ ts) h = refl
item-link s at _ h = cc

pub item-choice : (s : Wants) (at : ℕ) (ts : Tokens) → next_is (is_key key.If) ts ≡ true → stop (want.item ∷ s) at ts ≡ stop (want.word key.If ∷ (arm_rest want.items want.other_items ++ s)) at ts
item-choice s at (tok.Key key.If ∷ ts) h = refl
item-choice s at _ h = cc

pub item-loop : (s : Wants) (at : ℕ) (ts : Tokens) → next_is (is_key key.For) ts ≡ true → stop (want.item ∷ s) at ts ≡ stop (want.word key.For ∷ (loop_rest want.items ++ s)) at ts
item-loop s at (tok.Key key.For ∷ ts) h = refl
item-loop s at _ h = cc

pub decl-enum : (s : Wants) (at : ℕ) (ts : Tokens) → next_is (is_key key.Enum) ts ≡ true → stop (want.decl ∷ s) at ts ≡ stop (want.word key.Enum ∷ want.name ∷ want.mark sign.OpenBrace ∷ want.name ∷ want.more_names ∷ want.mark sign.CloseBrace ∷ s) at ts
decl-enum s at (tok.Key key.Enum ∷ ts) h = refl
decl-enum s at _ h = cc

pub decl-record : (s : Wants) (at : ℕ) (ts : Tokens) → next_is (is_key key.Record) ts ≡ true → stop (want.decl ∷ s) at ts ≡ stop (want.word key.Record ∷ want.name ∷ want.mark sign.OpenBrace ∷ (typed ++ want.more_typed ∷ want.mark sign.CloseBrace ∷ s)) at ts
decl-record s at (tok.Key key.Record ∷ ts) h = refl
decl-record s at _ h = cc

pub decl-function : (s : Wants) (at : ℕ) (ts : Tokens) → next_is (is_key key.Fn) ts ≡ true → stop (want.decl ∷ s) at ts ≡ stop (want.word key.Fn ∷ want.name ∷ (params ++ want.mark sign.Arrow ∷ want.ty ∷ (function_body ++ s))) at ts
decl-function s at (tok.Key key.Fn ∷ ts) h = refl
decl-function s at _ h = cc

pub decl-atomic : (s : Wants) (at : ℕ) (ts : Tokens) → next_is (is_key key.Atomic) ts ≡ true → stop (want.decl ∷ s) at ts ≡ stop (want.word key.Atomic ∷ want.name ∷ (params ++ want.mark sign.OpenBrace ∷ (body ++ want.mark sign.CloseBrace ∷ s))) at ts
decl-atomic s at (tok.Key key.Atomic ∷ ts) h = refl
decl-atomic s at _ h = cc

pub decl-network : (s : Wants) (at : ℕ) (ts : Tokens) → next_is (is_key key.Network) ts ≡ true → stop (want.decl ∷ s) at ts ≡ stop (want.word key.Network ∷ want.name ∷ (params ++ (network_body ++ s))) at ts
decl-network s at (tok.Key key.Network ∷ ts) h = refl
decl-network s at _ h = cc

pub suffix-unwrap : (s : Wants) (at : ℕ) (ts : Tokens) → next_is (is_sign sign.Dot) ts ≡ false → next_is (is_sign sign.OpenBracket) ts ≡ false → stop (want.suffix ∷ s) at ts ≡ stop (want.mark sign.Bang ∷ s) at ts
suffix-unwrap s at (tok.Sign sign.Dot ∷ ts) h0 h1 = cc
suffix-unwrap s at (tok.Sign sign.OpenBracket ∷ ts) h0 h1 = cc
suffix-unwrap s at _ h0 h1 = refl

pub stmt-let : (s : Wants) (at : ℕ) (ts : Tokens) → next_is is_name ts ≡ false → next_is (is_key key.Send) ts ≡ false → next_is (is_key key.If) ts ≡ false → next_is (is_key key.For) ts ≡ false → next_is (is_key key.Var) ts ≡ false → stop (want.stmt ∷ s) at ts ≡ stop (want.word key.Let ∷ (set ++ s)) at ts
stmt-let s at (tok.Ident name ∷ ts) h0 h1 h2 h3 h4 = cc
stmt-let s at (tok.Key key.Send ∷ ts) h0 h1 h2 h3 h4 = cc
stmt-let s at (tok.Key key.If ∷ ts) h0 h1 h2 h3 h4 = cc
stmt-let s at (tok.Key key.For ∷ ts) h0 h1 h2 h3 h4 = cc
stmt-let s at (tok.Key key.Var ∷ ts) h0 h1 h2 h3 h4 = cc
stmt-let s at _ h0 h1 h2 h3 h4 = refl

pub item-let : (s : Wants) (at : ℕ) (ts : Tokens) → next_is (is_key key.Comp) ts ≡ false → next_is (is_key key.Link) ts ≡ false → next_is (is_key key.If) ts ≡ false → next_is (is_key key.For) ts ≡ false → stop (want.item ∷ s) at ts ≡ stop (want.word key.Let ∷ (set ++ s)) at ts
item-let s at (tok.Key key.Comp ∷ ts) h0 h1 h2 h3 = cc
item-let s at (tok.Key key.Link ∷ ts) h0 h1 h2 h3 = cc
item-let s at (tok.Key key.If ∷ ts) h0 h1 h2 h3 = cc
item-let s at (tok.Key key.For ∷ ts) h0 h1 h2 h3 = cc
item-let s at _ h0 h1 h2 h3 = refl

pub decl-top : (s : Wants) (at : ℕ) (ts : Tokens) → next_is (is_key key.Enum) ts ≡ false → next_is (is_key key.Record) ts ≡ false → next_is (is_key key.Fn) ts ≡ false → next_is (is_key key.Atomic) ts ≡ false → next_is (is_key key.Network) ts ≡ false → stop (want.decl ∷ s) at ts ≡ stop (want.word key.Top ∷ want.name ∷ (args ++ want.mark sign.Semicolon ∷ s)) at ts
decl-top s at (tok.Key key.Enum ∷ ts) h0 h1 h2 h3 h4 = cc
decl-top s at (tok.Key key.Record ∷ ts) h0 h1 h2 h3 h4 = cc
decl-top s at (tok.Key key.Fn ∷ ts) h0 h1 h2 h3 h4 = cc
decl-top s at (tok.Key key.Atomic ∷ ts) h0 h1 h2 h3 h4 = cc
decl-top s at (tok.Key key.Network ∷ ts) h0 h1 h2 h3 h4 = cc
decl-top s at _ h0 h1 h2 h3 h4 = refl

pub port-in : (s : Wants) (at : ℕ) (ts : Tokens) → next_is (is_key key.Out) ts ≡ false → stop (want.port ∷ s) at ts ≡ stop (want.word key.In ∷ (typed ++ want.mark sign.Semicolon ∷ s)) at ts
port-in s at (tok.Key key.Out ∷ ts) h0 = cc
port-in s at _ h0 = refl

pub params-some : (s : Wants) (at : ℕ) (ts : Tokens) → next_is (is_sign sign.CloseParen) ts ≡ false → stop (want.params_rest ∷ s) at ts ≡ stop (typed ++ (want.more_typed ∷ want.mark sign.CloseParen ∷ s)) at ts
params-some s at (tok.Sign sign.CloseParen ∷ ts) h0 = cc
params-some s at _ h0 = refl

pub end-kid : (s : Wants) (at : ℕ) (ts : Tokens) → next_is (is_key key.Net) ts ≡ false → next_is (is_key key.Exec) ts ≡ false → stop (want.end ∷ s) at ts ≡ stop (want.name ∷ want.index ∷ want.mark sign.Dot ∷ want.name ∷ s) at ts
end-kid s at (tok.Key key.Net ∷ ts) h0 h1 = cc
end-kid s at (tok.Key key.Exec ∷ ts) h0 h1 = cc
end-kid s at _ h0 h1 = refl

pub type-named : (s : Wants) (at : ℕ) (ts : Tokens) → next_is (is_key key.Int) ts ≡ false → next_is (is_key key.Bool) ts ≡ false → next_is (is_key key.List) ts ≡ false → next_is (is_key key.Opt) ts ≡ false → stop (want.ty ∷ s) at ts ≡ stop (want.name ∷ s) at ts
type-named s at (tok.Key key.Int ∷ ts) h0 h1 h2 h3 = cc
type-named s at (tok.Key key.Bool ∷ ts) h0 h1 h2 h3 = cc
type-named s at (tok.Key key.List ∷ ts) h0 h1 h2 h3 = cc
type-named s at (tok.Key key.Opt ∷ ts) h0 h1 h2 h3 = cc
type-named s at _ h0 h1 h2 h3 = refl

pub else-last : (s : Wants) (at : ℕ) (ts : Tokens) → next_is (is_key key.If) ts ≡ false → stop (want.else_rest ∷ s) at ts ≡ stop (braced_expr ++ s) at ts
else-last s at (tok.Key key.If ∷ ts) h0 = cc
else-last s at (tok.Sign sign.OpenBrace ∷ ts) h0 = refl
else-last s at _ h0 = refl

pub else_stmts-last : (s : Wants) (at : ℕ) (ts : Tokens) → next_is (is_key key.If) ts ≡ false → stop (want.else_stmts ∷ s) at ts ≡ stop (block want.stmts ++ s) at ts
else_stmts-last s at (tok.Key key.If ∷ ts) h0 = cc
else_stmts-last s at (tok.Sign sign.OpenBrace ∷ ts) h0 = refl
else_stmts-last s at _ h0 = refl

pub else_items-last : (s : Wants) (at : ℕ) (ts : Tokens) → next_is (is_key key.If) ts ≡ false → stop (want.else_items ∷ s) at ts ≡ stop (block want.items ++ s) at ts
else_items-last s at (tok.Key key.If ∷ ts) h0 = cc
else_items-last s at (tok.Sign sign.OpenBrace ∷ ts) h0 = refl
else_items-last s at _ h0 = refl

no_go : (comes : Bool) (wants s : Wants) (passed : Option Wants) → comes ≡ false → onward (optional (go_if comes wants)) s passed ≡ passed
no_go true wants s passed h = cc
no_go false wants s passed h = refl

go_on : (comes : Bool) (wants s : Wants) (passed other : Option Wants) → comes ≡ true → onward (optional (go_if comes wants)) s passed ≡ onward (go_if comes []) (wants ++ s) other
go_on true wants s passed other h = refl
go_on false wants s passed other h = cc

-- a phase that is not written, and one that is
pub phase-none : (which : Key) (s : Wants) (at : ℕ) (ts : Tokens) → next_is (is_key which) ts ≡ false → stop (want.phase which ∷ s) at ts ≡ stop s at ts
phase-none which s at [] h = refl
phase-none which s at (t ∷ ts) h = ap (on at ts) (no_go (is_key which t) (block want.stmts) s (behind s t) h)

pub phase-some : (which : Key) (s : Wants) (at : ℕ) (ts : Tokens) → next_is (is_key which) ts ≡ true → stop (want.phase which ∷ s) at ts ≡ stop (want.word which ∷ (block want.stmts ++ s)) at ts
phase-some which s at [] h = cc
phase-some which s at (t ∷ ts) h = ap (on at ts) (go_on (is_key which t) (block want.stmts) s (behind s t) (behind (block want.stmts ++ s) t) h)

pub prim-builtin : (s : Wants) (at : ℕ) (which : Key) (ts : Tokens) → is_builtin which ≡ true → stop (want.prim ∷ s) at (tok.Key which ∷ ts) ≡ stop (args ++ s) (at + 1) ts
prim-builtin s at key.SomeOf ts h = refl
prim-builtin s at key.Len ts h = refl
prim-builtin s at key.Range ts h = refl
prim-builtin s at key.Push ts h = refl
prim-builtin s at key.Put ts h = refl
prim-builtin s at key.Take ts h = refl
prim-builtin s at key.Skip ts h = refl
prim-builtin s at key.Min ts h = refl
prim-builtin s at key.Max ts h = refl
prim-builtin s at key.IsSome ts h = refl
prim-builtin s at _ ts h = cc

-- an expression is what its levels want
expr-behind : (s : Wants) (t : Tok) → behind (want.expr ∷ s) t ≡ behind (expr_wants ++ s) t
expr-behind s (tok.Key key.Not) = refl
expr-behind s (tok.Sign sign.Minus) = refl
expr-behind s (tok.Key key.SomeOf) = refl
expr-behind s _ = refl

pub expr-levels : (s : Wants) (at : ℕ) (ts : Tokens) → stop (want.expr ∷ s) at ts ≡ stop (expr_wants ++ s) at ts
expr-levels s at ts = same-stop (want.expr ∷ s) (expr_wants ++ s) refl (expr-behind s) at ts

-- what is left behind the "(" of arguments, and behind the "[" of a list
args-behind : (s : Wants) (t : Tok) → is_sign sign.CloseParen t ≡ false → behind (want.args_rest ∷ s) t ≡ behind (exprs ++ (want.mark sign.CloseParen ∷ s)) t
args-behind s (tok.Sign sign.CloseParen) h = cc
args-behind s (tok.Key key.Not) h = refl
args-behind s (tok.Sign sign.Minus) h = refl
args-behind s (tok.Key key.SomeOf) h = refl
args-behind s _ h = refl

pub args-some : (s : Wants) (at : ℕ) (ts : Tokens) → next_is (is_sign sign.CloseParen) ts ≡ false → stop (want.args_rest ∷ s) at ts ≡ stop (exprs ++ (want.mark sign.CloseParen ∷ s)) at ts
args-some s at [] h = refl
args-some s at (t ∷ ts) h = ap (on at ts) (args-behind s t h)

row-behind : (s : Wants) (t : Tok) → is_key key.For t ≡ false → behind (want.row_rest ∷ s) t ≡ behind (exprs ++ (want.mark sign.CloseBracket ∷ s)) t
row-behind s (tok.Key key.For) h = cc
row-behind s (tok.Key key.Not) h = refl
row-behind s (tok.Sign sign.Minus) h = refl
row-behind s (tok.Key key.SomeOf) h = refl
row-behind s _ h = refl

pub row-some : (s : Wants) (at : ℕ) (ts : Tokens) → next_is (is_key key.For) ts ≡ false → stop (want.row_rest ∷ s) at ts ≡ stop (exprs ++ (want.mark sign.CloseBracket ∷ s)) at ts
row-some s at [] h = refl
row-some s at (t ∷ ts) h = ap (on at ts) (row-behind s t h)

pub prim-row : (s : Wants) (at : ℕ) (ts : Tokens) → next_is (is_sign sign.OpenBracket) ts ≡ true → second_is (is_key key.For) ts ≡ false → stop (want.prim ∷ s) at ts ≡ stop (want.mark sign.OpenBracket ∷ (exprs ++ want.mark sign.CloseBracket ∷ s)) at ts
prim-row s at (tok.Sign sign.OpenBracket ∷ ts) h g = row-some s (at + 1) ts g
prim-row s at _ h g = cc

pub prim-each : (s : Wants) (at : ℕ) (ts : Tokens) → next_is (is_sign sign.OpenBracket) ts ≡ true → second_is (is_key key.For) ts ≡ true → stop (want.prim ∷ s) at ts ≡ stop (want.mark sign.OpenBracket ∷ want.word key.For ∷ want.name ∷ want.word key.In ∷ want.expr ∷ want.test ∷ want.mark sign.Colon ∷ want.expr ∷ want.mark sign.CloseBracket ∷ s) at ts
prim-each s at (tok.Sign sign.OpenBracket ∷ tok.Key key.For ∷ ts) h g = refl
prim-each s at _ h g = cc

pub after_name-args : (s : Wants) (at : ℕ) (ts : Tokens) → next_is (is_sign sign.OpenParen) ts ≡ true → stop (want.after_name ∷ s) at ts ≡ stop (args ++ s) at ts
after_name-args s at (tok.Sign sign.OpenParen ∷ ts) h = refl
after_name-args s at _ h = cc

pub states-more : (s : Wants) (at : ℕ) (ts : Tokens) → next_is (is_key key.State) ts ≡ true → stop (want.states ∷ s) at ts ≡ stop (want.word key.State ∷ (typed ++ want.mark sign.Equal ∷ want.expr ∷ want.mark sign.Semicolon ∷ want.states ∷ s)) at ts
states-more s at (tok.Key key.State ∷ ts) h = refl
states-more s at _ h = cc

-- a further arm
pub stmts-else : (s : Wants) (at : ℕ) (ts : Tokens) → is_else_if ts ≡ true → stop (want.other_stmts ∷ s) at ts ≡ stop (want.word key.Else ∷ want.word key.If ∷ (arm_rest want.stmts want.other_stmts ++ s)) at ts
stmts-else s at (tok.Key key.Else ∷ tok.Key key.If ∷ ts) h = refl
stmts-else s at _ h = cc

pub items-else : (s : Wants) (at : ℕ) (ts : Tokens) → is_else_if ts ≡ true → stop (want.other_items ∷ s) at ts ≡ stop (want.word key.Else ∷ want.word key.If ∷ (arm_rest want.items want.other_items ++ s)) at ts
items-else s at (tok.Key key.Else ∷ tok.Key key.If ∷ ts) h = refl
items-else s at _ h = cc

pub else-if : (s : Wants) (at : ℕ) (ts : Tokens) → next_is (is_key key.If) ts ≡ true → stop (want.else_rest ∷ s) at ts ≡ stop (want.word key.If ∷ (choice_rest ++ s)) at ts
else-if s at (tok.Key key.If ∷ ts) h = refl
else-if s at _ h = cc

-- no "if" behind an "else" that no arm follows
pub no-if : {here mid : Spot} → TookOne (tok.Key key.Else) here mid → is_else_if here.1 ≡ false → next_is (is_key key.If) mid.1 ≡ false
no-if {here} {mid} one h = ended mid.1 (ap is_else_if (sym one.comes) ∙ h)
  where
    ended : (ts : Tokens) → is_else_if (tok.Key key.Else ∷ ts) ≡ false → next_is (is_key key.If) ts ≡ false
    ended (tok.Key key.If ∷ ts) h = cc
    ended _ h = refl

decls-behind : (one : Step) → onward (repeated want.decls one) [] None ≡ onward one (want.decls ∷ []) (onward (repeated want.decls one) [] None)
decls-behind (go wants) = ap (λ (w : Wants). Some w) (append_assoc wants (want.decls ∷ []) [])
decls-behind pass = refl
decls-behind halt = refl

-- a token that comes where declarations are wanted begins one, or cannot come
pub decls-more : (at : ℕ) (ts : Tokens) → next_is (λ t. true) ts ≡ true → stop (want.decls ∷ []) at ts ≡ stop (want.decl ∷ want.decls ∷ []) at ts
decls-more at [] h = cc
decls-more at (t ∷ ts) h = ap (on at ts) (decls-behind (decl_step t))

pub none-left : (ts : Tokens) → next_is (λ t. true) ts ≡ false → ts ≡ []
none-left [] h = refl
none-left (t ∷ ts) h = cc
