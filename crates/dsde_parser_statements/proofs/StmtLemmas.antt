-- Statements, items and their parts that were read.
use Rattle.std.proofs.Common.{◌≡◌, ℕ, Bool, true, ◌&&◌, List, [], ◌∷◌, ◌++◌, length, map, Option, Some, None, refl, sym, ap, ◌∙◌, arith, append_assoc}
use Rattle.std.specs.Prelude.{option_and_then, if◌then◌else◌}
use Rattle.std.specs.List.{list_all}
use Rattle.std.specs.Option.{option_map}
use Rattle.dsde_syntax.specs.declared.id.Id.{Id}
use Rattle.dsde_syntax.specs.declared.expr.Expr.{Expr}
use Rattle.dsde_syntax.specs.declared.stmt.Stmt.{Stmt}
use Rattle.dsde_syntax.specs.declared.stmt.StmtArm.{StmtArm}
use Rattle.dsde_syntax.specs.declared.stmt.Stmt.TheVariants as stmt
use Rattle.dsde_syntax.specs.declared.stmt.Stmt.TheVariants.{rolls-Let, rolls-Set, rolls-Send, rolls-If, rolls-For}
use Rattle.dsde_syntax.specs.declared.stmt.Stmt.TheOpen.{Stmt-F, StmtArm-F}
use Rattle.dsde_syntax.specs.declared.stmt.Stmt.TheViews.{roll-StmtArm}
use Rattle.dsde_syntax.specs.declared.stmt.Stmt.TheFolds.{fold-roll-Stmt, fold-roll-StmtArm}
use Rattle.dsde_syntax.specs.declared.item.Item.{Item}
use Rattle.dsde_syntax.specs.declared.item.ItemArm.{ItemArm}
use Rattle.dsde_syntax.specs.declared.item.Item.TheVariants as item
use Rattle.dsde_syntax.specs.declared.item.Item.TheVariants.{rolls-Comp, rolls-Link, rolls-Let as rolls-LetItem, rolls-If as rolls-IfItem, rolls-For as rolls-ForItem}
use Rattle.dsde_syntax.specs.declared.item.Item.TheOpen.{Item-F, ItemArm-F}
use Rattle.dsde_syntax.specs.declared.item.Item.TheViews.{roll-ItemArm}
use Rattle.dsde_syntax.specs.declared.item.Item.TheFolds.{fold-roll-Item, fold-roll-ItemArm}
use Rattle.dsde_syntax.specs.declared.token.Tok.TheVariants as tok
use Rattle.dsde_words.specs.declared.key.Key.TheVariants as key
use Rattle.dsde_syntax.specs.declared.token.Sign.TheVariants as sign
use Rattle.dsde_syntax.specs.declared.item.Bracket.{Bracket}
use Rattle.dsde_syntax.specs.declared.item.End.{End}
use Rattle.dsde_syntax.specs.declared.item.EndPart.{EndPart}
use Rattle.dsde_syntax.specs.declared.item.EndPart.TheVariants as end_part
use Rattle.dsde_syntax.specs.declared.item.ViaKey.{ViaKey}
use Rattle.dsde_syntax.specs.declared.item.ViaPart.{ViaPart}
use Rattle.dsde_syntax.specs.Grammar.{Tokens, word, mark, optional, id_tokens, args_tokens, component_tokens, entry_mark, set_tokens, end_tokens, via_tokens, expr_tokens, block, for_tokens, if_tokens, stmt_step, stmt_arm_step, stmt_tokens, stmt_arm_tokens, item_step, item_arm_step, item_tokens, item_arm_tokens}
use Rattle.dsde_syntax.specs.Places.{Span, ◌>>◌, token, token_at, written_span, id_span, args_span, component_span, set_span, end_span, via_span, expr_span, block_span, for_span, stmt_span_step, stmt_arm_span_step, stmt_span, item_span_step, item_arm_span_step, item_span, item_arm_span, stmt_arm_span}
use Rattle.dsde_syntax.specs.Levels.{has_first, all_hold, if_written, is_expr, is_index, is_end, is_via, is_stmt_step, is_stmt_arm_step, is_stmt, is_item_step, is_item_arm_step, is_item, is_item_arm, is_stmt_arm}
use Rattle.dsde_parser_expressions.specs.Took.{Spot, Took, TookAll, TookOne, Any}
use Rattle.dsde_parser_expressions.specs.Parts.{IsWithin, AllOk, SomeOk, IsOk, elses_by, spans_by}
use Rattle.dsde_parser_statements.specs.Parts.{if_span, last_stmts_tokens, last_stmts_span, last_stmts_ok, last_items_tokens, last_items_span, last_items_ok, made_tokens, made_span, target_tokens, target_span, ends_tokens, ends_span, EndsOk, last_via_tokens, last_via_span, is_end_part, is_via_key, via_names_tokens, via_names_span, via_body_tokens, via_body_span}
use Rattle.dsde_parser_expressions.proofs.ChainLemmas.{all-map}
use Rattle.dsde_parser_expressions.proofs.NodeLemmas.{token-here}
use Rattle.dsde_parser_expressions.proofs.PartLemmas.{one, one-at, own, ◌⨟◌, regroup, behind-two, wide, read-all, read-node, whole-expr}

-- a node of two parts
two-Took : {A B C : Type 0} {f1 : A → Tokens} {g1 : A → Span} {G1 : A → Type 0} {f2 : B → Tokens} {g2 : B → Span} {G2 : B → Type 0} {before mid after : Spot} {x : A} {y : B} (f : C → Tokens) (g : C → Span) (ok : C → Bool) (node : C) → Took f1 g1 G1 before mid x → TookAll f2 g2 G2 mid after y → f node ≡ f1 x ++ f2 y → g node ≡ (g1 x >> g2 y) → ok node ≡ true → Took f g (IsOk ok) before after node
two-Took {A} {B} {C} {f1} {g1} {G1} {f2} {g2} {G2} {before} {mid} {after} {x} {y} f g ok node one two toks span good = record {
  spells = one.spells ∙ (ap (λ (own : Tokens). f1 x ++ own) two.spells ∙ (sym (append_assoc (f1 x) (f2 y) after.1) ∙ ap (λ (own : Tokens). own ++ after.1) (sym toks)));
  placed = ap (λ (own : Span). own before.0) span ∙ (ap (λ (got : Option ℕ). option_and_then (g2 y) got) one.placed ∙ two.placed);
  good = good;
  shorter = omega (arith, one.shorter, two.shorter);
  moved = omega (arith, one.moved, two.moved);
}

loose : {A : Type 0} {f : A → Tokens} {g : A → Span} {G : A → Type 0} {before after : Spot} {x : A} → Took f g G before after x → TookAll f g G before after x
loose own = record { spells = own.spells; placed = own.placed; good = own.good; shorter = omega (arith, own.shorter); moved = own.moved }

true-and : (a b : Bool) → a ≡ true → b ≡ true → (a && b) ≡ true
true-and a b h1 h2 = rw (h1, h2) refl

has-map : {A B : Type 0} (f : A → B) (xs : List A) → has_first xs ≡ true → has_first (map f xs) ≡ true
has-map f [] h = h
has-map f (x ∷ xs) h = refl

last-map : {A : Type 0} (ok : A → Bool) (other : Option (List A)) → if_written (list_all ok) other ≡ true → if_written all_hold (option_map (map ok) other) ≡ true
last-map ok None h = refl
last-map ok (Some list) h = all-map ok (λ own. own) list h

pub stmt_loop-Took : {before mid after : Spot} (name : Id) (list : Expr) (body : List Stmt) → Took (λ (own : Id × Expr). for_tokens own.0 own.1) (λ (own : Id × Expr). for_span own.0 own.1) (λ (own : Id × Expr). is_expr own.1 ≡ true) before mid (name, list) → Took (λ own. block (map stmt_tokens own)) (λ own. block_span (map stmt_span own)) (AllOk is_stmt) mid after body → Took stmt_tokens stmt_span (IsOk is_stmt) before after (stmt.For name list body)
stmt_loop-Took name list body head own =
    two-Took stmt_tokens stmt_span is_stmt (stmt.For name list body) head (loose own)
    (ap stmt_tokens (sym (rolls-For name list body)) ∙ fold-roll-Stmt Tokens Tokens stmt_step stmt_arm_step (Stmt-F.For name list body))
    (ap stmt_span (sym (rolls-For name list body)) ∙ fold-roll-Stmt Span Span stmt_span_step stmt_arm_span_step (Stmt-F.For name list body))
    (ap is_stmt (sym (rolls-For name list body)) ∙ (fold-roll-Stmt Bool Bool is_stmt_step is_stmt_arm_step (Stmt-F.For name list body) ∙ true-and (is_expr list) (all_hold (map is_stmt body)) head.good (all-map is_stmt (λ own. own) body own.good)))

pub stmt_arm-Took : {before mid after : Spot} (cond : Expr) (body : List Stmt) → Took if_tokens if_span (IsOk is_expr) before mid cond → Took (λ own. block (map stmt_tokens own)) (λ own. block_span (map stmt_span own)) (AllOk is_stmt) mid after body → Took stmt_arm_tokens stmt_arm_span (IsOk is_stmt_arm) before after (roll-StmtArm (record { cond = cond; body = body }))
stmt_arm-Took cond body head own =
    let x : StmtArm-F Stmt StmtArm = record { cond = cond; body = body } in
    two-Took stmt_arm_tokens stmt_arm_span is_stmt_arm (roll-StmtArm x) head (loose own)
    (fold-roll-StmtArm Tokens Tokens stmt_step stmt_arm_step x)
    (fold-roll-StmtArm Span Span stmt_span_step stmt_arm_span_step x)
    (fold-roll-StmtArm Bool Bool is_stmt_step is_stmt_arm_step x ∙ true-and (is_expr cond) (all_hold (map is_stmt body)) head.good (all-map is_stmt (λ own. own) body own.good))

pub stmt_choice-Took : {before mid after : Spot} (arms : List StmtArm) (other : Option (List Stmt)) → Took (elses_by stmt_arm_tokens) (spans_by stmt_arm_span) (SomeOk is_stmt_arm) before mid arms → TookAll last_stmts_tokens last_stmts_span last_stmts_ok mid after other → Took stmt_tokens stmt_span (IsOk is_stmt) before after (stmt.If arms other)
stmt_choice-Took arms None head own =
    two-Took stmt_tokens stmt_span is_stmt (stmt.If arms None) head own
    (ap stmt_tokens (sym (rolls-If arms None)) ∙ fold-roll-Stmt Tokens Tokens stmt_step stmt_arm_step (Stmt-F.If arms None))
    (ap stmt_span (sym (rolls-If arms None)) ∙ fold-roll-Stmt Span Span stmt_span_step stmt_arm_span_step (Stmt-F.If arms None))
    (ap is_stmt (sym (rolls-If arms None)) ∙ (fold-roll-Stmt Bool Bool is_stmt_step is_stmt_arm_step (Stmt-F.If arms None)
    ∙ true-and (has_first (map is_stmt_arm arms) && all_hold (map is_stmt_arm arms)) (if_written all_hold (option_map (map is_stmt) None))
    (true-and (has_first (map is_stmt_arm arms)) (all_hold (map is_stmt_arm arms)) (has-map is_stmt_arm arms head.good.some) (all-map is_stmt_arm (λ own. own) arms head.good.all))
    (last-map is_stmt None own.good)))
stmt_choice-Took arms (Some last) head own =
    two-Took stmt_tokens stmt_span is_stmt (stmt.If arms (Some last)) head own
    (ap stmt_tokens (sym (rolls-If arms (Some last))) ∙ fold-roll-Stmt Tokens Tokens stmt_step stmt_arm_step (Stmt-F.If arms (Some last)))
    (ap stmt_span (sym (rolls-If arms (Some last))) ∙ fold-roll-Stmt Span Span stmt_span_step stmt_arm_span_step (Stmt-F.If arms (Some last)))
    (ap is_stmt (sym (rolls-If arms (Some last))) ∙ (fold-roll-Stmt Bool Bool is_stmt_step is_stmt_arm_step (Stmt-F.If arms (Some last))
    ∙ true-and (has_first (map is_stmt_arm arms) && all_hold (map is_stmt_arm arms)) (if_written all_hold (option_map (map is_stmt) (Some last)))
    (true-and (has_first (map is_stmt_arm arms)) (all_hold (map is_stmt_arm arms)) (has-map is_stmt_arm arms head.good.some) (all-map is_stmt_arm (λ own. own) arms head.good.all))
    (last-map is_stmt (Some last) own.good)))

pub item_loop-Took : {before mid after : Spot} (name : Id) (list : Expr) (body : List Item) → Took (λ (own : Id × Expr). for_tokens own.0 own.1) (λ (own : Id × Expr). for_span own.0 own.1) (λ (own : Id × Expr). is_expr own.1 ≡ true) before mid (name, list) → Took (λ own. block (map item_tokens own)) (λ own. block_span (map item_span own)) (AllOk is_item) mid after body → Took item_tokens item_span (IsOk is_item) before after (item.For name list body)
item_loop-Took name list body head own =
    two-Took item_tokens item_span is_item (item.For name list body) head (loose own)
    (ap item_tokens (sym (rolls-ForItem name list body)) ∙ fold-roll-Item Tokens Tokens item_step item_arm_step (Item-F.For name list body))
    (ap item_span (sym (rolls-ForItem name list body)) ∙ fold-roll-Item Span Span item_span_step item_arm_span_step (Item-F.For name list body))
    (ap is_item (sym (rolls-ForItem name list body)) ∙ (fold-roll-Item Bool Bool is_item_step is_item_arm_step (Item-F.For name list body) ∙ true-and (is_expr list) (all_hold (map is_item body)) head.good (all-map is_item (λ own. own) body own.good)))

pub item_arm-Took : {before mid after : Spot} (cond : Expr) (body : List Item) → Took if_tokens if_span (IsOk is_expr) before mid cond → Took (λ own. block (map item_tokens own)) (λ own. block_span (map item_span own)) (AllOk is_item) mid after body → Took item_arm_tokens item_arm_span (IsOk is_item_arm) before after (roll-ItemArm (record { cond = cond; body = body }))
item_arm-Took cond body head own =
    let x : ItemArm-F Item ItemArm = record { cond = cond; body = body } in
    two-Took item_arm_tokens item_arm_span is_item_arm (roll-ItemArm x) head (loose own)
    (fold-roll-ItemArm Tokens Tokens item_step item_arm_step x)
    (fold-roll-ItemArm Span Span item_span_step item_arm_span_step x)
    (fold-roll-ItemArm Bool Bool is_item_step is_item_arm_step x ∙ true-and (is_expr cond) (all_hold (map is_item body)) head.good (all-map is_item (λ own. own) body own.good))

pub item_choice-Took : {before mid after : Spot} (arms : List ItemArm) (other : Option (List Item)) → Took (elses_by item_arm_tokens) (spans_by item_arm_span) (SomeOk is_item_arm) before mid arms → TookAll last_items_tokens last_items_span last_items_ok mid after other → Took item_tokens item_span (IsOk is_item) before after (item.If arms other)
item_choice-Took arms None head own =
    two-Took item_tokens item_span is_item (item.If arms None) head own
    (ap item_tokens (sym (rolls-IfItem arms None)) ∙ fold-roll-Item Tokens Tokens item_step item_arm_step (Item-F.If arms None))
    (ap item_span (sym (rolls-IfItem arms None)) ∙ fold-roll-Item Span Span item_span_step item_arm_span_step (Item-F.If arms None))
    (ap is_item (sym (rolls-IfItem arms None)) ∙ (fold-roll-Item Bool Bool is_item_step is_item_arm_step (Item-F.If arms None)
    ∙ true-and (has_first (map is_item_arm arms) && all_hold (map is_item_arm arms)) (if_written all_hold (option_map (map is_item) None))
    (true-and (has_first (map is_item_arm arms)) (all_hold (map is_item_arm arms)) (has-map is_item_arm arms head.good.some) (all-map is_item_arm (λ own. own) arms head.good.all))
    (last-map is_item None own.good)))
item_choice-Took arms (Some last) head own =
    two-Took item_tokens item_span is_item (item.If arms (Some last)) head own
    (ap item_tokens (sym (rolls-IfItem arms (Some last))) ∙ fold-roll-Item Tokens Tokens item_step item_arm_step (Item-F.If arms (Some last)))
    (ap item_span (sym (rolls-IfItem arms (Some last))) ∙ fold-roll-Item Span Span item_span_step item_arm_span_step (Item-F.If arms (Some last)))
    (ap is_item (sym (rolls-IfItem arms (Some last))) ∙ (fold-roll-Item Bool Bool is_item_step is_item_arm_step (Item-F.If arms (Some last))
    ∙ true-and (has_first (map is_item_arm arms) && all_hold (map is_item_arm arms)) (if_written all_hold (option_map (map is_item) (Some last)))
    (true-and (has_first (map is_item_arm arms)) (all_hold (map is_item_arm arms)) (has-map is_item_arm arms head.good.some) (all-map is_item_arm (λ own. own) arms head.good.all))
    (last-map is_item (Some last) own.good)))

-- a part in front of a group of parts
behind_first : (first a b c d : Tokens) → (((first ++ a) ++ b) ++ c) ++ d ≡ first ++ (((a ++ b) ++ c) ++ d)
behind_first [] a b c d = refl
behind_first (x ∷ first) a b c d = ap (λ (own : Tokens). x ∷ own) (behind_first first a b c d)

pub comp-Took : {before mid next after : Spot} (at : ℕ) (name : Id) (index : Option Bracket) (soft : Bool) (model : Id) (args : List Expr) → TookOne (tok.Key key.Comp) before mid → at ≡ before.0 → Took (λ (own : Id × Option Bracket). component_tokens own.0 own.1) (λ (own : Id × Option Bracket). component_span own.0 own.1) (λ (own : Id × Option Bracket). is_index own.1 ≡ true) mid next (name, index) → Took made_tokens made_span (λ own. AllOk is_expr own.2) next after (soft, model, args) → Took item_tokens item_span (IsOk is_item) before after (item.Comp at name index soft model args)
comp-Took {before} {mid} {next} {after} at name index soft model args one place part made =
    let node = item.Comp at name index soft model args in
    let own = component_tokens name index in
    let behind = made_tokens (soft, model, args) in
    let toks : item_tokens node ≡ tok.Key key.Comp ∷ (own ++ behind) = ap item_tokens (sym (rolls-Comp at name index soft model args)) ∙ (fold-roll-Item Tokens Tokens item_step item_arm_step (Item-F.Comp at name index soft model args)
    ∙ ap (λ (own : Tokens). tok.Key key.Comp ∷ own) (behind_first own (entry_mark soft) (id_tokens model) (args_tokens args) (mark sign.Semicolon))) in
    let span = ap item_span (sym (rolls-Comp at name index soft model args)) ∙ fold-roll-Item Span Span item_span_step item_arm_span_step (Item-F.Comp at name index soft model args) in
    let Rest : Option ℕ → Option ℕ = λ got. option_and_then token (option_and_then (args_span (map expr_span args)) (option_and_then (id_span model) (option_and_then token got))) in
    record {
      spells = one.comes ∙ ap (λ (own : Tokens). tok.Key key.Comp ∷ own) (part.spells ∙ (ap (λ (more : Tokens). own ++ more) made.spells ∙ sym (append_assoc own behind after.1))) ∙ ap (λ (own : Tokens). own ++ after.1) (sym toks);
      placed = ap (λ (own : Span). own before.0) span ∙ (ap (λ (got : Option ℕ). Rest (option_and_then (component_span name index) got)) (token-here at before.0 place)
          ∙ (ap (λ (at : ℕ). Rest (component_span name index at)) (sym one.next) ∙ (ap Rest part.placed ∙ made.placed)));
      good = ap is_item (sym (rolls-Comp at name index soft model args)) ∙ (fold-roll-Item Bool Bool is_item_step is_item_arm_step (Item-F.Comp at name index soft model args) ∙ true-and (is_index index) (list_all is_expr args) part.good made.good);
      shorter = omega (arith, ap length one.comes, part.shorter, made.shorter);
      moved = omega (arith, one.next, ap length one.comes, part.moved, made.moved);
    }

-- statements and items of one part after another

abbrev pub SetTook : Spot → Spot → Id → Expr → Type 0
SetTook before after name value = Took (λ (own : Id × Expr). set_tokens own.0 own.1) (λ (own : Id × Expr). set_span own.0 own.1) (λ (own : Id × Expr). is_expr own.1 ≡ true) before after (name, value)

pub let-Took : {before mid after : Spot} (mutable : Bool) (name : Id) (value : Expr) → TookOne (tok.Key (if mutable then key.Var else key.Let)) before mid → SetTook mid after name value → Took stmt_tokens stmt_span (IsOk is_stmt) before after (stmt.Let mutable name value)
let-Took mutable name value begun set =
    let x : Stmt-F Stmt StmtArm = Stmt-F.Let mutable name value in
    let same = sym (rolls-Let mutable name value) in
    read-node (one begun ⨟ own set)
    (ap stmt_tokens same ∙ fold-roll-Stmt Tokens Tokens stmt_step stmt_arm_step x)
    (ap stmt_span same ∙ fold-roll-Stmt Span Span stmt_span_step stmt_arm_span_step x)
    (ap is_stmt same ∙ (fold-roll-Stmt Bool Bool is_stmt_step is_stmt_arm_step x ∙ set.good))

pub set-Took : {before after : Spot} (name : Id) (value : Expr) → SetTook before after name value → Took stmt_tokens stmt_span (IsOk is_stmt) before after (stmt.Set name value)
set-Took name value set =
    let x : Stmt-F Stmt StmtArm = Stmt-F.Set name value in
    let same = sym (rolls-Set name value) in
    read-node (own set)
    (ap stmt_tokens same ∙ fold-roll-Stmt Tokens Tokens stmt_step stmt_arm_step x)
    (ap stmt_span same ∙ fold-roll-Stmt Span Span stmt_span_step stmt_arm_span_step x)
    (ap is_stmt same ∙ (fold-roll-Stmt Bool Bool is_stmt_step is_stmt_arm_step x ∙ set.good))

pub send-Took : {before a b c d e after : Spot} (port : Id) (value : Expr) → TookOne (tok.Key key.Send) before a → Took id_tokens id_span Any a b port → TookOne (tok.Sign sign.OpenParen) b c → Took expr_tokens expr_span (IsWithin 9) c d value → TookOne (tok.Sign sign.CloseParen) d e → TookOne (tok.Sign sign.Semicolon) e after → Took stmt_tokens stmt_span (IsOk is_stmt) before after (stmt.Send port value)
send-Took port value begun name bracket inner closed last =
    let x : Stmt-F Stmt StmtArm = Stmt-F.Send port value in
    let same = sym (rolls-Send port value) in
    read-node (one begun ⨟ own name ⨟ (one bracket ⨟ own inner ⨟ one closed) ⨟ one last)
    (ap stmt_tokens same ∙ fold-roll-Stmt Tokens Tokens stmt_step stmt_arm_step x)
    (ap stmt_span same ∙ fold-roll-Stmt Span Span stmt_span_step stmt_arm_span_step x)
    (ap is_stmt same ∙ (fold-roll-Stmt Bool Bool is_stmt_step is_stmt_arm_step x ∙ whole-expr inner))

pub let_item-Took : {before mid after : Spot} (name : Id) (value : Expr) → TookOne (tok.Key key.Let) before mid → SetTook mid after name value → Took item_tokens item_span (IsOk is_item) before after (item.Let name value)
let_item-Took name value begun set =
    let x : Item-F Item ItemArm = Item-F.Let name value in
    let same = sym (rolls-LetItem name value) in
    read-node (one begun ⨟ own set)
    (ap item_tokens same ∙ fold-roll-Item Tokens Tokens item_step item_arm_step x)
    (ap item_span same ∙ fold-roll-Item Span Span item_span_step item_arm_span_step x)
    (ap is_item same ∙ (fold-roll-Item Bool Bool is_item_step is_item_arm_step x ∙ set.good))

pub link-Took : {before a b after : Spot} (at : ℕ) (source target : End) (via : Option ViaPart) → TookOne (tok.Key key.Link) before a → at ≡ before.0 → Took ends_tokens ends_span EndsOk a b (source, target) → Took last_via_tokens last_via_span (IsOk (if_written is_via)) b after via → Took item_tokens item_span (IsOk is_item) before after (item.Link at source target via)
link-Took at source target via begun place ends last =
    let x : Item-F Item ItemArm = Item-F.Link at source target via in
    let same = sym (rolls-Link at source target via) in
    let from = word key.Link ++ end_tokens source in
    let begin = token_at at >> end_span source in
    let both = behind-two (end_tokens source) (target_tokens target) (end_span source) (target_span target) (one-at begun place) (own ends) in
    read-node (behind-two (optional via_tokens via) (mark sign.Semicolon) (written_span via_span via) token
    (regroup from (mark sign.Arrow) (end_tokens target) begin token (end_span target) both)
    (own last))
    (ap item_tokens same ∙ fold-roll-Item Tokens Tokens item_step item_arm_step x)
    (ap item_span same ∙ fold-roll-Item Span Span item_span_step item_arm_span_step x)
    (ap is_item same ∙ (fold-roll-Item Bool Bool is_item_step is_item_arm_step x ∙ true-and (is_end source && is_end target) (if_written is_via via) (true-and (is_end source) (is_end target) ends.good.0 ends.good.1) last.good))

pub via-Took : {before a b after : Spot} (value : Id) (own_key : Option ViaKey) (body : Expr) → TookOne (tok.Key key.Via) before a → Took via_names_tokens via_names_span (λ (own : Id × Option ViaKey). is_via_key own.1 ≡ true) a b (value, own_key) → Took via_body_tokens via_body_span (IsOk is_expr) b after body → TookAll (optional via_tokens) (written_span via_span) (IsOk (if_written is_via)) before after (Some (record { value = value; key = own_key; body = body }))
via-Took value own_key body begun names last =
    read-all (wide (behind-two (mark sign.FatArrow) (expr_tokens body) token (expr_span body) (one begun ⨟ own names) (own last))) refl refl
    (true-and (is_via_key own_key) (is_expr body) names.good last.good)

pub end-ok : (part : EndPart) (port : Id) → is_end_part part ≡ true → is_end (record { part = part; port = port }) ≡ true
end-ok end_part.Net port h = refl
end-ok end_part.Exec port h = refl
end-ok (end_part.Kid name index) port h = h
