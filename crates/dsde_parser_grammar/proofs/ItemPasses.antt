-- Each item passes.
use Rattle.std.proofs.Common.{◌≡◌, ℕ, ◌+◌, Bool, true, false, ◌&&◌, List, [], ◌∷◌, ◌++◌, map, Option, Some, None, refl, subst}
use Rattle.std.specs.List.{list_all}
use Rattle.std.specs.Option.{option_map}
use Rattle.dsde_syntax.specs.declared.token.Tok.{Tok}
use Rattle.dsde_syntax.specs.declared.token.Tok.TheVariants as tok
use Rattle.dsde_words.specs.declared.key.Key.TheVariants as key
use Rattle.dsde_syntax.specs.declared.token.Sign.TheVariants as sign
use Rattle.dsde_syntax.specs.declared.id.Id.{Id}
use Rattle.dsde_syntax.specs.declared.expr.Expr.{Expr}
use Rattle.dsde_syntax.specs.declared.item.Item.{Item}
use Rattle.dsde_syntax.specs.declared.item.ItemArm.{ItemArm}
use Rattle.dsde_syntax.specs.declared.item.Bracket.{Bracket}
use Rattle.dsde_syntax.specs.declared.item.End.{End}
use Rattle.dsde_syntax.specs.declared.item.EndPart.{EndPart}
use Rattle.dsde_syntax.specs.declared.item.EndPart.TheVariants as end_part
use Rattle.dsde_syntax.specs.declared.item.ViaPart.{ViaPart}
use Rattle.dsde_syntax.specs.declared.item.ViaKey.{ViaKey}
use Rattle.dsde_syntax.specs.declared.item.Item.TheOpen.{Item-F, ItemArm-F}
use Rattle.dsde_syntax.specs.declared.item.Item.TheViews.{roll-Item, roll-ItemArm}
use Rattle.dsde_syntax.specs.declared.item.Item.TheFolds.{map-Item, map-ItemArm, fold-roll-Item, fold-roll-ItemArm, ind-Item}
use Rattle.dsde_syntax.specs.Grammar.{Tokens, word, mark, id_tokens, elses, optional, expr_tokens, args_tokens, set_tokens, for_tokens, if_tokens, else_block, bracket_tokens, component_tokens, entry_mark, end_part_tokens, end_tokens, via_key_tokens, via_tokens, link_tokens, item_step, item_arm_step, item_tokens, item_arm_tokens}
use Rattle.dsde_syntax.specs.Grammar.{block as block_tokens}
use Rattle.dsde_syntax.specs.Levels.{has_first, all_hold, if_written, is_expr, is_index, is_end, is_via, is_item_step, is_item_arm_step, is_item, is_item_arm}
use Rattle.dsde_parser_grammar.proofs.ExprReaders.{stops, is_if}
use Rattle.dsde_parser_grammar.proofs.ListReads.{and-true}
use Rattle.dsde_parser_grammar.proofs.StmtReads.{no_else, first-arm, false-true}
use Rattle.dsde_parser_grammar.specs.Want as want
use Rattle.dsde_parser_grammar.specs.Steps.{Wants, stop, args}
use Rattle.dsde_parser_grammar.proofs.Leading.{any, Leads, AllLead, AllFrom, take, takes, last, lasts, closed, pair, beside, fewer, left, passed}
use Rattle.dsde_parser_grammar.proofs.PrimPasses.{AllWhole, args-passes}
use Rattle.dsde_parser_grammar.proofs.ExprPasses.{roll-claim, whole_expr}
use Rattle.dsde_parser_grammar.proofs.BlockPasses.{set-passes, block-passes, arm-passes, loop-passes, choice_none-passes, choice_some-passes}
use Rattle.dsde_parser_grammar.proofs.StmtPasses.{if-no_else}

all_whole : (list : List Expr) → list_all is_expr list ≡ true → AllWhole (map expr_tokens list)
all_whole [] h = tt
all_whole (e ∷ list) h =
    let both = and-true (is_expr e) (list_all is_expr list) h in
    (whole_expr e both.0, all_whole list both.1)

-- "(" [expr {"," expr}] ")"
pub call_args-passes : (list : List Expr) → list_all is_expr list ≡ true → (wants : Wants) → Leads any (args ++ wants) wants (args_tokens list)
call_args-passes list h wants = take (tok.Sign sign.OpenParen) (beside (args-passes _ (all_whole list h)) wants) (λ more at rest. refl)

-- ["[" expr "]"], and the token behind it
indexed : (index : Option Bracket) → is_index index ≡ true → (t : Tok) (mid to : Wants) → ((more : Wants) (at : ℕ) (rest : Tokens) → stop (want.index ∷ (mid ++ more)) at (t ∷ rest) ≡ stop (to ++ more) (at + 1) rest) → ((more : Wants) (at : ℕ) (rest : Tokens) → stop (mid ++ more) at (t ∷ rest) ≡ stop (to ++ more) (at + 1) rest) → Leads any (want.index ∷ mid) to (optional bracket_tokens index ++ (t ∷ []))
indexed None h t mid to without within = last t without
indexed (Some bracket) h t mid to without within =
    let value = closed {to = mid} (tok.Sign sign.CloseBracket) (beside (whole_expr bracket.value h).passes (want.mark sign.CloseBracket ∷ mid)) (λ rest. refl) (λ more at rest. refl) in
    take (tok.Sign sign.OpenBracket) (closed t value (λ rest. refl) within) (λ more at rest. refl)

-- ("net" | "exec" | id ["[" expr "]"]) "." id

abbrev is_end_part : EndPart → Bool
is_end_part part = elim part [ end_part.Net ↦ true | end_part.Exec ↦ true | end_part.Kid name index ↦ is_index index ]

end_part-passes : (part : EndPart) (port : Id) → is_end_part part ≡ true → Leads any (want.end ∷ []) [] ((end_part_tokens part ++ mark sign.Dot) ++ id_tokens port)
end_part-passes end_part.Net port h = lasts (tok.Key key.Net ∷ tok.Sign sign.Dot ∷ tok.Ident port.name ∷ []) (λ more at rest. refl)
end_part-passes end_part.Exec port h = lasts (tok.Key key.Exec ∷ tok.Sign sign.Dot ∷ tok.Ident port.name ∷ []) (λ more at rest. refl)
end_part-passes (end_part.Kid name index) port h =
    take (tok.Ident name.name)
    (closed (tok.Ident port.name) (indexed index h (tok.Sign sign.Dot) (want.mark sign.Dot ∷ want.name ∷ []) (want.name ∷ []) (λ more at rest. refl) (λ more at rest. refl)) (λ rest. refl) (λ more at rest. refl))
    (λ more at rest. refl)

end-passes : (end : End) → is_end end ≡ true → Leads any (want.end ∷ []) [] (end_tokens end)
end-passes end h = end_part-passes end.part end.port h

-- ["," id "=" expr] ")"
via_key-closed : (own : Option ViaKey) → if_written (λ (own : ViaKey). is_expr own.value) own ≡ true → (wants : Wants) → Leads any (want.via_key ∷ want.mark sign.CloseParen ∷ wants) wants (optional via_key_tokens own ++ mark sign.CloseParen)
via_key-closed None h wants = last (tok.Sign sign.CloseParen) (λ more at rest. refl)
via_key-closed (Some own) h wants =
    takes (tok.Sign sign.Comma ∷ tok.Ident own.name.name ∷ tok.Sign sign.Equal ∷ [])
    (closed (tok.Sign sign.CloseParen) (beside (whole_expr own.value h).passes (want.mark sign.CloseParen ∷ wants)) (λ rest. refl) (λ more at rest. refl))
    (λ more at rest. refl)

via-passes : (via : ViaPart) → is_via via ≡ true → Leads (stops 9) (want.via ∷ []) [] (via_tokens via)
via-passes via h =
    let both = and-true (if_written (λ (own : ViaKey). is_expr own.value) via.key) (is_expr via.body) h in
    takes (tok.Key key.Via ∷ tok.Sign sign.OpenParen ∷ tok.Ident via.value.name ∷ [])
    (pair (closed {to = want.expr ∷ []} (tok.Sign sign.FatArrow) (via_key-closed via.key both.0 (want.mark sign.FatArrow ∷ want.expr ∷ [])) (λ rest. refl) (λ more at rest. refl)) (whole_expr via.body both.1).passes (λ rest h. refl))
    (λ more at rest. refl)

-- ["via" ..] ";"
via-closed : (via : Option ViaPart) → if_written is_via via ≡ true → (wants : Wants) → Leads any (want.via ∷ want.mark sign.Semicolon ∷ wants) wants (optional via_tokens via ++ mark sign.Semicolon)
via-closed None h wants = last (tok.Sign sign.Semicolon) (λ more at rest. refl)
via-closed (Some via) h wants = closed (tok.Sign sign.Semicolon) (beside (via-passes via h) (want.mark sign.Semicolon ∷ wants)) (λ rest. refl) (λ more at rest. refl)

-- an item passes, and may follow another
record ItemPasses (t : Tokens) (ok : Bool) : Type 0 where
  follows : ok ≡ true → (rest : Tokens) → no_else (t ++ rest) ≡ true
  passes : ok ≡ true → Leads no_else (want.items ∷ []) (want.items ∷ []) t

-- an arm of a choice passes, and begins with "if"
record ArmPasses (t : Tokens) (ok : Bool) : Type 0 where
  begins : (rest : Tokens) → is_if (t ++ rest) ≡ true
  passes : ok ≡ true → Leads any (want.else_items ∷ []) (want.other_items ∷ []) t

abbrev ItemClaim : Item → Type 0
ItemClaim v = ItemPasses (item_tokens v) (is_item v)

abbrev ArmClaim : ItemArm → Type 0
ArmClaim v = ArmPasses (item_arm_tokens v) (is_item_arm v)

abbrev S : Type 0
S = (v : Item) × ItemClaim v

abbrev A : Type 0
A = (v : ItemArm) × ArmClaim v

items-all : (list : List S) → all_hold (map is_item (map (λ e. e.0) list)) ≡ true → AllLead no_else (want.items ∷ []) (map item_tokens (map (λ e. e.0) list))
items-all [] h = tt
items-all ((v, own) ∷ list) h =
    let both = and-true (is_item v) (all_hold (map is_item (map (λ e. e.0) list))) h in
    (own.passes both.0, own.follows both.0, items-all list both.1)

arms-all : (list : List A) → all_hold (map is_item_arm (map (λ e. e.0) list)) ≡ true → AllFrom (want.else_items ∷ []) (want.other_items ∷ []) (map item_arm_tokens (map (λ e. e.0) list))
arms-all [] h = tt
arms-all ((v, own) ∷ list) h =
    let both = and-true (is_item_arm v) (all_hold (map is_item_arm (map (λ e. e.0) list))) h in
    (own.passes both.0, arms-all list both.1)

any-item : {t : Tokens} → Leads any (want.items ∷ []) (want.items ∷ []) t → Leads no_else (want.items ∷ []) (want.items ∷ []) t
any-item own = fewer no_else (λ rest h. refl) own

let-passes : (name : Id) (value : Expr) → ItemPasses (word key.Let ++ set_tokens name value) (is_expr value)
let-passes name value = record {
  follows = λ h rest. refl;
  passes = λ h. any-item (take (tok.Key key.Let) (set-passes name value h (want.items ∷ [])) (λ more at rest. refl));
}

-- "is" | ":" behind a component
marked : (index : Option Bracket) → is_index index ≡ true → (soft : Bool) (to : Wants) → Leads any (want.index ∷ want.entry_mark ∷ to) to (optional bracket_tokens index ++ entry_mark soft)
marked index h true to = indexed index h (tok.Sign sign.Colon) (want.entry_mark ∷ to) to (λ more at rest. refl) (λ more at rest. refl)
marked index h false to = indexed index h (tok.Key key.Is) (want.entry_mark ∷ to) to (λ more at rest. refl) (λ more at rest. refl)

comp-passes : (name : Id) (index : Option Bracket) (soft : Bool) (model : Id) (list : List Expr) → ItemPasses (((((word key.Comp ++ component_tokens name index) ++ entry_mark soft) ++ id_tokens model) ++ args_tokens list) ++ mark sign.Semicolon) (is_index index && list_all is_expr list)
comp-passes name index soft model list = record {
  follows = λ h rest. refl;
  passes = λ h.
      let both = and-true (is_index index) (list_all is_expr list) h in
      let last = want.mark sign.Semicolon ∷ want.items ∷ [] in
      let begun = closed {to = args ++ last} (tok.Ident model.name) (marked index both.0 soft (want.name ∷ (args ++ last))) (λ rest. refl) (λ more at rest. refl) in
      any-item (takes (tok.Key key.Comp ∷ tok.Ident name.name ∷ [])
      (closed (tok.Sign sign.Semicolon) (pair begun (call_args-passes list both.1 last) (λ rest h. refl)) (λ rest. refl) (λ more at rest. refl))
      (λ more at rest. refl));
}

link-passes : (source target : End) (via : Option ViaPart) → ItemPasses (link_tokens source target via) ((is_end source && is_end target) && if_written is_via via)
link-passes source target via = record {
  follows = λ h rest. refl;
  passes = λ h.
      let both = and-true (is_end source && is_end target) (if_written is_via via) h in
      let ends = and-true (is_end source) (is_end target) both.0 in
      let last = want.via ∷ want.mark sign.Semicolon ∷ want.items ∷ [] in
      let begun = pair (closed {to = want.end ∷ last} (tok.Sign sign.Arrow) (beside (end-passes source ends.0) (want.mark sign.Arrow ∷ want.end ∷ last)) (λ rest. refl) (λ more at rest. refl)) (beside (end-passes target ends.1) last) (λ rest h. refl) in
      any-item (take (tok.Key key.Link)
      (left ((end_tokens source ++ mark sign.Arrow) ++ end_tokens target) (optional via_tokens via) (mark sign.Semicolon) (pair begun (via-closed via both.1 (want.items ∷ [])) (λ rest h. refl)))
      (λ more at rest. refl));
}

item_loop-passes : (name : Id) (list : Expr) (body : List S) → ItemPasses (for_tokens name list ++ block_tokens (map item_tokens (map (λ e. e.0) body))) (is_expr list && all_hold (map is_item (map (λ e. e.0) body)))
item_loop-passes name list body = record {
  follows = λ h rest. refl;
  passes = λ h.
      let both = and-true (is_expr list) (all_hold (map is_item (map (λ e. e.0) body))) h in
      any-item (loop-passes want.items name list both.0 _ (items-all body both.1) (λ more at rest. refl) (λ more at rest. refl));
}

item_arm-passes : (cond : Expr) (body : List S) → ArmPasses (if_tokens cond ++ block_tokens (map item_tokens (map (λ e. e.0) body))) (is_expr cond && all_hold (map is_item (map (λ e. e.0) body)))
item_arm-passes cond body = record {
  begins = λ rest. refl;
  passes = λ h.
      let both = and-true (is_expr cond) (all_hold (map is_item (map (λ e. e.0) body))) h in
      arm-passes want.items want.other_items want.else_items cond both.0 _ (items-all body both.1) (λ more at rest. refl) (λ more at rest. refl);
}

-- what begins with "if"

if-wants : (more : Wants) (at : ℕ) (ts : Tokens) → is_if ts ≡ true → stop (want.items ∷ more) at ts ≡ stop (want.else_items ∷ want.items ∷ more) at ts
if-wants more at (tok.Key key.If ∷ ts) h = refl
if-wants more at _ h = cc

others-passed : (rest : Tokens) → no_else rest ≡ true → passed want.other_items rest ≡ true
others-passed (tok.Key key.Else ∷ rest) h = cc
others-passed _ h = refl

item_choice-passes : (arms : List A) (other : Option (List S)) → ItemPasses (elses (map item_arm_tokens (map (λ e. e.0) arms)) ++ optional else_block (option_map (map item_tokens) (option_map (map (λ e. e.0)) other))) ((has_first (map is_item_arm (map (λ e. e.0) arms)) && all_hold (map is_item_arm (map (λ e. e.0) arms))) && if_written all_hold (option_map (map is_item) (option_map (map (λ e. e.0)) other)))
item_choice-passes [] other = record {
  follows = λ h. absurd (false-true (and-true false (if_written all_hold (option_map (map is_item) (option_map (map (λ e. e.0)) other))) h).0);
  passes = λ h. absurd (false-true (and-true false (if_written all_hold (option_map (map is_item) (option_map (map (λ e. e.0)) other))) h).0);
}
item_choice-passes ((v, first) ∷ arms) None = record {
  follows = λ h rest. if-no_else _ (first-arm (item_arm_tokens v) first.begins _ [] rest);
  passes = λ h.
      let both = and-true (all_hold (map is_item_arm (map (λ e. e.0) ((v, first) ∷ arms)))) true h in
      choice_none-passes want.items want.other_items want.else_items (λ more at rest. refl) others-passed if-wants _ _ first.begins (arms-all ((v, first) ∷ arms) both.0);
}
item_choice-passes ((v, first) ∷ arms) (Some last) = record {
  follows = λ h rest. if-no_else _ (first-arm (item_arm_tokens v) first.begins _ (else_block (map item_tokens (map (λ e. e.0) last))) rest);
  passes = λ h.
      let both = and-true (all_hold (map is_item_arm (map (λ e. e.0) ((v, first) ∷ arms)))) (all_hold (map is_item (map (λ e. e.0) last))) h in
      choice_some-passes want.items want.other_items want.else_items (λ more at rest. refl) (λ more at rest. refl) if-wants (λ more at rest. refl) _ _ first.begins (arms-all ((v, first) ∷ arms) both.0) _ (items-all last both.1);
}

-- every item

item-roll : (x : Item-F Item ItemArm) → ItemPasses (item_step (map-Item Item ItemArm Tokens Tokens item_tokens item_arm_tokens x)) (is_item_step (map-Item Item ItemArm Bool Bool is_item is_item_arm x)) → ItemClaim (roll-Item x)
item-roll x own = roll-claim ItemPasses _ _ _ _ (fold-roll-Item Tokens Tokens item_step item_arm_step x) (fold-roll-Item Bool Bool is_item_step is_item_arm_step x) own

arm-roll : (x : ItemArm-F Item ItemArm) → ArmPasses (item_arm_step (map-ItemArm Item ItemArm Tokens Tokens item_tokens item_arm_tokens x)) (is_item_arm_step (map-ItemArm Item ItemArm Bool Bool is_item is_item_arm x)) → ArmClaim (roll-ItemArm x)
arm-roll x own = roll-claim ArmPasses _ _ _ _ (fold-roll-ItemArm Tokens Tokens item_step item_arm_step x) (fold-roll-ItemArm Bool Bool is_item_step is_item_arm_step x) own

item-case : (y : Item-F S A) → ItemClaim (roll-Item (map-Item S A Item ItemArm (λ e. e.0) (λ e. e.0) y))
item-case (Item-F.Comp at name index soft model list) = item-roll (Item-F.Comp at name index soft model list) (comp-passes name index soft model list)
item-case (Item-F.Link at source target via) = item-roll (Item-F.Link at source target via) (link-passes source target via)
item-case (Item-F.Let name value) = item-roll (Item-F.Let name value) (let-passes name value)
item-case (Item-F.If arms None) = item-roll (Item-F.If (map (λ e. e.0) arms) None) (item_choice-passes arms None)
item-case (Item-F.If arms (Some last)) = item-roll (Item-F.If (map (λ e. e.0) arms) (Some (map (λ e. e.0) last))) (item_choice-passes arms (Some last))
item-case (Item-F.For name list body) = item-roll (Item-F.For name list (map (λ e. e.0) body)) (item_loop-passes name list body)

arm-case : (y : ItemArm-F S A) → ArmClaim (roll-ItemArm (map-ItemArm S A Item ItemArm (λ e. e.0) (λ e. e.0) y))
arm-case y = arm-roll (record { cond = y.cond; body = map (λ e. e.0) y.body }) (item_arm-passes y.cond y.body)

item-passes : (v : Item) → ItemClaim v
item-passes = ind-Item ItemClaim ArmClaim
    (λ x y is. subst (λ (z : Item-F Item ItemArm). ItemClaim (roll-Item z)) is (item-case y))
    (λ x y is. subst (λ (z : ItemArm-F Item ItemArm). ArmClaim (roll-ItemArm z)) is (arm-case y))

-- several items of the grammar pass
pub items-pass : (list : List Item) → list_all is_item list ≡ true → AllLead no_else (want.items ∷ []) (map item_tokens list)
items-pass [] h = tt
items-pass (v ∷ list) h =
    let both = and-true (is_item v) (list_all is_item list) h in
    ((item-passes v).passes both.0, (item-passes v).follows both.0, items-pass list both.1)

pub items_block-passes : (list : List Item) → list_all is_item list ≡ true → (wants : Wants) → Leads any (want.mark sign.OpenBrace ∷ want.items ∷ want.mark sign.CloseBrace ∷ wants) wants (block_tokens (map item_tokens list))
items_block-passes list h wants = block-passes want.items wants _ (items-pass list h) (λ more at rest. refl)
