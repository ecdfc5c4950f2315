-- Each construct of a structure is proper where its parts are.
use Rattle.std.proofs.Common.{◌≡◌, ℕ, Bool, true, List, ◌++◌, Option, Some, None, refl}
use Rattle.std.specs.Prelude.{◌&&◌}
use Rattle.std.specs.List.{list_all}
use Rattle.std.specs.Option.{option_map_or}
use Rattle.dsde_language.specs.given.words.key_Key_TheVariants as key
use Rattle.dsde_language.specs.given.syntax.token_Sign_TheVariants as sign
use Rattle.dsde_language.specs.given.syntax.id_Id.{Id}
use Rattle.dsde_language.specs.given.syntax.expr_Expr.{Expr}
use Rattle.dsde_language.specs.given.syntax.item_Bracket.{Bracket}
use Rattle.dsde_language.specs.given.syntax.item_End.{End}
use Rattle.dsde_language.specs.given.syntax.item_EndPart.{EndPart}
use Rattle.dsde_language.specs.given.syntax.item_EndPart_TheVariants as end_part
use Rattle.dsde_language.specs.given.syntax.item_ViaKey.{ViaKey}
use Rattle.dsde_language.specs.given.syntax.item_ViaPart.{ViaPart}
use Rattle.dsde_language.specs.given.syntax.item_Item_TheOpen.{Item-F}
use Rattle.dsde_language.specs.given.syntax.Grammar.{Tokens, word, mark, elses, optional, block, else_block, id_tokens, expr_tokens, args_tokens, bracket_tokens, component_tokens, entry_mark, end_tokens, via_key_tokens, via_tokens, item_step, item_arm_step}
use Rattle.dsde_language.specs.given.syntax.Levels.{has_first, all_hold, if_written, is_expr, is_index, is_end, is_via, is_item_step, is_item_arm_step}
use Rattle.dsde_language.specs.Proper.{all_so, is_plain, is_proper}
use Rattle.dsde_sound_expressions.specs.Items as proper
use Rattle.dsde_sound_expressions.specs.Items.{is_proper_index, is_proper_end, is_proper_key, is_proper_via}
use Rattle.dsde_sound_expressions.proofs.Plain.{plain, both, and-true, cut, front-plain, join-plain, Holds, AllHold}
use Rattle.dsde_sound_expressions.proofs.ExprProper.{expr-proper}
use Rattle.dsde_sound_expressions.proofs.StmtProper.{block-plain, value-proper, GoodElse}
use Rattle.dsde_sound_expressions.proofs.DeclProper.{args-proper}

index-proper : (index : Option Bracket) → is_index index ≡ true → plain (optional bracket_tokens index) ≡ true → is_proper_index index ≡ true
index-proper None level tokens = refl
index-proper (Some own) level tokens = value-proper own.value (mark sign.CloseBracket) level tokens

end-good : (part : EndPart) (port : Id) → Holds (is_end (record { part = part; port = port })) (end_tokens (record { part = part; port = port })) (is_proper_end (record { part = part; port = port }))
end-good end_part.Net port = record { holds = λ level tokens. refl }
end-good end_part.Exec port = record { holds = λ level tokens. refl }
end-good (end_part.Kid name index) port = record {
  holds = λ level tokens.
      let front : Tokens = component_tokens name index in
      let own = front-plain front (mark sign.Dot) (front-plain (front ++ mark sign.Dot) (id_tokens port) tokens) in
      index-proper index level (both (is_plain name) (plain (optional bracket_tokens index)) own).right;
}

end-proper : (end : End) → is_end end ≡ true → plain (end_tokens end) ≡ true → is_proper_end end ≡ true
end-proper end level tokens = (end-good end.part end.port).holds level tokens

key-proper : (key : Option ViaKey) → if_written (λ (own : ViaKey). is_expr own.value) key ≡ true → plain (optional via_key_tokens key) ≡ true → is_proper_key key ≡ true
key-proper None level tokens = refl
key-proper (Some own) level tokens =
    let parts = both (is_plain own.name) (plain (expr_tokens own.value)) tokens in
    and-true (is_plain own.name) (is_proper own.value) parts.left ((expr-proper own.value).holds level parts.right)

via-proper : (via : Option ViaPart) → if_written is_via via ≡ true → plain (optional via_tokens via) ≡ true → is_proper_via via ≡ true
via-proper None level tokens = refl
via-proper (Some own) level tokens =
    let placed = both (if_written (λ (own : ViaKey). is_expr own.value) own.key) (is_expr own.body) level in
    let key : Tokens = optional via_key_tokens own.key in
    let parts = both (is_plain own.value) (plain ((key ++ mark sign.CloseParen ++ mark sign.FatArrow) ++ expr_tokens own.body)) tokens in
    let last = cut (key ++ mark sign.CloseParen ++ mark sign.FatArrow) (expr_tokens own.body) parts.right in
    let front = front-plain key (mark sign.CloseParen) (front-plain (key ++ mark sign.CloseParen) (mark sign.FatArrow) last.left) in
    and-true (is_plain own.value) (is_proper_key own.key && is_proper own.body) parts.left
    (and-true (is_proper_key own.key) (is_proper own.body) (key-proper own.key placed.left front) ((expr-proper own.body).holds placed.right last.right))

pub comp-good : (at : ℕ) (name : Id) (index : Option Bracket) (soft : Bool) (model : Id) (args : List Expr)
    → Holds (is_item_step (Item-F.Comp at name index soft model args)) (item_step (Item-F.Comp at name index soft model args)) (proper.item_step (Item-F.Comp at name index soft model args))
comp-good at name index soft model args = record {
  holds = λ level tokens.
      let placed = both (is_index index) (list_all is_expr args) level in
      let front : Tokens = optional bracket_tokens index in
      let named : Tokens = front ++ entry_mark soft ++ id_tokens model in
      let own = both (is_plain name) (plain (named ++ args_tokens args ++ mark sign.Semicolon)) tokens in
      let part = cut named (args_tokens args) (front-plain (named ++ args_tokens args) (mark sign.Semicolon) own.right) in
      and-true (is_plain name) (is_proper_index index && list_all is_proper args) own.left
      (and-true (is_proper_index index) (list_all is_proper args)
      (index-proper index placed.left (front-plain front (entry_mark soft) (front-plain (front ++ entry_mark soft) (id_tokens model) part.left)))
      (args-proper args placed.right part.right));
}

pub link-good : (at : ℕ) (source target : End) (via : Option ViaPart)
    → Holds (is_item_step (Item-F.Link at source target via)) (item_step (Item-F.Link at source target via)) (proper.item_step (Item-F.Link at source target via))
link-good at source target via = record {
  holds = λ level tokens.
      let placed = both (is_end source && is_end target) (if_written is_via via) level in
      let ends = both (is_end source) (is_end target) placed.left in
      let first : Tokens = end_tokens source ++ mark sign.Arrow in
      let own = cut (first ++ end_tokens target) (optional via_tokens via) (front-plain (first ++ end_tokens target ++ optional via_tokens via) (mark sign.Semicolon) tokens) in
      let part = cut first (end_tokens target) own.left in
      and-true (is_proper_end source) (is_proper_end target && is_proper_via via)
      (end-proper source ends.left (front-plain (end_tokens source) (mark sign.Arrow) part.left))
      (and-true (is_proper_end target) (is_proper_via via) (end-proper target ends.right part.right) (via-proper via placed.right own.right));
}

pub let-good : (name : Id) (e : Expr) → Holds (is_item_step (Item-F.Let name e)) (item_step (Item-F.Let name e)) (proper.item_step (Item-F.Let name e))
let-good name e = record {
  holds = λ level tokens.
      let own = both (is_plain name) (plain (expr_tokens e ++ mark sign.Semicolon)) tokens in
      and-true (is_plain name) (is_proper e) own.left (value-proper e (mark sign.Semicolon) level own.right);
}

pub if-good : (ls : List Bool) (ts : List Tokens) (ps : List Bool) (lo : Option (List Bool)) (to : Option (List Tokens)) (po : Option (List Bool))
    → AllHold (λ holds. holds) (λ own. own) ls ts ps → GoodElse lo to po
    → Holds (is_item_step (Item-F.If ls lo)) (item_step (Item-F.If ts to)) (proper.item_step (Item-F.If ps po))
if-good ls ts ps lo to po arms other = record {
  holds = λ level tokens.
      let placed = both (has_first ls && all_hold ls) (if_written all_hold lo) level in
      let own = cut (elses ts) (optional else_block to) tokens in
      and-true (all_so ps) (option_map_or all_so po true)
      (arms.holds (both (has_first ls) (all_hold ls) placed.left).right (join-plain (word key.Else) ts own.left))
      (other.holds placed.right own.right);
}

pub for-good : (name : Id) (e : Expr) (ls : List Bool) (ts : List Tokens) (ps : List Bool) → AllHold (λ holds. holds) (λ own. own) ls ts ps
    → Holds (is_item_step (Item-F.For name e ls)) (item_step (Item-F.For name e ts)) (proper.item_step (Item-F.For name e ps))
for-good name e ls ts ps body = record {
  holds = λ level tokens.
      let placed = both (is_expr e) (all_hold ls) level in
      let own = both (is_plain name) (plain (expr_tokens e ++ block ts)) tokens in
      let part = cut (expr_tokens e) (block ts) own.right in
      and-true (is_plain name) (is_proper e && all_so ps) own.left
      (and-true (is_proper e) (all_so ps) ((expr-proper e).holds placed.left part.left) (body.holds placed.right (block-plain ts part.right)));
}

pub arm-good : (e : Expr) (ls : List Bool) (ts : List Tokens) (ps : List Bool) → AllHold (λ holds. holds) (λ own. own) ls ts ps
    → Holds (is_item_arm_step (record { cond = e; body = ls })) (item_arm_step (record { cond = e; body = ts })) (proper.item_arm_step (record { cond = e; body = ps }))
arm-good e ls ts ps body = record {
  holds = λ level tokens.
      let placed = both (is_expr e) (all_hold ls) level in
      let part = cut (expr_tokens e) (block ts) tokens in
      and-true (is_proper e) (all_so ps) ((expr-proper e).holds placed.left part.left) (body.holds placed.right (block-plain ts part.right));
}
