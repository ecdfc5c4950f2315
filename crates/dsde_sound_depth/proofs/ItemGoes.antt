-- Each item of a structure leaves what is open as it is, and within it no more conditions are open
-- than nest in it.
use Rattle.std.proofs.Common.{◌≡◌, ℕ, ◌≤◌, Bool, true, false, List, [], ◌∷◌, ◌++◌, map, Option, Some, None, ap, subst, arith}
use Rattle.std.specs.Prelude.{◌&&◌, max}
use Rattle.std.specs.List.{list_all}
use Rattle.dsde_syntax.specs.declared.token.Tok.TheVariants as tok
use Rattle.dsde_words.specs.declared.key.Key.TheVariants as key
use Rattle.dsde_syntax.specs.declared.token.Sign.TheVariants as sign
use Rattle.dsde_syntax.specs.declared.id.Id.{Id}
use Rattle.dsde_syntax.specs.declared.expr.Expr.{Expr}
use Rattle.dsde_syntax.specs.declared.item.Bracket.{Bracket}
use Rattle.dsde_syntax.specs.declared.item.End.{End}
use Rattle.dsde_syntax.specs.declared.item.EndPart.{EndPart}
use Rattle.dsde_syntax.specs.declared.item.EndPart.TheVariants as end_part
use Rattle.dsde_syntax.specs.declared.item.ViaKey.{ViaKey}
use Rattle.dsde_syntax.specs.declared.item.ViaPart.{ViaPart}
use Rattle.dsde_syntax.specs.declared.item.Item.{Item}
use Rattle.dsde_syntax.specs.declared.item.ItemArm.{ItemArm}
use Rattle.dsde_syntax.specs.declared.item.Item.TheOpen.{Item-F, ItemArm-F}
use Rattle.dsde_syntax.specs.declared.item.Item.TheViews.{roll-Item, roll-ItemArm}
use Rattle.dsde_syntax.specs.declared.item.Item.TheFolds.{map-Item, map-ItemArm, fold-roll-Item, fold-roll-ItemArm, ind-Item}
use Rattle.dsde_syntax.specs.Grammar.{Tokens, optional, id_tokens, expr_tokens, args_tokens, component_tokens, entry_mark, end_part_tokens, end_tokens, via_key_tokens, via_tokens, item_step, item_arm_step, item_tokens, item_arm_tokens}
use Rattle.dsde_syntax.specs.Levels.{has_first, all_hold, if_written, is_expr, is_index, is_end, is_via, is_item_step, is_item_arm_step, is_item, is_item_arm}
use Rattle.dsde_parser.specs.declared.depth.Last.{Last}
use Rattle.dsde_parser.specs.declared.depth.Last.TheVariants as last
use Rattle.dsde_parser.specs.Depth.{with_bracket, behind_name}
use Rattle.dsde_sound_depth.proofs.Nests.{most, nest, index_nest, end_part_nest, key_nest, via_nest, item_nest_step, item_arm_nest_step, item_nest, item_arm_nest}
use Rattle.dsde_sound_depth.proofs.Going.{Goes, step, one, one-to, join, here}
use Rattle.dsde_sound_depth.proofs.Lists.{Goes-on, AllListed, whole-listed, commas-go, parens-go, brackets-go}
use Rattle.dsde_sound_depth.proofs.ExprParts.{both}
use Rattle.dsde_sound_depth.proofs.ExprGoes.{roll-claim, expr-goes}
use Rattle.dsde_sound_depth.proofs.Lines.{left-within, right-within, IsClear, Line, GoodLine, AllLines, none-on, value-go, let-line, arm-line, choice-line, no-else, else-line, for-line}

-- arguments
exprs-listed : (args : List Expr) → list_all is_expr args ≡ true → AllListed last.Other (map nest args) (map expr_tokens args)
exprs-listed [] level = tt
exprs-listed (e ∷ args) level =
    let part = both (is_expr e) (list_all is_expr args) level in
    (whole-listed last.Other ((expr-goes e).holds part.left), exprs-listed args part.right)

pub args-line : (args : List Expr) → list_all is_expr args ≡ true → Line (most (map nest args)) (args_tokens args)
args-line args level = record {
  goes = λ brackets limit before clear few. record {
    after = last.Other;
    goes = parens-go brackets before (omega arith) (commas-go last.Other (map nest args) (map expr_tokens args) (exprs-listed args level) brackets 0 limit (omega (arith, few)));
  };
}

-- id ["[" expr "]"]
component-line : (name : Id) (index : Option Bracket) → is_index index ≡ true → Line (index_nest index) (component_tokens name index)
component-line name None level = record { goes = λ brackets limit before clear few. record { after = behind_name before; goes = one (tok.Ident name.name) (omega arith) (omega arith) } }
component-line name (Some index) level = record {
  goes = λ brackets limit before clear few. record {
    after = last.Other;
    goes = step (tok.Ident name.name) (omega arith) (brackets-go brackets (behind_name before) (omega arith) (inside brackets limit few));
  };
}
  where
    inside : (brackets : List ℕ) (limit : ℕ) → nest index.value ≤ limit → Goes-on limit (with_bracket brackets 0) 0 last.Other (expr_tokens index.value)
    inside brackets limit few = record { after = last.Other; goes = value-go index.value level (with_bracket brackets 0) limit few }

-- a component behind which a ":" is no field's
component-goes : (name : Id) (index : Option Bracket) → is_index index ≡ true → (brackets : List ℕ) (limit : ℕ) → IsClear brackets → index_nest index ≤ limit → Goes limit (here brackets 0 last.Other) (component_tokens name index) (here brackets 0 last.Other)
unfolding component-line
component-goes name None level brackets limit clear few = ((component-line name None level).goes brackets limit last.Other clear few).goes
component-goes name (Some index) level brackets limit clear few = ((component-line name (Some index) level).goes brackets limit last.Other clear few).goes

end-line : (part : EndPart) (port : Id) → is_end (record { part = part; port = port }) ≡ true → Line (end_part_nest part) (end_part_tokens part)
end-line end_part.Net port level = record { goes = λ brackets limit before clear few. record { after = last.Other; goes = one (tok.Key key.Net) (omega arith) (omega arith) } }
end-line end_part.Exec port level = record { goes = λ brackets limit before clear few. record { after = last.Other; goes = one (tok.Key key.Exec) (omega arith) (omega arith) } }
end-line (end_part.Kid name index) port level = component-line name index level

-- an end of a link, and its port
end-goes : {brackets : List ℕ} {limit : ℕ} (end : End) → Goes-on limit brackets 0 last.Other (end_part_tokens end.part) → Goes limit (here brackets 0 last.Other) (end_tokens end) (here brackets 0 last.Other)
end-goes {brackets} {limit} end own =
    join (join own.goes (one (tok.Sign sign.Dot) (omega arith) (omega arith))) (one (tok.Ident end.port.name) (omega arith) (omega arith))

-- "," id "=" expr
key-goes : (key : Option ViaKey) → if_written (λ (own : ViaKey). is_expr own.value) key ≡ true → (brackets : List ℕ) (limit : ℕ) (before : Last) → key_nest key ≤ limit → Goes-on limit brackets 0 before (optional via_key_tokens key)
key-goes None level brackets limit before few = none-on
key-goes (Some key) level brackets limit before few = record {
  after = last.Other;
  goes = step (tok.Sign sign.Comma) (omega arith) (step (tok.Ident key.name.name) (omega arith) (step (tok.Sign sign.Equal) (omega arith) (value-go key.value level brackets limit few)));
}

via-line : (via : Option ViaPart) → if_written is_via via ≡ true → Line (via_nest via) (optional via_tokens via)
via-line None level = no-else
via-line (Some via) level = record {
  goes = λ brackets limit before clear few.
      let placed = both (if_written (λ (own : ViaKey). is_expr own.value) via.key) (is_expr via.body) level in
      let named = key-goes via.key placed.left (with_bracket brackets 0) limit last.Other (left-within (key_nest via.key) (nest via.body) limit few) in
      let names : Goes-on limit (with_bracket brackets 0) 0 last.Other (id_tokens via.value ++ optional via_key_tokens via.key) = record { after = named.after; goes = step (tok.Ident via.value.name) (omega arith) named.goes } in
      record {
        after = last.Other;
        goes = step (tok.Key key.Via) (omega arith)
            (join (join (parens-go brackets last.Other (omega arith) names) (one (tok.Sign sign.FatArrow) (omega arith) (omega arith)))
            (value-go via.body placed.right brackets limit (right-within (key_nest via.key) (nest via.body) limit few)));
      };
}

-- "is" | ":"
mark-goes : (soft : Bool) (brackets : List ℕ) (limit : ℕ) → IsClear brackets → Goes limit (here brackets 0 last.Other) (entry_mark soft) (here brackets 0 last.Other)
mark-goes true brackets limit clear = one-to (tok.Sign sign.Colon) (ap (λ (n : ℕ). here brackets n last.Other) clear) (omega arith) (omega arith)
mark-goes false brackets limit clear = one (tok.Key key.Is) (omega arith) (omega arith)

-- "comp" id ["[" expr "]"] ("is" | ":") id args ";"
comp-line : (at : ℕ) (name : Id) (index : Option Bracket) (soft : Bool) (model : Id) (args : List Expr) → (is_index index && list_all is_expr args) ≡ true → Line (max (index_nest index) (most (map nest args))) (item_step (Item-F.Comp at name index soft model args))
comp-line at name index soft model args level = record {
  goes = λ brackets limit before clear few.
      let placed = both (is_index index) (list_all is_expr args) level in
      let component = component-goes name index placed.left brackets limit clear (left-within (index_nest index) (most (map nest args)) limit few) in
      let values = (args-line args placed.right).goes brackets limit last.Other clear (right-within (index_nest index) (most (map nest args)) limit few) in
      record {
        after = last.Other;
        goes = step (tok.Key key.Comp) (omega arith)
            (join (join (join (join component (mark-goes soft brackets limit clear)) (one (tok.Ident model.name) (omega arith) (omega arith))) values.goes) (one (tok.Sign sign.Semicolon) (omega arith) (omega arith)));
      };
}

link-line : (at : ℕ) (source target : End) (via : Option ViaPart) → (is_end source && is_end target && if_written is_via via) ≡ true → Line (max (end_part_nest source.part) (max (end_part_nest target.part) (via_nest via))) (item_step (Item-F.Link at source target via))
link-line at source target via level = record {
  goes = λ brackets limit before clear few.
      let placed = both (is_end source && is_end target) (if_written is_via via) level in
      let ends = both (is_end source) (is_end target) placed.left in
      let n1 : ℕ = end_part_nest source.part in
      let n2 : ℕ = end_part_nest target.part in
      let more = right-within n1 (max n2 (via_nest via)) limit few in
      let from = (end-line source.part source.port ends.left).goes brackets limit last.Other clear (left-within n1 (max n2 (via_nest via)) limit few) in
      let to = (end-line target.part target.port ends.right).goes brackets limit last.Other clear (left-within n2 (via_nest via) limit more) in
      let through = (via-line via placed.right).goes brackets limit last.Other clear (right-within n2 (via_nest via) limit more) in
      record {
        after = last.Other;
        goes = step (tok.Key key.Link) (omega arith)
            (join (join (join (join (end-goes source from) (one (tok.Sign sign.Arrow) (omega arith) (omega arith))) (end-goes target to)) through.goes) (one (tok.Sign sign.Semicolon) (omega arith) (omega arith)));
      };
}

abbrev Claim : Item → Type 0
Claim s = GoodLine (is_item s) (item_tokens s) (item_nest s)

abbrev ArmClaim : ItemArm → Type 0
ArmClaim a = GoodLine (is_item_arm a) (item_arm_tokens a) (item_arm_nest a)

item-roll : (x : Item-F Item ItemArm) → GoodLine (is_item_step (map-Item Item ItemArm Bool Bool is_item is_item_arm x)) (item_step (map-Item Item ItemArm Tokens Tokens item_tokens item_arm_tokens x)) (item_nest_step (map-Item Item ItemArm ℕ ℕ item_nest item_arm_nest x)) → Claim (roll-Item x)
item-roll x own = roll-claim GoodLine _ _ _ _ _ _
    (fold-roll-Item Bool Bool is_item_step is_item_arm_step x)
    (fold-roll-Item Tokens Tokens item_step item_arm_step x)
    (fold-roll-Item ℕ ℕ item_nest_step item_arm_nest_step x) own

arm-roll : (x : ItemArm-F Item ItemArm) → GoodLine (is_item_arm_step (map-ItemArm Item ItemArm Bool Bool is_item is_item_arm x)) (item_arm_step (map-ItemArm Item ItemArm Tokens Tokens item_tokens item_arm_tokens x)) (item_arm_nest_step (map-ItemArm Item ItemArm ℕ ℕ item_nest item_arm_nest x)) → ArmClaim (roll-ItemArm x)
arm-roll x own = roll-claim GoodLine _ _ _ _ _ _
    (fold-roll-ItemArm Bool Bool is_item_step is_item_arm_step x)
    (fold-roll-ItemArm Tokens Tokens item_step item_arm_step x)
    (fold-roll-ItemArm ℕ ℕ item_nest_step item_arm_nest_step x) own

-- a part of an item beside its claim
abbrev S : Type 0
S = (s : Item) × Claim s

abbrev A : Type 0
A = (a : ItemArm) × ArmClaim a

body-lines : (body : List S) → all_hold (map is_item (map (λ s. s.0) body)) ≡ true → AllLines (map item_nest (map (λ s. s.0) body)) (map item_tokens (map (λ s. s.0) body))
body-lines [] level = tt
body-lines ((s, own) ∷ body) level =
    let part = both (is_item s) (all_hold (map is_item (map (λ s. s.0) body))) level in
    (own.holds part.left, body-lines body part.right)

arms-lines : (arms : List A) → all_hold (map is_item_arm (map (λ a. a.0) arms)) ≡ true → AllLines (map item_arm_nest (map (λ a. a.0) arms)) (map item_arm_tokens (map (λ a. a.0) arms))
arms-lines [] level = tt
arms-lines ((a, own) ∷ arms) level =
    let part = both (is_item_arm a) (all_hold (map is_item_arm (map (λ a. a.0) arms))) level in
    (own.holds part.left, arms-lines arms part.right)

-- the arms of a choice of the grammar
choice-arms : (arms : List A) (other : Bool) → (has_first (map is_item_arm (map (λ a. a.0) arms)) && all_hold (map is_item_arm (map (λ a. a.0) arms)) && other) ≡ true → AllLines (map item_arm_nest (map (λ a. a.0) arms)) (map item_arm_tokens (map (λ a. a.0) arms))
choice-arms arms other level =
    let some : Bool = has_first (map is_item_arm (map (λ a. a.0) arms)) in
    let all : Bool = all_hold (map is_item_arm (map (λ a. a.0) arms)) in
    arms-lines arms (both some all (both (some && all) other level).left).right

item-case : (y : Item-F S A) → Claim (roll-Item (map-Item S A Item ItemArm (λ s. s.0) (λ a. a.0) y))
item-case (Item-F.Comp at name index soft model args) = item-roll (Item-F.Comp at name index soft model args) (record { holds = λ level. comp-line at name index soft model args level })
item-case (Item-F.Link at source target via) = item-roll (Item-F.Link at source target via) (record { holds = λ level. link-line at source target via level })
item-case (Item-F.Let name e) = item-roll (Item-F.Let name e) (record { holds = λ level. let-line false name e level })
item-case (Item-F.If arms None) = item-roll (Item-F.If (map (λ a. a.0) arms) None)
    (record { holds = λ level. choice-line _ _ (choice-arms arms true level) 0 [] no-else })
item-case (Item-F.If arms (Some body)) = item-roll (Item-F.If (map (λ a. a.0) arms) (Some (map (λ s. s.0) body)))
    (record {
      holds = λ level.
          let other : Bool = all_hold (map is_item (map (λ s. s.0) body)) in
          let placed = both (has_first (map is_item_arm (map (λ a. a.0) arms)) && all_hold (map is_item_arm (map (λ a. a.0) arms))) other level in
          choice-line _ _ (choice-arms arms other level) _ _ (else-line _ _ (body-lines body placed.right));
    })
item-case (Item-F.For name e body) = item-roll (Item-F.For name e (map (λ s. s.0) body))
    (record {
      holds = λ level.
          let placed = both (is_expr e) (all_hold (map is_item (map (λ s. s.0) body))) level in
          for-line name e placed.left _ _ (body-lines body placed.right);
    })

arm-case : (y : ItemArm-F S A) → ArmClaim (roll-ItemArm (map-ItemArm S A Item ItemArm (λ s. s.0) (λ a. a.0) y))
arm-case y = arm-roll (record { cond = y.cond; body = map (λ s. s.0) y.body })
    (record {
      holds = λ level.
          let placed = both (is_expr y.cond) (all_hold (map is_item (map (λ s. s.0) y.body))) level in
          arm-line y.cond placed.left _ _ (body-lines y.body placed.right);
    })

pub item-goes : (s : Item) → GoodLine (is_item s) (item_tokens s) (item_nest s)
item-goes = ind-Item Claim ArmClaim
    (λ x y is. subst (λ (z : Item-F Item ItemArm). Claim (roll-Item z)) is (item-case y))
    (λ x y is. subst (λ (z : ItemArm-F Item ItemArm). ArmClaim (roll-ItemArm z)) is (arm-case y))
