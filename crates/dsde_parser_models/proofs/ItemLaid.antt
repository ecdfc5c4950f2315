-- The places in the items of structures can be laid.
use Rattle.std.proofs.Common.{◌≡◌, Bool, true, false, ◌&&◌, List, map, Option, None, Some, refl, ap, subst, ◌∙◌}
use Rattle.std.specs.Prelude.{ℕ}
use Rattle.dsde_syntax.specs.declared.token.Tok.TheVariants as tok
use Rattle.dsde_words.specs.declared.key.Key.TheVariants as key
use Rattle.dsde_syntax.specs.declared.token.Sign.TheVariants as sign
use Rattle.dsde_syntax.specs.declared.id.Id.{Id}
use Rattle.dsde_syntax.specs.declared.item.Item.{Item}
use Rattle.dsde_syntax.specs.declared.item.ItemArm.{ItemArm}
use Rattle.dsde_syntax.specs.declared.item.Item.TheOpen.{Item-F, ItemArm-F}
use Rattle.dsde_syntax.specs.declared.item.Item.TheViews.{roll-Item, roll-ItemArm}
use Rattle.dsde_syntax.specs.declared.item.Item.TheFolds.{map-Item, map-ItemArm, fold-roll-Item, fold-roll-ItemArm, ind-Item}
use Rattle.dsde_syntax.specs.declared.item.Bracket.{Bracket}
use Rattle.dsde_syntax.specs.declared.item.End.{End}
use Rattle.dsde_syntax.specs.declared.item.EndPart.{EndPart}
use Rattle.dsde_syntax.specs.declared.item.EndPart.TheVariants as end_part
use Rattle.dsde_syntax.specs.declared.item.ViaPart.{ViaPart}
use Rattle.dsde_syntax.specs.declared.item.ViaKey.{ViaKey}
use Rattle.dsde_syntax.specs.Grammar.{Tokens, elses, block, bracket_tokens, component_tokens, entry_mark, end_part_tokens, end_tokens, via_key_tokens, via_tokens, item_step, item_arm_step, item_tokens, item_arm_tokens}
use Rattle.dsde_syntax.specs.Levels.{has_first, all_hold, is_expr, is_index, is_end, is_via, is_item_step, is_item_arm_step, is_item, is_item_arm}
use Rattle.dsde_syntax.specs.Places.{Span, token, block_span, spans_with, bracket_span, component_span, end_part_span, end_span, via_key_span, via_span, item_span_step, item_arm_span_step, item_span, item_arm_span}
use Rattle.dsde_parser_models.proofs.Laying.{Lays, made, nothing, skip, place, here, ident, both, behind, before, within, separated, written, all_held}
use Rattle.dsde_parser_models.proofs.ExprLaid.{whole-laid, args-laid}
use Rattle.dsde_parser_models.proofs.StmtLaid.{set-laid, for-laid, if-laid, block-laid}

-- "[" expr "]"
bracket-laid : (bracket : Bracket) → Lays bracket_tokens (λ (v : Bracket). is_expr v.value) bracket_span bracket
bracket-laid bracket =
    made bracket_tokens (λ (v : Bracket). is_expr v.value) bracket_span
    (both (here bracket.at) (within (tok.Sign sign.OpenBracket) (tok.Sign sign.CloseBracket) (whole-laid bracket.value)))
    (λ v. record { at = v.0; value = v.1 }) (λ k. k.1) (λ v. refl) (λ v. refl) (λ v at. refl)

-- id ["[" expr "]"]
component-laid : (name : Id) (index : Option Bracket) → Lays (λ (v : Id × Option Bracket). component_tokens v.0 v.1) (λ (v : Id × Option Bracket). is_index v.1) (λ (v : Id × Option Bracket). component_span v.0 v.1) (name, index)
component-laid name index =
    made (λ (v : Id × Option Bracket). component_tokens v.0 v.1) (λ (v : Id × Option Bracket). is_index v.1) (λ (v : Id × Option Bracket). component_span v.0 v.1)
    (both (ident name) (written bracket_tokens (λ (v : Bracket). is_expr v.value) bracket_span bracket-laid index)) (λ v. v) (λ k. k.1) (λ v. refl) (λ v. refl) (λ v at. refl)

-- "is" | ":"
mark-laid : (soft : Bool) → Lays entry_mark (λ (v : Bool). tt {0}) (λ v. token) soft
mark-laid true = made entry_mark (λ v. tt {0}) (λ v. token) (skip (tok.Sign sign.Colon)) (λ v. true) (λ k. tt) (λ v. refl) (λ v. refl) (λ v at. refl)
mark-laid false = made entry_mark (λ v. tt {0}) (λ v. token) (skip (tok.Key key.Is)) (λ v. false) (λ k. tt) (λ v. refl) (λ v. refl) (λ v at. refl)

abbrev is_part : EndPart → Bool
is_part part = elim part [ end_part.Net ↦ true | end_part.Exec ↦ true | end_part.Kid name index ↦ is_index index ]

part-laid : (part : EndPart) → Lays end_part_tokens is_part end_part_span part
part-laid end_part.Net = made end_part_tokens is_part end_part_span (skip (tok.Key key.Net)) (λ v. end_part.Net) (λ k. true) (λ v. refl) (λ v. refl) (λ v at. refl)
part-laid end_part.Exec = made end_part_tokens is_part end_part_span (skip (tok.Key key.Exec)) (λ v. end_part.Exec) (λ k. true) (λ v. refl) (λ v. refl) (λ v at. refl)
part-laid (end_part.Kid name index) =
    made end_part_tokens is_part end_part_span (component-laid name index) (λ v. end_part.Kid v.0 v.1) (λ k. k) (λ v. refl) (λ v. refl) (λ v at. refl)

end-laid : (end : End) → Lays end_tokens is_end end_span end
end-laid end =
    made end_tokens is_end end_span (both (before (part-laid end.part) (tok.Sign sign.Dot)) (ident end.port)) (λ v. record { part = v.0; port = v.1 }) (λ k. k.0) (λ v. refl) (λ v. refl) (λ v at. refl)

-- "," id "=" expr
via_key-laid : (own : ViaKey) → Lays via_key_tokens (λ (v : ViaKey). is_expr v.value) via_key_span own
via_key-laid own =
    made via_key_tokens (λ (v : ViaKey). is_expr v.value) via_key_span
    (both (before (behind (tok.Sign sign.Comma) (ident own.name)) (tok.Sign sign.Equal)) (whole-laid own.value))
    (λ v. record { name = v.0; value = v.1 }) (λ k. k.1) (λ v. refl) (λ v. refl) (λ v at. refl)

via-laid : (via : ViaPart) → Lays via_tokens is_via via_span via
via-laid via =
    let inner = both (ident via.value) (written via_key_tokens (λ (v : ViaKey). is_expr v.value) via_key_span via_key-laid via.key) in
    made via_tokens is_via via_span
    (both (before (behind (tok.Key key.Via) (within (tok.Sign sign.OpenParen) (tok.Sign sign.CloseParen) inner)) (tok.Sign sign.FatArrow)) (whole-laid via.body))
    (λ v. record { value = v.0.0; key = v.0.1; body = v.1 }) (λ k. k.0.1 && k.1) (λ v. refl) (λ v. refl) (λ v at. refl)

abbrev ItemLaid : Item → Type 0
ItemLaid v = Lays item_tokens is_item item_span v

abbrev ArmLaid : ItemArm → Type 0
ArmLaid v = Lays item_arm_tokens is_item_arm item_arm_span v

item-made : {A K : Type 0} {t : A → Tokens} {k : A → K} {s : A → Span} {own : A} → Lays t k s own → (f : A → Item-F Item ItemArm) (g : K → Bool) → ((v : A) → item_step (map-Item Item ItemArm Tokens Tokens item_tokens item_arm_tokens (f v)) ≡ t v) → ((v : A) → is_item_step (map-Item Item ItemArm Bool Bool is_item is_item_arm (f v)) ≡ g (k v)) → ((v : A) (at : ℕ) → item_span_step (map-Item Item ItemArm Span Span item_span item_arm_span (f v)) at ≡ s v at) → ItemLaid (roll-Item (f own))
item-made laid f g spells stands right =
    made item_tokens is_item item_span laid (λ v. roll-Item (f v)) g
    (λ v. fold-roll-Item Tokens Tokens item_step item_arm_step (f v) ∙ spells v)
    (λ v. fold-roll-Item Bool Bool is_item_step is_item_arm_step (f v) ∙ stands v)
    (λ v at. ap (λ (own : Span). own at) (fold-roll-Item Span Span item_span_step item_arm_span_step (f v)) ∙ right v at)

arm-made : {A K : Type 0} {t : A → Tokens} {k : A → K} {s : A → Span} {own : A} → Lays t k s own → (f : A → ItemArm-F Item ItemArm) (g : K → Bool) → ((v : A) → item_arm_step (map-ItemArm Item ItemArm Tokens Tokens item_tokens item_arm_tokens (f v)) ≡ t v) → ((v : A) → is_item_arm_step (map-ItemArm Item ItemArm Bool Bool is_item is_item_arm (f v)) ≡ g (k v)) → ((v : A) (at : ℕ) → item_arm_span_step (map-ItemArm Item ItemArm Span Span item_span item_arm_span (f v)) at ≡ s v at) → ArmLaid (roll-ItemArm (f own))
arm-made laid f g spells stands right =
    made item_arm_tokens is_item_arm item_arm_span laid (λ v. roll-ItemArm (f v)) g
    (λ v. fold-roll-ItemArm Tokens Tokens item_step item_arm_step (f v) ∙ spells v)
    (λ v. fold-roll-ItemArm Bool Bool is_item_step is_item_arm_step (f v) ∙ stands v)
    (λ v at. ap (λ (own : Span). own at) (fold-roll-ItemArm Span Span item_span_step item_arm_span_step (f v)) ∙ right v at)

-- a part beside its claim
abbrev I : Type 0
I = (v : Item) × ItemLaid v

abbrev A : Type 0
A = (v : ItemArm) × ArmLaid v

body : (list : List I) → Lays (λ vs. block (map item_tokens vs)) (map is_item) (λ vs. block_span (map item_span vs)) (map (λ e. e.0) list)
body = block-laid item_tokens is_item item_span (λ e. e.0) (λ e. e.1)

chosen : (arms : List A) → Lays (λ vs. elses (map item_arm_tokens vs)) (map is_item_arm) (λ vs. spans_with token (map item_arm_span vs)) (map (λ e. e.0) arms)
chosen = separated (tok.Key key.Else) item_arm_tokens is_item_arm item_arm_span (λ e. e.0) (λ e. e.1)

item-case : (y : Item-F I A) → ItemLaid (roll-Item (map-Item I A Item ItemArm (λ e. e.0) (λ e. e.0) y))
item-case (Item-F.Comp at name index soft model args) =
    item-made
    (before (both (both (both (both (place (tok.Key key.Comp) at) (component-laid name index)) (mark-laid soft)) (ident model)) (args-laid args)) (tok.Sign sign.Semicolon))
    (λ v. Item-F.Comp v.0.0.0.0 v.0.0.0.1.0 v.0.0.0.1.1 v.0.0.1 v.0.1 v.1) (λ k. k.0.0.0.1 && all_hold k.1)
    (λ v. refl) (λ v. ap (λ all. is_index v.0.0.0.1.1 && all) (all_held is_expr v.1)) (λ v at. refl)
item-case (Item-F.Link at source target via) =
    item-made
    (before (both (both (before (both (place (tok.Key key.Link) at) (end-laid source)) (tok.Sign sign.Arrow)) (end-laid target)) (written via_tokens is_via via_span via-laid via)) (tok.Sign sign.Semicolon))
    (λ v. Item-F.Link v.0.0.0 v.0.0.1 v.0.1 v.1) (λ k. k.0.0.1 && k.0.1 && k.1) (λ v. refl) (λ v. refl) (λ v at. refl)
item-case (Item-F.Let name value) = item-made (behind (tok.Key key.Let) (set-laid name value)) (λ v. Item-F.Let v.0 v.1) (λ k. k) (λ v. refl) (λ v. refl) (λ v at. refl)
item-case (Item-F.If arms None) = item-made (both (chosen arms) nothing) (λ v. Item-F.If v.0 None) (λ k. has_first k.0 && all_hold k.0 && true) (λ v. refl) (λ v. refl) (λ v at. refl)
item-case (Item-F.If arms (Some other)) =
    item-made (both (chosen arms) (behind (tok.Key key.Else) (body other))) (λ v. Item-F.If v.0 (Some v.1)) (λ k. has_first k.0 && all_hold k.0 && all_hold k.1) (λ v. refl) (λ v. refl) (λ v at. refl)
item-case (Item-F.For name list inner) =
    item-made (both (for-laid name list) (body inner)) (λ v. Item-F.For v.0.0 v.0.1 v.1) (λ k. k.0 && all_hold k.1) (λ v. refl) (λ v. refl) (λ v at. refl)

arm-case : (y : ItemArm-F I A) → ArmLaid (roll-ItemArm (map-ItemArm I A Item ItemArm (λ e. e.0) (λ e. e.0) y))
arm-case y = arm-made (both (if-laid y.cond) (body y.body)) (λ v. record { cond = v.0; body = v.1 }) (λ k. k.0 && all_hold k.1) (λ v. refl) (λ v. refl) (λ v at. refl)

pub item-laid : (v : Item) → Lays item_tokens is_item item_span v
item-laid = ind-Item ItemLaid ArmLaid
    (λ x y is. subst (λ (z : Item-F Item ItemArm). ItemLaid (roll-Item z)) is (item-case y))
    (λ x y is. subst (λ (z : ItemArm-F Item ItemArm). ArmLaid (roll-ItemArm z)) is (arm-case y))
