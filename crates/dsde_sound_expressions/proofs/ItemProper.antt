-- Each item of the grammar with plain tokens is proper, and so are the items of each network.
use Rattle.std.proofs.Common.{◌≡◌, Bool, true, List, [], ◌++◌, map, Some, None, refl, subst}
use Rattle.std.specs.List.{list_all}
use Rattle.dsde_language.specs.given.words.key_Key_TheVariants as key
use Rattle.dsde_language.specs.given.syntax.token_Sign_TheVariants as sign
use Rattle.dsde_language.specs.given.syntax.id_Id.{Id}
use Rattle.dsde_language.specs.given.syntax.item_Item.{Item}
use Rattle.dsde_language.specs.given.syntax.item_ItemArm.{ItemArm}
use Rattle.dsde_language.specs.given.syntax.item_Item_TheOpen.{Item-F, ItemArm-F}
use Rattle.dsde_language.specs.given.syntax.item_Item_TheViews.{roll-Item, roll-ItemArm}
use Rattle.dsde_language.specs.given.syntax.item_Item_TheFolds.{fold-ItemArm, map-Item, map-ItemArm, fold-roll-Item, fold-roll-ItemArm, ind-Item}
use Rattle.dsde_language.specs.given.syntax.decl_Body.{Body}
use Rattle.dsde_language.specs.given.syntax.decl_Decl.{Decl}
use Rattle.dsde_language.specs.given.syntax.decl_Decl_TheVariants as decl
use Rattle.dsde_language.specs.given.syntax.decl_Model.{Model}
use Rattle.dsde_language.specs.given.syntax.decl_PortDecl.{PortDecl}
use Rattle.dsde_language.specs.given.syntax.decl_Typed.{Typed}
use Rattle.dsde_language.specs.given.syntax.Shape.{IsShaped}
use Rattle.dsde_language.specs.given.syntax.Grammar.{Tokens, word, mark, joined, block, in_braces, id_tokens, item_step, item_arm_step, item_tokens, item_arm_tokens, params_tokens, port_tokens, body_tokens, exec_tokens, decl_tokens, tokens_of}
use Rattle.dsde_language.specs.given.syntax.Levels.{is_item_step, is_item_arm_step, is_item, is_item_arm, is_body, is_decl}
use Rattle.dsde_language.specs.Proper.{is_plain}
use Rattle.dsde_sound_expressions.specs.Items as proper
use Rattle.dsde_sound_expressions.specs.Items.{is_proper_item, has_proper_items}
use Rattle.dsde_sound_expressions.proofs.Plain.{plain, both, front-plain, behind-plain, flat-plain, tokens-plain, Holds, AllHold, all-hold}
use Rattle.dsde_sound_expressions.proofs.ExprProper.{roll-claim}
use Rattle.dsde_sound_expressions.proofs.StmtProper.{block-plain, else-good}
use Rattle.dsde_sound_expressions.proofs.DeclProper.{all-proper}
use Rattle.dsde_sound_expressions.proofs.ItemParts.{comp-good, link-good, let-good, if-good, for-good, arm-good}

-- whether an arm is proper
abbrev proper_arm : ItemArm → Bool
proper_arm = fold-ItemArm Bool Bool proper.item_step proper.item_arm_step

abbrev Claim : Item → Type 0
Claim i = Holds (is_item i) (item_tokens i) (is_proper_item i)

abbrev ArmClaim : ItemArm → Type 0
ArmClaim a = Holds (is_item_arm a) (item_arm_tokens a) (proper_arm a)

item-roll : (x : Item-F Item ItemArm) → Holds (is_item_step (map-Item Item ItemArm Bool Bool is_item is_item_arm x)) (item_step (map-Item Item ItemArm Tokens Tokens item_tokens item_arm_tokens x)) (proper.item_step (map-Item Item ItemArm Bool Bool is_proper_item proper_arm x)) → Claim (roll-Item x)
item-roll x own = roll-claim Holds _ _ _ _ _ _
    (fold-roll-Item Bool Bool is_item_step is_item_arm_step x)
    (fold-roll-Item Tokens Tokens item_step item_arm_step x)
    (fold-roll-Item Bool Bool proper.item_step proper.item_arm_step x) own

arm-roll : (x : ItemArm-F Item ItemArm) → Holds (is_item_arm_step (map-ItemArm Item ItemArm Bool Bool is_item is_item_arm x)) (item_arm_step (map-ItemArm Item ItemArm Tokens Tokens item_tokens item_arm_tokens x)) (proper.item_arm_step (map-ItemArm Item ItemArm Bool Bool is_proper_item proper_arm x)) → ArmClaim (roll-ItemArm x)
arm-roll x own = roll-claim Holds _ _ _ _ _ _
    (fold-roll-ItemArm Bool Bool is_item_step is_item_arm_step x)
    (fold-roll-ItemArm Tokens Tokens item_step item_arm_step x)
    (fold-roll-ItemArm Bool Bool proper.item_step proper.item_arm_step x) own

-- a part of an item beside its claim
abbrev S : Type 0
S = (i : Item) × Claim i

abbrev A : Type 0
A = (a : ItemArm) × ArmClaim a

items-hold : (body : List S) → AllHold (λ holds. holds) (λ own. own) (map is_item (map (λ s. s.0) body)) (map item_tokens (map (λ s. s.0) body)) (map is_proper_item (map (λ s. s.0) body))
items-hold body = all-hold (λ (s : S). s.0) item_tokens is_item is_proper_item (λ holds. holds) (λ own. own) (λ s. s.1) body

arms-hold : (arms : List A) → AllHold (λ holds. holds) (λ own. own) (map is_item_arm (map (λ a. a.0) arms)) (map item_arm_tokens (map (λ a. a.0) arms)) (map proper_arm (map (λ a. a.0) arms))
arms-hold arms = all-hold (λ (a : A). a.0) item_arm_tokens is_item_arm proper_arm (λ holds. holds) (λ own. own) (λ a. a.1) arms

item-case : (y : Item-F S A) → Claim (roll-Item (map-Item S A Item ItemArm (λ s. s.0) (λ a. a.0) y))
item-case (Item-F.Comp at name index soft model args) = item-roll (Item-F.Comp at name index soft model args) (comp-good at name index soft model args)
item-case (Item-F.Link at source target via) = item-roll (Item-F.Link at source target via) (link-good at source target via)
item-case (Item-F.Let name e) = item-roll (Item-F.Let name e) (let-good name e)
item-case (Item-F.If arms None) = item-roll (Item-F.If (map (λ a. a.0) arms) None)
    (if-good _ _ _ None None None (arms-hold arms) (record { holds = λ level tokens. refl }))
item-case (Item-F.If arms (Some body)) = item-roll (Item-F.If (map (λ a. a.0) arms) (Some (map (λ s. s.0) body)))
    (if-good _ _ _ _ _ _ (arms-hold arms) (else-good _ _ _ (items-hold body)))
item-case (Item-F.For name e body) = item-roll (Item-F.For name e (map (λ s. s.0) body)) (for-good name e _ _ _ (items-hold body))

arm-case : (y : ItemArm-F S A) → ArmClaim (roll-ItemArm (map-ItemArm S A Item ItemArm (λ s. s.0) (λ a. a.0) y))
arm-case y = arm-roll (record { cond = y.cond; body = map (λ s. s.0) y.body }) (arm-good y.cond _ _ _ (items-hold y.body))

item-proper : (i : Item) → Claim i
item-proper = ind-Item Claim ArmClaim
    (λ x y is. subst (λ (z : Item-F Item ItemArm). Claim (roll-Item z)) is (item-case y))
    (λ x y is. subst (λ (z : ItemArm-F Item ItemArm). ArmClaim (roll-ItemArm z)) is (arm-case y))

-- the tokens of a structure stand last in those of its network
items-plain : (name : Id) (params : List Typed) (ports : List PortDecl) (body : Body) (items : List Item)
    → plain (id_tokens name ++ params_tokens params ++ in_braces (joined (map port_tokens ports) ++ exec_tokens body items)) ≡ true → list_all plain (map item_tokens items) ≡ true
items-plain name params ports body items tokens =
    let front : Tokens = body_tokens body ++ word key.Structure in
    let all : Tokens = front ++ block (map item_tokens items) in
    let declared : Tokens = joined (map port_tokens ports) in
    let own = both (is_plain name) (plain (params_tokens params ++ in_braces (declared ++ exec_tokens body items))) tokens in
    let braces = behind-plain (params_tokens params) (in_braces (declared ++ exec_tokens body items)) own.right in
    let inside = front-plain (declared ++ exec_tokens body items) (mark sign.CloseBrace) braces in
    let exec = front-plain all (mark sign.CloseBrace) (behind-plain declared (exec_tokens body items) inside) in
    block-plain (map item_tokens items) (behind-plain front (block (map item_tokens items)) exec)

decl-items : (own : Decl) → Holds (is_decl own) (decl_tokens own) (has_proper_items own)
decl-items (decl.Enum name variants) = record { holds = λ level tokens. refl }
decl-items (decl.Rec name fields) = record { holds = λ level tokens. refl }
decl-items (decl.Func name params ty stmts value) = record { holds = λ level tokens. refl }
decl-items (decl.Atomic at name params body) = record { holds = λ level tokens. refl }
decl-items (decl.Network at name params ports exec_at body items) = record {
  holds = λ level tokens.
      all-proper item_tokens is_item is_proper_item item-proper items
      (both (is_body body) (list_all is_item items) level).right (items-plain name params ports body items tokens);
}
decl-items (decl.Top at name args) = record { holds = λ level tokens. refl }

pub items-are-proper : (model : Model) → IsShaped model → list_all has_proper_items model.decls ≡ true
items-are-proper model shaped =
    all-proper decl_tokens is_decl has_proper_items decl-items model.decls shaped.levels
    (flat-plain [] (map decl_tokens model.decls) (tokens-plain (tokens_of model) shaped.tokens))
