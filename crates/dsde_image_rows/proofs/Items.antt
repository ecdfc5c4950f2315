-- Each item keeps layouts.
use Rattle.std.proofs.Common.{◌≡◌, Bool, List, [], ◌∷◌, map, Some, None, refl, sym, subst, ap}
use Rattle.dsde_syntax.specs.declared.item.Item.{Item}
use Rattle.dsde_syntax.specs.declared.item.ItemArm.{ItemArm}
use Rattle.dsde_syntax.specs.declared.item.Item.TheOpen.{Item-F, ItemArm-F}
use Rattle.dsde_syntax.specs.declared.item.Item.TheViews.{roll-Item, roll-ItemArm}
use Rattle.dsde_syntax.specs.declared.item.Item.TheFolds.{fold-ItemArm, map-Item, map-ItemArm, fold-roll-Item, fold-roll-ItemArm, ind-Item}
use Rattle.dsde_language.specs.Blocks.{Walk, ArmWalk}
use Rattle.dsde_language.specs.RuleStructures as rules
use Rattle.dsde_language.specs.RuleStructures.{item_walk}
use Rattle.dsde_language.specs.Proper.{all_so}
use Rattle.dsde_sound_expressions.specs.Items as proper
use Rattle.dsde_sound_expressions.specs.Items.{is_proper_item}
use Rattle.dsde_sound_structures.specs.given.executive_plans.Layout as layouts
use Rattle.dsde_sound_structures.specs.given.executive_plans.Layout.{Lay, ArmLay, lay, lay_all}
use Rattle.dsde_image_rows.proofs.Laid.{Ground}
use Rattle.dsde_image_rows.proofs.Does.{Does, AllDo, all-do}
use Rattle.dsde_image_rows.proofs.Simple.{comp-does, link-does, let-does, for-does}
use Rattle.dsde_image_rows.proofs.Choices.{ArmDoes, arm-does, if-none, if-some}

map-same : {X : Type 0} (l : List X) → map (λ (x : X). x) l ≡ l
map-same [] = refl
map-same (x ∷ l) = ap (λ (m : List _). x ∷ m) (map-same l)

roll-three : {A B C : Type 0} (Q : A → B → C → Type 0) (a a' : A) (b b' : B) (c c' : C) → a ≡ a' → b ≡ b' → c ≡ c' → Q a' b' c' → Q a b c
roll-three Q a a' b b' c c' ha hb hc own = subst (λ own. Q own b c) (sym ha) (subst (λ own. Q a' own c) (sym hb) (subst (λ own. Q a' b' own) (sym hc) own))

module _ (g : Ground) where
  abbrev P : Item → Bool
  P = is_proper_item

  abbrev PA : ItemArm → Bool
  PA = fold-ItemArm Bool Bool proper.item_step proper.item_arm_step

  abbrev J : Item → Walk
  J = item_walk g.site

  abbrev JA : ItemArm → ArmWalk
  JA = fold-ItemArm Walk ArmWalk (rules.item_step g.site) (rules.item_arm_step g.site)

  abbrev L : Item → Lay
  L = lay g.place g.functions

  abbrev LA : ItemArm → ArmLay
  LA = fold-ItemArm Lay ArmLay (layouts.item_step g.place g.functions) (layouts.item_arm_step g.place g.functions)

  abbrev Items : Bool → Walk → Lay → Type 0
  Items = Does g

  abbrev Arms : Bool → ArmWalk → ArmLay → Type 0
  Arms = ArmDoes g

  abbrev Claim : Item → Type 0
  Claim s = Items (P s) (J s) (L s)

  abbrev ArmClaim : ItemArm → Type 0
  ArmClaim a = Arms (PA a) (JA a) (LA a)

  item-roll : (x : Item-F Item ItemArm)
      → Items (proper.item_step (map-Item Item ItemArm Bool Bool P PA x)) (rules.item_step g.site (map-Item Item ItemArm Walk ArmWalk J JA x)) (layouts.item_step g.place g.functions (map-Item Item ItemArm Lay ArmLay L LA x))
      → Claim (roll-Item x)
  item-roll x own = roll-three Items _ _ _ _ _ _
      (fold-roll-Item Bool Bool proper.item_step proper.item_arm_step x)
      (fold-roll-Item Walk ArmWalk (rules.item_step g.site) (rules.item_arm_step g.site) x)
      (fold-roll-Item Lay ArmLay (layouts.item_step g.place g.functions) (layouts.item_arm_step g.place g.functions) x) own

  arm-roll : (x : ItemArm-F Item ItemArm)
      → Arms (proper.item_arm_step (map-ItemArm Item ItemArm Bool Bool P PA x)) (rules.item_arm_step g.site (map-ItemArm Item ItemArm Walk ArmWalk J JA x)) (layouts.item_arm_step g.place g.functions (map-ItemArm Item ItemArm Lay ArmLay L LA x))
      → ArmClaim (roll-ItemArm x)
  arm-roll x own = roll-three Arms _ _ _ _ _ _
      (fold-roll-ItemArm Bool Bool proper.item_step proper.item_arm_step x)
      (fold-roll-ItemArm Walk ArmWalk (rules.item_step g.site) (rules.item_arm_step g.site) x)
      (fold-roll-ItemArm Lay ArmLay (layouts.item_step g.place g.functions) (layouts.item_arm_step g.place g.functions) x) own

  -- an item and an arm, beside their claims
  abbrev S : Type 0
  S = (s : Item) × Claim s

  abbrev A : Type 0
  A = (a : ItemArm) × ArmClaim a

  abbrev bare : List S → List Item
  bare body = map (λ (s : S). s.0) body

  body-do : (body : List S) → AllDo g (all_so (map P (bare body))) (map J (bare body)) (lay_all (map L (bare body)))
  body-do body = all-do g (λ (s : S). s.0) P J L (λ s. s.1) body

  item-case : (y : Item-F S A) → Claim (roll-Item (map-Item S A Item ItemArm (λ s. s.0) (λ a. a.0) y))
  item-case (Item-F.Comp at name index soft model args) = item-roll (Item-F.Comp at name index soft model args) (comp-does g at name index soft model args)
  item-case (Item-F.Link at source target via) = item-roll (Item-F.Link at source target via) (link-does g at source target via)
  item-case (Item-F.Let name e) = item-roll (Item-F.Let name e) (let-does g name e)
  item-case (Item-F.If arms None) = item-roll (Item-F.If (map (λ (a : A). a.0) arms) None)
      (if-none g (λ (a : A). a.0) PA JA LA (λ a. a.1) arms)
  item-case (Item-F.If arms (Some body)) = item-roll (Item-F.If (map (λ (a : A). a.0) arms) (Some (bare body)))
      (if-some g (λ (a : A). a.0) PA JA LA (λ a. a.1) arms (map P (bare body)) (map J (bare body)) (map L (bare body)) (body-do body))
  item-case (Item-F.For name e body) = item-roll (Item-F.For name e (bare body))
      (for-does g name e (map P (bare body)) (map J (bare body)) (map L (bare body)) (body-do body))

  arm-case : (y : ItemArm-F S A) → ArmClaim (roll-ItemArm (map-ItemArm S A Item ItemArm (λ s. s.0) (λ a. a.0) y))
  arm-case y = arm-roll (record { cond = y.cond; body = bare y.body })
      (arm-does g y.cond (map P (bare y.body)) (map J (bare y.body)) (map L (bare y.body)) (body-do y.body))

  item-does : (s : Item) → Claim s
  item-does = ind-Item Claim ArmClaim
      (λ x y is. subst (λ (z : Item-F Item ItemArm). Claim (roll-Item z)) is (item-case y))
      (λ x y is. subst (λ (z : ItemArm-F Item ItemArm). ArmClaim (roll-ItemArm z)) is (arm-case y))

  -- items in their order
  pub items-do : (items : List Item) → AllDo g (all_so (map P items)) (map J items) (lay_all (map L items))
  items-do items = subst (λ (l : List Item). AllDo g (all_so (map P l)) (map J l) (lay_all (map L l))) (map-same items) (all-do g (λ (s : Item). s) P J L item-does items)
