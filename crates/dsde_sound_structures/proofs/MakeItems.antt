-- The expressions of each item stand.
use Rattle.std.proofs.Common.{◌≡◌, Bool, List, [], ◌∷◌, map, Some, None, refl, sym, subst, ap}
use Rattle.dsde_sim_tree.specs.given.syntax.item_Item.{Item}
use Rattle.dsde_sim_tree.specs.given.syntax.item_ItemArm.{ItemArm}
use Rattle.dsde_sim_tree.specs.given.syntax.item_Item_TheOpen.{Item-F, ItemArm-F}
use Rattle.dsde_sim_tree.specs.given.syntax.item_Item_TheViews.{roll-Item, roll-ItemArm}
use Rattle.dsde_sim_tree.specs.given.syntax.item_Item_TheFolds.{fold-ItemArm, map-Item, map-ItemArm, fold-roll-Item, fold-roll-ItemArm, ind-Item}
use Rattle.dsde_sim_tree.specs.given.language.Blocks.{Walk, ArmWalk}
use Rattle.dsde_sim_tree.specs.given.language.RuleStructures as rules
use Rattle.dsde_sim_tree.specs.given.language.RuleStructures.{item_walk}
use Rattle.dsde_sim_tree.specs.given.language.make_Make.{Make}
use Rattle.dsde_sim_tree.specs.given.language.make_MakeArm.{MakeArm}
use Rattle.dsde_sim_tree.specs.given.language.Items as nodes
use Rattle.dsde_sim_tree.specs.given.language.Items.{resolve_item, resolve_items}
use Rattle.dsde_sim_tree.specs.given.language.Pieces.{Step, all}
use Rattle.dsde_sim_tree.specs.given.language.Proper.{all_so}
use Rattle.dsde_sound_names.specs.given.sound_expressions.Items as proper
use Rattle.dsde_sound_names.specs.given.sound_expressions.Items.{is_proper_item}
use Rattle.dsde_sound_structures.specs.Numbers.{arm_numbers}
use Rattle.dsde_sound_structures.specs.Spots.{Look, look_all, look_step, look_arm_step, look_in}
use Rattle.dsde_sound_structures.proofs.MakeGround.{Ground, whole}
use Rattle.dsde_sound_structures.proofs.MakeDoes.{Does, AllDo, ArmDoes, all-do}
use Rattle.dsde_sound_structures.proofs.Simple.{comp-does, link-does, let-does, for-does}
use Rattle.dsde_sound_structures.proofs.MakeChoices.{arm-does, if-none, if-some}

map-same : {X : Type 0} (l : List X) → map (λ (x : X). x) l ≡ l
map-same [] = refl
map-same (x ∷ l) = ap (λ (m : List _). x ∷ m) (map-same l)

roll-four : {A B C D : Type 0} (Q : A → B → C → D → Type 0) (a a' : A) (b b' : B) (c c' : C) (d d' : D)
    → a ≡ a' → b ≡ b' → c ≡ c' → d ≡ d' → Q a' b' c' d' → Q a b c d
roll-four Q a a' b b' c c' d d' ha hb hc hd own =
    subst (λ own. Q own b c d) (sym ha) (subst (λ own. Q a' own c d) (sym hb) (subst (λ own. Q a' b' own d) (sym hc) (subst (λ own. Q a' b' c' own) (sym hd) own)))

module _ (g : Ground) where
  abbrev P : Item → Bool
  P = is_proper_item

  abbrev PA : ItemArm → Bool
  PA = fold-ItemArm Bool Bool proper.item_step proper.item_arm_step

  abbrev J : Item → Walk
  J = item_walk g.site

  abbrev JA : ItemArm → ArmWalk
  JA = fold-ItemArm Walk ArmWalk (rules.item_step g.site) (rules.item_arm_step g.site)

  abbrev R : Item → Step Make
  R = resolve_item g.place

  abbrev RA : ItemArm → Step MakeArm
  RA = fold-ItemArm (Step Make) (Step MakeArm) (nodes.item_step g.place) (nodes.item_arm_step g.place)

  abbrev K : Item → Look
  K = look_in (whole g)

  abbrev KA : ItemArm → Look
  KA = fold-ItemArm Look Look (look_step (whole g)) (look_arm_step (whole g))

  abbrev Items : Bool → Walk → Step Make → Look → Type 0
  Items = Does g

  abbrev Arms : Bool → ArmWalk → Step MakeArm → Look → Type 0
  Arms = ArmDoes g arm_numbers

  abbrev Claim : Item → Type 0
  Claim s = Items (P s) (J s) (R s) (K s)

  abbrev ArmClaim : ItemArm → Type 0
  ArmClaim a = Arms (PA a) (JA a) (RA a) (KA a)

  item-roll : (x : Item-F Item ItemArm)
      → Items (proper.item_step (map-Item Item ItemArm Bool Bool P PA x)) (rules.item_step g.site (map-Item Item ItemArm Walk ArmWalk J JA x))
      (nodes.item_step g.place (map-Item Item ItemArm (Step Make) (Step MakeArm) R RA x)) (look_step (whole g) (map-Item Item ItemArm Look Look K KA x))
      → Claim (roll-Item x)
  item-roll x own = roll-four Items _ _ _ _ _ _ _ _
      (fold-roll-Item Bool Bool proper.item_step proper.item_arm_step x)
      (fold-roll-Item Walk ArmWalk (rules.item_step g.site) (rules.item_arm_step g.site) x)
      (fold-roll-Item (Step Make) (Step MakeArm) (nodes.item_step g.place) (nodes.item_arm_step g.place) x)
      (fold-roll-Item Look Look (look_step (whole g)) (look_arm_step (whole g)) x) own

  arm-roll : (x : ItemArm-F Item ItemArm)
      → Arms (proper.item_arm_step (map-ItemArm Item ItemArm Bool Bool P PA x)) (rules.item_arm_step g.site (map-ItemArm Item ItemArm Walk ArmWalk J JA x))
      (nodes.item_arm_step g.place (map-ItemArm Item ItemArm (Step Make) (Step MakeArm) R RA x)) (look_arm_step (whole g) (map-ItemArm Item ItemArm Look Look K KA x))
      → ArmClaim (roll-ItemArm x)
  arm-roll x own = roll-four Arms _ _ _ _ _ _ _ _
      (fold-roll-ItemArm Bool Bool proper.item_step proper.item_arm_step x)
      (fold-roll-ItemArm Walk ArmWalk (rules.item_step g.site) (rules.item_arm_step g.site) x)
      (fold-roll-ItemArm (Step Make) (Step MakeArm) (nodes.item_step g.place) (nodes.item_arm_step g.place) x)
      (fold-roll-ItemArm Look Look (look_step (whole g)) (look_arm_step (whole g)) x) own

  -- an item and an arm, beside their claims
  abbrev S : Type 0
  S = (s : Item) × Claim s

  abbrev A : Type 0
  A = (a : ItemArm) × ArmClaim a

  abbrev bare : List S → List Item
  bare body = map (λ (s : S). s.0) body

  body-do : (body : List S) → AllDo g (all_so (map P (bare body))) (map J (bare body)) (all (map R (bare body))) (look_all (map K (bare body)))
  body-do body = all-do g (λ (s : S). s.0) P J R K (λ s. s.1) body

  item-case : (y : Item-F S A) → Claim (roll-Item (map-Item S A Item ItemArm (λ s. s.0) (λ a. a.0) y))
  item-case (Item-F.Comp at name index soft model args) = item-roll (Item-F.Comp at name index soft model args) (comp-does g at name index soft model args)
  item-case (Item-F.Link at source target via) = item-roll (Item-F.Link at source target via) (link-does g at source target via)
  item-case (Item-F.Let name e) = item-roll (Item-F.Let name e) (let-does g name e)
  item-case (Item-F.If arms None) = item-roll (Item-F.If (map (λ (a : A). a.0) arms) None)
      (if-none g (λ (a : A). a.0) PA JA RA KA (λ a. a.1) arms)
  item-case (Item-F.If arms (Some body)) = item-roll (Item-F.If (map (λ (a : A). a.0) arms) (Some (bare body)))
      (if-some g (λ (a : A). a.0) PA JA RA KA (λ a. a.1) arms (map P (bare body)) (map J (bare body)) (map R (bare body)) (map K (bare body)) (body-do body))
  item-case (Item-F.For name e body) = item-roll (Item-F.For name e (bare body))
      (for-does g name e (map P (bare body)) (map J (bare body)) (map R (bare body)) (map K (bare body)) (body-do body))

  arm-case : (y : ItemArm-F S A) → ArmClaim (roll-ItemArm (map-ItemArm S A Item ItemArm (λ s. s.0) (λ a. a.0) y))
  arm-case y = arm-roll (record { cond = y.cond; body = bare y.body })
      (arm-does g y.cond (map P (bare y.body)) (map J (bare y.body)) (map R (bare y.body)) (map K (bare y.body)) (body-do y.body))

  item-does : (s : Item) → Claim s
  item-does = ind-Item Claim ArmClaim
      (λ x y is. subst (λ (z : Item-F Item ItemArm). Claim (roll-Item z)) is (item-case y))
      (λ x y is. subst (λ (z : ItemArm-F Item ItemArm). ArmClaim (roll-ItemArm z)) is (arm-case y))

  -- items in their order
  pub items-do : (items : List Item) → AllDo g (all_so (map P items)) (map J items) (resolve_items g.place items) (look_all (map K items))
  items-do items =
      subst (λ (l : List Item). AllDo g (all_so (map P l)) (map J l) (all (map R l)) (look_all (map K l))) (map-same items)
      (all-do g (λ (s : Item). s) P J R K item-does items)
