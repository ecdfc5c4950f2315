-- Each item does in tables what it does over names, where components and links do.
use Rattle.std.proofs.Common.{◌≡◌, ℕ, Bool, List, [], ◌∷◌, map, Option, Some, None, refl, sym, subst, ap}
use Rattle.dsde_sim_tree.specs.given.syntax.expr_Expr.{Expr}
use Rattle.dsde_sim_tree.specs.given.syntax.id_Id.{Id}
use Rattle.dsde_sim_tree.specs.given.syntax.item_Bracket.{Bracket}
use Rattle.dsde_sim_tree.specs.given.syntax.item_End.{End}
use Rattle.dsde_sim_tree.specs.given.syntax.item_Item.{Item}
use Rattle.dsde_sim_tree.specs.given.syntax.item_ItemArm.{ItemArm}
use Rattle.dsde_sim_tree.specs.given.syntax.item_ViaPart.{ViaPart}
use Rattle.dsde_sim_tree.specs.given.syntax.item_Item_TheOpen.{Item-F, ItemArm-F}
use Rattle.dsde_sim_tree.specs.given.syntax.item_Item_TheViews.{roll-Item, roll-ItemArm}
use Rattle.dsde_sim_tree.specs.given.syntax.item_Item_TheFolds.{fold-ItemArm, map-Item, map-ItemArm, fold-roll-Item, fold-roll-ItemArm, ind-Item}
use Rattle.dsde_sim_tree.specs.given.language.known_Known.{Known}
use Rattle.dsde_sim_tree.specs.given.language.Blocks.{Walk, ArmWalk}
use Rattle.dsde_sim_tree.specs.given.language.RuleStructures as rules
use Rattle.dsde_sim_tree.specs.given.language.RuleStructures.{Enter, enter, enter_all, item_walk}
use Rattle.dsde_sim_tree.specs.given.language.make_Make.{Make}
use Rattle.dsde_sim_tree.specs.given.language.make_MakeArm.{MakeArm}
use Rattle.dsde_sim_tree.specs.given.language.Items as nodes
use Rattle.dsde_sim_tree.specs.given.language.Items.{resolve_item, resolve_items}
use Rattle.dsde_sim_tree.specs.given.language.Pieces.{Step, all}
use Rattle.dsde_sim_tree.specs.given.language.Proper.{all_so}
use Rattle.dsde_sound_names.specs.given.sound_expressions.Items as proper
use Rattle.dsde_sound_names.specs.given.sound_expressions.Items.{is_proper_item}
use Rattle.dsde_sim_tree.specs.given.language.DeclaredStructures as standing
use Rattle.dsde_sim_tree.specs.given.language.DeclaredStructures.{vias_in}
use Rattle.dsde_sound_names.specs.given.executive_plans.Layout as layouts
use Rattle.dsde_sound_names.specs.given.executive_plans.Layout.{Lay, ArmLay, lay, lay_all}
use Rattle.dsde_sound_structures.proofs.StructureGround.{Ground}
use Rattle.dsde_sound_structures.proofs.StructureDoes.{Does, AllDo}
use Rattle.dsde_sound_structures.proofs.Lets.{let-does}
use Rattle.dsde_sound_structures.proofs.Braces.{all-do, joined_texts}
use Rattle.dsde_sound_structures.proofs.Loops.{for-does}
use Rattle.dsde_sound_structures.proofs.StructureChoices.{ArmDoes, arm-does, if-none, if-some}

pub map-same : {X : Type 0} (l : List X) → map (λ (x : X). x) l ≡ l
map-same [] = refl
map-same (x ∷ l) = ap (λ (m : List _). x ∷ m) (map-same l)

roll-six : {A B C D E F : Type 0} (Q : A → B → C → D → E → F → Type 0) (a a' : A) (b b' : B) (c c' : C) (d d' : D) (e e' : E) (f f' : F)
    → a ≡ a' → b ≡ b' → c ≡ c' → d ≡ d' → e ≡ e' → f ≡ f' → Q a' b' c' d' e' f' → Q a b c d e f
roll-six Q a a' b b' c c' d d' e e' f f' ha hb hc hd he hf own =
    subst (λ own. Q own b c d e f) (sym ha) (subst (λ own. Q a' own c d e f) (sym hb) (subst (λ own. Q a' b' own d e f) (sym hc)
    (subst (λ own. Q a' b' c' own e f) (sym hd) (subst (λ own. Q a' b' c' d' own f) (sym he) (subst (λ own. Q a' b' c' d' e' own) (sym hf) own)))))

module _ (g : Ground) where
  abbrev known : Known
  known = g.site.around.known

  -- what a component and a link do
  abbrev pub CompsDo : Type 0
  CompsDo = (at : ℕ) (name : Id) (index : Option Bracket) (soft : Bool) (model : Id) (args : List Expr)
      → Does g (proper.item_step (Item-F.Comp at name index soft model args)) (rules.enter_step known (Item-F.Comp at name index soft model args)) (rules.item_step g.site (Item-F.Comp at name index soft model args))
      (nodes.item_step g.place (Item-F.Comp at name index soft model args)) (standing.via_step (Item-F.Comp at name index soft model args)) (layouts.item_step g.place g.functions (Item-F.Comp at name index soft model args))

  abbrev pub LinksDo : Type 0
  LinksDo = (at : ℕ) (source target : End) (via : Option ViaPart)
      → Does g (proper.item_step (Item-F.Link at source target via)) (rules.enter_step known (Item-F.Link at source target via)) (rules.item_step g.site (Item-F.Link at source target via))
      (nodes.item_step g.place (Item-F.Link at source target via)) (standing.via_step (Item-F.Link at source target via)) (layouts.item_step g.place g.functions (Item-F.Link at source target via))

  abbrev P : Item → Bool
  P = is_proper_item

  abbrev PA : ItemArm → Bool
  PA = fold-ItemArm Bool Bool proper.item_step proper.item_arm_step

  abbrev N : Item → Enter
  N = enter known

  abbrev NA : ItemArm → Enter
  NA = fold-ItemArm Enter Enter (rules.enter_step known) rules.enter_arm_step

  abbrev J : Item → Walk
  J = item_walk g.site

  abbrev JA : ItemArm → ArmWalk
  JA = fold-ItemArm Walk ArmWalk (rules.item_step g.site) (rules.item_arm_step g.site)

  abbrev R : Item → Step Make
  R = resolve_item g.place

  abbrev RA : ItemArm → Step MakeArm
  RA = fold-ItemArm (Step Make) (Step MakeArm) (nodes.item_step g.place) (nodes.item_arm_step g.place)

  abbrev V : Item → List ViaPart
  V = vias_in

  abbrev VA : ItemArm → List ViaPart
  VA = fold-ItemArm (List ViaPart) (List ViaPart) standing.via_step standing.via_arm_step

  abbrev L : Item → Lay
  L = lay g.place g.functions

  abbrev LA : ItemArm → ArmLay
  LA = fold-ItemArm Lay ArmLay (layouts.item_step g.place g.functions) (layouts.item_arm_step g.place g.functions)

  abbrev Items : Bool → Enter → Walk → Step Make → List ViaPart → Lay → Type 0
  Items = Does g

  abbrev Arms : Bool → Enter → ArmWalk → Step MakeArm → List ViaPart → ArmLay → Type 0
  Arms = ArmDoes g

  abbrev Claim : Item → Type 0
  Claim s = Items (P s) (N s) (J s) (R s) (V s) (L s)

  abbrev ArmClaim : ItemArm → Type 0
  ArmClaim a = Arms (PA a) (NA a) (JA a) (RA a) (VA a) (LA a)

  item-roll : (x : Item-F Item ItemArm)
      → Items (proper.item_step (map-Item Item ItemArm Bool Bool P PA x)) (rules.enter_step known (map-Item Item ItemArm Enter Enter N NA x)) (rules.item_step g.site (map-Item Item ItemArm Walk ArmWalk J JA x))
      (nodes.item_step g.place (map-Item Item ItemArm (Step Make) (Step MakeArm) R RA x)) (standing.via_step (map-Item Item ItemArm (List ViaPart) (List ViaPart) V VA x)) (layouts.item_step g.place g.functions (map-Item Item ItemArm Lay ArmLay L LA x))
      → Claim (roll-Item x)
  item-roll x own = roll-six Items _ _ _ _ _ _ _ _ _ _ _ _
      (fold-roll-Item Bool Bool proper.item_step proper.item_arm_step x)
      (fold-roll-Item Enter Enter (rules.enter_step known) rules.enter_arm_step x)
      (fold-roll-Item Walk ArmWalk (rules.item_step g.site) (rules.item_arm_step g.site) x)
      (fold-roll-Item (Step Make) (Step MakeArm) (nodes.item_step g.place) (nodes.item_arm_step g.place) x)
      (fold-roll-Item (List ViaPart) (List ViaPart) standing.via_step standing.via_arm_step x)
      (fold-roll-Item Lay ArmLay (layouts.item_step g.place g.functions) (layouts.item_arm_step g.place g.functions) x) own

  arm-roll : (x : ItemArm-F Item ItemArm)
      → Arms (proper.item_arm_step (map-ItemArm Item ItemArm Bool Bool P PA x)) (rules.enter_arm_step (map-ItemArm Item ItemArm Enter Enter N NA x)) (rules.item_arm_step g.site (map-ItemArm Item ItemArm Walk ArmWalk J JA x))
      (nodes.item_arm_step g.place (map-ItemArm Item ItemArm (Step Make) (Step MakeArm) R RA x)) (standing.via_arm_step (map-ItemArm Item ItemArm (List ViaPart) (List ViaPart) V VA x)) (layouts.item_arm_step g.place g.functions (map-ItemArm Item ItemArm Lay ArmLay L LA x))
      → ArmClaim (roll-ItemArm x)
  arm-roll x own = roll-six Arms _ _ _ _ _ _ _ _ _ _ _ _
      (fold-roll-ItemArm Bool Bool proper.item_step proper.item_arm_step x)
      (fold-roll-ItemArm Enter Enter (rules.enter_step known) rules.enter_arm_step x)
      (fold-roll-ItemArm Walk ArmWalk (rules.item_step g.site) (rules.item_arm_step g.site) x)
      (fold-roll-ItemArm (Step Make) (Step MakeArm) (nodes.item_step g.place) (nodes.item_arm_step g.place) x)
      (fold-roll-ItemArm (List ViaPart) (List ViaPart) standing.via_step standing.via_arm_step x)
      (fold-roll-ItemArm Lay ArmLay (layouts.item_step g.place g.functions) (layouts.item_arm_step g.place g.functions) x) own

  -- an item and an arm, beside their claims
  abbrev S : Type 0
  S = (s : Item) × Claim s

  abbrev A : Type 0
  A = (a : ItemArm) × ArmClaim a

  abbrev bare : List S → List Item
  bare body = map (λ (s : S). s.0) body

  body-do : (body : List S) → AllDo g (all_so (map P (bare body))) (enter_all (map N (bare body))) (map J (bare body)) (all (map R (bare body))) (joined_texts (map V (bare body))) (lay_all (map L (bare body)))
  body-do body = all-do g (λ (s : S). s.0) P N J R V L (λ s. s.1) body

  module _ (comps : CompsDo) (links : LinksDo) where
    item-case : (y : Item-F S A) → Claim (roll-Item (map-Item S A Item ItemArm (λ s. s.0) (λ a. a.0) y))
    item-case (Item-F.Comp at name index soft model args) = item-roll (Item-F.Comp at name index soft model args) (comps at name index soft model args)
    item-case (Item-F.Link at source target via) = item-roll (Item-F.Link at source target via) (links at source target via)
    item-case (Item-F.Let name e) = item-roll (Item-F.Let name e) (let-does g name e)
    item-case (Item-F.If arms None) = item-roll (Item-F.If (map (λ (a : A). a.0) arms) None)
        (if-none g (λ (a : A). a.0) PA NA JA RA VA LA (λ a. a.1) arms)
    item-case (Item-F.If arms (Some body)) = item-roll (Item-F.If (map (λ (a : A). a.0) arms) (Some (bare body)))
        (if-some g (λ (a : A). a.0) PA NA JA RA VA LA (λ a. a.1) arms
        (map P (bare body)) (map N (bare body)) (map J (bare body)) (map R (bare body)) (map V (bare body)) (map L (bare body)) (body-do body))
    item-case (Item-F.For name e body) = item-roll (Item-F.For name e (bare body))
        (for-does g name e (map P (bare body)) (map N (bare body)) (map J (bare body)) (map R (bare body)) (map V (bare body)) (map L (bare body)) (body-do body))

    arm-case : (y : ItemArm-F S A) → ArmClaim (roll-ItemArm (map-ItemArm S A Item ItemArm (λ s. s.0) (λ a. a.0) y))
    arm-case y = arm-roll (record { cond = y.cond; body = bare y.body })
        (arm-does g y.cond (map P (bare y.body)) (map N (bare y.body)) (map J (bare y.body)) (map R (bare y.body)) (map V (bare y.body)) (map L (bare y.body)) (body-do y.body))

    item-does : (s : Item) → Claim s
    item-does = ind-Item Claim ArmClaim
        (λ x y is. subst (λ (z : Item-F Item ItemArm). Claim (roll-Item z)) is (item-case y))
        (λ x y is. subst (λ (z : ItemArm-F Item ItemArm). ArmClaim (roll-ItemArm z)) is (arm-case y))

    -- items in their order
    pub items-do : (items : List Item) → AllDo g (all_so (map P items)) (enter_all (map N items)) (map J items) (resolve_items g.place items) (joined_texts (map V items)) (lay_all (map L items))
    items-do items =
        subst (λ (l : List Item). AllDo g (all_so (map P l)) (enter_all (map N l)) (map J l) (all (map R l)) (joined_texts (map V l)) (lay_all (map L l))) (map-same items)
        (all-do g (λ (s : Item). s) P N J R V L item-does items)
