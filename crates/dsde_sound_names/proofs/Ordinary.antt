-- No component of a structure that a text can spell is named as an executive.
use Rattle.std.proofs.Common.{◌≡◌, Bool, true, false, ◌&&◌, List, [], ◌∷◌, map, Some, None, refl, sym, ◌∙◌, ap, subst, ◌↔◌, is_eq, Ordering, Less, Equal, Greater}
use Rattle.std.specs.List.{AllByRecursion, list_all}
use Rattle.dsde_sound_expressions.specs.given.syntax.item_Item.{Item}
use Rattle.dsde_sound_expressions.specs.given.syntax.item_ItemArm.{ItemArm}
use Rattle.dsde_sound_expressions.specs.given.syntax.item_Item_TheOpen.{Item-F, ItemArm-F}
use Rattle.dsde_sound_expressions.specs.given.syntax.item_Item_TheViews.{roll-Item, roll-ItemArm}
use Rattle.dsde_sound_expressions.specs.given.syntax.item_Item_TheFolds.{fold-ItemArm, map-Item, map-ItemArm, fold-roll-Item, fold-roll-ItemArm, ind-Item}
use Rattle.dsde_values.specs.declared.name.Name.{Name}
use Rattle.dsde_values.specs.Path.{EXEC, name_cmp}
use Rattle.dsde_executive_plans.specs.given.structure.plan_Entry.{Entry}
use Rattle.dsde_executive_plans.specs.given.structure.Gather.{is_same_name}
use Rattle.dsde_sound_expressions.specs.given.language.Proper.{is_plain, is_proper}
use Rattle.dsde_sound_expressions.specs.Items as proper
use Rattle.dsde_sound_expressions.specs.Items.{is_proper_item, is_proper_index}
use Rattle.dsde_sound_names.specs.Called.{all_so, called_step, called_arm, called_so, arm_called_so, is_free}
use Rattle.dsde_sound_names.proofs.Laying.{IsCalled, both}

abbrev P : Item → Bool
P = is_proper_item

abbrev PA : ItemArm → Bool
PA = fold-ItemArm Bool Bool proper.item_step proper.item_arm_step

abbrev C : Item → Bool
C = called_so is_free

abbrev CA : ItemArm → Bool
CA = arm_called_so is_free

abbrev Claim : Item → Type 0
Claim item = P item ≡ true → C item ≡ true

abbrev ArmClaim : ItemArm → Type 0
ArmClaim arm = PA arm ≡ true → CA arm ≡ true

abbrev S : Type 0
S = (item : Item) × Claim item

abbrev A : Type 0
A = (arm : ItemArm) × ArmClaim arm

and-true : (a b : Bool) → a ≡ true → b ≡ true → (a && b) ≡ true
and-true true b one other = other
and-true false b one other = absurd (let e : false ≡ true = one in cc)

bodies : (body : List S) → all_so (map P (map (λ (own : S). own.0) body)) ≡ true → all_so (map C (map (λ (own : S). own.0) body)) ≡ true
bodies [] is = refl
bodies (own ∷ body) is =
    let parts = both (P own.0) (all_so (map P (map (λ (own : S). own.0) body))) is in
    and-true (C own.0) (all_so (map C (map (λ (own : S). own.0) body))) (own.1 parts.0) (bodies body parts.1)

arms-so : (arms : List A) → all_so (map PA (map (λ (own : A). own.0) arms)) ≡ true → all_so (map CA (map (λ (own : A). own.0) arms)) ≡ true
arms-so [] is = refl
arms-so (own ∷ arms) is =
    let parts = both (PA own.0) (all_so (map PA (map (λ (own : A). own.0) arms))) is in
    and-true (CA own.0) (all_so (map CA (map (λ (own : A). own.0) arms))) (own.1 parts.0) (arms-so arms parts.1)

item-roll : (x : Item-F Item ItemArm) → (proper.item_step (map-Item Item ItemArm Bool Bool P PA x) ≡ true → called_step is_free (map-Item Item ItemArm Bool Bool C CA x) ≡ true) → Claim (roll-Item x)
item-roll x gives is =
    fold-roll-Item Bool Bool (called_step is_free) called_arm x ∙ gives (sym (fold-roll-Item Bool Bool proper.item_step proper.item_arm_step x) ∙ is)

arm-roll : (x : ItemArm-F Item ItemArm) → (proper.item_arm_step (map-ItemArm Item ItemArm Bool Bool P PA x) ≡ true → called_arm (map-ItemArm Item ItemArm Bool Bool C CA x) ≡ true) → ArmClaim (roll-ItemArm x)
arm-roll x gives is =
    fold-roll-ItemArm Bool Bool (called_step is_free) called_arm x ∙ gives (sym (fold-roll-ItemArm Bool Bool proper.item_step proper.item_arm_step x) ∙ is)

item-case : (y : Item-F S A) → Claim (roll-Item (map-Item S A Item ItemArm (λ own. own.0) (λ own. own.0) y))
item-case (Item-F.Comp at name index soft model args) = item-roll (Item-F.Comp at name index soft model args) (λ is. (both (is_plain name) (is_proper_index index && list_all is_proper args) is).0)
item-case (Item-F.Link at source target via) = item-roll (Item-F.Link at source target via) (λ is. refl)
item-case (Item-F.Let name value) = item-roll (Item-F.Let name value) (λ is. refl)
item-case (Item-F.If arms None) = item-roll (Item-F.If (map (λ (own : A). own.0) arms) None)
    (λ is. and-true (all_so (map CA (map (λ (own : A). own.0) arms))) true (arms-so arms (both (all_so (map PA (map (λ (own : A). own.0) arms))) true is).0) refl)
item-case (Item-F.If arms (Some body)) = item-roll (Item-F.If (map (λ (own : A). own.0) arms) (Some (map (λ (own : S). own.0) body)))
    (λ is.
    let parts = both (all_so (map PA (map (λ (own : A). own.0) arms))) (all_so (map P (map (λ (own : S). own.0) body))) is in
    and-true (all_so (map CA (map (λ (own : A). own.0) arms))) (all_so (map C (map (λ (own : S). own.0) body))) (arms-so arms parts.0) (bodies body parts.1))
item-case (Item-F.For name list body) = item-roll (Item-F.For name list (map (λ (own : S). own.0) body))
    (λ is.
    let first = both (is_plain name) (is_proper list && all_so (map P (map (λ (own : S). own.0) body))) is in
    bodies body (both (is_proper list) (all_so (map P (map (λ (own : S). own.0) body))) first.1).1)

arm-case : (y : ItemArm-F S A) → ArmClaim (roll-ItemArm (map-ItemArm S A Item ItemArm (λ own. own.0) (λ own. own.0) y))
arm-case y = arm-roll (record { cond = y.cond; body = map (λ (own : S). own.0) y.body })
    (λ is. bodies y.body (both (is_proper y.cond) (all_so (map P (map (λ (own : S). own.0) y.body))) is).1)

item-free : (item : Item) → Claim item
item-free = ind-Item Claim ArmClaim
    (λ x y is. subst (λ (z : Item-F Item ItemArm). Claim (roll-Item z)) is (item-case y))
    (λ x y is. subst (λ (z : ItemArm-F Item ItemArm). ArmClaim (roll-ItemArm z)) is (arm-case y))

pub items-free : (items : List Item) → list_all is_proper_item items ≡ true → list_all (called_so is_free) items ≡ true
items-free [] is = refl
items-free (item ∷ items) is =
    let parts = both (P item) (list_all is_proper_item items) is in
    and-true (C item) (list_all (called_so is_free) items) (item-free item parts.0) (items-free items parts.1)

-- a name that is no word of the language is none of an executive
is-equal : (order : Ordering) → is_eq order ≡ true → order ≡ Equal
is-equal Less is = absurd (let e : false ≡ true = is in cc)
is-equal Equal is = refl
is-equal Greater is = absurd (let e : false ≡ true = is in cc)

module _ (one : (name other : Name) → (name_cmp name other ≡ Equal) ↔ (name ≡ other)) where
  ordinary-by : (name : Name) (here : Bool) → is_same_name EXEC name ≡ here → is_free name.stem ≡ true → here ≡ false
  ordinary-by name false is free = refl
  ordinary-by name true is free =
      let same : EXEC ≡ name = (one EXEC name).0 (is-equal (name_cmp EXEC name) is) in
      let word : is_free EXEC.stem ≡ false = refl in
      absurd (let e : false ≡ true = sym word ∙ ap (λ (n : Name). is_free n.stem) same ∙ free in cc)

  pub entries-ordinary : (entries : List Entry) → IsCalled is_free entries → AllByRecursion (λ entry. is_same_name EXEC entry.name ≡ false) entries
  entries-ordinary [] called = tt
  entries-ordinary (entry ∷ entries) called = (ordinary-by entry.name (is_same_name EXEC entry.name) refl called.0, entries-ordinary entries called.1)
