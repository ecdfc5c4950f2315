-- Items keep the components in the order of their names.
use Rattle.std.proofs.Common.{◌≡◌, ℕ, ◌+◌, nat_lt, Bool, true, false, List, [], ◌∷◌, length, map, take, Option, Some, None, Ok, Err, refl, sym, subst, if◌then◌else◌}
use Rattle.std.specs.Cmp.{IsTotalOrder}
use Rattle.std.specs.List.{AllByRecursion}
use Rattle.dsde_structure.specs.given.syntax.item_Item.{Item}
use Rattle.dsde_structure.specs.given.syntax.item_ItemArm.{ItemArm}
use Rattle.dsde_structure.specs.given.syntax.item_Item_TheOpen.{Item-F, ItemArm-F}
use Rattle.dsde_structure.specs.given.syntax.item_Item_TheViews.{roll-Item, roll-ItemArm}
use Rattle.dsde_structure.specs.given.syntax.item_Item_TheFolds.{fold-ItemArm, map-Item, map-ItemArm, fold-roll-Item, fold-roll-ItemArm, ind-Item}
use Rattle.dsde_values.specs.declared.value.Value.{Value}
use Rattle.dsde_values.specs.Path.{name_cmp}
use Rattle.dsde_structure.specs.given.faults.kind_FaultKind_TheVariants.{DuplicateComponent, Crowded}
use Rattle.dsde_structure.specs.given.language.DeclaredStructures.{Place}
use Rattle.dsde_structure.specs.given.language.DeclaredModels.{model_id}
use Rattle.dsde_structure.specs.declared.plan.Entry.{Entry}
use Rattle.dsde_structure.specs.declared.plan.Plan.{Plan}
use Rattle.dsde_structure.specs.given.language.Outcome.{Fault, Outcome, ◌>>=◌, truth_of, items_of}
use Rattle.dsde_structure.specs.given.language.Meaning.{Function, Vars, mean, values_of, with_var}
use Rattle.dsde_executive_plans.specs.Layout.{Layout, Lay, ArmLay, most, inserted, is_there, with_entry, with_link, index_of, end_of, via_of, lay, lay_all, braced, last_lay, arms_lay, for_one, for_lay, item_step, item_arm_step, tied, structure}
use Rattle.dsde_structure.specs.Survival.{IsInOrder}
use Rattle.dsde_executive_plans.specs.lemmas.Inserting.{empty-in-order, inserted-in-order}

-- What came to an end behind a step came behind what that step came to.
bound : {A B : Type 0} (P : Type 0) (found : Outcome A) (next : A → Outcome B) (last : B) → (found >>= next) ≡ Ok last → ((value : A) → found ≡ Ok value → next value ≡ Ok last → P) → P
bound P (Ok value) next last is each = each value refl is
bound P (Err halt) next last is each = cc

abbrev ok : Layout → Outcome Layout
ok layout = Ok layout

the-layout : (one other : Layout) → ok one ≡ Ok other → one ≡ other
the-layout one other is = cc

-- the components of one layout stand in order, so they do in another that is it
as-in : (one other : Layout) → ok one ≡ Ok other → IsInOrder one.entries → IsInOrder other.entries
as-in one other is order = subst (λ (layout : Layout). IsInOrder layout.entries) (the-layout one other is) order

abbrev Keeps : Lay → Type 0
Keeps own = (number : ℕ) (before after : Layout) → IsInOrder before.entries → own.run number before ≡ Ok after → IsInOrder after.entries

abbrev ArmKeeps : ArmLay → Type 0
ArmKeeps arm = Keeps arm.body

all-keep : (lays : List Lay) → AllByRecursion Keeps lays → Keeps (lay_all lays)
all-keep [] all number before after order is = as-in before after is order
all-keep (own ∷ lays) all number before after order is =
    bound (IsInOrder after.entries) (own.run number before) (λ mid. (lay_all lays).run (number + own.vias) mid) after is
    (λ mid first later. all-keep lays all.1 (number + own.vias) mid after (all.0 number before mid order first) later)

braced-keeps : (body : Lay) → Keeps body → (number : ℕ) (before after : Layout) → IsInOrder before.entries → braced body number before ≡ Ok after → IsInOrder after.entries
braced-keeps body keeps number before after order is =
    bound (IsInOrder after.entries) (body.run number before) (λ mid. Ok (record mid { vars = take (length before.vars) mid.vars })) after is
    (λ mid first later. as-in (record mid { vars = take (length before.vars) mid.vars }) after later (keeps number before mid order first))

abbrev LastKeeps : Option Lay → Type 0
LastKeeps None = Unit {0}
LastKeeps (Some body) = Keeps body

last-keeps : (last : Option Lay) → LastKeeps last → Keeps (last_lay last)
last-keeps None keeps number before after order is = as-in before after is order
last-keeps (Some body) keeps number before after order is = braced-keeps body keeps number before after order is

chosen-keeps : (truth : Bool) (arm : ArmLay) (rest : Lay) → ArmKeeps arm → Keeps rest → (number : ℕ) (before after : Layout) → IsInOrder before.entries
    → (if truth then braced arm.body number before else rest.run (number + arm.body.vias) before) ≡ Ok after → IsInOrder after.entries
chosen-keeps true arm rest own keeps number before after order is = braced-keeps arm.body own number before after order is
chosen-keeps false arm rest own keeps number before after order is = keeps (number + arm.body.vias) before after order is

arms-keep : (arms : List ArmLay) (last : Option Lay) → AllByRecursion ArmKeeps arms → LastKeeps last → Keeps (arms_lay arms last)
arms-keep [] last all keeps number before after order is = last-keeps last keeps number before after order is
arms-keep (arm ∷ arms) last all keeps number before after order is =
    bound (IsInOrder after.entries) (arm.cond before.vars) _ after is
    (λ test _ later.
    bound (IsInOrder after.entries) (truth_of test) _ after later
    (λ truth _ last_is. chosen-keeps truth arm (arms_lay arms last) all.0 (arms-keep arms last all.1 keeps) number before after order last_is))

for-keeps : (name : List ℕ) (body : Lay) → Keeps body → (number : ℕ) (items : List Value) (before after : Layout) → IsInOrder before.entries → for_lay name body number items before ≡ Ok after → IsInOrder after.entries
for-keeps name body keeps number [] before after order is = as-in before after is order
for-keeps name body keeps number (item ∷ items) before after order is =
    bound (IsInOrder after.entries) (for_one name body number item before) (λ mid. for_lay name body number items mid) after is
    (λ mid first later.
    for-keeps name body keeps number items mid after
    (bound (IsInOrder mid.entries) (body.run number (record before { vars = with_var name item before.vars })) (λ made. Ok (record made { vars = take (length before.vars) made.vars })) mid first
    (λ made ran rest. as-in (record made { vars = take (length before.vars) made.vars }) mid rest (keeps number (record before { vars = with_var name item before.vars }) made order ran)))
    later)

abbrev entries_ok : List Entry → Outcome (List Entry)
entries_ok entries = Ok entries

the-entries : (one other : List Entry) → entries_ok one ≡ Ok other → one ≡ other
the-entries one other is = cc

entry-at : IsTotalOrder name_cmp → (there room : Bool) (at : ℕ) (entry : Entry) (before after : List Entry) → is_there entry.name before ≡ there → IsInOrder before
    → (if there then Err (Fault DuplicateComponent at) else if room then entries_ok (inserted entry before) else Err (Fault Crowded at)) ≡ Ok after → IsInOrder after
entry-at total true room at entry before after known order is = cc
entry-at total false true at entry before after known order is =
    subst IsInOrder (the-entries (inserted entry before) after is) (inserted-in-order total entry before order known)
entry-at total false false at entry before after known order is = cc

entry-keeps : IsTotalOrder name_cmp → (at : ℕ) (entry : Entry) (before after : List Entry) → IsInOrder before → with_entry at entry before ≡ Ok after → IsInOrder after
entry-keeps total at entry before after order is =
    entry-at total (is_there entry.name before) (nat_lt (length before) most) at entry before after refl order is

module _ (total : IsTotalOrder name_cmp) (place : Place) (functions : List Function) where
  abbrev L : Item → Lay
  L = lay place functions

  abbrev LA : ItemArm → ArmLay
  LA = fold-ItemArm Lay ArmLay (item_step place functions) (item_arm_step place functions)

  abbrev Claim : Item → Type 0
  Claim item = Keeps (L item)

  abbrev ArmClaim : ItemArm → Type 0
  ArmClaim arm = ArmKeeps (LA arm)

  abbrev S : Type 0
  S = (item : Item) × Claim item

  abbrev A : Type 0
  A = (arm : ItemArm) × ArmClaim arm

  abbrev bare : List S → List Item
  bare body = map (λ own. own.0) body

  body-keeps : (body : List S) → AllByRecursion Keeps (map L (bare body))
  body-keeps [] = tt
  body-keeps (own ∷ body) = (own.1, body-keeps body)

  arms-are : (arms : List A) → AllByRecursion ArmKeeps (map LA (map (λ (own : A). own.0) arms))
  arms-are [] = tt
  arms-are (own ∷ arms) = (own.1, arms-are arms)

  item-roll : (x : Item-F Item ItemArm) → Keeps (item_step place functions (map-Item Item ItemArm Lay ArmLay L LA x)) → Claim (roll-Item x)
  item-roll x keeps = subst Keeps (sym (fold-roll-Item Lay ArmLay (item_step place functions) (item_arm_step place functions) x)) keeps

  arm-roll : (x : ItemArm-F Item ItemArm) → ArmKeeps (item_arm_step place functions (map-ItemArm Item ItemArm Lay ArmLay L LA x)) → ArmClaim (roll-ItemArm x)
  arm-roll x keeps = subst ArmKeeps (sym (fold-roll-ItemArm Lay ArmLay (item_step place functions) (item_arm_step place functions) x)) keeps

  item-case : (y : Item-F S A) → Claim (roll-Item (map-Item S A Item ItemArm (λ own. own.0) (λ own. own.0) y))
  item-case (Item-F.Comp at name index soft model args) = item-roll (Item-F.Comp at name index soft model args)
      (λ number before after order is.
      bound (IsInOrder after.entries) (index_of place.known functions index before.vars) _ after is
      (λ own _ later.
      bound (IsInOrder after.entries) (values_of [] (map (mean place.known functions) args) before.vars) _ after later
      (λ values _ third.
      let entry : Entry = record { name = record { stem = name.name; index = own }; model = model_id place.known model.name; args = values; soft = soft } in
      bound (IsInOrder after.entries) (with_entry at entry before.entries) _ after third
      (λ entries made last. as-in (record before { entries = entries }) after last (entry-keeps total at entry before.entries entries order made)))))
  item-case (Item-F.Link at source target via) = item-roll (Item-F.Link at source target via)
      (λ number before after order is.
      bound (IsInOrder after.entries) (end_of place functions true source before.vars) _ after is
      (λ from _ second.
      bound (IsInOrder after.entries) (end_of place functions false target before.vars) _ after second
      (λ to _ third.
      bound (IsInOrder after.entries) (via_of place.known functions number via before.vars) _ after third
      (λ own _ fourth.
      bound (IsInOrder after.entries) (with_link at (record { from = from; to = to; via = own }) before.links) _ after fourth
      (λ links _ last. as-in (record before { links = links }) after last order)))))
  item-case (Item-F.Let name value) = item-roll (Item-F.Let name value)
      (λ number before after order is.
      bound (IsInOrder after.entries) (mean place.known functions value before.vars) _ after is
      (λ own _ last. as-in (record before { vars = with_var name.name own before.vars }) after last order))
  item-case (Item-F.If arms None) = item-roll (Item-F.If (map (λ (own : A). own.0) arms) None)
      (arms-keep (map LA (map (λ (own : A). own.0) arms)) None (arms-are arms) tt)
  item-case (Item-F.If arms (Some body)) = item-roll (Item-F.If (map (λ (own : A). own.0) arms) (Some (bare body)))
      (arms-keep (map LA (map (λ (own : A). own.0) arms)) (Some (lay_all (map L (bare body)))) (arms-are arms) (all-keep (map L (bare body)) (body-keeps body)))
  item-case (Item-F.For name list body) = item-roll (Item-F.For name list (bare body))
      (λ number before after order is.
      bound (IsInOrder after.entries) (mean place.known functions list before.vars) _ after is
      (λ own _ later.
      bound (IsInOrder after.entries) (items_of own) _ after later
      (λ items _ last. for-keeps name.name (lay_all (map L (bare body))) (all-keep (map L (bare body)) (body-keeps body)) number items before after order last)))

  arm-case : (y : ItemArm-F S A) → ArmClaim (roll-ItemArm (map-ItemArm S A Item ItemArm (λ own. own.0) (λ own. own.0) y))
  arm-case y = arm-roll (record { cond = y.cond; body = bare y.body }) (all-keep (map L (bare y.body)) (body-keeps y.body))

  item-keeps : (item : Item) → Claim item
  item-keeps = ind-Item Claim ArmClaim
      (λ x y is. subst (λ (z : Item-F Item ItemArm). Claim (roll-Item z)) is (item-case y))
      (λ x y is. subst (λ (z : ItemArm-F Item ItemArm). ArmClaim (roll-ItemArm z)) is (arm-case y))

  items-keep : (items : List Item) → AllByRecursion Keeps (map L items)
  items-keep [] = tt
  items-keep (item ∷ items) = (item-keeps item, items-keep items)

abbrev plan_ok : Plan → Outcome Plan
plan_ok plan = Ok plan

the-plan : (one other : Plan) → plan_ok one ≡ Ok other → one ≡ other
the-plan one other is = cc

pub plan-in-order : IsTotalOrder name_cmp → (place : Place) (functions : List Function) (items : List Item) (number : ℕ) (vars : Vars) (plan : Plan)
    → structure place functions items number vars ≡ Ok plan → IsInOrder plan.entries
unfolding structure
plan-in-order total place functions items number vars plan is =
    bound (IsInOrder plan.entries) ((lay_all (map (lay place functions) items)).run number (record { vars = vars; entries = []; links = [] })) _ plan is
    (λ layout ran last.
    bound (IsInOrder plan.entries) (tied layout.entries layout.links) (λ _. Ok (record { entries = layout.entries; links = map (λ laid. laid.link) layout.links })) plan last
    (λ _ _ made.
    subst (λ (own : Plan). IsInOrder own.entries) (the-plan (record { entries = layout.entries; links = map (λ laid. laid.link) layout.links }) plan made)
    (all-keep (map (lay place functions) items) (items-keep total place functions items) number (record { vars = vars; entries = []; links = [] }) layout empty-in-order ran)))
