-- Each structure whose places are those of its tokens is near.
use Rattle.std.proofs.Common.{ℕ, ◌+◌, Bool, true, false, List, [], ◌∷◌, ◌++◌, length, map, take, Option, Some, None, Result, Ok, Err, sym, subst}
use Rattle.std.specs.Prelude.{◌<◌, ◌&&◌, ℤ, pos, negsuc, nat_lt, if◌then◌else◌}
use Rattle.std.specs.List.{AllByRecursion}
use Rattle.dsde_syntax.specs.declared.id.Id.{Id}
use Rattle.dsde_syntax.specs.declared.expr.Expr.{Expr}
use Rattle.dsde_syntax.specs.declared.item.Bracket.{Bracket}
use Rattle.dsde_syntax.specs.declared.item.End as written
use Rattle.dsde_syntax.specs.declared.item.EndPart.{EndPart}
use Rattle.dsde_syntax.specs.declared.item.EndPart.TheVariants as end_part
use Rattle.dsde_syntax.specs.declared.item.Item.{Item}
use Rattle.dsde_syntax.specs.declared.item.Item.TheOpen.{Item-F, ItemArm-F}
use Rattle.dsde_syntax.specs.declared.item.Item.TheViews.{roll-Item, roll-ItemArm}
use Rattle.dsde_syntax.specs.declared.item.Item.TheFolds.{fold-ItemArm, map-Item, map-ItemArm, fold-roll-Item, fold-roll-ItemArm, ind-Item}
use Rattle.dsde_syntax.specs.declared.item.ItemArm.{ItemArm}
use Rattle.dsde_syntax.specs.declared.item.ViaKey.{ViaKey}
use Rattle.dsde_syntax.specs.declared.item.ViaPart.{ViaPart}
use Rattle.dsde_syntax.specs.Places.{Span, token, item_span_step, item_arm_span_step, item_span, item_arm_span, bracket_span, component_span, expr_span, end_part_span, end_span, via_key_span, via_span, written_span, spans_with, all_spans}
use Rattle.dsde_values.specs.declared.value.Value.{Value}
use Rattle.dsde_language.specs.DeclaredModels.{model_id}
use Rattle.dsde_language.specs.Names.{slot_of}
use Rattle.dsde_language.specs.DeclaredStructures.{Place, end_ports}
use Rattle.dsde_faults.specs.declared.kind.FaultKind.TheVariants.{DuplicateComponent, Crowded, TooManyLinks, DanglingLink}
use Rattle.dsde_structure.specs.declared.plan.Entry.{Entry}
use Rattle.dsde_structure.specs.declared.plan.Link.{Link}
use Rattle.dsde_structure.specs.declared.plan.Part.TheVariants as part
use Rattle.dsde_executive_plans.specs.declared.placed.PlacedLink.{PlacedLink}
use Rattle.dsde_executive_plans.specs.Layout.{Layout, Lay, ArmLay, natural, index_of, most, inserted, is_there, with_entry, with_link, part_of, end_of, key_of, via_of, lay_all, braced, last_lay, arms_lay, for_one, for_lay, item_step, item_arm_step, lay, has_part, tied, plan_of, structure}
use Rattle.dsde_language.specs.Outcome.{Fault, Halt, ◌>>=◌, int_of, truth_of, items_of}
use Rattle.dsde_language.specs.Meaning.{Mean, Vars, Function, mean, values_of, with_var}
use Rattle.dsde_cli_spots.specs.Placed.{Ends}
use Rattle.dsde_cli_spots.proofs.Ending.{IsBelow, ends-then, ends-if}
use Rattle.dsde_cli_spots.proofs.Operators.{int-near, truth-near, items-near}
use Rattle.dsde_cli_spots.proofs.Means.{NearMean, NearFunction, values-near}
use Rattle.dsde_cli_spots.proofs.Exprs.{expr-near}
use Rattle.dsde_cli_spots.proofs.Spans.{Grants, none, skip, more, both, at, behind, within, placed, all-of, all, separated, separated-of}

-- What comes to a value comes to one of which something holds, and what has none ends in some way.
abbrev pub Comes : {A H : Type 0} → (H → Type 0) → (A → Type 0) → Result A H → Type 0
Comes P Q (Ok value) = Q value
Comes P Q (Err why) = P why

comes-then : {A B H : Type 0} (P : H → Type 0) (Q : A → Type 0) (R : B → Type 0) (own : Result A H) (next : A → Result B H) → Comes P Q own → ((value : A) → Q value → Comes P R (next value)) → Comes P R (own >>= next)
comes-then P Q R (Ok value) next one two = two value one
comes-then P Q R (Err why) next one two = one

comes-behind : {A B H : Type 0} (P : H → Type 0) (R : B → Type 0) (own : Result A H) (next : A → Result B H) → Ends P own → ((value : A) → Comes P R (next value)) → Comes P R (own >>= next)
comes-behind P R (Ok value) next one two = two value
comes-behind P R (Err why) next one two = one

comes-if : {A H : Type 0} (P : H → Type 0) (Q : A → Type 0) (test : Bool) (one other : Result A H) → Comes P Q one → Comes P Q other → Comes P Q (if test then one else other)
comes-if P Q true one other own else_own = own
comes-if P Q false one other own else_own = else_own

comes-ends : {A B H : Type 0} (P : H → Type 0) (Q : A → Type 0) (own : Result A H) (next : A → Result B H) → Comes P Q own → ((value : A) → Q value → Ends P (next value)) → Ends P (own >>= next)
comes-ends P Q (Ok value) next one two = two value one
comes-ends P Q (Err why) next one two = one

pub each-behind : {A : Type 0} (P : A → Type 0) (xs : List A) (x : A) → AllByRecursion P xs → P x → AllByRecursion P (xs ++ x ∷ [])
each-behind P [] x each here = (here, tt)
each-behind P (y ∷ xs) x each here = (each.0, each-behind P xs x each.1 here)

-- links that stand at such tokens
abbrev pub AreBelow : ℕ → List PlacedLink → Type 0
AreBelow n links = AllByRecursion (λ (laid : PlacedLink). laid.at < n) links

abbrev pub IsLaidBelow : ℕ → Layout → Type 0
IsLaidBelow n layout = AreBelow n layout.links

pub record NearLay (n : ℕ) (own : Lay) : Type 0 where
  pub near : (number : ℕ) (before : Layout) → AreBelow n before.links → Comes (IsBelow n) (IsLaidBelow n) (own.run number before)

pub record NearArmLay (n : ℕ) (own : ArmLay) : Type 0 where
  pub cond : NearMean n own.cond
  pub body : NearLay n own.body

module _ (n : ℕ) where
  abbrev B : Halt → Type 0
  B = IsBelow n

  abbrev L : Layout → Type 0
  L = IsLaidBelow n

  natural-near : (place : ℕ) → place < n → (number : ℤ) → Ends B (natural place number)
  natural-near place less (pos number) = tt
  natural-near place less (negsuc number) = less

  entry-near : (place : ℕ) → place < n → (entry : Entry) (entries : List Entry) → Ends B (with_entry place entry entries)
  entry-near place less entry entries =
      ends-if B (is_there entry.name entries) (Err (Fault DuplicateComponent place)) (if nat_lt (length entries) most then Ok (inserted entry entries) else Err (Fault Crowded place)) less
      (ends-if B (nat_lt (length entries) most) (Ok (inserted entry entries)) (Err (Fault Crowded place)) tt less)

  link-comes : (place : ℕ) → place < n → (link : Link) (links : List PlacedLink) → AreBelow n links → Comes B (AreBelow n) (with_link place link links)
  link-comes place less link links all =
      comes-if B (AreBelow n) (nat_lt (length links) most) (Ok (links ++ record { at = place; link = link } ∷ [])) (Err (Fault TooManyLinks place))
      (each-behind (λ (laid : PlacedLink). laid.at < n) links (record { at = place; link = link }) all less) less

  tied-near : (entries : List Entry) (links : List PlacedLink) → AreBelow n links → Ends B (tied entries links)
  tied-near entries [] all = tt
  tied-near entries (laid ∷ links) all =
      ends-if B (has_part entries laid.link.from.part && has_part entries laid.link.to.part) (tied entries links) (Err (Fault DanglingLink laid.at)) (tied-near entries links all.1) all.0

  plan-near : (entries : List Entry) (links : List PlacedLink) → AreBelow n links → Ends B (plan_of entries links)
  plan-near entries links all =
      ends-then B (tied entries links) (λ _. Ok (record { entries = entries; links = map (λ laid. laid.link) links })) (tied-near entries links all) (λ _. tt)

  -- items in their order, braces, arms and loops
  pub lays-near : (lays : List Lay) → AllByRecursion (NearLay n) lays → NearLay n (lay_all lays)
  lays-near [] all = record { near = λ number before below. below }
  lays-near (lay ∷ lays) all = record {
    near = λ number before below.
        comes-then B L L (lay.run number before) (λ after. (lay_all lays).run (number + lay.vias) after) (all.0.near number before below) (λ after own. (lays-near lays all.1).near (number + lay.vias) after own);
  }

  braced-near : (body : Lay) → NearLay n body → (number : ℕ) (before : Layout) → AreBelow n before.links → Comes B L (braced body number before)
  braced-near body own number before below =
      comes-then B L L (body.run number before) (λ after. Ok (record after { vars = take (length before.vars) after.vars })) (own.near number before below) (λ after own. own)

  abbrev NearLast : Option Lay → Type 0
  NearLast None = Unit {0}
  NearLast (Some body) = NearLay n body

  last-near : (last : Option Lay) → NearLast last → NearLay n (last_lay last)
  last-near None own = record { near = λ number before below. below }
  last-near (Some body) own = record { near = λ number before below. braced-near body own number before below }

  arms-near : (arms : List ArmLay) → AllByRecursion (NearArmLay n) arms → (last : Option Lay) → NearLast last → NearLay n (arms_lay arms last)
  arms-near [] all last own = last-near last own
  arms-near (arm ∷ arms) all last own = record {
    near = λ number before below.
        let other = (arms_lay arms last).run (number + arm.body.vias) before in
        comes-behind B L (arm.cond before.vars) (λ test. truth_of test >>= (λ truth. if truth then braced arm.body number before else other)) (all.0.cond.near before.vars) (λ test.
        comes-behind {A = Bool} B L (truth_of test) (λ truth. if truth then braced arm.body number before else other) (truth-near n test) (λ truth.
        comes-if B L truth (braced arm.body number before) other (braced-near arm.body all.0.body number before below) ((arms-near arms all.1 last own).near (number + arm.body.vias) before below)));
  }

  one-near : (name : List ℕ) (body : Lay) → NearLay n body → (number : ℕ) (item : Value) (before : Layout) → AreBelow n before.links → Comes B L (for_one name body number item before)
  one-near name body own number item before below =
      comes-then B L L (body.run number (record before { vars = with_var name item before.vars })) (λ after. Ok (record after { vars = take (length before.vars) after.vars }))
      (own.near number (record before { vars = with_var name item before.vars }) below) (λ after own. own)

  for-near : (name : List ℕ) (body : Lay) → NearLay n body → (number : ℕ) (items : List Value) (before : Layout) → AreBelow n before.links → Comes B L (for_lay name body number items before)
  for-near name body own number [] before below = below
  for-near name body own number (item ∷ items) before below =
      comes-then B L L (for_one name body number item before) (λ after. for_lay name body number items after) (one-near name body own number item before below)
      (λ after below. for-near name body own number items after below)

  module _ (place : Place) (functions : List Function) (callable : AllByRecursion (NearFunction n) functions) where
    abbrev M : Expr → Mean
    M = mean place.known functions

    abbrev LI : Item → Lay
    LI = lay place functions

    abbrev LA : ItemArm → ArmLay
    LA = fold-ItemArm Lay ArmLay (item_step place functions) (item_arm_step place functions)

    m-near : (e : Expr) → Grants n (expr_span e) (NearMean n (M e))
    m-near e = expr-near n place.known functions callable e

    -- indices, ends and keys
    abbrev NearIndex : Option Bracket → Type 0
    NearIndex None = Unit {0}
    NearIndex (Some own) = (own.at < n) × NearMean n (M own.value)

    index-grants : (index : Option Bracket) → Grants n (written_span bracket_span index) (NearIndex index)
    index-grants None = none n
    index-grants (Some own) = placed n own.at (m-near own.value)

    index-near : (index : Option Bracket) → NearIndex index → (vars : Vars) → Ends B (index_of place.known functions index vars)
    index-near None near vars = tt
    index-near (Some own) near vars =
        ends-then B (M own.value vars) (λ value. int_of value >>= (λ number. natural own.at number)) (near.1.near vars) (λ value.
        ends-then B (int_of value) (λ number. natural own.at number) (int-near n value) (λ number. natural-near own.at near.0 number))

    abbrev NearPart : EndPart → Type 0
    NearPart end_part.Net = Unit {0}
    NearPart end_part.Exec = Unit {0}
    NearPart (end_part.Kid name index) = NearIndex index

    component-grants : (name : Id) (index : Option Bracket) → Grants n (component_span name index) (NearIndex index)
    component-grants name index = more n (both n (at n name.at) (index-grants index)) (λ own. own.1)

    part-grants : (own : EndPart) → Grants n (end_part_span own) (NearPart own)
    part-grants end_part.Net = skip n
    part-grants end_part.Exec = skip n
    part-grants (end_part.Kid name index) = component-grants name index

    end-grants : (own : written.End) → Grants n (end_span own) (NearPart own.part)
    end-grants own = more n (both n (both n (part-grants own.part) (skip n)) (at n own.port.at)) (λ own. own.0.0)

    part-near : (own : EndPart) → NearPart own → (vars : Vars) → Ends B (part_of place.known functions own vars)
    part-near end_part.Net near vars = tt
    part-near end_part.Exec near vars = tt
    part-near (end_part.Kid name index) near vars =
        ends-then B (index_of place.known functions index vars) (λ own. Ok (part.Kid (record { stem = name.name; index = own }))) (index-near index near vars) (λ own. tt)

    end-near : (is_source : Bool) (own : written.End) → NearPart own.part → (vars : Vars) → Ends B (end_of place functions is_source own vars)
    end-near is_source own near vars =
        ends-then B (part_of place.known functions own.part vars) (λ whose. Ok (record { part = whose; port = slot_of (end_ports place is_source own.part) own.port.name })) (part-near own.part near vars) (λ whose. tt)

    abbrev NearKey : Option ViaKey → Type 0
    NearKey None = Unit {0}
    NearKey (Some key) = NearMean n (M key.value)

    abbrev NearVia : Option ViaPart → Type 0
    NearVia None = Unit {0}
    NearVia (Some via) = NearKey via.key

    key-grants : (key : Option ViaKey) → Grants n (written_span via_key_span key) (NearKey key)
    key-grants None = none n
    key-grants (Some key) = more n (both n (both n (both n (skip n) (at n key.name.at)) (skip n)) (m-near key.value)) (λ own. own.1)

    via-grants : (via : Option ViaPart) → Grants n (written_span via_span via) (NearVia via)
    via-grants None = none n
    via-grants (Some via) = more n (both n (both n (both n (skip n) (within n (both n (at n via.value.at) (key-grants via.key)))) (skip n)) (m-near via.body)) (λ own. own.0.0.1.1)

    key-near : (key : Option ViaKey) → NearKey key → (vars : Vars) → Ends B (key_of place.known functions key vars)
    key-near None near vars = tt
    key-near (Some key) near vars = ends-then B (M key.value vars) (λ own. Ok (Some own)) (near.near vars) (λ own. tt)

    via-near : (number : ℕ) (via : Option ViaPart) → NearVia via → (vars : Vars) → Ends B (via_of place.known functions number via vars)
    via-near number None near vars = tt
    via-near number (Some via) near vars =
        ends-then B (key_of place.known functions via.key vars) (λ key. Ok (Some (record { id = record { 0 = number }; key = key }))) (key-near via.key near vars) (λ key. tt)

    -- a component, a link, a name and a loop
    comp-near : (at : ℕ) → at < n → (name : Id) (index : Option Bracket) (soft : Bool) (model : Id) (args : List Expr) → NearIndex index → AllByRecursion (NearMean n) (map M args)
        → NearLay n (item_step place functions (Item-F.Comp at name index soft model args))
    comp-near at less name index soft model args near all = record {
      near = λ number before below.
          let entry : Option ℕ → List Value → Entry = λ own values. record { name = record { stem = name.name; index = own }; model = model_id place.known model.name; args = values; soft = soft } in
          comes-behind B L (index_of place.known functions index before.vars) _ (index-near index near before.vars) (λ own.
          comes-behind B L (values_of [] (map M args) before.vars) _ (values-near n (map M args) all [] before.vars) (λ values.
          comes-behind B L (with_entry at (entry own values) before.entries) _ (entry-near at less (entry own values) before.entries) (λ entries. below)));
    }

    link-near : (at : ℕ) → at < n → (source target : written.End) (via : Option ViaPart) → NearPart source.part → NearPart target.part → NearVia via
        → NearLay n (item_step place functions (Item-F.Link at source target via))
    link-near at less source target via from to own = record {
      near = λ number before below.
          comes-behind B L (end_of place functions true source before.vars) _ (end-near true source from before.vars) (λ one.
          comes-behind B L (end_of place functions false target before.vars) _ (end-near false target to before.vars) (λ other.
          comes-behind B L (via_of place.known functions number via before.vars) _ (via-near number via own before.vars) (λ key.
          let link : Link = record { from = one; to = other; via = key } in
          comes-then B (AreBelow n) L (with_link at link before.links) (λ links. Ok (record before { links = links })) (link-comes at less link before.links below) (λ links below. below))));
    }

    let-near : (name : Id) (value : Expr) → NearMean n (M value) → NearLay n (item_step place functions (Item-F.Let name value))
    let-near name value own = record {
      near = λ number before below.
          comes-behind B L (M value before.vars) (λ own. Ok (record before { vars = with_var name.name own before.vars })) (own.near before.vars) (λ own. below);
    }

    list-near : (name : Id) (list : Expr) (body : List Lay) → NearMean n (M list) → AllByRecursion (NearLay n) body → NearLay n (item_step place functions (Item-F.For name list body))
    list-near name list body own all = record {
      near = λ number before below.
          comes-behind B L (M list before.vars) (λ own. items_of own >>= (λ items. for_lay name.name (lay_all body) number items before)) (own.near before.vars) (λ own.
          comes-behind B L (items_of own) (λ items. for_lay name.name (lay_all body) number items before) (items-near n own) (λ items.
          for-near name.name (lay_all body) (lays-near body all) number items before below));
    }

    -- ---- items

    abbrev pub ItemClaim : Item → Type 0
    ItemClaim item = Grants n (item_span item) (NearLay n (LI item))

    abbrev ArmClaim : ItemArm → Type 0
    ArmClaim arm = Grants n (item_arm_span arm) (NearArmLay n (LA arm))

    abbrev S : Type 0
    S = (item : Item) × ItemClaim item

    abbrev A : Type 0
    A = (arm : ItemArm) × ArmClaim arm

    item-roll : (x : Item-F Item ItemArm) → Grants n (item_span_step (map-Item Item ItemArm Span Span item_span item_arm_span x)) (NearLay n (item_step place functions (map-Item Item ItemArm Lay ArmLay LI LA x))) → ItemClaim (roll-Item x)
    item-roll x own =
        subst (λ (span : Span). Grants n span (NearLay n (LI (roll-Item x)))) (sym (fold-roll-Item Span Span item_span_step item_arm_span_step x))
        (subst (λ (own : Lay). Grants n (item_span_step (map-Item Item ItemArm Span Span item_span item_arm_span x)) (NearLay n own)) (sym (fold-roll-Item Lay ArmLay (item_step place functions) (item_arm_step place functions) x)) own)

    arm-roll : (x : ItemArm-F Item ItemArm) → Grants n (item_arm_span_step (map-ItemArm Item ItemArm Span Span item_span item_arm_span x)) (NearArmLay n (item_arm_step place functions (map-ItemArm Item ItemArm Lay ArmLay LI LA x))) → ArmClaim (roll-ItemArm x)
    arm-roll x own =
        subst (λ (span : Span). Grants n span (NearArmLay n (LA (roll-ItemArm x)))) (sym (fold-roll-ItemArm Span Span item_span_step item_arm_span_step x))
        (subst (λ (own : ArmLay). Grants n (item_arm_span_step (map-ItemArm Item ItemArm Span Span item_span item_arm_span x)) (NearArmLay n own)) (sym (fold-roll-ItemArm Lay ArmLay (item_step place functions) (item_arm_step place functions) x)) own)

    body-grants : (body : List S) → Grants n (all_spans (map item_span (map (λ s. s.0) body))) (AllByRecursion (NearLay n) (map LI (map (λ s. s.0) body)))
    body-grants body = all-of n (λ (s : S). s.0) item_span LI (NearLay n) (λ s. s.1) body

    arms-grant : (arms : List A) → Grants n (spans_with token (map item_arm_span (map (λ a. a.0) arms))) (AllByRecursion (NearArmLay n) (map LA (map (λ a. a.0) arms)))
    arms-grant arms = separated-of n (λ (a : A). a.0) item_arm_span LA (NearArmLay n) (λ a. a.1) arms

    item-case : (y : Item-F S A) → ItemClaim (roll-Item (map-Item S A Item ItemArm (λ own. own.0) (λ own. own.0) y))
    item-case (Item-F.Comp place name index soft model args) = item-roll (Item-F.Comp place name index soft model args)
        (more n (both n (both n (both n (both n (both n (at n place) (component-grants name index)) (skip n)) (at n model.at)) (within n (separated n expr_span M (NearMean n) m-near args))) (skip n))
        (λ own. comp-near place own.0.0.0.0.0 name index soft model args own.0.0.0.0.1 own.0.1))
    item-case (Item-F.Link place source target via) = item-roll (Item-F.Link place source target via)
        (more n (both n (both n (both n (both n (both n (at n place) (end-grants source)) (skip n)) (end-grants target)) (via-grants via)) (skip n))
        (λ own. link-near place own.0.0.0.0.0 source target via own.0.0.0.0.1 own.0.0.1 own.0.1))
    item-case (Item-F.Let name value) = item-roll (Item-F.Let name value)
        (more n (behind n (both n (both n (both n (at n name.at) (skip n)) (m-near value)) (skip n))) (λ own. let-near name value own.0.1))
    item-case (Item-F.If arms None) = item-roll (Item-F.If (map (λ (own : A). own.0) arms) None)
        (more n (both n (arms-grant arms) (none n)) (λ own. arms-near _ own.0 None tt))
    item-case (Item-F.If arms (Some body)) = item-roll (Item-F.If (map (λ (own : A). own.0) arms) (Some (map (λ (own : S). own.0) body)))
        (more n (both n (arms-grant arms) (behind n (within n (body-grants body)))) (λ own. arms-near _ own.0 (Some (lay_all (map LI (map (λ (s : S). s.0) body)))) (lays-near _ own.1)))
    item-case (Item-F.For name list body) = item-roll (Item-F.For name list (map (λ (own : S). own.0) body))
        (more n (both n (both n (both n (both n (skip n) (at n name.at)) (skip n)) (m-near list)) (within n (body-grants body))) (λ own. list-near name list _ own.0.1 own.1))

    arm-case : (y : ItemArm-F S A) → ArmClaim (roll-ItemArm (map-ItemArm S A Item ItemArm (λ own. own.0) (λ own. own.0) y))
    arm-case y = arm-roll (record { cond = y.cond; body = map (λ (own : S). own.0) y.body })
        (more n (both n (behind n (m-near y.cond)) (within n (body-grants y.body))) (λ own. record { cond = own.0; body = lays-near _ own.1 }))

    item-near : (item : Item) → ItemClaim item
    item-near = ind-Item ItemClaim ArmClaim
        (λ x y is. subst (λ (z : Item-F Item ItemArm). ItemClaim (roll-Item z)) is (item-case y))
        (λ x y is. subst (λ (z : ItemArm-F Item ItemArm). ArmClaim (roll-ItemArm z)) is (arm-case y))

    -- the items of a structure
    pub items-grant : (items : List Item) → Grants n (all_spans (map item_span items)) (AllByRecursion (NearLay n) (map LI items))
    items-grant items = all n item_span LI (NearLay n) item-near items

    pub structure-near : (items : List Item) → AllByRecursion (NearLay n) (map LI items) → (number : ℕ) (vars : Vars) → Ends B (structure place functions items number vars)
    unfolding structure
    structure-near items all number vars =
        comes-ends B L ((lay_all (map LI items)).run number (record { vars = vars; entries = []; links = [] })) (λ layout. plan_of layout.entries layout.links)
        ((lays-near (map LI items) all).near number (record { vars = vars; entries = []; links = [] }) tt) (λ layout below. plan-near layout.entries layout.links below)
