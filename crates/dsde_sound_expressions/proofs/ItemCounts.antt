-- An item is resolved to as many translations as its text has.
use Rattle.std.proofs.Common.{ℕ, ◌+◌, Bool, true, false, List, [], ◌∷◌, ◌++◌, map, length, Option, Some, None, refl, sym, subst, arith}
use Rattle.std.proofs.lemmas.List.{length-append}
use Rattle.std.specs.List.{flat_map}
use Rattle.dsde_language.specs.given.syntax.expr_Expr.{Expr}
use Rattle.dsde_language.specs.given.syntax.id_Id.{Id}
use Rattle.dsde_language.specs.given.syntax.item_Bracket.{Bracket}
use Rattle.dsde_language.specs.given.syntax.item_End.{End}
use Rattle.dsde_language.specs.given.syntax.item_EndPart.{EndPart}
use Rattle.dsde_language.specs.given.syntax.item_EndPart_TheVariants as end_part
use Rattle.dsde_language.specs.given.syntax.item_Item.{Item}
use Rattle.dsde_language.specs.given.syntax.item_ItemArm.{ItemArm}
use Rattle.dsde_language.specs.given.syntax.item_Item_TheOpen.{Item-F, ItemArm-F}
use Rattle.dsde_language.specs.given.syntax.item_Item_TheViews.{roll-Item, roll-ItemArm}
use Rattle.dsde_language.specs.given.syntax.item_Item_TheFolds.{fold-ItemArm, map-Item, map-ItemArm, fold-roll-Item, fold-roll-ItemArm, ind-Item}
use Rattle.dsde_language.specs.given.syntax.item_ViaKey.{ViaKey}
use Rattle.dsde_language.specs.given.syntax.item_ViaPart.{ViaPart}
use Rattle.dsde_language.specs.given.values.types_Ty.{Ty}
use Rattle.dsde_language.specs.declared.known.Known.{Known}
use Rattle.dsde_language.specs.declared.node_ids.ExprId.{ExprId}
use Rattle.dsde_language.specs.declared.make.Make.{Make}
use Rattle.dsde_language.specs.declared.make.Make.TheVariants as make
use Rattle.dsde_language.specs.declared.make.MakeArm.{MakeArm}
use Rattle.dsde_language.specs.declared.make.MakeEnd.{MakeEnd}
use Rattle.dsde_language.specs.declared.make.MakeIndex.{MakeIndex}
use Rattle.dsde_language.specs.declared.make.MakePart.TheVariants as make_part
use Rattle.dsde_language.specs.declared.make.MakeVia.{MakeVia}
use Rattle.dsde_language.specs.Names.{slot_of, with_slot}
use Rattle.dsde_language.specs.Typing.{slot_type, item_in}
use Rattle.dsde_language.specs.Expressions.{resolve}
use Rattle.dsde_language.specs.DeclaredStructures.{Place, end_ports, vias_there, via_step, via_arm_step, vias_in}
use Rattle.dsde_language.specs.DeclaredModels.{model_id}
use Rattle.dsde_language.specs.Items.{resolve_index, resolve_part, resolve_end, resolve_all, via_body, via_by, resolve_via, maybe_via, item_step, item_arm_step, resolve_item, resolve_items}
use Rattle.dsde_language.specs.Pieces.{Step, ◌>>=◌, give, all, maybe, expr, bound, binding, inside}
use Rattle.dsde_sound_expressions.proofs.Counts.{Counts, counts-as, counts-give, counts-then, counts-expr, counts-bound, counts-binding, counts-inside, counts-maybe, counts-none, counts-first, args-count}

module _ (known : Known) where
  abbrev index_step : Bracket → Step MakeIndex
  index_step own = expr (resolve known own.value) (λ value ty. give (record { at = own.at; value = value }))

  index-count : (index : Option Bracket) → Counts (resolve_index known index) 0
  index-count None = counts-none
  index-count (Some own) =
      counts-maybe (index_step own) 0
      (counts-expr (resolve known own.value) (λ value ty. give (let made : MakeIndex = record { at = own.at; value = value } in made)) 0
      (λ value ty. counts-give (let made : MakeIndex = record { at = own.at; value = value } in made)))

  part-count : (part : EndPart) → Counts (resolve_part known part) 0
  part-count end_part.Net = counts-give make_part.Net
  part-count end_part.Exec = counts-give make_part.Boss
  part-count (end_part.Kid name index) =
      counts-then (resolve_index known index) (λ own. give (make_part.Kid name.name own)) 0 0 (index-count index) (λ own. counts-give (make_part.Kid name.name own))

  via-count : (ty : Ty) (via : ViaPart) (key : Option ViaKey) → Counts (via_by known ty via key) 1
  via-count ty via None = record { has = λ scope next. refl }
  via-count ty via (Some key) =
      counts-expr (resolve known key.value)
      (λ value own.
      via_body known (with_slot (with_slot [] via.value.name ty) key.name.name own) via true
      (λ number. record { id = record { 0 = number }; key = Some value })) 1
      (λ value own. record { has = λ scope next. refl })

  maybe-count : (ty : Ty) (via : Option ViaPart) → Counts (maybe_via known ty via) (length (vias_there via))
  maybe-count ty None = counts-none
  maybe-count ty (Some via) = counts-maybe (resolve_via known ty via) 1 (via-count ty via via.key)

module _ (place : Place) where
  abbrev R : Item → Step Make
  R = resolve_item place

  abbrev RA : ItemArm → Step MakeArm
  RA = fold-ItemArm (Step Make) (Step MakeArm) (item_step place) (item_arm_step place)

  abbrev VA : ItemArm → List ViaPart
  VA = fold-ItemArm (List ViaPart) (List ViaPart) via_step via_arm_step

  abbrev joined : List (List ViaPart) → List ViaPart
  joined = flat_map (λ own. own)

  -- an item beside its claim
  abbrev S : Type 0
  S = (item : Item) × Counts (R item) (length (vias_in item))

  abbrev A : Type 0
  A = (arm : ItemArm) × Counts (RA arm) (length (VA arm))

  abbrev bare : List S → List Item
  bare = map (λ (own : S). own.0)

  abbrev bare_arms : List A → List ItemArm
  bare_arms = map (λ (own : A). own.0)

  body-count : (body : List S) → Counts (all (map R (bare body))) (length (joined (map vias_in (bare body))))
  body-count [] = counts-give []
  body-count (own ∷ body) =
      counts-as (all (map R (bare (own ∷ body)))) (length (vias_in own.0) + length (joined (map vias_in (bare body)))) (length (joined (map vias_in (bare (own ∷ body)))))
      (counts-first (R own.0) (map R (bare body)) (length (vias_in own.0)) (length (joined (map vias_in (bare body)))) own.1 (body-count body))
      (sym (length-append (vias_in own.0) (joined (map vias_in (bare body)))))

  arms-count : (arms : List A) → Counts (all (map RA (bare_arms arms))) (length (joined (map VA (bare_arms arms))))
  arms-count [] = counts-give []
  arms-count (own ∷ arms) =
      counts-as (all (map RA (bare_arms (own ∷ arms)))) (length (VA own.0) + length (joined (map VA (bare_arms arms)))) (length (joined (map VA (bare_arms (own ∷ arms)))))
      (counts-first (RA own.0) (map RA (bare_arms arms)) (length (VA own.0)) (length (joined (map VA (bare_arms arms)))) own.1 (arms-count arms))
      (sym (length-append (VA own.0) (joined (map VA (bare_arms arms)))))

  end-count : (is_source : Bool) (end : End) → Counts (resolve_end place is_source end) 0
  end-count is_source end =
      counts-then (resolve_part place.known end.part)
      (λ part. give (let made : MakeEnd = record { part = part; port = slot_of (end_ports place is_source end.part) end.port.name } in made)) 0 0
      (part-count place.known end.part)
      (λ part. counts-give (let made : MakeEnd = record { part = part; port = slot_of (end_ports place is_source end.part) end.port.name } in made))

  item-roll : (x : Item-F Item ItemArm) → Counts (item_step place (map-Item Item ItemArm (Step Make) (Step MakeArm) R RA x)) (length (via_step (map-Item Item ItemArm (List ViaPart) (List ViaPart) vias_in VA x)))
      → Counts (R (roll-Item x)) (length (vias_in (roll-Item x)))
  item-roll x own =
      subst (λ (step : Step Make). Counts step (length (vias_in (roll-Item x)))) (sym (fold-roll-Item (Step Make) (Step MakeArm) (item_step place) (item_arm_step place) x))
      (subst (λ (texts : List ViaPart). Counts (item_step place (map-Item Item ItemArm (Step Make) (Step MakeArm) R RA x)) (length texts)) (sym (fold-roll-Item (List ViaPart) (List ViaPart) via_step via_arm_step x)) own)

  arm-roll : (x : ItemArm-F Item ItemArm) → Counts (item_arm_step place (map-ItemArm Item ItemArm (Step Make) (Step MakeArm) R RA x)) (length (via_arm_step (map-ItemArm Item ItemArm (List ViaPart) (List ViaPart) vias_in VA x)))
      → Counts (RA (roll-ItemArm x)) (length (VA (roll-ItemArm x)))
  arm-roll x own =
      subst (λ (step : Step MakeArm). Counts step (length (VA (roll-ItemArm x)))) (sym (fold-roll-ItemArm (Step Make) (Step MakeArm) (item_step place) (item_arm_step place) x))
      (subst (λ (texts : List ViaPart). Counts (item_arm_step place (map-ItemArm Item ItemArm (Step Make) (Step MakeArm) R RA x)) (length texts)) (sym (fold-roll-ItemArm (List ViaPart) (List ViaPart) via_step via_arm_step x)) own)

  comp-count : (at : ℕ) (name : Id) (index : Option Bracket) (soft : Bool) (model : Id) (args : List Expr) → Counts (item_step place (Item-F.Comp at name index soft model args)) 0
  comp-count at name index soft model args =
      let made : Option MakeIndex → List ExprId → Make = λ own values. make.Comp at name.name own (model_id place.known model.name) values soft in
      counts-then (resolve_index place.known index) (λ own. resolve_all place.known args >>= (λ values. give (made own values))) 0 0 (index-count place.known index)
      (λ own. counts-then (resolve_all place.known args) (λ values. give (made own values)) 0 0 (args-count place.known args) (λ values. counts-give (made own values)))

  link-count : (at : ℕ) (source target : End) (via : Option ViaPart) → Counts (item_step place (Item-F.Link at source target via)) (length (vias_there via))
  link-count at source target via =
      let ty : Ty = slot_type (end_ports place true source.part) source.port.name in
      let count : ℕ = length (vias_there via) in
      let three : MakeEnd → MakeEnd → Option MakeVia → Step Make = λ one two own. give (make.Link at one two own) in
      let two : MakeEnd → MakeEnd → Step Make = λ one two. maybe_via place.known ty via >>= three one two in
      let one : MakeEnd → Step Make = λ one. resolve_end place false target >>= two one in
      counts-as (resolve_end place true source >>= one) (0 + (0 + (count + 0))) count
      (counts-then (resolve_end place true source) one 0 (0 + (count + 0)) (end-count true source)
      (λ from. counts-then (resolve_end place false target) (two from) 0 (count + 0) (end-count false target)
      (λ to. counts-then (maybe_via place.known ty via) (three from to) count 0 (maybe-count place.known ty via) (λ own. counts-give (make.Link at from to own)))))
      (omega arith)

  last-count : (made : List MakeArm) (last : Option (Step (List Make))) (count : ℕ) → Counts (maybe last) count → Counts (maybe last >>= (λ own. give (make.If made own))) count
  last-count made last count own =
      counts-as (maybe last >>= (λ own. give (make.If made own))) (count + 0) count
      (counts-then (maybe last) (λ own. give (make.If made own)) count 0 own (λ other. counts-give (make.If made other))) (omega arith)

  item-case : (y : Item-F S A) → (let item : Item = roll-Item (map-Item S A Item ItemArm (λ own. own.0) (λ own. own.0) y) in Counts (R item) (length (vias_in item)))
  item-case (Item-F.Comp at name index soft model args) = item-roll (Item-F.Comp at name index soft model args) (comp-count at name index soft model args)
  item-case (Item-F.Link at source target via) = item-roll (Item-F.Link at source target via) (link-count at source target via)
  item-case (Item-F.Let name value) = item-roll (Item-F.Let name value)
      (counts-expr (resolve place.known value) (λ own ty. bound name.name ty (make.Let own)) 0 (λ own ty. counts-bound name.name ty (make.Let own)))
  item-case (Item-F.If arms None) = item-roll (Item-F.If (bare_arms arms) None)
      (let texts : List ViaPart = joined (map VA (bare_arms arms)) in
      counts-as (all (map RA (bare_arms arms)) >>= (λ own. maybe None >>= (λ last. give (make.If own last)))) (length texts + 0) (length (texts ++ []))
      (counts-then (all (map RA (bare_arms arms))) (λ own. maybe None >>= (λ last. give (make.If own last))) (length texts) 0 (arms-count arms) (λ made. last-count made None 0 counts-none))
      (sym (length-append texts [])))
  item-case (Item-F.If arms (Some body)) = item-roll (Item-F.If (bare_arms arms) (Some (bare body)))
      (let texts : List ViaPart = joined (map VA (bare_arms arms)) in
      let others : List ViaPart = joined (map vias_in (bare body)) in
      let last : Step (List Make) = inside (all (map R (bare body))) in
      counts-as (all (map RA (bare_arms arms)) >>= (λ own. maybe (Some last) >>= (λ last. give (make.If own last)))) (length texts + length others) (length (texts ++ others))
      (counts-then (all (map RA (bare_arms arms))) (λ own. maybe (Some last) >>= (λ last. give (make.If own last))) (length texts) (length others) (arms-count arms)
      (λ made. last-count made (Some last) (length others) (counts-maybe last (length others) (counts-inside (all (map R (bare body))) (length others) (body-count body)))))
      (sym (length-append texts others)))
  item-case (Item-F.For name list body) = item-roll (Item-F.For name list (bare body))
      (let count : ℕ = length (joined (map vias_in (bare body))) in
      counts-expr (resolve place.known list) (λ own ty. inside (binding name.name (item_in ty) (all (map R (bare body)))) >>= (λ makes. give (make.For own makes))) count
      (λ own ty.
      let inner : Step (List Make) = binding name.name (item_in ty) (all (map R (bare body))) in
      counts-as (inside inner >>= (λ makes. give (make.For own makes))) (count + 0) count
      (counts-then (inside inner) (λ makes. give (make.For own makes)) count 0
      (counts-inside inner count (counts-binding name.name (item_in ty) (all (map R (bare body))) count (body-count body)))
      (λ makes. counts-give (make.For own makes)))
      (omega arith)))

  arm-case : (y : ItemArm-F S A) → (let arm : ItemArm = roll-ItemArm (map-ItemArm S A Item ItemArm (λ own. own.0) (λ own. own.0) y) in Counts (RA arm) (length (VA arm)))
  arm-case y = arm-roll (record { cond = y.cond; body = bare y.body })
      (let count : ℕ = length (joined (map vias_in (bare y.body))) in
      let inner : Step (List Make) = inside (all (map R (bare y.body))) in
      let made : ExprId → List Make → MakeArm = λ cond makes. record { cond = cond; makes = makes } in
      counts-expr (resolve place.known y.cond) (λ cond ty. inner >>= (λ makes. give (made cond makes))) count
      (λ cond ty.
      counts-as (inner >>= (λ makes. give (made cond makes))) (count + 0) count
      (counts-then inner (λ makes. give (made cond makes)) count 0 (counts-inside (all (map R (bare y.body))) count (body-count y.body)) (λ makes. counts-give (made cond makes)))
      (omega arith)))

  item-count : (item : Item) → Counts (R item) (length (vias_in item))
  item-count = ind-Item (λ (item : Item). Counts (R item) (length (vias_in item))) (λ (arm : ItemArm). Counts (RA arm) (length (VA arm)))
      (λ x y is. subst (λ (z : Item-F Item ItemArm). Counts (R (roll-Item z)) (length (vias_in (roll-Item z)))) is (item-case y))
      (λ x y is. subst (λ (z : ItemArm-F Item ItemArm). Counts (RA (roll-ItemArm z)) (length (VA (roll-ItemArm z)))) is (arm-case y))

  pub items-count : (items : List Item) → Counts (resolve_items place items) (length (flat_map vias_in items))
  items-count [] = counts-give []
  items-count (item ∷ items) =
      counts-as (resolve_items place (item ∷ items)) (length (vias_in item) + length (flat_map vias_in items)) (length (flat_map vias_in (item ∷ items)))
      (counts-first (R item) (map R items) (length (vias_in item)) (length (flat_map vias_in items)) (item-count item) (items-count items))
      (sym (length-append (vias_in item) (flat_map vias_in items)))
