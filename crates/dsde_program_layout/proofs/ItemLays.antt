-- What the items of a structure lay behind tables is their resolution.
use Rattle.std.proofs.Common.{◌≡◌, ℕ, true, false, Bool, List, [], ◌∷◌, ◌++◌, map, length, Option, Some, None, refl, sym, ◌∙◌, ap, subst, append-nil}
use Rattle.dsde_language.specs.given.syntax.expr_Expr.{Expr}
use Rattle.dsde_language.specs.given.syntax.item_Bracket.{Bracket}
use Rattle.dsde_language.specs.given.syntax.item_End.{End}
use Rattle.dsde_language.specs.given.syntax.item_EndPart.{EndPart}
use Rattle.dsde_language.specs.given.syntax.item_EndPart_TheVariants as end_part
use Rattle.dsde_language.specs.given.syntax.item_Item.{Item}
use Rattle.dsde_language.specs.given.syntax.item_ItemArm.{ItemArm}
use Rattle.dsde_language.specs.given.syntax.item_Item_TheOpen.{Item-F, ItemArm-F}
use Rattle.dsde_language.specs.given.syntax.item_Item_TheViews.{roll-Item, roll-ItemArm}
use Rattle.dsde_language.specs.given.syntax.item_Item_TheFolds.{fold-ItemArm, map-Item, map-ItemArm, fold-roll-Item, fold-roll-ItemArm, ind-Item}
use Rattle.dsde_language.specs.given.syntax.item_ViaKey.{ViaKey}
use Rattle.dsde_language.specs.given.syntax.item_ViaPart.{ViaPart}
use Rattle.dsde_language.specs.given.values.types_Ty.{Ty}
use Rattle.dsde_language.specs.declared.known.Known.{Known}
use Rattle.dsde_language.specs.declared.make.Make.{Make}
use Rattle.dsde_language.specs.declared.make.Make.TheVariants as make
use Rattle.dsde_language.specs.declared.make.MakeArm.{MakeArm}
use Rattle.dsde_language.specs.declared.make.MakeEnd.{MakeEnd}
use Rattle.dsde_language.specs.declared.make.MakeIndex.{MakeIndex}
use Rattle.dsde_language.specs.declared.make.MakePart.TheVariants as make_part
use Rattle.dsde_language.specs.declared.make.MakeVia.{MakeVia}
use Rattle.dsde_language.specs.declared.code.ViaCode.{ViaCode}
use Rattle.dsde_language.specs.Names.{Scope, slot_of, with_slot}
use Rattle.dsde_language.specs.Typing.{slot_type, item_in}
use Rattle.dsde_language.specs.Expressions.{resolve, expr_id}
use Rattle.dsde_language.specs.Pieces as piece
use Rattle.dsde_language.specs.Items as said
use Rattle.dsde_language.specs.DeclaredStructures.{Place, end_ports}
use Rattle.dsde_language.specs.DeclaredModels.{model_id}
use Rattle.dsde_program_layout.specs.Lay.{Laid, lay}
use Rattle.dsde_program_layout.specs.LayPieces as step
use Rattle.dsde_program_layout.specs.LayItems as laid
use Rattle.dsde_program_layout.proofs.Lays as of_expr
use Rattle.dsde_program_layout.proofs.PieceLays.{Lays, made, same-tables, give-lays, bound-lays, binding-lays, inside-lays, then-lays, maybe-lays, all-lays, map-same}
use Rattle.dsde_program_layout.proofs.StatementLays.{value-lays}

module _ (known : Known) where
  pub index-lays : (index : Option Bracket) → Lays (laid.lay_index known index) (said.resolve_index known index)
  index-lays None = give-lays None
  index-lays (Some own) = maybe-lays _ _ (value-lays known own.value _ _ (λ value ty. give-lays (let index : MakeIndex = record { at = own.at; value = value } in index)))

  part-lays : (own : EndPart) → Lays (laid.lay_part known own) (said.resolve_part known own)
  part-lays end_part.Net = give-lays make_part.Net
  part-lays end_part.Exec = give-lays make_part.Boss
  part-lays (end_part.Kid name index) = then-lays _ _ _ _ (index-lays index) (λ own. give-lays (make_part.Kid name.name own))

  via-body-lays : (names : Scope) (via : ViaPart) (key : Bool) (own : ℕ → MakeVia) → Lays (laid.via_body known names via key own) (said.via_body known names via key own)
  via-body-lays names via key own = record {
    lays = λ scope tables.
        let code : ViaCode = record { key = key; body = expr_id (length tables.nodes) } in
        ap (λ (one : Laid). made (own (length tables.vias)) scope one.table tables.blocks (tables.vias ++ code ∷ []))
        ((of_expr.expr-lays known via.body).lays names tables.nodes)
        ∙ same-tables (own (length tables.vias)) scope _ _ _ _ _ _ refl (sym (append-nil tables.blocks)) refl;
  }

  key-lays : (own : Ty) (via : ViaPart) (key : Option ViaKey) → Lays (laid.via_by known own via key) (said.via_by known own via key)
  key-lays own via None =
      via-body-lays (with_slot [] via.value.name own) via false (λ number. let made : MakeVia = record { id = record { 0 = number }; key = None } in made)
  key-lays own via (Some key) =
      value-lays known key.value _ _
      (λ value ty. via-body-lays (with_slot (with_slot [] via.value.name own) key.name.name ty) via true (λ number. let made : MakeVia = record { id = record { 0 = number }; key = Some value } in made))

  pub via-lays : (own : Ty) (via : ViaPart) → Lays (laid.lay_via known own via) (said.resolve_via known own via)
  via-lays own via = key-lays own via via.key

  pub exprs-lay : (exprs : List Expr) → Lays (laid.lay_all known exprs) (said.resolve_all known exprs)
  exprs-lay exprs =
      subst (λ (l : List Expr). Lays (laid.lay_all known l) (said.resolve_all known l)) (map-same exprs)
      (all-lays (λ (e : Expr). e) (λ (e : Expr). step.expr (lay known e) (λ value ty. step.give value)) (λ (e : Expr). piece.expr (resolve known e) (λ value ty. piece.give value))
      (λ e. value-lays known e _ _ (λ value ty. give-lays value)) exprs)

module _ (place : Place) where
  end-lays : (is_source : Bool) (own : End) → Lays (laid.lay_end place is_source own) (said.resolve_end place is_source own)
  end-lays is_source own =
      then-lays _ _ _ _ (part-lays place.known own.part)
      (λ part. give-lays (let end : MakeEnd = record { part = part; port = slot_of (end_ports place is_source own.part) own.port.name } in end))

  maybe-via-lays : (own : Ty) (via : Option ViaPart) → Lays (laid.maybe_via place.known own via) (said.maybe_via place.known own via)
  maybe-via-lays own None = give-lays None
  maybe-via-lays own (Some via) = maybe-lays _ _ (via-lays place.known own via)

  abbrev L : Item → step.Step Make
  L = laid.lay_item place

  abbrev S : Item → piece.Step Make
  S = said.resolve_item place

  abbrev LA : ItemArm → step.Step MakeArm
  LA = fold-ItemArm (step.Step Make) (step.Step MakeArm) (laid.item_step place) (laid.item_arm_step place)

  abbrev SA : ItemArm → piece.Step MakeArm
  SA = fold-ItemArm (piece.Step Make) (piece.Step MakeArm) (said.item_step place) (said.item_arm_step place)

  abbrev Claim : Item → Type 0
  Claim i = Lays (L i) (S i)

  abbrev ArmClaim : ItemArm → Type 0
  ArmClaim a = Lays (LA a) (SA a)

  roll-both : {A B : Type 0} (P : A → B → Type 0) (a a' : A) (b b' : B) → a ≡ a' → b ≡ b' → P a' b' → P a b
  roll-both P a a' b b' ha hb own = subst (λ own. P own b) (sym ha) (subst (λ own. P a' own) (sym hb) own)

  item-roll : (x : Item-F Item ItemArm)
      → Lays (laid.item_step place (map-Item Item ItemArm (step.Step Make) (step.Step MakeArm) L LA x)) (said.item_step place (map-Item Item ItemArm (piece.Step Make) (piece.Step MakeArm) S SA x))
      → Claim (roll-Item x)
  item-roll x own = roll-both Lays _ _ _ _
      (fold-roll-Item (step.Step Make) (step.Step MakeArm) (laid.item_step place) (laid.item_arm_step place) x)
      (fold-roll-Item (piece.Step Make) (piece.Step MakeArm) (said.item_step place) (said.item_arm_step place) x) own

  arm-roll : (x : ItemArm-F Item ItemArm)
      → Lays (laid.item_arm_step place (map-ItemArm Item ItemArm (step.Step Make) (step.Step MakeArm) L LA x)) (said.item_arm_step place (map-ItemArm Item ItemArm (piece.Step Make) (piece.Step MakeArm) S SA x))
      → ArmClaim (roll-ItemArm x)
  arm-roll x own = roll-both Lays _ _ _ _
      (fold-roll-ItemArm (step.Step Make) (step.Step MakeArm) (laid.item_step place) (laid.item_arm_step place) x)
      (fold-roll-ItemArm (piece.Step Make) (piece.Step MakeArm) (said.item_step place) (said.item_arm_step place) x) own

  abbrev It : Type 0
  It = (i : Item) × Claim i

  abbrev Ar : Type 0
  Ar = (a : ItemArm) × ArmClaim a

  body-lays : (body : List It) → Lays (step.all (map L (map (λ i. i.0) body))) (piece.all (map S (map (λ i. i.0) body)))
  body-lays body = all-lays (λ (i : It). i.0) L S (λ i. i.1) body

  arms-lay : (arms : List Ar) → Lays (step.all (map LA (map (λ a. a.0) arms))) (piece.all (map SA (map (λ a. a.0) arms)))
  arms-lay arms = all-lays (λ (a : Ar). a.0) LA SA (λ a. a.1) arms

  item-case : (y : Item-F It Ar) → Claim (roll-Item (map-Item It Ar Item ItemArm (λ i. i.0) (λ a. a.0) y))
  item-case (Item-F.Comp at name index soft model args) = item-roll (Item-F.Comp at name index soft model args)
      (then-lays _ _ _ _ (index-lays place.known index)
      (λ own. then-lays _ _ _ _ (exprs-lay place.known args)
      (λ values. give-lays (make.Comp at name.name own (model_id place.known model.name) values soft))))
  item-case (Item-F.Link at source target via) = item-roll (Item-F.Link at source target via)
      (then-lays _ _ _ _ (end-lays true source)
      (λ one. then-lays _ _ _ _ (end-lays false target)
      (λ two. then-lays _ _ _ _ (maybe-via-lays (slot_type (end_ports place true source.part) source.port.name) via)
      (λ own. give-lays (make.Link at one two own)))))
  item-case (Item-F.Let name e) = item-roll (Item-F.Let name e)
      (value-lays place.known e _ _ (λ own ty. bound-lays name.name ty (make.Let own)))
  item-case (Item-F.If arms None) = item-roll (Item-F.If (map (λ a. a.0) arms) None)
      (then-lays (step.all (map LA (map (λ a. a.0) arms))) (piece.all (map SA (map (λ a. a.0) arms))) _ _ (arms-lay arms)
      (λ own. then-lays (step.give None) (piece.give None) _ _ (give-lays None) (λ last. give-lays (make.If own last))))
  item-case (Item-F.If arms (Some body)) = item-roll (Item-F.If (map (λ a. a.0) arms) (Some (map (λ i. i.0) body)))
      (let l = step.inside (step.all (map L (map (λ i. i.0) body))) in
      let s = piece.inside (piece.all (map S (map (λ i. i.0) body))) in
      then-lays (step.all (map LA (map (λ a. a.0) arms))) (piece.all (map SA (map (λ a. a.0) arms))) _ _ (arms-lay arms)
      (λ own. then-lays (step.maybe (Some l)) (piece.maybe (Some s)) _ _
      (maybe-lays l s (inside-lays _ _ (body-lays body)))
      (λ last. give-lays (make.If own last))))
  item-case (Item-F.For name e body) = item-roll (Item-F.For name e (map (λ i. i.0) body))
      (value-lays place.known e _ _
      (λ own ty. then-lays (step.inside (step.binding name.name (item_in ty) (step.all (map L (map (λ i. i.0) body))))) (piece.inside (piece.binding name.name (item_in ty) (piece.all (map S (map (λ i. i.0) body))))) _ _
      (inside-lays _ _ (binding-lays name.name (item_in ty) _ _ (body-lays body))) (λ makes. give-lays (make.For own makes))))

  arm-case : (y : ItemArm-F It Ar) → ArmClaim (roll-ItemArm (map-ItemArm It Ar Item ItemArm (λ i. i.0) (λ a. a.0) y))
  arm-case y = arm-roll (record { cond = y.cond; body = map (λ i. i.0) y.body })
      (value-lays place.known y.cond _ _
      (λ cond ty. then-lays (step.inside (step.all (map L (map (λ i. i.0) y.body)))) (piece.inside (piece.all (map S (map (λ i. i.0) y.body)))) _ _
      (inside-lays _ _ (body-lays y.body)) (λ makes. give-lays (let arm : MakeArm = record { cond = cond; makes = makes } in arm))))

  pub item-lays : (i : Item) → Claim i
  item-lays = ind-Item Claim ArmClaim
      (λ x y is. subst (λ (z : Item-F Item ItemArm). Claim (roll-Item z)) is (item-case y))
      (λ x y is. subst (λ (z : ItemArm-F Item ItemArm). ArmClaim (roll-ItemArm z)) is (arm-case y))

  pub items-lay : (items : List Item) → Lays (laid.lay_items place items) (said.resolve_items place items)
  items-lay items =
      subst (λ (l : List Item). Lays (laid.lay_items place l) (said.resolve_items place l)) (map-same items)
      (all-lays (λ (i : Item). i) L S item-lays items)
