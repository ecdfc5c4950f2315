-- What the items of a structure are resolved to.
use Rattle.std.specs.Prelude.{ℕ, true, false, Bool, List, [], ◌∷◌, map, Option, Some, None}
use Rattle.std.specs.Option.{option_map}
use Rattle.dsde_syntax.specs.declared.expr.Expr.{Expr}
use Rattle.dsde_syntax.specs.declared.item.Bracket.{Bracket}
use Rattle.dsde_syntax.specs.declared.item.End.{End}
use Rattle.dsde_syntax.specs.declared.item.EndPart.{EndPart}
use Rattle.dsde_syntax.specs.declared.item.EndPart.TheVariants as end_part
use Rattle.dsde_syntax.specs.declared.item.Item.{Item}
use Rattle.dsde_syntax.specs.declared.item.Item.TheOpen.{Item-F, ItemArm-F}
use Rattle.dsde_syntax.specs.declared.item.Item.TheFolds.{fold-Item}
use Rattle.dsde_syntax.specs.declared.item.ViaKey.{ViaKey}
use Rattle.dsde_syntax.specs.declared.item.ViaPart.{ViaPart}
use Rattle.dsde_values.specs.declared.types.Ty.{Ty}
use Rattle.dsde_language.specs.declared.known.Known.{Known}
use Rattle.dsde_language.specs.declared.node_ids.ExprId.{ExprId}
use Rattle.dsde_language.specs.declared.make.Make.{Make}
use Rattle.dsde_language.specs.declared.make.Make.TheVariants as make
use Rattle.dsde_language.specs.declared.make.MakeArm.{MakeArm}
use Rattle.dsde_language.specs.declared.make.MakeEnd.{MakeEnd}
use Rattle.dsde_language.specs.declared.make.MakeIndex.{MakeIndex}
use Rattle.dsde_language.specs.declared.make.MakePart.{MakePart}
use Rattle.dsde_language.specs.declared.make.MakePart.TheVariants as make_part
use Rattle.dsde_language.specs.declared.make.MakeVia.{MakeVia}
use Rattle.dsde_language.specs.Names.{with_slot, Scope, slot_of}
use Rattle.dsde_language.specs.Typing.{slot_type, item_in}
use Rattle.dsde_language.specs.Expressions.{resolve, expr_id}
use Rattle.dsde_language.specs.Pieces.{Step, ◌>>=◌, give, all, maybe, expr, bound, binding, inside}
use Rattle.dsde_language.specs.DeclaredModels.{model_id}
use Rattle.dsde_language.specs.DeclaredStructures.{Place, end_ports}

-- an index, if there is one
abbrev pub resolve_index : Known → Option Bracket → Step (Option MakeIndex)
resolve_index known index =
    maybe (option_map (λ (own : Bracket). expr (resolve known own.value) (λ value ty. give (record { at = own.at; value = value }))) index)

abbrev pub resolve_part : Known → EndPart → Step MakePart
resolve_part known end_part.Net = give make_part.Net
resolve_part known end_part.Exec = give make_part.Boss
resolve_part known (end_part.Kid name index) =
    resolve_index known index >>= (λ own. give (make_part.Kid name.name own))

abbrev pub resolve_end : Place → Bool → End → Step MakeEnd
resolve_end place is_source own =
    resolve_part place.known own.part >>= (λ part.
    give (record { part = part; port = slot_of (end_ports place is_source own.part) own.port.name }))

-- the body of a translation, over its one or two names, counted by its word `via`
abbrev pub via_body : Known → Scope → ViaPart → Bool → (ℕ → MakeVia) → Step MakeVia
via_body known names via key made scope next =
    let nodes = (resolve known via.body).nodes names next.node in
    record {
      own = made next.via;
      nodes = nodes;
      blocks = [];
      vias = record { key = key; body = expr_id next.node } ∷ [];
      scope = scope;
    }

-- a translation of values of this type, with this key
abbrev pub via_by : Known → Ty → ViaPart → Option ViaKey → Step MakeVia
via_by known own via None =
    via_body known (with_slot [] via.value.name own) via false (λ number. record { id = record { 0 = number }; key = None })
via_by known own via (Some key) =
    expr (resolve known key.value) (λ value ty.
    via_body known (with_slot (with_slot [] via.value.name own) key.name.name ty) via true
    (λ number. record { id = record { 0 = number }; key = Some value }))

abbrev pub resolve_via : Known → Ty → ViaPart → Step MakeVia
resolve_via known own via = via_by known own via via.key

abbrev pub maybe_via : Known → Ty → Option ViaPart → Step (Option MakeVia)
maybe_via known own via = maybe (option_map (resolve_via known own) via)

-- expressions, one after another
abbrev pub resolve_all : Known → List Expr → Step (List ExprId)
resolve_all known exprs = all (map (λ own. expr (resolve known own) (λ value ty. give value)) exprs)

abbrev pub item_step : Place → Item-F (Step Make) (Step MakeArm) → Step Make
item_step place (Item-F.Comp at name index soft model args) =
    resolve_index place.known index >>= (λ own.
    resolve_all place.known args >>= (λ values.
    give (make.Comp at name.name own (model_id place.known model.name) values soft)))
item_step place (Item-F.Link at source target via) =
    resolve_end place true source >>= (λ one.
    resolve_end place false target >>= (λ two.
    maybe_via place.known (slot_type (end_ports place true source.part) source.port.name) via >>= (λ own.
    give (make.Link at one two own))))
item_step place (Item-F.Let name value) = expr (resolve place.known value) (λ own ty. bound name.name ty (make.Let own))
item_step place (Item-F.If arms other) =
    all arms >>= (λ own. maybe (option_map (λ items. inside (all items)) other) >>= (λ last. give (make.If own last)))
item_step place (Item-F.For name list body) =
    expr (resolve place.known list) (λ own ty.
    inside (binding name.name (item_in ty) (all body)) >>= (λ makes. give (make.For own makes)))

abbrev pub item_arm_step : Place → ItemArm-F (Step Make) (Step MakeArm) → Step MakeArm
item_arm_step place arm =
    expr (resolve place.known arm.cond) (λ cond ty. inside (all arm.body) >>= (λ makes. give (record { cond = cond; makes = makes })))

abbrev pub resolve_item : Place → Item → Step Make
resolve_item place = fold-Item (Step Make) (Step MakeArm) (item_step place) (item_arm_step place)

-- a structure
abbrev pub resolve_items : Place → List Item → Step (List Make)
resolve_items place items = all (map (resolve_item place) items)
