-- How the items of a structure are laid behind tables: what the code does, step by step.
use Rattle.std.specs.Prelude.{◌++◌, length, ℕ, true, false, Bool, List, [], ◌∷◌, map, Option, Some, None}
use Rattle.std.specs.Option.{option_map}
use Rattle.dsde_language.specs.given.syntax.expr_Expr.{Expr}
use Rattle.dsde_language.specs.given.syntax.item_Bracket.{Bracket}
use Rattle.dsde_language.specs.given.syntax.item_End.{End}
use Rattle.dsde_language.specs.given.syntax.item_EndPart.{EndPart}
use Rattle.dsde_language.specs.given.syntax.item_EndPart_TheVariants as end_part
use Rattle.dsde_language.specs.given.syntax.item_Item.{Item}
use Rattle.dsde_language.specs.given.syntax.item_Item_TheOpen.{Item-F, ItemArm-F}
use Rattle.dsde_language.specs.given.syntax.item_Item_TheFolds.{fold-Item}
use Rattle.dsde_language.specs.given.syntax.item_ViaKey.{ViaKey}
use Rattle.dsde_language.specs.given.syntax.item_ViaPart.{ViaPart}
use Rattle.dsde_language.specs.given.values.types_Ty.{Ty}
use Rattle.dsde_language.specs.declared.known.Known.{Known}
use Rattle.dsde_language.specs.declared.node_ids.ExprId.{ExprId}
use Rattle.dsde_language.specs.declared.make.Make.{Make}
use Rattle.dsde_language.specs.declared.make.Make.TheVariants as make
use Rattle.dsde_language.specs.declared.make.MakeArm.{MakeArm}
use Rattle.dsde_language.specs.declared.make.MakeEnd.{MakeEnd}
use Rattle.dsde_language.specs.declared.make.MakeIndex.{MakeIndex}
use Rattle.dsde_language.specs.declared.make.MakePart.{MakePart}
use Rattle.dsde_language.specs.declared.make.MakePart.TheVariants as make_part
use Rattle.dsde_language.specs.declared.make.MakeVia.{MakeVia}
use Rattle.dsde_language.specs.Names.{with_slot, Scope, slot_of}
use Rattle.dsde_language.specs.Typing.{slot_type, item_in}
use Rattle.dsde_language.specs.Expressions.{expr_id}
use Rattle.dsde_language.specs.DeclaredStructures.{Place, end_ports}
use Rattle.dsde_language.specs.DeclaredModels.{model_id}
use Rattle.dsde_program_layout.specs.LayPieces.{Step, ◌>>=◌, give, all, maybe, expr, bound, binding, inside}
use Rattle.dsde_program_layout.specs.Lay.{lay}

-- an index, if there is one
abbrev pub lay_index : Known → Option Bracket → Step (Option MakeIndex)
lay_index known index =
    maybe (option_map (λ (own : Bracket). expr (lay known own.value) (λ value ty. give (record { at = own.at; value = value }))) index)

abbrev pub lay_part : Known → EndPart → Step MakePart
lay_part known end_part.Net = give make_part.Net
lay_part known end_part.Exec = give make_part.Boss
lay_part known (end_part.Kid name index) =
    lay_index known index >>= (λ own. give (make_part.Kid name.name own))

abbrev pub lay_end : Place → Bool → End → Step MakeEnd
lay_end place is_source own =
    lay_part place.known own.part >>= (λ part.
    give (record { part = part; port = slot_of (end_ports place is_source own.part) own.port.name }))

-- the body of a translation, over its one or two names, counted by its word `via`
abbrev pub via_body : Known → Scope → ViaPart → Bool → (ℕ → MakeVia) → Step MakeVia
via_body known names via key made scope tables =
    let one = lay known via.body names tables.nodes in
    record {
      own = made (length tables.vias);
      tables = record tables { nodes = one.table; vias = tables.vias ++ record { key = key; body = expr_id (length tables.nodes) } ∷ [] };
      scope = scope;
    }

-- a translation of values of this type, with this key
abbrev pub via_by : Known → Ty → ViaPart → Option ViaKey → Step MakeVia
via_by known own via None =
    via_body known (with_slot [] via.value.name own) via false (λ number. record { id = record { 0 = number }; key = None })
via_by known own via (Some key) =
    expr (lay known key.value) (λ value ty.
    via_body known (with_slot (with_slot [] via.value.name own) key.name.name ty) via true
    (λ number. record { id = record { 0 = number }; key = Some value }))

abbrev pub lay_via : Known → Ty → ViaPart → Step MakeVia
lay_via known own via = via_by known own via via.key

abbrev pub maybe_via : Known → Ty → Option ViaPart → Step (Option MakeVia)
maybe_via known own via = maybe (option_map (lay_via known own) via)

-- expressions, one after another
abbrev pub lay_all : Known → List Expr → Step (List ExprId)
lay_all known exprs = all (map (λ own. expr (lay known own) (λ value ty. give value)) exprs)

abbrev pub item_step : Place → Item-F (Step Make) (Step MakeArm) → Step Make
item_step place (Item-F.Comp at name index soft model args) =
    lay_index place.known index >>= (λ own.
    lay_all place.known args >>= (λ values.
    give (make.Comp at name.name own (model_id place.known model.name) values soft)))
item_step place (Item-F.Link at source target via) =
    lay_end place true source >>= (λ one.
    lay_end place false target >>= (λ two.
    maybe_via place.known (slot_type (end_ports place true source.part) source.port.name) via >>= (λ own.
    give (make.Link at one two own))))
item_step place (Item-F.Let name value) = expr (lay place.known value) (λ own ty. bound name.name ty (make.Let own))
item_step place (Item-F.If arms other) =
    all arms >>= (λ own. maybe (option_map (λ items. inside (all items)) other) >>= (λ last. give (make.If own last)))
item_step place (Item-F.For name list body) =
    expr (lay place.known list) (λ own ty.
    inside (binding name.name (item_in ty) (all body)) >>= (λ makes. give (make.For own makes)))

abbrev pub item_arm_step : Place → ItemArm-F (Step Make) (Step MakeArm) → Step MakeArm
item_arm_step place arm =
    expr (lay place.known arm.cond) (λ cond ty. inside (all arm.body) >>= (λ makes. give (record { cond = cond; makes = makes })))

abbrev pub lay_item : Place → Item → Step Make
lay_item place = fold-Item (Step Make) (Step MakeArm) (item_step place) (item_arm_step place)

-- a structure
abbrev pub lay_items : Place → List Item → Step (List Make)
lay_items place items = all (map (lay_item place) items)
