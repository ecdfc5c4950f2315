-- What the grammar and the tokens of a text grant of the items of a structure.
use Rattle.std.specs.Prelude.{◌≡◌, Bool, true, ◌&&◌, Option}
use Rattle.std.specs.List.{list_all}
use Rattle.std.specs.Option.{option_map_or}
use Rattle.dsde_language.specs.given.syntax.decl_Decl.{Decl}
use Rattle.dsde_language.specs.given.syntax.decl_Decl_TheVariants as decl
use Rattle.dsde_language.specs.given.syntax.decl_Model.{Model}
use Rattle.dsde_language.specs.given.syntax.item_Bracket.{Bracket}
use Rattle.dsde_language.specs.given.syntax.item_End.{End}
use Rattle.dsde_language.specs.given.syntax.item_EndPart_TheVariants as end_part
use Rattle.dsde_language.specs.given.syntax.item_Item.{Item}
use Rattle.dsde_language.specs.given.syntax.item_Item_TheOpen.{Item-F, ItemArm-F}
use Rattle.dsde_language.specs.given.syntax.item_Item_TheFolds.{fold-Item}
use Rattle.dsde_language.specs.given.syntax.item_ViaKey.{ViaKey}
use Rattle.dsde_language.specs.given.syntax.item_ViaPart.{ViaPart}
use Rattle.dsde_language.specs.given.syntax.Shape.{IsShaped}
use Rattle.dsde_language.specs.Proper.{is_plain, is_proper, all_so}

abbrev pub is_proper_index : Option Bracket → Bool
is_proper_index index = option_map_or (λ (own : Bracket). is_proper own.value) index true

abbrev pub is_proper_end : End → Bool
is_proper_end end = elim end.part [
  | end_part.Net ↦ true
  | end_part.Exec ↦ true
  | end_part.Kid name index ↦ is_proper_index index
]

abbrev pub is_proper_key : Option ViaKey → Bool
is_proper_key key = option_map_or (λ (own : ViaKey). is_plain own.name && is_proper own.value) key true

abbrev pub is_proper_via : Option ViaPart → Bool
is_proper_via via = option_map_or (λ (own : ViaPart). is_plain own.value && (is_proper_key own.key && is_proper own.body)) via true

abbrev pub item_step : Item-F Bool Bool → Bool
item_step (Item-F.Comp at name index soft model args) = is_plain name && (is_proper_index index && list_all is_proper args)
item_step (Item-F.Link at source target via) = is_proper_end source && (is_proper_end target && is_proper_via via)
item_step (Item-F.Let name value) = is_plain name && is_proper value
item_step (Item-F.If arms other) = all_so arms && option_map_or all_so other true
item_step (Item-F.For name list body) = is_plain name && (is_proper list && all_so body)

abbrev pub item_arm_step : ItemArm-F Bool Bool → Bool
item_arm_step arm = is_proper arm.cond && all_so arm.body

abbrev pub is_proper_item : Item → Bool
is_proper_item = fold-Item Bool Bool item_step item_arm_step

-- the items of a network
abbrev pub has_proper_items : Decl → Bool
has_proper_items (decl.Network at name params ports exec_at body items) = list_all is_proper_item items
has_proper_items _ = true

-- the items of each network of a model that a text can spell are proper
abbrev pub ShapedItemsAreProper : Type 0
ShapedItemsAreProper = (model : Model) → IsShaped model → list_all has_proper_items model.decls ≡ true
