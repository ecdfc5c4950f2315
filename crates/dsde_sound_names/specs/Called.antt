-- What the components of a structure are called.
use Rattle.std.specs.Prelude.{ℕ, not, Bool, true, ◌&&◌, List}
use Rattle.std.specs.List.{list_all}
use Rattle.std.specs.Option.{option_map_or}
use Rattle.dsde_words.specs.Words.{is_reserved}
use Rattle.dsde_sound_expressions.specs.given.syntax.item_Item.{Item}
use Rattle.dsde_sound_expressions.specs.given.syntax.item_Item_TheOpen.{Item-F, ItemArm-F}
use Rattle.dsde_sound_expressions.specs.given.syntax.item_Item_TheFolds.{fold-Item, fold-ItemArm}
use Rattle.dsde_sound_expressions.specs.given.syntax.item_ItemArm.{ItemArm}

abbrev pub all_so : List Bool → Bool
all_so = list_all (λ own. own)

abbrev pub called_step : (List ℕ → Bool) → Item-F Bool Bool → Bool
called_step test (Item-F.Comp at name index soft model args) = test name.name
called_step test (Item-F.Link at source target via) = true
called_step test (Item-F.Let name value) = true
called_step test (Item-F.If arms other) = all_so arms && option_map_or all_so other true
called_step test (Item-F.For name list body) = all_so body

abbrev pub called_arm : ItemArm-F Bool Bool → Bool
called_arm arm = all_so arm.body

-- the name of each component of an item passes a test
abbrev pub called_so : (List ℕ → Bool) → Item → Bool
called_so test = fold-Item Bool Bool (called_step test) called_arm

abbrev pub arm_called_so : (List ℕ → Bool) → ItemArm → Bool
arm_called_so test = fold-ItemArm Bool Bool (called_step test) called_arm

-- a name that is no word of the language
abbrev pub is_free : List ℕ → Bool
is_free name = not (is_reserved name)
