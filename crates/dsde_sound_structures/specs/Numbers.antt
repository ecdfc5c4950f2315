-- The numbers of the expressions that the items of a structure have in tables, in text order.
use Rattle.std.specs.Prelude.{List, [], ◌∷◌, ◌++◌, map, Option, Some, None}
use Rattle.std.specs.List.{flat_map}
use Rattle.dsde_sim_tree.specs.given.language.node_ids_ExprId.{ExprId}
use Rattle.dsde_sim_tree.specs.given.language.make_Make.{Make}
use Rattle.dsde_sim_tree.specs.given.language.make_Make_TheOpen.{Make-F, MakeArm-F}
use Rattle.dsde_sim_tree.specs.given.language.make_Make_TheFolds.{fold-Make, fold-MakeArm}
use Rattle.dsde_sim_tree.specs.given.language.make_MakeArm.{MakeArm}
use Rattle.dsde_sim_tree.specs.given.language.make_MakeIndex.{MakeIndex}
use Rattle.dsde_sim_tree.specs.given.language.make_MakePart.{MakePart}
use Rattle.dsde_sim_tree.specs.given.language.make_MakePart_TheVariants as make_part
use Rattle.dsde_sim_tree.specs.given.language.make_MakeVia.{MakeVia}

-- lists, one behind another
abbrev pub joined : List (List ExprId) → List ExprId
joined = flat_map (λ (own : List ExprId). own)

abbrev pub index_numbers : Option MakeIndex → List ExprId
index_numbers None = []
index_numbers (Some own) = own.value ∷ []

-- an end of a link: its component's index
abbrev pub part_numbers : MakePart → List ExprId
part_numbers make_part.Net = []
part_numbers make_part.Boss = []
part_numbers (make_part.Kid stem index) = index_numbers index

abbrev pub key_numbers : Option ExprId → List ExprId
key_numbers None = []
key_numbers (Some key) = key ∷ []

abbrev pub via_numbers : Option MakeVia → List ExprId
via_numbers None = []
via_numbers (Some via) = key_numbers via.key

abbrev pub last_numbers : Option (List (List ExprId)) → List ExprId
last_numbers None = []
last_numbers (Some body) = joined body

abbrev pub make_step : Make-F (List ExprId) (List ExprId) → List ExprId
make_step (Make-F.Comp at stem index model args soft) = index_numbers index ++ args
make_step (Make-F.Link at source target via) = part_numbers source.part ++ (part_numbers target.part ++ via_numbers via)
make_step (Make-F.Let value) = value ∷ []
make_step (Make-F.If arms other) = joined arms ++ last_numbers other
make_step (Make-F.For list body) = list ∷ joined body

-- an arm of `if`: its condition, and what stands behind it
abbrev pub make_arm_step : MakeArm-F (List ExprId) (List ExprId) → List ExprId
make_arm_step arm = arm.cond ∷ joined arm.makes

-- the expressions of an item
abbrev pub numbers_in : Make → List ExprId
numbers_in = fold-Make (List ExprId) (List ExprId) make_step make_arm_step

abbrev pub arm_numbers : MakeArm → List ExprId
arm_numbers = fold-MakeArm (List ExprId) (List ExprId) make_step make_arm_step

-- those of all items
abbrev pub numbers_of : List Make → List ExprId
numbers_of makes = joined (map numbers_in makes)
