-- The expressions of a structure in text order, each over the names that it sees, and where they stand.
use Rattle.std.specs.Prelude.{◌≡◌, ℕ, true, false, List, [], ◌∷◌, ◌++◌, map, Option, Some, None, slice_get}
use Rattle.dsde_sim_tree.specs.given.syntax.decl_Model.{Model}
use Rattle.dsde_sim_tree.specs.given.syntax.expr_Expr.{Expr}
use Rattle.dsde_sim_tree.specs.given.syntax.item_Bracket.{Bracket}
use Rattle.dsde_sim_tree.specs.given.syntax.item_EndPart.{EndPart}
use Rattle.dsde_sim_tree.specs.given.syntax.item_EndPart_TheVariants as end_part
use Rattle.dsde_sim_tree.specs.given.syntax.item_Item.{Item}
use Rattle.dsde_sim_tree.specs.given.syntax.item_Item_TheOpen.{Item-F, ItemArm-F}
use Rattle.dsde_sim_tree.specs.given.syntax.item_Item_TheFolds.{fold-Item}
use Rattle.dsde_sim_tree.specs.given.syntax.item_ViaKey.{ViaKey}
use Rattle.dsde_sim_tree.specs.given.syntax.item_ViaPart.{ViaPart}
use Rattle.dsde_values.specs.declared.types.Field.{Field}
use Rattle.dsde_values.specs.declared.types.Ty.{Ty}
use Rattle.dsde_values.specs.declared.types.Ty.TheVariants as ty
use Rattle.dsde_sim_tree.specs.given.language.known_Known.{Known}
use Rattle.dsde_sim_tree.specs.given.language.Right.{IsRight}
use Rattle.dsde_sim_tree.specs.given.language.Names.{with_slot, Scope}
use Rattle.dsde_sim_tree.specs.given.language.DeclaredModels.{whole_of, types_of, Own, owns_of}
use Rattle.dsde_sim_tree.specs.given.language.node_ids_ExprId.{ExprId}
use Rattle.dsde_sim_tree.specs.given.language.Typing.{item_in}
use Rattle.dsde_sim_tree.specs.given.language.Expressions.{resolve}
use Rattle.dsde_sim_tree.specs.given.language.Meaning.{Vars}
use Rattle.dsde_sim_tree.specs.given.language.Typed.{Fits, values_in}
use Rattle.dsde_sound_names.specs.given.sound_expressions.Conditions.{CanEval}
use Rattle.dsde_sound_names.specs.given.sound_expressions.Places.{IsExpr}
use Rattle.dsde_sound_names.specs.given.sound_expressions.Bodies.{body_slots}
use Rattle.dsde_sound_names.specs.given.sound_expressions.Structures.{HasStructure}
use Rattle.dsde_sound_structures.specs.Numbers.{numbers_of}

-- an expression, the slots of the names that it sees, and its type
pub record Spot : Type 0 where
  pub slots : List Field
  pub expr : Expr
  pub ty : Ty

abbrev pub spot_as : Ty → Scope → Expr → Spot
spot_as own scope expr = record { slots = scope; expr = expr; ty = own }

-- an expression of the type that it has in its scope
abbrev pub spot_of : Known → Scope → Expr → Spot
spot_of known scope expr = spot_as ((resolve known expr).ty scope) scope expr

-- the expressions of a piece of text, and the names that are seen behind it
pub record Sight : Type 0 where
  pub spots : List Spot
  pub scope : Scope

abbrev pub Look : Type 0
Look = Scope → Sight

-- pieces in their order, each in the scope that the one before left
abbrev pub look_all : List Look → Look
look_all [] scope = record { spots = []; scope = scope }
look_all (look ∷ looks) scope =
    let one = look scope in
    let two = look_all looks one.scope in
    record { spots = one.spots ++ two.spots; scope = two.scope }

-- an index is a whole number
abbrev pub index_spots : Scope → Option Bracket → List Spot
index_spots scope None = []
index_spots scope (Some own) = spot_as ty.Int scope own.value ∷ []

abbrev pub part_spots : Scope → EndPart → List Spot
part_spots scope end_part.Net = []
part_spots scope end_part.Exec = []
part_spots scope (end_part.Kid name index) = index_spots scope index

abbrev pub key_spots : Known → Scope → Option ViaKey → List Spot
key_spots known scope None = []
key_spots known scope (Some key) = spot_of known scope key.value ∷ []

-- The key of a translation sees what its link sees. Its body sees its own names, and is no expression of the item.
abbrev pub via_spots : Known → Scope → Option ViaPart → List Spot
via_spots known scope None = []
via_spots known scope (Some via) = key_spots known scope via.key

abbrev pub last_spots : Option (List Look) → Scope → List Spot
last_spots None scope = []
last_spots (Some looks) scope = (look_all looks scope).spots

-- A name of `let` is seen behind it, that of `for` in its braces, and what braces bind in them alone.
abbrev pub look_step : Known → Item-F Look Look → Look
look_step known (Item-F.Comp at name index soft model args) scope =
    record { spots = index_spots scope index ++ map (spot_of known scope) args; scope = scope }
look_step known (Item-F.Link at source target via) scope =
    record { spots = part_spots scope source.part ++ (part_spots scope target.part ++ via_spots known scope via); scope = scope }
look_step known (Item-F.Let name value) scope =
    record { spots = spot_of known scope value ∷ []; scope = with_slot scope name.name ((resolve known value).ty scope) }
look_step known (Item-F.If arms other) scope =
    record { spots = (look_all arms scope).spots ++ last_spots other scope; scope = scope }
look_step known (Item-F.For name list body) scope =
    let inside = with_slot scope name.name (item_in ((resolve known list).ty scope)) in
    record { spots = spot_of known scope list ∷ (look_all body inside).spots; scope = scope }

-- an arm of `if`: its condition is a truth
abbrev pub look_arm_step : Known → ItemArm-F Look Look → Look
look_arm_step known arm scope =
    record { spots = spot_as ty.Bool scope arm.cond ∷ (look_all arm.body scope).spots; scope = scope }

abbrev pub look_in : Known → Item → Look
look_in known = fold-Item Look Look (look_step known) (look_arm_step known)

-- the expressions of a structure over these slots
abbrev pub spots_of : Known → List Item → Scope → List Spot
spots_of known items scope = (look_all (map (look_in known) items) scope).spots

-- Each expression stands at its number, as many as there are numbers.
abbrev pub SpotsStand : Model → List ExprId → List Spot → Type 0
SpotsStand model [] [] = Unit {0}
SpotsStand model (number ∷ numbers) (spot ∷ spots) =
    IsExpr model false spot.slots number.0 spot.expr spot.ty × SpotsStand model numbers spots
SpotsStand model _ _ = ⊥

-- The structure of the network with a number, and its expressions over the slots of its body: those of the
-- items that it is resolved to, in text order.
pub record HasSpots (model : Model) (number : ℕ) (own : Own) : Type 0 where
  pub structure : HasStructure model number own
  pub stand : SpotsStand model (numbers_of structure.makes) (spots_of (whole_of model) structure.items (body_slots model own))

abbrev pub MakesStand : Type 0
MakesStand =
    (model : Model) (number : ℕ) (own : Own) → IsRight model → slice_get (owns_of model.decls) number ≡ Some own → own.network ≡ true
    → HasSpots model number own

-- The expression at a place among these has this number, and may be evaluated over values of what it sees.
pub record HasSpot (model : Model) (spots : List Spot) (place : ℕ) (number : ExprId) : Type 0 where
  pub spot : Spot
  pub found : slice_get spots place ≡ Some spot
  pub may : (vars : Vars) → Fits (types_of model) vars spot.slots → CanEval model number.0 (values_in vars)

abbrev pub SpotsMayEval : Type 0
SpotsMayEval =
    (model : Model) (numbers : List ExprId) (spots : List Spot) (place : ℕ) (number : ExprId)
    → SpotsStand model numbers spots → slice_get numbers place ≡ Some number → HasSpot model spots place number
