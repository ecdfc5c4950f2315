-- The expressions of each item of tables.
use Rattle.std.proofs.Common.{◌≡◌, ℕ, Bool, List, [], ◌∷◌, ◌++◌, map, Option, Some, None, sym, ◌∙◌, ap}
use Rattle.dsde_sim_tree.specs.given.language.node_ids_ExprId.{ExprId}
use Rattle.dsde_sim_tree.specs.given.language.ids_ModelId.{ModelId}
use Rattle.dsde_sim_tree.specs.given.language.make_Make.{Make}
use Rattle.dsde_sim_tree.specs.given.language.make_Make_TheVariants as make
use Rattle.dsde_sim_tree.specs.given.language.make_Make_TheOpen.{Make-F}
use Rattle.dsde_sim_tree.specs.given.language.make_Make_TheViews.{rolls-Comp, rolls-Link, rolls-Let, rolls-If, rolls-For}
use Rattle.dsde_sim_tree.specs.given.language.make_Make_TheFolds.{fold-roll-Make, fold-roll-MakeArm}
use Rattle.dsde_sim_tree.specs.given.language.make_MakeArm.{MakeArm}
use Rattle.dsde_sim_tree.specs.given.language.make_MakeEnd.{MakeEnd}
use Rattle.dsde_sim_tree.specs.given.language.make_MakeIndex.{MakeIndex}
use Rattle.dsde_sim_tree.specs.given.language.make_MakeVia.{MakeVia}
use Rattle.dsde_sound_structures.specs.Numbers.{joined, index_numbers, part_numbers, via_numbers, make_step, make_arm_step, numbers_in, arm_numbers, numbers_of}

abbrev L : Type 0
L = List ExprId

pub numbers-comp : (at : ℕ) (stem : List ℕ) (index : Option MakeIndex) (model : ModelId) (args : List ExprId) (soft : Bool)
    → numbers_in (make.Comp at stem index model args soft) ≡ index_numbers index ++ args
numbers-comp at stem index model args soft =
    ap numbers_in (sym (rolls-Comp at stem index model args soft))
    ∙ fold-roll-Make L L make_step make_arm_step (Make-F.Comp at stem index model args soft)

pub numbers-link : (at : ℕ) (source target : MakeEnd) (via : Option MakeVia)
    → numbers_in (make.Link at source target via) ≡ part_numbers source.part ++ (part_numbers target.part ++ via_numbers via)
numbers-link at source target via =
    ap numbers_in (sym (rolls-Link at source target via))
    ∙ fold-roll-Make L L make_step make_arm_step (Make-F.Link at source target via)

pub numbers-let : (number : ExprId) → numbers_in (make.Let number) ≡ number ∷ []
numbers-let number =
    ap numbers_in (sym (rolls-Let number)) ∙ fold-roll-Make L L make_step make_arm_step (Make-F.Let number)

pub numbers-for : (list : ExprId) (body : List Make) → numbers_in (make.For list body) ≡ list ∷ numbers_of body
numbers-for list body =
    ap numbers_in (sym (rolls-For list body)) ∙ fold-roll-Make L L make_step make_arm_step (Make-F.For list body)

pub numbers-if-none : (arms : List MakeArm) → numbers_in (make.If arms None) ≡ joined (map arm_numbers arms) ++ []
numbers-if-none arms =
    ap numbers_in (sym (rolls-If arms None)) ∙ fold-roll-Make L L make_step make_arm_step (Make-F.If arms None)

pub numbers-if-some : (arms : List MakeArm) (makes : List Make) → numbers_in (make.If arms (Some makes)) ≡ joined (map arm_numbers arms) ++ numbers_of makes
numbers-if-some arms makes =
    ap numbers_in (sym (rolls-If arms (Some makes))) ∙ fold-roll-Make L L make_step make_arm_step (Make-F.If arms (Some makes))

pub numbers-arm : (cond : ExprId) (makes : List Make) → arm_numbers (record { cond = cond; makes = makes }) ≡ cond ∷ numbers_of makes
numbers-arm cond makes = fold-roll-MakeArm L L make_step make_arm_step (record { cond = cond; makes = makes })
