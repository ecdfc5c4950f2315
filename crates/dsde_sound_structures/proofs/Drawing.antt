-- What each item of tables does.
use Rattle.std.proofs.Common.{◌≡◌, ℕ, Bool, List, [], ◌∷◌, ◌++◌, map, Option, Some, None, Ok, sym, ◌∙◌, ap}
use Rattle.dsde_sim_tree.specs.given.language.node_ids_ExprId.{ExprId}
use Rattle.dsde_sim_tree.specs.given.language.ids_ModelId.{ModelId}
use Rattle.dsde_sim_tree.specs.given.language.make_Make.{Make}
use Rattle.dsde_sim_tree.specs.given.language.make_Make_TheVariants as make
use Rattle.dsde_sim_tree.specs.given.language.make_Make_TheOpen.{Make-F}
use Rattle.dsde_sim_tree.specs.given.language.make_Make_TheViews.{rolls-Comp, rolls-Link, rolls-Let, rolls-If, rolls-For}
use Rattle.dsde_sim_tree.specs.given.language.make_Make_TheFolds.{fold-roll-Make, fold-roll-MakeArm}
use Rattle.dsde_sim_tree.specs.given.language.make_MakeArm.{MakeArm}
use Rattle.dsde_sim_tree.specs.given.language.make_MakeEnd.{MakeEnd}
use Rattle.dsde_sim_tree.specs.given.language.make_MakeIndex.{MakeIndex}
use Rattle.dsde_sim_tree.specs.given.language.make_MakeVia.{MakeVia}
use Rattle.dsde_sim_tree.specs.given.language.Outcome.{◌>>=◌}
use Rattle.dsde_sim_tree.specs.given.language.MeaningTables.{Part}
use Rattle.dsde_sound_names.specs.given.executive_plans.Drafts.{Draft, Draw, ArmDraw, make_step, make_arm_step, draw, draw_arm, draws, comp_draw, link_draw, for_list, arms_draw, else_draw}

module _ (part : Part) where
  pub draw-comp : (at : ℕ) (stem : List ℕ) (index : Option MakeIndex) (model : ModelId) (args : List ExprId) (soft : Bool) (draft : Draft)
      → draw part (make.Comp at stem index model args soft) draft ≡ comp_draw part at stem index model args soft draft
  draw-comp at stem index model args soft draft =
      ap (λ (own : Make). draw part own draft) (sym (rolls-Comp at stem index model args soft))
      ∙ ap (λ (own : Draw). own draft) (fold-roll-Make Draw ArmDraw (make_step part) make_arm_step (Make-F.Comp at stem index model args soft))

  pub draw-link : (at : ℕ) (source target : MakeEnd) (via : Option MakeVia) (draft : Draft)
      → draw part (make.Link at source target via) draft ≡ link_draw part at source target via draft
  draw-link at source target via draft =
      ap (λ (own : Make). draw part own draft) (sym (rolls-Link at source target via))
      ∙ ap (λ (own : Draw). own draft) (fold-roll-Make Draw ArmDraw (make_step part) make_arm_step (Make-F.Link at source target via))

  pub draw-let : (number : ExprId) (draft : Draft)
      → draw part (make.Let number) draft ≡ (part number draft.slots >>= (λ own. Ok (record draft { slots = draft.slots ++ own ∷ [] })))
  draw-let number draft =
      ap (λ (own : Make). draw part own draft) (sym (rolls-Let number))
      ∙ ap (λ (own : Draw). own draft) (fold-roll-Make Draw ArmDraw (make_step part) make_arm_step (Make-F.Let number))

  pub draw-for : (list : ExprId) (body : List Make) (draft : Draft) → draw part (make.For list body) draft ≡ for_list part list (draws part body) draft
  draw-for list body draft =
      ap (λ (own : Make). draw part own draft) (sym (rolls-For list body))
      ∙ ap (λ (own : Draw). own draft) (fold-roll-Make Draw ArmDraw (make_step part) make_arm_step (Make-F.For list body))

  -- what stands behind the last braces
  abbrev pub last_does : Option (List Make) → Option Draw
  last_does None = None
  last_does (Some makes) = Some (draws part makes)

  pub draw-if : (arms : List MakeArm) (other : Option (List Make)) (draft : Draft)
      → draw part (make.If arms other) draft ≡ (arms_draw part (map (draw_arm part) arms) draft >>= (λ found. else_draw (last_does other) draft found))
  draw-if arms None draft =
      ap (λ (own : Make). draw part own draft) (sym (rolls-If arms None))
      ∙ ap (λ (own : Draw). own draft) (fold-roll-Make Draw ArmDraw (make_step part) make_arm_step (Make-F.If arms None))
  draw-if arms (Some makes) draft =
      ap (λ (own : Make). draw part own draft) (sym (rolls-If arms (Some makes)))
      ∙ ap (λ (own : Draw). own draft) (fold-roll-Make Draw ArmDraw (make_step part) make_arm_step (Make-F.If arms (Some makes)))

  pub draw-arm : (cond : ExprId) (makes : List Make) → draw_arm part (record { cond = cond; makes = makes }) ≡ (let own : ArmDraw = record { cond = cond; body = draws part makes } in own)
  draw-arm cond makes = fold-roll-MakeArm Draw ArmDraw (make_step part) make_arm_step (record { cond = cond; makes = makes })
