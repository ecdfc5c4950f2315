-- What a `for` in tables does.
use Rattle.std.proofs.Common.{◌≡◌, List, ap, sym, ◌∙◌}
use Rattle.dsde_language.specs.declared.node_ids.ExprId.{ExprId}
use Rattle.dsde_language.specs.declared.make.Make.{Make}
use Rattle.dsde_language.specs.declared.make.Make.TheVariants as make
use Rattle.dsde_language.specs.declared.make.Make.TheOpen.{Make-F}
use Rattle.dsde_language.specs.declared.make.Make.TheViews.{rolls-For}
use Rattle.dsde_language.specs.declared.make.Make.TheFolds.{fold-roll-Make}
use Rattle.dsde_language.specs.MeaningTables.{Part}
use Rattle.dsde_executive_plans.specs.Drafts.{Draft, Draw, ArmDraw, make_step, make_arm_step, draw, draws, for_list}

pub draw-for : (part : Part) (list : ExprId) (body : List Make) (draft : Draft) → draw part (make.For list body) draft ≡ for_list part list (draws part body) draft
draw-for part list body draft =
    ap (λ (own : Make). draw part own draft) (sym (rolls-For list body))
    ∙ ap (λ (own : Draw). own draft) (fold-roll-Make Draw ArmDraw (make_step part) make_arm_step (Make-F.For list body))
