use Rattle.std.proofs.Common.{List, sym, ap, ◌∙◌, subst}
use Rattle.dsde_language.specs.Outcome.{Outcome}
use Rattle.dsde_language.specs.declared.make.Make.{Make}
use Rattle.dsde_executive_plans.specs.Drafts.{Draft, draft_of, draw, draws, for_list, Draws}
use Rattle.dsde_executive_planner.specs.Drawing.{part_in}
use Rattle.dsde_executive_planner.proofs.Drawing.{draw-for}
use Rattle.dsde_executive_planner.proofs.planner.Planner.+drawing.Goals as goal

pub make-returns-in-For : goal.make-returns-in-For
make-returns-in-For t c =
    let draft : Draft = draft_of c.args.slots.now c.args.drawn.now.entries c.args.drawn.now.links in
    subst (λ (meant : Outcome Draft). Draws meant c.for_list.result c.for_list.new.slots c.for_list.new.drawn.entries c.for_list.new.drawn.links)
    (sym (ap (λ (own : Make). draw (part_in c.args.self.now) own draft) c.in-For.is ∙ draw-for (part_in c.args.self.now) c.in-For.list c.in-For.body draft))
    (subst (λ (body : List Make). Draws (for_list (part_in c.args.self.now) c.in-For.list (draws (part_in c.args.self.now) body) draft) c.for_list.result c.for_list.new.slots c.for_list.new.drawn.entries c.for_list.new.drawn.links)
    c.as_slice-in-For.ensures c.for_list.ensures)
