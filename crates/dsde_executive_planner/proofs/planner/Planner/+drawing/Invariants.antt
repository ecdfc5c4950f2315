-- What the rest comes to, after what came so far, stays the same.
use Rattle.std.proofs.Common.{◌≡◌, drop, map}
use Rattle.dsde_executive_plans.specs.Drafts.{draft_of, draws, draw_arm, arms_draw, for_draw}
use Rattle.dsde_executive_planner.specs.Drawing.{part_in}
use Rattle.dsde_executive_planner.proofs.planner.Planner.+drawing.Given as goal

abbrev pub invariant-makes-loop-make : goal.invariant-makes-loop-make
invariant-makes-loop-make l =
    draws (part_in l.self) (drop l.make-index l.makes) (draft_of l.slots l.drawn.entries l.drawn.links)
    ≡ draws (part_in l.self) l.makes (draft_of l.fn.slots l.fn.drawn.entries l.fn.drawn.links)

abbrev pub invariant-arms-loop-arm : goal.invariant-arms-loop-arm
invariant-arms-loop-arm l =
    (arms_draw (part_in l.self) (map (draw_arm (part_in l.self)) (drop l.arm-index l.arms)) (draft_of l.slots l.drawn.entries l.drawn.links)
    ≡ arms_draw (part_in l.self) (map (draw_arm (part_in l.self)) l.arms) (draft_of l.slots l.drawn.entries l.drawn.links))
    × (l.slots ≡ l.fn.slots) × (l.drawn ≡ l.fn.drawn)

abbrev pub invariant-for_each-loop-item : goal.invariant-for_each-loop-item
invariant-for_each-loop-item l =
    for_draw (draws (part_in l.self) l.makes) l.item-iterator.rest.items (draft_of l.slots l.drawn.entries l.drawn.links)
    ≡ for_draw (draws (part_in l.self) l.makes) l.fn.items (draft_of l.fn.slots l.fn.drawn.entries l.fn.drawn.links)
