use Rattle.std.proofs.Common.{◌≡◌, ◌&&◌, map, drop}
use Rattle.dsde_language.specs.Judge.{in_order}
use Rattle.dsde_check_expressions.specs.Parts.{judge_set}
use Rattle.dsde_check_expressions.proofs.declared.in_order.Given as goal

abbrev pub invariant-loop-index : goal.invariant-loop-index
invariant-loop-index l =
    (l.same && in_order (drop l.index l.fields) (map (judge_set l._around) (drop l.index l.sets))) ≡ in_order l.fields (map (judge_set l._around) l.sets)
