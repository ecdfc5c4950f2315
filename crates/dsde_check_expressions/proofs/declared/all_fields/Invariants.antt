use Rattle.std.proofs.Common.{◌≡◌, map, drop}
use Rattle.dsde_language.specs.Judge.{all_fields}
use Rattle.dsde_check_expressions.specs.Parts.{judge_set}
use Rattle.dsde_check_expressions.proofs.declared.all_fields.Given as goal

abbrev pub invariant-loop-set : goal.invariant-loop-set
invariant-loop-set l = all_fields l.fields (map (judge_set l._around) (drop l.set-index l.sets)) ≡ all_fields l.fields (map (judge_set l._around) l.sets)
