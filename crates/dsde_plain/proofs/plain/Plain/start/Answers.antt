use Rattle.std.proofs.Common.{arith}
use Rattle.dsde_language.specs.DeclaredModels.{top_number}
use Rattle.dsde_run.specs.given.system.Program.{system}
use Rattle.dsde_sim_tree.specs.Engine.{begun}
use Rattle.dsde_run.specs.given.sim_working.lemmas_Standing.{start-is, starts}
use Rattle.dsde_plain.proofs.plain.Plain.start.Goals as goal

pub invariant_of-result : goal.invariant_of-result
invariant_of-result c = (
  c.in_ok-tree.ensures.stands,
  omega arith,
  starts c.trees_stand.ensures.start c.programs_lead_on.ensures c.args.program.now (begun c.in_ok-tree.tree)
      (start-is (system c.args.program.now) (top_number c.args.program.now) c.in_ok-args.args c.in_ok-tree.tree c.in_ok-args.ensures.comes c.in_ok-tree.ensures.told.1)
      (omega arith),
)
