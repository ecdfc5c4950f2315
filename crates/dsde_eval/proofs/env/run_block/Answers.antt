use Rattle.std.proofs.Common.{subst}
use Rattle.dsde_language.specs.MeaningTables.{Coded, state_of}
use Rattle.dsde_eval_tables.specs.Evaluating as evaluating
use Rattle.dsde_eval_tables.specs.Passing.{PassesIn}
use Rattle.dsde_eval.proofs.Blocks.{run-allowed, run-ran}
use Rattle.dsde_eval.proofs.env.run_block.Goals as goal

pub block-requires : goal.block-requires
block-requires c =
    run-allowed c.args.program.now c.right.ensures c.laws.ensures.blocks c.laws.ensures.known c.laws.ensures.functions
    (evaluating.coded_of c.evaluator.result) c.evaluator.ensures c.args.block.0 c.args.env.now.slots c.args.sends.now c.requires

pub returns-clause-ran : goal.returns-clause-ran
returns-clause-ran c =
    run-ran c.args.program.now c.right.ensures c.laws.ensures.blocks c.laws.ensures.known c.laws.ensures.functions
    (evaluating.coded_of c.evaluator.result) c.evaluator.ensures c.args.block.0 c.args.env.now.slots c.args.sends.now
    c.block.result c.block.new.slots c.block.new.sends c.block.ensures.flows

pub returns-clause-passes : goal.returns-clause-passes
returns-clause-passes c = λ is.
    subst (λ (coded : Coded). PassesIn coded 513 c.args.block (state_of c.args.env.now.slots c.args.sends.now) (state_of c.block.new.slots c.block.new.sends)) c.evaluator.ensures
    (c.block.ensures.passes is)
