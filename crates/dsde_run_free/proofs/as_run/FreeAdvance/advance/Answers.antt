use Rattle.std.specs.Option.{option_copied}
use Rattle.std.proofs.lemmas.Result.{IfOk-weaker}
use Rattle.dsde_run.specs.given.system.Program.{system}
use Rattle.dsde_run_free.proofs.Stepping.{steps-drawn}
use Rattle.dsde_run_free.proofs.as_run.FreeAdvance.advance.Goals as goal

pub returns-clause-steps : goal.returns-clause-steps
returns-clause-steps c = IfOk-weaker c.advance.result _ _
    (λ step tells. steps-drawn (system c.args.self.now.program) c.args.self.now.drawing c.advance.new.self.drawing (option_copied c.args.head) step tells.1) c.advance.ensures.ok
