use Rattle.std.specs.Option.{option_copied}
use Rattle.std.proofs.lemmas.Result.{IfOk-weaker}
use Rattle.dsde_run.specs.given.system.Program.{system}
use Rattle.dsde_run.specs.lemmas.Steps.{steps-on}
use Rattle.dsde_plain.proofs.as_run.PlainAdvance.advance.Goals as goal

pub returns-clause-steps : goal.returns-clause-steps
returns-clause-steps c = IfOk-weaker c.advance.result _ _
    (λ step tells. steps-on (system c.args.self.now.program) c.args.self.now.engine c.advance.new.self.engine (option_copied c.args.head) step tells.1) c.advance.ensures.ok
