use Rattle.std.specs.Option.{option_copied}
use Rattle.std.proofs.lemmas.Result.{IfOk-weaker}
use Rattle.dsde_image_rows.specs.given.system.Program.{system}
use Rattle.dsde_run.specs.lemmas.Steps.{steps-on}
use Rattle.dsde_run.proofs.path_order.CoreAdvance.advance.Goals as goal

pub returns-clause-steps : goal.returns-clause-steps
returns-clause-steps c = IfOk-weaker c.advance_counted.result _ _
    (λ step tells. steps-on (system c.args.self.now.program) c.args.self.now.engine c.advance_counted.new.core.engine (option_copied c.args.head) step tells.1) c.advance_counted.ensures.ok
