use Rattle.std.proofs.Common.{subst}
use Rattle.dsde_core_outputs.specs.given.sim_working.Working.{StandsAt, StandsIf}
use Rattle.dsde_core.specs.Standing.{Standing}
use Rattle.dsde_core.proofs.EngineResting.{its-tree-stands}
use Rattle.dsde_core.proofs.engine.Core.stands.Goals as goal

pub returns-clause-fits : goal.returns-clause-fits
returns-clause-fits c =
    let i = c.self.inside in
    subst (λ (own : Standing). StandsIf own.program own.engine.tree) c.self.view_is (its-tree-stands i.spent i.program.now i.flat c.self.invariant.0)

pub returns-clause-stands : goal.returns-clause-stands
returns-clause-stands c = subst (λ (own : Standing). StandsAt own.program own.engine) c.self.view_is c.self.invariant.2
