use Rattle.std.proofs.Common.{subst}
use Rattle.dsde_run.specs.Run.{running}
use Rattle.dsde_run.specs.Steps.{ItemsCome}
use Rattle.dsde_run.proofs.Coming.{items-come}
use Rattle.dsde_run.proofs.running.Running.comes.Goals as goal

pub returns : goal.returns
returns c =
    subst ItemsCome c.self.view_is
    (items-come c.bodies_stand.ensures c.top_is_declared.ensures
    (running c.self.inside.program.now c.self.inside.places.now) c.self.invariant.0)
