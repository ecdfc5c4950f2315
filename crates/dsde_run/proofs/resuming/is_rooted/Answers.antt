use Rattle.std.proofs.Common.{subst}
use Rattle.dsde_language.specs.Right.{IsRight}
use Rattle.dsde_syntax.specs.declared.decl.Model.{Model}
use Rattle.dsde_image_rows.specs.given.system.Program.{system}
use Rattle.dsde_image_rows.specs.given.sim_movers.Stands.{StandsEngine}
use Rattle.dsde_run.proofs.Rooted.{rooted}
use Rattle.dsde_run.proofs.resuming.is_rooted.Goals as goal

pub returns : goal.returns
returns c =
    rooted c.args.own.now.model (c.top_is_sure.ensures c.args.own.now.model (subst IsRight c.program.ensures c.right.ensures)) c.args.core.now.engine.time c.args.core.now.engine.tree
    (subst (λ (model : Model). StandsEngine (system model) c.args.core.now.engine) c.requires c.stands.ensures.stands.stands)
