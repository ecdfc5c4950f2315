use Rattle.std.proofs.Common.{◌≡◌, subst, ◌∙◌}
use Rattle.std.specs.Prelude.{IfOk}
use Rattle.dsde_run_free.specs.given.run.Run.{Running}
use Rattle.dsde_cli.specs.Causes.{Runs}
use Rattle.dsde_cli.specs.Loaded.{own_of}
use Rattle.dsde_cli.proofs.big.load_big.Goals as goal

pub returns-in-Ok-clause-only : goal.returns-in-Ok-clause-only
returns-in-Ok-clause-only c =
    subst (λ bytes. IfOk c.read_runnable.result (λ loaded. (other : Running) → Runs bytes other → other ≡ own_of loaded)) (c.as_slice.ensures ∙ c.in-Ok.ensures) c.read_runnable.ensures.only
