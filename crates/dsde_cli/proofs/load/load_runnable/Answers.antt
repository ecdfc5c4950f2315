use Rattle.dsde_cli.proofs.Loads.{runs-only}
use Rattle.dsde_cli.proofs.load.load_runnable.Goals as goal

pub returns-in-Ok-clause-only : goal.returns-in-Ok-clause-only
returns-in-Ok-clause-only g c =
    runs-only c.args.name.now (g.F.Shelf.held c.args.shelf.now) c.in-Ok.bytes c.read_runnable.result c.in-Ok.ensures.told (rw c.as_slice.ensures at c.read_runnable.ensures.only)
