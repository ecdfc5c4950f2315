use Rattle.dsde_cli.proofs.CliStoring.{leaves-same}
use Rattle.dsde_cli.proofs.save.store_where_done.Goals as goal

pub returns-in_default-clause-kept : goal.returns-in_default-clause-kept
returns-in_default-clause-kept g c = leaves-same c.args.name.now _ (g.F.Shelf.held c.args.shelf.now) _ c.in_default.not-Done c.requires.run
