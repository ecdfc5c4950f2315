use Rattle.dsde_cli.specs.Saved.{name_of}
use Rattle.dsde_cli.proofs.CliStoring.{leaves-nothing}
use Rattle.dsde_cli.proofs.save.store_left.Goals as goal

pub returns-in-None-clause-kept : goal.returns-in-None-clause-kept
returns-in-None-clause-kept g c = leaves-nothing (name_of c.args.name) _ (g.F.Shelf.held c.args.shelf.now) c.args.status (λ well. rw c.in-None.is at (c.requires.fresh well)) c.requires.run
