use Rattle.dsde_cli.proofs.Spots.{if_spots}
use Rattle.dsde_cli.proofs.load.places_of.Goals as goal

pub returns-in-Ok : goal.returns-in-Ok
returns-in-Ok c = if_spots c.args.bytes.now c.in-Ok.tokens c.new.result c.in-Ok.ensures.ok (rw c.as_slice.ensures at c.new.ensures.many) (rw c.as_slice.ensures at c.new.ensures.each)
