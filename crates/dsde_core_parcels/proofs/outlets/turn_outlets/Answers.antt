use Rattle.dsde_core_parcels.proofs.Outgoing.{all-send}
use Rattle.dsde_core_parcels.proofs.outlets.turn_outlets.Goals as goal

pub returns-clause-send : goal.returns-clause-send
returns-clause-send g c =
    all-send c.args.program.now c.args.time c.args.grove.now c.sent_fits.ensures c.reach_covers.ensures c.requires.fit c.args.due.now c.requires.due c.in_ok-outlets.ensures.send
