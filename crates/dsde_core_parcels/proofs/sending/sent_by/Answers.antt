use Rattle.dsde_core_moves.specs.given.grove.Grove.{value_of}
use Rattle.dsde_core_parcels.proofs.Outgoing.{leaf-is}
use Rattle.dsde_core_parcels.proofs.sending.sent_by.Goals as goal

pub sent-requires : goal.sent-requires
sent-requires g c =
    c.requires.fit c.args.due.now.handle c.in-Some.leaf.now (leaf-is (value_of c.args.grove.now c.args.due.now.handle) c.in-Some.leaf.now c.in-Some.ensures.leaf)
