use Rattle.std.proofs.Common.{◌∙◌, sym}
use Rattle.dsde_sim_moving.specs.Stood.{stood}
use Rattle.dsde_sim_working.specs.lemmas.Receiving.{received-fits}
use Rattle.dsde_sim_working.proofs.phases.received.Goals as goal

pub ins_of-requires : goal.ins_of-requires
ins_of-requires c = (stood c.args.program.now c.args.tree.now c.requires.tree).is_of

pub returns-clause-fits : goal.returns-clause-fits
returns-clause-fits c =
    received-fits c.args.program.now c.args.tree.now c.requires.tree c.sent_fits.ensures c.args.items.now c.requires.items
    c.in_ok-ports.ports (c.ins_of.ensures ∙ sym c.in_ok-ports.ensures) c.by_port.result c.by_port.ensures.value c.by_port.ensures.few
