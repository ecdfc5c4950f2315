use Rattle.std.proofs.Common.{sym, ◌∙◌}
use Rattle.dsde_core_parcels.proofs.Outgoing.{body-sent}
use Rattle.dsde_core_parcels.proofs.sending.sent.Goals as goal

pub returns-clause-fits : goal.returns-clause-fits
returns-clause-fits c =
    body-sent c.sent_fits.ensures c.reach_covers.ensures c.args.program.now c.args.leaf.now c.in_ok-items.items c.in_ok-ports.ports
    (λ args. c.ports_out.ensures args ∙ sym c.in_ok-ports.ensures) c.in_ok-items.ensures.fits
    c.in_ok-into_ports.field-0 c.in_ok-into_ports.ensures.value
