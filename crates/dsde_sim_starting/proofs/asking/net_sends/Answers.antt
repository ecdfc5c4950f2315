use Rattle.std.proofs.Common.{sym, ◌∙◌}
use Rattle.dsde_sim_starting.specs.lemmas.Fits.{net-shape}
use Rattle.dsde_sim_starting.proofs.Sending.{net-sent}
use Rattle.dsde_sim_starting.proofs.asking.net_sends.Goals as goal

pub network_out-requires-clause-below : goal.network_out-requires-clause-below
network_out-requires-clause-below c = (net-shape c.args.program.now c.args.net.now c.requires.net).args.below

pub network_out-requires-clause-network : goal.network_out-requires-clause-network
network_out-requires-clause-network c = (net-shape c.args.program.now c.args.net.now c.requires.net).links.network

pub returns-clause-fits : goal.returns-clause-fits
returns-clause-fits c =
    net-sent c.args.program.now c.args.net.now c.args.sources.now c.requires.net c.requires.sources
    c.gathered_fits.ensures c.reach_covers.ensures c.right.ensures
    c.in_ok-ports.ports (λ args. c.network_out.ensures args ∙ sym c.in_ok-ports.ensures) c.in_ok-sent.sent c.in_ok-sent.ensures.value
