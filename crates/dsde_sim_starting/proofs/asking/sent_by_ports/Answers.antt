use Rattle.std.proofs.Common.{List, sym, subst, ap, ◌∙◌}
use Rattle.dsde_sim_tree.specs.given.structure.plan_Link.{Link}
use Rattle.dsde_sim_tree.specs.given.structure.plan_Part_TheVariants as part
use Rattle.dsde_sim_tree.specs.given.structure.Gather.{gathered}
use Rattle.dsde_executive.specs.given.system.Program.{system}
use Rattle.dsde_executive.specs.given.sound_structures.Carrying.{FitsWiring}
use Rattle.dsde_sim_starting.proofs.Sending.{gathered-few, net-sorted, net-wiring}
use Rattle.dsde_sim_starting.proofs.asking.sent_by_ports.Goals as goal

pub sent_by_net-requires-clause-fits : goal.sent_by_net-requires-clause-fits
sent_by_net-requires-clause-fits c =
    subst (λ (links : List Link). FitsWiring c.args.program.now links c.args.sources.now) (sym c.as_slice.ensures)
    (net-wiring c.args.program.now c.args.net.now c.args.sources.now c.requires.net c.requires.sources)

pub sent_by_net-requires-clause-sorted : goal.sent_by_net-requires-clause-sorted
sent_by_net-requires-clause-sorted c =
    net-sorted c.args.program.now c.args.net.now c.args.sources.now c.requires.net c.requires.sources

pub returns-clause-few : goal.returns-clause-few
returns-clause-few c =
    gathered-few c.args.program.now c.args.net.now c.args.sources.now c.args.ports c.ranges.ports.fits c.in_ok-sent.sent
    (c.in_ok-sent.ensures ∙ ap (λ (links : List Link). gathered (system c.args.program.now).translate links c.args.sources.now part.Net c.args.ports) c.as_slice.ensures)
