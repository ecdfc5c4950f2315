use Rattle.std.proofs.Common.{◌<◌, ◌∙◌, List, take, length, sym, ap, subst, arith}
use Rattle.dsde_sim_tree.specs.given.structure.plan_Link.{Link}
use Rattle.dsde_sim_tree.specs.given.structure.plan_Part_TheVariants as part
use Rattle.dsde_sim_tree.specs.given.structure.Gather.{Ports, gathered}
use Rattle.dsde_sound_structures.specs.given.system.Program.{system}
use Rattle.dsde_sim_gathering.specs.Boxes.{sent_on}
use Rattle.dsde_sim_gathering.specs.Passing.{AllPass}
use Rattle.dsde_sim_gathering.proofs.Passing.{link-passes}
use Rattle.dsde_sim_gathering.proofs.Stepping.{next-link, sent-more}
use Rattle.dsde_sim_gathering.proofs.boxes.sent_by_net.Goals as goal

pub send_on-requires-clause-pass : goal.send_on-requires-clause-pass
send_on-requires-clause-pass c =
    let below : c.loop-link.link-index < length c.args.links.now = omega arith in
    subst (λ (link : Link). AllPass c.args.program.now c.args.sources.now link) (sym c.link-item.is)
    (link-passes c.args.program.now c.args.sources.now c.args.links.now (c.wiring_carries.ensures c.args.program.now c.args.links.now c.args.sources.now c.requires.fits) c.loop-link.link-index c.link-item.result below)

pub loop-link-preserved : goal.loop-link-preserved
loop-link-preserved c =
    let below : c.loop-link.link-index < length c.args.links.now = omega arith in
    let translate = (system c.args.program.now).translate in
    c.in_ok-send_on.ensures
    ∙ ap (λ (got : Ports). sent_on translate c.args.sources.now c.link-item.result got) c.loop-link.invariant
    ∙ sent-more (system c.args.program.now) c.args.sources.now (λ first later end. c.links_carry_in_order.ensures translate first later c.args.sources.now end)
    (take c.loop-link.link-index c.args.links.now) c.link-item.result c.args.ports
    ∙ ap (λ (links : List Link). gathered translate links c.args.sources.now part.Net c.args.ports) (sym (next-link c.args.links.now c.loop-link.link-index c.link-item.result below c.link-item.is))
