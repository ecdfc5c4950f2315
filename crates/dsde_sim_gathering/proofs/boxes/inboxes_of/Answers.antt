use Rattle.std.proofs.Common.{◌<◌, ◌∙◌, List, map, take, length, sym, ap, subst, arith}
use Rattle.dsde_sim_tree.specs.Tree.{name_of}
use Rattle.dsde_sim_tree.specs.given.structure.plan_Link.{Link}
use Rattle.dsde_sound_structures.specs.given.system.Program.{system}
use Rattle.dsde_sim_gathering.specs.declared.boxes.Inboxes.{Inboxes}
use Rattle.dsde_sim_gathering.specs.Boxes.{boxes_of, delivered}
use Rattle.dsde_sim_gathering.specs.Passing.{AllPass}
use Rattle.dsde_sim_gathering.proofs.Passing.{link-passes}
use Rattle.dsde_sim_gathering.proofs.Stepping.{delivered-more, next-link}
use Rattle.dsde_sim_gathering.proofs.boxes.inboxes_of.Goals as goal

pub deliver-requires-clause-pass : goal.deliver-requires-clause-pass
deliver-requires-clause-pass c =
    let below : c.loop-link.link-index < length c.args.links.now = omega arith in
    subst (λ (link : Link). AllPass c.args.program.now c.args.sources.now link) (sym c.link-item.is)
    (link-passes c.args.program.now c.args.sources.now c.args.links.now (c.wiring_carries.ensures c.args.program.now c.args.links.now c.args.sources.now c.requires.fits) c.loop-link.link-index c.link-item.result below)

pub loop-link-preserved : goal.loop-link-preserved
loop-link-preserved c =
    let below : c.loop-link.link-index < length c.args.links.now = omega arith in
    let translate = (system c.args.program.now).translate in
    c.in_ok-deliver.ensures
    ∙ ap (λ (boxes : Inboxes). delivered translate c.args.sources.now (map name_of c.args.kids.now) c.link-item.result boxes) c.loop-link.invariant
    ∙ delivered-more (system c.args.program.now) c.args.sources.now (λ first later end. c.links_carry_in_order.ensures translate first later c.args.sources.now end)
    (take c.loop-link.link-index c.args.links.now) c.link-item.result (λ name other. (c.one_name.ensures name other).0) c.args.boss_ins c.args.kids.now c.requires.order
    ∙ ap (λ (links : List Link). boxes_of (system c.args.program.now) links c.args.sources.now c.args.boss_ins c.args.kids.now) (sym (next-link c.args.links.now c.loop-link.link-index c.link-item.result below c.link-item.is))
