use Rattle.std.proofs.Common.{rules, ◌∙◌, sym, ap, subst, List, map, length}
use Rattle.std.specs.List.{AllByRecursion}
use Rattle.dsde_sim_changing.specs.given.sim_gathering.Boxes.{box_of}
use Rattle.dsde_sim_tree.specs.given.structure.plan_Link.{Link}
use Rattle.dsde_sim_tree.specs.given.structure.plan_Part_TheVariants as part
use Rattle.dsde_sim_tree.specs.given.structure.Gather.{gathered}
use Rattle.dsde_sim_changing.specs.given.system.Program.{system}
use Rattle.dsde_sim_tree.specs.declared.sim.Kid.{Kid}
use Rattle.dsde_sim_tree.specs.declared.sim.Sim.TheViews.{out-Kid, out-Net}
use Rattle.dsde_sim_changing.specs.given.sound_structures.Carrying.{FitsWiring}
use Rattle.dsde_sim_changing.specs.given.sim_gathering.Passing.{AreSortedKids, IsOfModel}
use Rattle.dsde_sim_moving.specs.Moving.{AreFew}
use Rattle.dsde_sim_moving.proofs.Gathering.{all-of-model, boss-fits, kids-fit, kids-sorted, length-gathered, sources-sorted, wiring-fits}
use Rattle.dsde_sim_moving.proofs.boxes.boxes_in.Goals as goal

pub inboxes_of-requires-clause-fits : goal.inboxes_of-requires-clause-fits
inboxes_of-requires-clause-fits c =
    subst (λ (links : List Link). FitsWiring c.args.program.now links c.args.sources.now) (sym c.as_slice.ensures)
    (wiring-fits c.args.program.now c.args.net.now c.args.sources.now c.requires c.reach_covers.ensures)

pub inboxes_of-requires-clause-sorted : goal.inboxes_of-requires-clause-sorted
inboxes_of-requires-clause-sorted c = sources-sorted c.args.program.now c.args.net.now c.args.sources.now c.requires

pub inboxes_of-requires-clause-order : goal.inboxes_of-requires-clause-order
inboxes_of-requires-clause-order c = subst AreSortedKids (sym c.as_slice-2.ensures) (kids-sorted c.args.program.now c.args.net.now c.args.sources.now c.requires)

pub inboxes_of-requires-clause-kids : goal.inboxes_of-requires-clause-kids
inboxes_of-requires-clause-kids c =
    subst (AllByRecursion (λ (kid : Kid). IsOfModel c.args.program.now (out-Kid kid).sim)) (sym c.as_slice-2.ensures)
    (all-of-model c.args.program.now c.args.net.now c.args.sources.now c.requires)

pub returns-clause-boss_fits : goal.returns-clause-boss_fits
returns-clause-boss_fits c =
    boss-fits c.args.program.now c.args.net.now c.args.sources.now c.requires c.reach_covers.ensures c.gathered_fits.ensures c.right.ensures
    c.in_ok-boss_ins.boss_ins (out-Net c.args.net.now).boss.args (c.ports_in.ensures (out-Net c.args.net.now).boss.args ∙ sym c.in_ok-boss_ins.ensures)
    c.in_ok-got.got.boss
    (c.in_ok-got.ensures.boss ∙ ap (λ (links : List Link). gathered (system c.args.program.now).translate links c.args.sources.now part.Boss c.in_ok-boss_ins.boss_ins) c.as_slice.ensures)

pub returns-clause-boss_few : goal.returns-clause-boss_few
returns-clause-boss_few c =
    let is = ap length c.in_ok-got.ensures.boss ∙ length-gathered c.args.program.now c.as_slice.result.now c.args.sources.now part.Boss c.in_ok-boss_ins.boss_ins in
    search (rules, is)

pub returns-clause-kids_fit : goal.returns-clause-kids_fit
returns-clause-kids_fit c =
    kids-fit c.args.program.now c.args.net.now c.args.sources.now c.requires c.reach_covers.ensures c.gathered_fits.ensures c.right.ensures
    c.in_ok-got.got.kids
    (c.in_ok-got.ensures.kids
    ∙ ap (λ (links : List Link). map (box_of (system c.args.program.now) links c.args.sources.now) c.as_slice-2.result.now) c.as_slice.ensures
    ∙ ap (map (box_of (system c.args.program.now) (out-Net c.args.net.now).links c.args.sources.now)) c.as_slice-2.ensures)
    (subst (AllByRecursion AreFew) c.as_slice-3.ensures c.in_ok-few.ensures)
