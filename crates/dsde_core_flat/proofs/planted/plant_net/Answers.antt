use Rattle.std.proofs.Common.{List, [], Some, sym, subst}
use Rattle.dsde_sim_tree.specs.declared.sim.Net.{Net}
use Rattle.dsde_sim_tree.specs.declared.sim.Sim.TheVariants as sim
use Rattle.dsde_sim_tree.specs.declared.sim.Sim.TheViews.{out-Net}
use Rattle.dsde_core_flat.specs.declared.spot.Spot.TheVariants as variant
use Rattle.dsde_core_flat.specs.Change.{wiring_of}
use Rattle.dsde_core_flat.specs.Named.{HasOwnNames}
use Rattle.dsde_core_flat.specs.lemmas.Growing.{net-named}
use Rattle.dsde_core_flat.specs.Stands.{StandsFor}
use Rattle.dsde_routes_wiring.specs.given.structure.plan_Link.{Link}
use Rattle.dsde_core_flat.specs.Scheduled.{IsScheduledBut}
use Rattle.dsde_core_flat.specs.lemmas.Waiting.{all-moved}
use Rattle.dsde_core_flat.proofs.Planting.{planted-quiet, root-live, root-free, net-root-live, net-root-room, planted-net}
use Rattle.dsde_core_flat.proofs.planted.plant_net.Goals as goal

pub grow_leaf-requires-clause-live : goal.grow_leaf-requires-clause-live
grow_leaf-requires-clause-live g c =
    let net = c.into_inner-args.result in
    root-live c.in_ok-grove.grove c.in_ok-grove.root (variant.Net (out-Net net).model (out-Net net).args) c.in_ok-grove.ensures.birth c.in_ok-grove.ensures.parts

pub grow_leaf-requires-clause-free : goal.grow_leaf-requires-clause-free
grow_leaf-requires-clause-free g c =
    let net = c.into_inner-args.result in
    root-free c.in_ok-grove.grove c.in_ok-grove.root (variant.Net (out-Net net).model (out-Net net).args) c.in_ok-grove.ensures.birth c.in_ok-grove.ensures.parts c.in_ok-exec.field-0

pub graft_kids-requires-clause-live : goal.graft_kids-requires-clause-live
graft_kids-requires-clause-live g c =
    let net = c.into_inner-args.result in
    net-root-live c.in_ok-grove.grove c.grow_leaf.new.grove c.grow_leaf.new.grove c.in_ok-grove.root c.in_ok-boss.boss c.in_ok-exec.field-0 net [] c.in_ok-grove.ensures.birth c.in_ok-grove.ensures.parts c.in_ok-boss.ensures.grown c.in_ok-boss.ensures.fresh c.in_ok-exec.ensures

pub graft_kids-requires-clause-free : goal.graft_kids-requires-clause-free
graft_kids-requires-clause-free g c =
    let net = c.into_inner-args.result in
    let names : HasOwnNames (sim.Net net) = subst (λ (n : Net). HasOwnNames (sim.Net n)) (sym c.into_inner-args.ensures) c.requires.names in
    net-root-room c.in_ok-grove.grove c.grow_leaf.new.grove c.grow_leaf.new.grove c.in_ok-grove.root c.in_ok-boss.boss c.in_ok-exec.field-0 net [] c.in_ok-grove.ensures.birth c.in_ok-grove.ensures.parts c.in_ok-boss.ensures.grown c.in_ok-boss.ensures.fresh c.in_ok-exec.ensures names

pub graft_kids-requires-clause-named : goal.graft_kids-requires-clause-named
graft_kids-requires-clause-named g c =
    let net = c.into_inner-args.result in
    let names : HasOwnNames (sim.Net net) = subst (λ (n : Net). HasOwnNames (sim.Net n)) (sym c.into_inner-args.ensures) c.requires.names in
    (net-named net names).0

pub graft_kids-requires-clause-names : goal.graft_kids-requires-clause-names
graft_kids-requires-clause-names g c =
    let net = c.into_inner-args.result in
    let names : HasOwnNames (sim.Net net) = subst (λ (n : Net). HasOwnNames (sim.Net n)) (sym c.into_inner-args.ensures) c.requires.names in
    (net-named net names).1

pub returns-clause-stands : goal.returns-clause-stands
returns-clause-stands g c =
    let net = c.into_inner-args.result in
    subst (λ (n : Net). StandsFor c.graft_kids.new.grove c.in_ok-grove.root (Some (wiring_of c.in_ok-grove.root c.in_ok-boss.boss c.in_ok-links.links c.in_ok-kids.kids)) (sim.Net n)) c.into_inner-args.ensures
    (subst (λ (ls : List Link). StandsFor c.graft_kids.new.grove c.in_ok-grove.root (Some (wiring_of c.in_ok-grove.root c.in_ok-boss.boss ls c.in_ok-kids.kids)) (sim.Net net)) (sym c.in_ok-links.ensures)
    (planted-net c.in_ok-grove.grove c.grow_leaf.new.grove c.graft_kids.new.grove c.in_ok-grove.root c.in_ok-boss.boss c.in_ok-exec.field-0 net c.in_ok-kids.kids c.in_ok-grove.ensures.birth c.in_ok-grove.ensures.parts c.in_ok-boss.ensures.grown c.in_ok-boss.ensures.fresh c.in_ok-exec.ensures c.in_ok-kids.ensures.grafted))

pub returns-clause-scheduled : goal.returns-clause-scheduled
returns-clause-scheduled g c =
    let net = c.into_inner-args.result in
    let quiet = planted-quiet c.in_ok-grove.grove c.in_ok-grove.root (out-Net net).model (out-Net net).args c.in_ok-grove.ensures.birth c.in_ok-grove.ensures.parts in
    let start = subst (IsScheduledBut c.in_ok-grove.grove []) (sym c.new-queue.ensures) quiet in
    all-moved c.graft_kids.new.grove c.graft_kids.new.queue.pairs (c.in_ok-kids.ensures.waits [] (c.in_ok-boss.ensures.waits [] start))
