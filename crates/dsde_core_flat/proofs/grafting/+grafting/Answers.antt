use Rattle.std.proofs.Common.{◌≡◌, ◌+◌, ◌^◌, ◌<◌, List, length, [], ◌∷◌, Some, None, refl, sym, ap, subst, ◌∙◌, arith}
use Rattle.dsde_values.specs.declared.name.Name.{Name}
use Rattle.dsde_values.specs.declared.path.Path.{Path}
use Rattle.dsde_sim_tree.specs.Told.{below}
use Rattle.dsde_sim_tree.specs.declared.sim.Net.{Net}
use Rattle.dsde_sim_tree.specs.declared.sim.Sim.{Sim}
use Rattle.dsde_sim_tree.specs.declared.sim.Sim.TheVariants as sim
use Rattle.dsde_sim_tree.specs.declared.sim.Sim.TheViews.{out-Net}
use Rattle.dsde_sim_tree.specs.Tree.{parts_of_net, parts_of_kids}
use Rattle.dsde_sim_tree.specs.Start.{kid_of}
use Rattle.dsde_routes_wiring.specs.declared.wiring.Wiring.{Wiring}
use Rattle.dsde_routes_wiring.specs.declared.wiring.WiredKid.{WiredKid}
use Rattle.dsde_core_flat.specs.Grafts.{path_at, IsFree, AreGrafted}
use Rattle.dsde_core_flat.specs.lemmas.Grafting.{graft-leaf}
use Rattle.dsde_routes_wiring.specs.given.structure.plan_Link.{Link}
use Rattle.dsde_core_flat.specs.Change.{wired_kid, wiring_of}
use Rattle.dsde_core_flat.specs.lemmas.Growing.{free-first, net-named}
use Rattle.dsde_core_flat.specs.Named.{HasOwnNames}
use Rattle.dsde_core_flat.proofs.Walking.{Grafts, kid-room, kid-names, kid-births, kid-less, kid-longer, goes-on, path-there, grown-live, grown-path, net-parts, net-live, net-room, net-births, net-grafted}
use Rattle.dsde_core_flat.specs.lemmas.Waiting.{net-waits}
use Rattle.dsde_core_flat.proofs.grafting.+grafting.Goals as goal

pub graft-returns-in_ok-handle-in-Leaf-clause-grafted : goal.graft-returns-in_ok-handle-in-Leaf-clause-grafted
graft-returns-in_ok-handle-in-Leaf-clause-grafted g t c =
    let grown = c.in_ok-handle-in-Leaf.ensures.grown in
    let path = path_at c.args.grove.now c.args.parent in
    subst (λ (s : Sim). AreGrafted c.args.grove.now c.grow_leaf.new.grove path (kid_of c.args.name s ∷ []) (wired_kid c.in_ok-listed.listed c.in_ok-handle-in-Leaf.handle None ∷ [])) (sym c.in-Leaf.is)
    (subst (λ (n : Name). AreGrafted c.args.grove.now c.grow_leaf.new.grove path (kid_of c.args.name (sim.Leaf c.in-Leaf.leaf) ∷ []) (wired_kid n c.in_ok-handle-in-Leaf.handle None ∷ [])) (sym c.in_ok-listed.ensures)
    (graft-leaf c.args.grove.now c.grow_leaf.new.grove c.args.parent c.args.name c.in-Leaf.leaf c.in_ok-handle-in-Leaf.handle path grown c.in_ok-handle-in-Leaf.ensures.fresh
    (path-there c.args.grove.now c.args.parent grown.above grown.live)))

pub graft_kids-graft-requires : goal.graft_kids-graft-requires
graft_kids-graft-requires g t c κs within =
    let all = c.loop-kid.kid-iterator.rest.items in
    let goes = c.loop-kid.invariant.0 in
    let is = c.in-Some.ensures.steps.0 in
    let less = kid-less c.args.kids c.args.grove.now c.args.looks.now c.args.parent c.loop-kid.grove c.loop-kid.looks c.loop-kid.done all c.next.new.self.rest.items c.in-Some.kid goes is in (
      omega (arith, less, c.decreases),
      (
        within,
        (
          goes.tree,
          (
            goes.live,
            (
              kid-room c.args.kids c.args.grove.now c.args.looks.now c.args.parent c.loop-kid.grove c.loop-kid.looks c.loop-kid.done all c.next.new.self.rest.items c.in-Some.kid goes is,
              (
                kid-names c.args.kids c.args.grove.now c.args.looks.now c.args.parent c.loop-kid.grove c.loop-kid.looks c.loop-kid.done all c.next.new.self.rest.items c.in-Some.kid goes is,
                kid-births c.args.kids c.args.grove.now c.args.looks.now c.args.parent c.loop-kid.grove c.loop-kid.looks c.loop-kid.done all c.next.new.self.rest.items c.in-Some.kid goes is,
              ),
            ),
          ),
        ),
      ),
    )

pub graft_kids-loop-kid-preserved : goal.graft_kids-loop-kid-preserved
graft_kids-loop-kid-preserved g t c =
    let goes = goes-on c.args.kids c.args.grove.now c.args.looks.now c.args.parent c.loop-kid.grove c.loop-kid.looks c.loop-kid.done c.loop-kid.kid-iterator.rest.items c.next.new.self.rest.items c.in-Some.kid
    c.loop-kid.invariant.0 c.in-Some.ensures.steps.0 c.graft.new.grove c.graft.new.looks c.in_ok-one.one c.in_ok-one.ensures.grafted c.in_ok-one.ensures.named c.in_ok-one.ensures.tree c.in_ok-one.ensures.ticks in (
      subst (λ (d : List WiredKid). Grafts c.args.kids c.args.grove.now c.args.looks.now c.args.parent c.graft.new.grove c.graft.new.looks d c.next.new.self.rest.items) (sym c.in_ok-push.ensures.ok) goes,
      (λ waiting but. c.in_ok-one.ensures.waits waiting (c.loop-kid.invariant.1 waiting but)),
      kid-longer (length c.args.queue.now.pairs + parts_of_kids c.args.kids) (length c.loop-kid.queue.pairs) (length c.graft.new.queue.pairs) c.loop-kid.kid-iterator.rest.items c.next.new.self.rest.items c.in-Some.kid
          c.in-Some.ensures.steps.0 c.loop-kid.invariant.2 c.in_ok-one.ensures.longer,
      tt,
      tt,
    )

pub graft_net-grow_leaf-requires-clause-live : goal.graft_net-grow_leaf-requires-clause-live
graft_net-grow_leaf-requires-clause-live g t c =
    let grown = c.in_ok-handle.ensures.grown in
    grown-live c.args.grove.now c.grow.new.grove c.args.parent c.args.name _ c.in_ok-handle.handle (path_at c.args.grove.now c.args.parent) grown c.in_ok-handle.ensures.fresh
    (path-there c.args.grove.now c.args.parent grown.above grown.live)

pub graft_net-grow_leaf-requires-clause-free : goal.graft_net-grow_leaf-requires-clause-free
graft_net-grow_leaf-requires-clause-free g t c =
    let grown = c.in_ok-handle.ensures.grown in
    let path = path_at c.args.grove.now c.args.parent in
    let at = path-there c.args.grove.now c.args.parent grown.above grown.live in
    let here = grown-path c.args.grove.now c.grow.new.grove c.args.parent c.args.name _ c.in_ok-handle.handle path grown c.in_ok-handle.ensures.fresh at in
    subst (λ (p : Path). IsFree c.grow.new.grove (below p c.in_ok-exec.field-0).names) (sym here)
    (free-first c.args.grove.now c.grow.new.grove c.args.parent c.in_ok-handle.handle c.args.name c.in_ok-exec.field-0 _ path grown c.in_ok-handle.ensures.fresh at c.requires.free)

pub graft_net-graft_kids-requires : goal.graft_net-graft_kids-requires
graft_net-graft_kids-requires g t c κs within =
    let net = c.into_inner-args.result in
    let names : HasOwnNames (sim.Net net) = subst (λ (n : Net). HasOwnNames (sim.Net n)) (sym c.into_inner-args.ensures) c.requires.names in
    let few : c.args.grove.now.next_birth + parts_of_net net < 2 ^ 64 = subst (λ (n : Net). c.args.grove.now.next_birth + parts_of_net n < 2 ^ 64) (sym c.into_inner-args.ensures) c.requires.births in
    let less : parts_of_net c.args.net ≡ 2 + parts_of_kids (out-Net net).kids = ap parts_of_net (sym c.into_inner-args.ensures) ∙ net-parts net in
    let first = c.in_ok-handle.ensures.grown in
    let second = c.in_ok-boss.ensures.grown in (
      omega (arith, less, c.decreases),
      (
        within,
        (
          c.in_ok-boss.ensures.tree,
          (
            net-live c.args.grove.now c.grow.new.grove c.grow_leaf.new.grove c.args.parent c.in_ok-handle.handle c.in_ok-boss.boss c.args.name c.in_ok-exec.field-0 net first c.in_ok-handle.ensures.fresh second c.in_ok-boss.ensures.fresh c.in_ok-exec.ensures,
            (
              net-room c.args.grove.now c.grow.new.grove c.grow_leaf.new.grove c.args.parent c.in_ok-handle.handle c.in_ok-boss.boss c.args.name c.in_ok-exec.field-0 net first c.in_ok-handle.ensures.fresh second c.in_ok-boss.ensures.fresh c.in_ok-exec.ensures c.requires.free names,
              (
                (net-named net names).0,
                (
                  (net-named net names).1,
                  net-births c.args.grove.now c.grow.new.grove c.grow_leaf.new.grove c.args.parent c.in_ok-handle.handle c.in_ok-boss.boss c.args.name c.in_ok-exec.field-0 net first c.in_ok-handle.ensures.fresh second c.in_ok-boss.ensures.fresh c.in_ok-exec.ensures few,
                ),
              ),
            ),
          ),
        ),
      ),
    )

pub graft_net-returns-clause-grafted : goal.graft_net-returns-clause-grafted
graft_net-returns-clause-grafted g t c =
    let net = c.into_inner-args.result in
    let first = c.in_ok-handle.ensures.grown in
    let second = c.in_ok-boss.ensures.grown in
    let path = path_at c.args.grove.now c.args.parent in
    let made : Wiring = wiring_of c.in_ok-handle.handle c.in_ok-boss.boss c.in_ok-links.links c.in_ok-kids.kids in
    subst (λ (n : Net). AreGrafted c.args.grove.now c.graft_kids.new.grove path (kid_of c.args.name (sim.Net n) ∷ []) (wired_kid c.args.listed c.in_ok-handle.handle (Some c.in_ok-below.below) ∷ [])) c.into_inner-args.ensures
    (subst (λ (n : Name). AreGrafted c.args.grove.now c.graft_kids.new.grove path (kid_of c.args.name (sim.Net net) ∷ []) (wired_kid n c.in_ok-handle.handle (Some c.in_ok-below.below) ∷ [])) (sym c.requires.listed)
    (subst (λ (w : Wiring). AreGrafted c.args.grove.now c.graft_kids.new.grove path (kid_of c.args.name (sim.Net net) ∷ []) (wired_kid c.args.name c.in_ok-handle.handle (Some w) ∷ [])) (sym c.in_ok-below.ensures)
    (subst (λ (ls : List Link). AreGrafted c.args.grove.now c.graft_kids.new.grove path (kid_of c.args.name (sim.Net net) ∷ []) (wired_kid c.args.name c.in_ok-handle.handle (Some (wiring_of c.in_ok-handle.handle c.in_ok-boss.boss ls c.in_ok-kids.kids)) ∷ [])) (sym c.in_ok-links.ensures)
    (net-grafted c.args.grove.now c.grow.new.grove c.grow_leaf.new.grove c.args.parent c.in_ok-handle.handle c.in_ok-boss.boss c.args.name c.in_ok-exec.field-0 net first c.in_ok-handle.ensures.fresh second c.in_ok-boss.ensures.fresh c.in_ok-exec.ensures
    c.graft_kids.new.grove c.in_ok-kids.kids c.in_ok-kids.ensures.grafted))))

pub graft_net-returns-clause-waits : goal.graft_net-returns-clause-waits
graft_net-returns-clause-waits g t c waiting but =
    let first = c.in_ok-handle.ensures.grown in
    c.in_ok-kids.ensures.waits waiting (c.in_ok-boss.ensures.waits waiting
    (net-waits c.args.grove.now c.grow.new.grove c.args.parent c.args.name _ c.in_ok-handle.handle (record { names = first.above.path }) first c.in_ok-handle.ensures.fresh refl waiting c.args.queue.now.pairs refl but))
