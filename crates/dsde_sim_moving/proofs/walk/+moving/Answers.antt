use Rattle.std.proofs.Common.{arith, ◌∙◌, ap, sym, subst, List, [], map, Err, Ok}
use Rattle.std.proofs.lemmas.Result.{err_from_is_err_and}
use Rattle.dsde_language.specs.declared.ids.ModelId.{ModelId}
use Rattle.dsde_sim_tree.specs.given.formalism.System.{Ports}
use Rattle.dsde_sim_tree.specs.Told.{Tells}
use Rattle.dsde_sim_changing.specs.given.sim_telling.lemmas_GoingOn.{GoesOn, goes-ok, goes-step, goes-end, stops, ends, lacks, tail}
use Rattle.dsde_sim_tree.specs.declared.sim.Kid.{Kid}
use Rattle.dsde_sim_tree.specs.declared.sim.Net.{Net}
use Rattle.dsde_sim_tree.specs.declared.sim.Sim.{Sim}
use Rattle.dsde_sim_tree.specs.declared.sim.Sim.TheVariants as sim
use Rattle.dsde_sim_tree.specs.declared.sim.Sim.TheViews.{out-Net}
use Rattle.dsde_sim_tree.specs.Output.{sources_of, kid_output}
use Rattle.dsde_sim_tree.specs.Tree.{model_of, parts_of_kids}
use Rattle.dsde_sim_tree.specs.Move.{move_leaf_at, boss_moves, after_kids, with_sources, move, kid_move, net_move}
use Rattle.dsde_sim_changing.specs.given.system.Program.{system}
use Rattle.dsde_sim_changing.specs.given.sim_starting.Fitting.{FitsGot, FitsTree}
use Rattle.dsde_sim_moving.specs.Moving.{kid_with, kids_with}
use Rattle.dsde_sim_changing.specs.given.sim_starting.lemmas_Fits.{leaf-tree, net-tree, tree-leaf, tree-net}
use Rattle.dsde_sim_moving.proofs.Made.{kid-made}
use Rattle.dsde_sim_tree.specs.Opened.{as_leaf, as_net}
use Rattle.dsde_sim_moving.proofs.Goes.{leaf-goes, net-goes, sources-go, kids-go, kid-goes, kids_behind}
use Rattle.dsde_sim_changing.specs.given.sim_starting.lemmas_Stood.{model-leaf, model-net}
use Rattle.dsde_sim_moving.proofs.Turns.{ended, entries-ended, few-here, fewer-here, got-here, inside-here}
use Rattle.dsde_sim_moving.proofs.walk.+moving.Goals as goal

pub move_kid-returns-clause-fits : goal.move_kid-returns-clause-fits
move_kid-returns-clause-fits t c = kid-made c.args.program.now c.args.kid.name c.in_ok-sim.sim c.in_ok-sim.ensures.fits

pub move_net-sources_in-requires-clause-fits : goal.move_net-sources_in-requires-clause-fits
move_net-sources_in-requires-clause-fits t c =
    net-tree c.args.program.now c.into_inner-net.result (subst (λ (net : Net). FitsTree c.args.program.now (sim.Net net)) (sym c.into_inner-net.ensures) c.requires.fits)

pub move_net-sources_in-requires-clause-got : goal.move_net-sources_in-requires-clause-got
move_net-sources_in-requires-clause-got t c =
    subst (λ (number : ModelId). FitsGot c.args.program.now number.0 c.args.got)
    (ap (λ (net : Net). model_of (sim.Net net)) (sym c.into_inner-net.ensures) ∙ model-net c.into_inner-net.result)
    c.requires.got

pub move_net-returns-in_err-sources-clause-told : goal.move_net-returns-in_err-sources-clause-told
move_net-returns-in_err-sources-clause-told t c =
    let e = err_from_is_err_and c.from_residual.result c.from_residual.ensures.1 in
    let s = system c.args.program.now in
    let net = c.into_inner-net.result in
    subst (λ (n : Net). Tells (net_move s n c.args.path.now c.args.time c.args.got c.args.room) c.args.events.now c.args.events.now c.from_residual.result) c.into_inner-net.ensures
    (ends c.from_residual.result c.in_err-sources.field-0.0 (e.1 ∙ ap Err e.2)
    (net_move s net c.args.path.now c.args.time c.args.got c.args.room)
    (sources_of s (map (kid_output s) (out-Net net).kids) (out-Net net).boss c.args.path.now c.args.time c.args.got)
    (with_sources s (out-Net net).model (out-Net net).args (out-Net net).boss (map (kid_move s) (out-Net net).kids) (out-Net net).links c.args.path.now c.args.time c.args.room)
    c.args.events.now c.args.events.now
    (sources-go s net c.args.path.now c.args.time c.args.got c.args.room c.args.events.now)
    c.in_err-sources.ensures.comes)

pub move_net-returns-clause-told : goal.move_net-returns-clause-told
move_net-returns-clause-told t c =
    let s = system c.args.program.now in
    let net = c.into_inner-net.result in
    let whole = net_move s net c.args.path.now c.args.time c.args.got c.args.room in
    let next = with_sources s (out-Net net).model (out-Net net).args (out-Net net).boss (map (kid_move s) (out-Net net).kids) (out-Net net).links c.args.path.now c.args.time c.args.room in
    subst (λ (n : Net). Tells (net_move s n c.args.path.now c.args.time c.args.got c.args.room) c.args.events.now c.with_sources.new.events c.with_sources.result) c.into_inner-net.ensures
    (tail whole (next c.in_ok-sources.sources) c.args.events.now c.args.events.now c.with_sources.new.events c.with_sources.result
    (goes-ok whole (sources_of s (map (kid_output s) (out-Net net).kids) (out-Net net).boss c.args.path.now c.args.time c.args.got) next
    c.args.events.now c.args.events.now c.in_ok-sources.sources
    (sources-go s net c.args.path.now c.args.time c.args.got c.args.room c.args.events.now)
    c.in_ok-sources.ensures.comes)
    c.with_sources.ensures.told)

pub move_sim-move_leaf_at-requires-clause-leaf : goal.move_sim-move_leaf_at-requires-clause-leaf
move_sim-move_leaf_at-requires-clause-leaf t c = leaf-tree c.args.program.now c.in-Leaf.leaf (subst (FitsTree c.args.program.now) c.in-Leaf.is c.requires.fits)

pub move_sim-move_leaf_at-requires-clause-got : goal.move_sim-move_leaf_at-requires-clause-got
move_sim-move_leaf_at-requires-clause-got t c =
    subst (λ (number : ModelId). FitsGot c.args.program.now number.0 c.args.got) (ap model_of c.in-Leaf.is ∙ model-leaf c.in-Leaf.leaf) c.requires.got

pub move_sim-returns-in_err-leaf-in-Leaf-clause-told : goal.move_sim-returns-in_err-leaf-in-Leaf-clause-told
move_sim-returns-in_err-leaf-in-Leaf-clause-told t c =
    let e = err_from_is_err_and c.from_residual.result c.from_residual.ensures.1 in
    let s = system c.args.program.now in
    subst (λ (part : Sim). Tells (move s part c.args.path.now c.args.time c.args.got c.args.room) c.args.events.now c.move_leaf_at.new.events c.from_residual.result) (sym c.in-Leaf.is)
    (stops c.from_residual.result c.in_err-leaf-in-Leaf.field-0.0 (e.1 ∙ ap Err e.2)
    (move s (sim.Leaf c.in-Leaf.leaf) c.args.path.now c.args.time c.args.got c.args.room)
    (move_leaf_at s c.in-Leaf.leaf c.args.path.now c.args.time c.args.got) (as_leaf c.args.room)
    c.args.events.now c.args.events.now c.move_leaf_at.new.events
    (leaf-goes s c.in-Leaf.leaf c.args.path.now c.args.time c.args.got c.args.room c.args.events.now)
    c.in_err-leaf-in-Leaf.ensures.told)

pub move_sim-returns-in_ok-leaf-in-Leaf-clause-told : goal.move_sim-returns-in_ok-leaf-in-Leaf-clause-told
move_sim-returns-in_ok-leaf-in-Leaf-clause-told t c =
    let s = system c.args.program.now in
    let whole = move s (sim.Leaf c.in-Leaf.leaf) c.args.path.now c.args.time c.args.got c.args.room in
    let after = c.in_ok-leaf-in-Leaf.leaf in
    subst (λ (part : Sim). Tells (move s part c.args.path.now c.args.time c.args.got c.args.room) c.args.events.now c.move_leaf_at.new.events (Ok (sim.Leaf after, c.args.room))) (sym c.in-Leaf.is)
    (goes-end whole (sim.Leaf after, c.args.room) c.args.events.now c.move_leaf_at.new.events
    (goes-step whole (move_leaf_at s c.in-Leaf.leaf c.args.path.now c.args.time c.args.got) (as_leaf c.args.room) c.args.events.now c.args.events.now c.move_leaf_at.new.events after
    (leaf-goes s c.in-Leaf.leaf c.args.path.now c.args.time c.args.got c.args.room c.args.events.now) c.in_ok-leaf-in-Leaf.ensures.told.0 c.in_ok-leaf-in-Leaf.ensures.told.1))

pub move_sim-returns-in_ok-leaf-in-Leaf-clause-fits : goal.move_sim-returns-in_ok-leaf-in-Leaf-clause-fits
move_sim-returns-in_ok-leaf-in-Leaf-clause-fits t c = tree-leaf c.args.program.now c.in_ok-leaf-in-Leaf.leaf c.in_ok-leaf-in-Leaf.ensures.fits

pub move_sim-returns-in_err-net-in-Net-clause-told : goal.move_sim-returns-in_err-net-in-Net-clause-told
move_sim-returns-in_err-net-in-Net-clause-told t c =
    let e = err_from_is_err_and c.from_residual-in_err-net-in-Net.result c.from_residual-in_err-net-in-Net.ensures.1 in
    let s = system c.args.program.now in
    subst (λ (part : Sim). Tells (move s part c.args.path.now c.args.time c.args.got c.args.room) c.args.events.now c.move_net.new.events c.from_residual-in_err-net-in-Net.result) (sym c.in-Net.is)
    (stops c.from_residual-in_err-net-in-Net.result c.in_err-net-in-Net.field-0.0 (e.1 ∙ ap Err e.2)
    (move s (sim.Net c.in-Net.net) c.args.path.now c.args.time c.args.got c.args.room)
    (net_move s c.in-Net.net c.args.path.now c.args.time c.args.got c.args.room) as_net
    c.args.events.now c.args.events.now c.move_net.new.events
    (net-goes s c.in-Net.net c.args.path.now c.args.time c.args.got c.args.room c.args.events.now)
    c.in_err-net-in-Net.ensures.told)

pub move_sim-returns-in_ok-net-in-Net-clause-told : goal.move_sim-returns-in_ok-net-in-Net-clause-told
move_sim-returns-in_ok-net-in-Net-clause-told t c =
    let s = system c.args.program.now in
    let whole = move s (sim.Net c.in-Net.net) c.args.path.now c.args.time c.args.got c.args.room in
    subst (λ (part : Sim). Tells (move s part c.args.path.now c.args.time c.args.got c.args.room) c.args.events.now c.move_net.new.events (Ok (sim.Net c.in_ok-net-in-Net.net, c.in_ok-net-in-Net.rest))) (sym c.in-Net.is)
    (goes-end whole (sim.Net c.in_ok-net-in-Net.net, c.in_ok-net-in-Net.rest) c.args.events.now c.move_net.new.events
    (goes-step whole (net_move s c.in-Net.net c.args.path.now c.args.time c.args.got c.args.room) as_net c.args.events.now c.args.events.now c.move_net.new.events (c.in_ok-net-in-Net.net, c.in_ok-net-in-Net.rest)
    (net-goes s c.in-Net.net c.args.path.now c.args.time c.args.got c.args.room c.args.events.now) c.in_ok-net-in-Net.ensures.told.0 c.in_ok-net-in-Net.ensures.told.1))

pub move_sim-returns-in_ok-net-in-Net-clause-fits : goal.move_sim-returns-in_ok-net-in-Net-clause-fits
move_sim-returns-in_ok-net-in-Net-clause-fits t c = tree-net c.args.program.now c.in_ok-net-in-Net.net c.in_ok-net-in-Net.ensures.fits

pub moved-returns-in_err-kid-clause-told : goal.moved-returns-in_err-kid-clause-told
moved-returns-in_err-kid-clause-told t c =
    let e = err_from_is_err_and c.from_residual.result c.from_residual.ensures.1 in
    let s = system c.args.program.now in
    let whole = kids_with s c.args.kids c.args.gots c.args.path.now c.args.time c.args.room [] in
    stops c.from_residual.result c.in_err-kid.field-0.0 (e.1 ∙ ap Err e.2) whole
    (kid_with s c.in-Some.kid c.args.path.now c.args.time c.in-Some.got c.loop-kid.room)
    (kids_behind s c.next.new.self.a.rest.items c.next.new.self.b.rest.items c.args.path.now c.args.time c.loop-kid.done)
    c.args.events.now c.loop-kid.events c.move_kid.new.events
    (kid-goes s c.args.path.now c.args.time c.loop-kid.room c.loop-kid.done whole c.args.events.now c.loop-kid.events
    c.loop-kid.kid-iterator.a.rest.items c.loop-kid.kid-iterator.b.rest.items c.in-Some.kid c.next.new.self.a.rest.items c.in-Some.got c.next.new.self.b.rest.items
    c.in-Some.ensures.steps.0.0 c.in-Some.ensures.steps.1.0 c.loop-kid.invariant.0)
    c.in_err-kid.ensures.told

pub moved-returns-in_err-push-clause-told : goal.moved-returns-in_err-push-clause-told
moved-returns-in_err-push-clause-told t c =
    let e = err_from_is_err_and c.from_residual-in_err-push.result c.from_residual-in_err-push.ensures.1 in
    let s = system c.args.program.now in
    let whole = kids_with s c.args.kids c.args.gots c.args.path.now c.args.time c.args.room [] in
    let behind = kids_behind s c.next.new.self.a.rest.items c.next.new.self.b.rest.items c.args.path.now c.args.time c.loop-kid.done in
    lacks c.from_residual-in_err-push.result (e.1 ∙ ap Err e.2) whole (behind (c.in_ok-kid.kid, c.in_ok-kid.rest)) c.args.events.now c.move_kid.new.events
    (goes-step whole (kid_with s c.in-Some.kid c.args.path.now c.args.time c.in-Some.got c.loop-kid.room) behind
    c.args.events.now c.loop-kid.events c.move_kid.new.events (c.in_ok-kid.kid, c.in_ok-kid.rest)
    (kid-goes s c.args.path.now c.args.time c.loop-kid.room c.loop-kid.done whole c.args.events.now c.loop-kid.events
    c.loop-kid.kid-iterator.a.rest.items c.loop-kid.kid-iterator.b.rest.items c.in-Some.kid c.next.new.self.a.rest.items c.in-Some.got c.next.new.self.b.rest.items
    c.in-Some.ensures.steps.0.0 c.in-Some.ensures.steps.1.0 c.loop-kid.invariant.0)
    c.in_ok-kid.ensures.told.0 c.in_ok-kid.ensures.told.1)

pub moved-move_kid-requires : goal.moved-move_kid-requires
moved-move_kid-requires t c =
    let items = c.loop-kid.kid-iterator.a.rest.items in
    let later = c.next.new.self.a.rest.items in
    let is = c.in-Some.ensures.steps.0.0 in
    let fewer = fewer-here items c.in-Some.kid later is (parts_of_kids c.args.kids) c.loop-kid.invariant.6 in (
      omega (arith, fewer, c.decreases),
      (
        c.requires.moment,
        (
          few-here items c.in-Some.kid later is (parts_of_kids c.loop-kid.done) c.loop-kid.room (parts_of_kids c.args.kids) c.args.room c.loop-kid.invariant.1 c.requires.few,
          (
            inside-here items c.in-Some.kid later is c.args.program.now c.loop-kid.invariant.3,
            got-here items c.in-Some.kid later is c.args.program.now c.loop-kid.kid-iterator.b.rest.items c.in-Some.got c.next.new.self.b.rest.items c.in-Some.ensures.steps.1.0 c.loop-kid.invariant.4,
          ),
        ),
      ),
    )

pub moved-returns-clause-told : goal.moved-returns-clause-told
moved-returns-clause-told t c =
    let s = system c.args.program.now in
    let whole = kids_with s c.args.kids c.args.gots c.args.path.now c.args.time c.args.room [] in
    let boxes = c.loop-kid.kid-iterator.b.rest.items in
    goes-end whole (c.loop-kid.done, c.loop-kid.room) c.args.events.now c.loop-kid.events
    (subst (λ (items : List Kid). GoesOn whole (kids_with s items boxes c.args.path.now c.args.time c.loop-kid.room c.loop-kid.done) c.args.events.now c.loop-kid.events)
    (ended c.args.program.now c.loop-kid.kid-iterator.a.rest.items boxes c.loop-kid.invariant.4
    c.loop-kid.kid-iterator.a.rest.len c.loop-kid.kid-iterator.b.rest.len c.loop-kid.kid-iterator.a.rest.ok.0 c.loop-kid.kid-iterator.b.rest.ok.0 c.in-None.ensures.steps)
    c.loop-kid.invariant.0)

pub moved-returns-clause-are : goal.moved-returns-clause-are
moved-returns-clause-are t c =
    entries-ended c.loop-kid.done c.loop-kid.kid-iterator.a.rest.items c.args.kids c.loop-kid.invariant.5
    (ended c.args.program.now c.loop-kid.kid-iterator.a.rest.items c.loop-kid.kid-iterator.b.rest.items c.loop-kid.invariant.4
    c.loop-kid.kid-iterator.a.rest.len c.loop-kid.kid-iterator.b.rest.len c.loop-kid.kid-iterator.a.rest.ok.0 c.loop-kid.kid-iterator.b.rest.ok.0 c.in-None.ensures.steps)

pub with_sources-returns-in_err-kids-clause-told : goal.with_sources-returns-in_err-kids-clause-told
with_sources-returns-in_err-kids-clause-told t c =
    let e = err_from_is_err_and c.from_residual-in_err-kids.result c.from_residual-in_err-kids.ensures.1 in
    let s = system c.args.program.now in
    let net = out-Net c.args.net in
    stops c.from_residual-in_err-kids.result c.in_err-kids.field-0.0 (e.1 ∙ ap Err e.2)
    (with_sources s net.model net.args net.boss (map (kid_move s) net.kids) net.links c.args.path.now c.args.time c.args.room c.args.sources)
    (kids_with s net.kids c.in_ok-got.got.kids c.args.path.now c.args.time c.args.room [])
    (after_kids s net.model net.args net.boss net.links c.args.path.now c.args.time c.args.sources)
    c.args.events.now c.args.events.now c.moved.new.events
    (kids-go s c.args.net c.args.sources c.args.path.now c.args.time c.args.room c.in_ok-got.got.kids c.args.events.now c.in_ok-got.ensures.kids)
    c.in_err-kids.ensures.told

pub with_sources-returns-clause-told : goal.with_sources-returns-clause-told
with_sources-returns-clause-told t c =
    let s = system c.args.program.now in
    let net = out-Net c.args.net in
    let whole = with_sources s net.model net.args net.boss (map (kid_move s) net.kids) net.links c.args.path.now c.args.time c.args.room c.args.sources in
    let next = after_kids s net.model net.args net.boss net.links c.args.path.now c.args.time c.args.sources in
    tail whole (next (c.in_ok-kids.kids, c.in_ok-kids.rest)) c.args.events.now c.moved.new.events c.boss_moves.new.events c.boss_moves.result
    (goes-step whole (kids_with s net.kids c.in_ok-got.got.kids c.args.path.now c.args.time c.args.room []) next
    c.args.events.now c.args.events.now c.moved.new.events (c.in_ok-kids.kids, c.in_ok-kids.rest)
    (kids-go s c.args.net c.args.sources c.args.path.now c.args.time c.args.room c.in_ok-got.got.kids c.args.events.now c.in_ok-got.ensures.kids)
    c.in_ok-kids.ensures.told.0 c.in_ok-kids.ensures.told.1)
    (subst (λ (got : Ports). Tells (boss_moves s net.model net.args net.boss net.links c.in_ok-kids.kids c.args.path.now c.args.time got c.in_ok-kids.rest) c.moved.new.events c.boss_moves.new.events c.boss_moves.result)
    c.in_ok-got.ensures.boss c.boss_moves.ensures.told)
