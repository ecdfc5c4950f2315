use Rattle.std.proofs.Common.{◌≡◌, ◌∙◌, ap, sym, [], true, List, map, Err}
use Rattle.std.proofs.lemmas.Result.{err_from_is_err_and}
use Rattle.dsde_sim_tree.specs.given.structure.plan_Entry.{Entry}
use Rattle.dsde_sim_tree.specs.given.structure.Survival.{roles}
use Rattle.dsde_sim_tree.specs.Told.{to_boss}
use Rattle.dsde_executive.specs.given.system.Program.{system}
use Rattle.dsde_sim_telling.specs.lemmas.GoingOn.{goes-step, goes-end, stops, lacks, tail}
use Rattle.dsde_sim_tree.specs.Tree.{entry_of, started_as}
use Rattle.dsde_sim_tree.specs.Start.{start_leaf_at, start, starts, started_kid, with_boss}
use Rattle.dsde_sim_starting.specs.lemmas.Fits.{tree-net}
use Rattle.dsde_sim_starting.specs.lemmas.Roles.{links-by-roles, started-roles}
use Rattle.dsde_sim_starting.proofs.Made.{kid-of-fits, plan-links}
use Rattle.dsde_sim_starting.proofs.Going.{start-goes, start_inner, as_part, net-told, net-boss, net_whole, goes-here, goes-on, start-one, starts_behind}
use Rattle.dsde_sim_starting.proofs.parts.+start.Goals as goal

pub start-returns-in_err-net-clause-told : goal.start-returns-in_err-net-clause-told
start-returns-in_err-net-clause-told t c =
    let e = err_from_is_err_and c.from_residual-in_err-net.result c.from_residual-in_err-net.ensures.1 in
    let s = system c.args.program.now in
    let network : (system c.args.program.now).is_network c.args.model ≡ true = cc (c.is_network.ensures, c.if-not-is_network.false) in
    stops c.from_residual-in_err-net.result c.in_err-net.field-0.0 (e.1 ∙ ap Err e.2)
    (start s c.args.left c.args.model c.args.args c.args.path.now c.args.time c.args.room)
    (start_inner s c.args.left c.args.model c.args.args c.args.path.now c.args.time c.in_ok-rest.rest) as_part
    c.args.events.now c.args.events.now c.start_net.new.events
    (start-goes s c.args.left c.args.model c.args.args c.args.path.now c.args.time c.args.room c.args.events.now c.network_at.result c.in_ok-rest.rest network (c.network_at.ensures c.args.args) c.in_ok-rest.ensures.comes)
    c.in_err-net.ensures.told

pub start-returns-clause-told : goal.start-returns-clause-told
start-returns-clause-told t c =
    let s = system c.args.program.now in
    let network : (system c.args.program.now).is_network c.args.model ≡ true = cc (c.is_network.ensures, c.if-not-is_network.false) in
    let whole = start s c.args.left c.args.model c.args.args c.args.path.now c.args.time c.args.room in
    let goes = start-goes s c.args.left c.args.model c.args.args c.args.path.now c.args.time c.args.room c.args.events.now c.network_at.result c.in_ok-rest.rest network (c.network_at.ensures c.args.args) c.in_ok-rest.ensures.comes in
    goes-end whole _ c.args.events.now c.start_net.new.events
    (goes-step whole (start_inner s c.args.left c.args.model c.args.args c.args.path.now c.args.time c.in_ok-rest.rest) as_part
    c.args.events.now c.args.events.now c.start_net.new.events (c.in_ok-net.net, c.in_ok-net.rest) goes c.in_ok-net.ensures.told.0 c.in_ok-net.ensures.told.1)

pub start-returns-clause-fits : goal.start-returns-clause-fits
start-returns-clause-fits t c = tree-net c.args.program.now c.in_ok-net.net c.in_ok-net.ensures.fits

pub start_kid-returns-clause-fits : goal.start_kid-returns-clause-fits
start_kid-returns-clause-fits t c = kid-of-fits c.args.program.now c.args.entry.name c.in_ok-sim.sim c.in_ok-sim.ensures.fits

pub start_net-returns-in_err-boss-clause-told : goal.start_net-returns-in_err-boss-clause-told
start_net-returns-in_err-boss-clause-told t c =
    let e = err_from_is_err_and c.from_residual-in_err-boss.result c.from_residual-in_err-boss.ensures.1 in
    let s = system c.args.program.now in
    let starter = start s c.args.left in
    stops c.from_residual-in_err-boss.result c.in_err-boss.field-0.0 (e.1 ∙ ap Err e.2)
    (net_whole s c.args.left starter c.args.model c.args.args c.args.path.now c.args.time c.args.room c.args.events.now)
    (start_leaf_at s c.args.left c.args.model true c.args.args (to_boss c.args.path.now) c.args.time c.args.room)
    (with_boss s starter c.args.model c.args.args c.args.path.now c.args.time)
    c.args.events.now c.tell_net.new.events c.start_boss.new.events
    (net-told s c.args.left starter c.args.model c.args.args c.args.path.now c.args.time c.args.room c.args.events.now c.tell_net.new.events c.in_ok-tell_net.ensures.ok)
    c.in_err-boss.ensures.told

pub start_net-returns-clause-told : goal.start_net-returns-clause-told
start_net-returns-clause-told t c =
    let s = system c.args.program.now in
    let starter = start s c.args.left in
    tail (net_whole s c.args.left starter c.args.model c.args.args c.args.path.now c.args.time c.args.room c.args.events.now)
    (with_boss s starter c.args.model c.args.args c.args.path.now c.args.time (c.in_ok-boss.boss, c.in_ok-boss.rest))
    c.args.events.now c.start_boss.new.events c.with_boss.new.events c.with_boss.result
    (net-boss s c.args.left starter c.args.model c.args.args c.args.path.now c.args.time c.args.room c.args.events.now c.tell_net.new.events c.start_boss.new.events (c.in_ok-boss.boss, c.in_ok-boss.rest) c.in_ok-tell_net.ensures.ok c.in_ok-boss.ensures.told)
    c.with_boss.ensures.told

pub starts-returns-in_err-kid-clause-told : goal.starts-returns-in_err-kid-clause-told
starts-returns-in_err-kid-clause-told t c =
    let e = err_from_is_err_and c.from_residual.result c.from_residual.ensures.1 in
    let starter = start (system c.args.program.now) c.args.left in
    stops c.from_residual.result c.in_err-kid.field-0.0 (e.1 ∙ ap Err e.2)
    (starts starter c.args.entries c.args.path.now c.args.time c.args.room [])
    (started_kid starter c.in-Some.entry c.args.path.now c.args.time c.loop-entry.room)
    (starts_behind starter c.next.new.self.rest.items c.args.path.now c.args.time c.loop-entry.done)
    c.args.events.now c.loop-entry.events c.start_kid.new.events
    (goes-here c.args.program.now starter c.args.entries c.args.path.now c.args.time c.args.room c.args.events.now
    c.loop-entry.done c.loop-entry.room c.loop-entry.events c.loop-entry.entry-iterator.rest.items c.loop-entry.invariant
    c.in-Some.entry c.next.new.self.rest.items c.in-Some.ensures.steps.0)
    c.in_err-kid.ensures.told

pub starts-returns-in_err-push-clause-told : goal.starts-returns-in_err-push-clause-told
starts-returns-in_err-push-clause-told t c =
    let e = err_from_is_err_and c.from_residual-in_err-push.result c.from_residual-in_err-push.ensures.1 in
    let starter = start (system c.args.program.now) c.args.left in
    lacks c.from_residual-in_err-push.result (e.1 ∙ ap Err e.2)
    (starts starter c.args.entries c.args.path.now c.args.time c.args.room [])
    (starts_behind starter c.next.new.self.rest.items c.args.path.now c.args.time c.loop-entry.done (c.in_ok-kid.kid, c.in_ok-kid.rest))
    c.args.events.now c.start_kid.new.events
    (goes-on c.args.program.now starter c.args.entries c.args.path.now c.args.time c.args.room c.args.events.now
    c.loop-entry.done c.loop-entry.room c.loop-entry.events c.loop-entry.entry-iterator.rest.items c.loop-entry.invariant
    c.in-Some.entry c.next.new.self.rest.items c.in-Some.ensures.steps.0
    c.start_kid.new.events c.in_ok-kid.kid c.in_ok-kid.rest c.in_ok-kid.ensures.told.0 c.in_ok-kid.ensures.told.1)

pub starts-loop-entry-preserved : goal.starts-loop-entry-preserved
starts-loop-entry-preserved t c =
    let starter = start (system c.args.program.now) c.args.left in
    start-one c.args.program.now starter c.args.entries c.args.path.now c.args.time c.args.room c.args.events.now
    c.loop-entry.done c.loop-entry.room c.loop-entry.events c.loop-entry.entry-iterator.rest.items c.loop-entry.invariant
    c.in-Some.entry c.next.new.self.rest.items c.in-Some.ensures.steps.0
    c.start_kid.new.events c.in_ok-kid.kid c.in_ok-kid.rest c.in_ok-kid.ensures.told.0 c.in_ok-kid.ensures.told.1
    c.push.new.self c.in_ok-kid.ensures.room c.in_ok-kid.ensures.fits c.in_ok-kid.ensures.is c.in_ok-push.ensures.ok

pub with_boss-returns-clause-fits : goal.with_boss-returns-clause-fits
with_boss-returns-clause-fits t c =
    let own : List Entry = map entry_of c.in_ok-kids.kids in
    let started : own ≡ map started_as c.in_ok-entries.field-0.entries = cc c.in_ok-kids.ensures.are in
    let are : roles c.in_ok-entries.field-0.entries ≡ roles own = sym (started-roles c.in_ok-entries.field-0.entries) ∙ sym (ap roles started) in
    c.in_ok-net.ensures.fits c.args.program.now c.requires.args c.requires.boss c.requires.boss_is c.in_ok-kids.ensures.fits
    (links-by-roles c.args.program.now c.in_ok-entries.field-0.entries own are c.args.model c.in_ok-entries.field-0.links
    (plan-links c.args.program.now c.args.model c.in_ok-entries.field-0 c.requires.network c.in_ok-entries.ensures.fits))
