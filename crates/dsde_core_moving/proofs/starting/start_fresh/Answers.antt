use Rattle.std.proofs.Common.{ℕ, ◌+◌, ◌*◌, ◌≤◌, List, [], length, map, Result, Ok, Err, refl, sym, ap, subst, ◌∙◌}
use Rattle.std.specs.List.{AllByRecursion}
use Rattle.std.proofs.lemmas.Result.{err_from_is_err_and}
use Rattle.dsde_values.specs.declared.path.Path.{Path}
use Rattle.dsde_sim_tree.specs.declared.fault.TurnEnd.{TurnEnd}
use Rattle.dsde_sim_tree.specs.Told.{Tells}
use Rattle.dsde_sim_starting.specs.given.system.Program.{system}
use Rattle.dsde_sim_tree.specs.declared.sim.Kid.{Kid}
use Rattle.dsde_sim_tree.specs.Tree.{entry_of, parts_of_kids}
use Rattle.dsde_sim_tree.specs.Start.{start, starts}
use Rattle.dsde_sim_tree.specs.Move.{left_behind}
use Rattle.dsde_sim_starting.specs.Fitting.{FitsKid}
use Rattle.dsde_routes_wiring.specs.declared.wiring.WiredKid.{WiredKid}
use Rattle.dsde_core_moves.specs.given.core_flat.Grafts.{AreGrafted, IsRoomFor}
use Rattle.dsde_core_moving.specs.Changed.{as_shown}
use Rattle.dsde_core_moving.proofs.Names.{room-for, started-apart}
use Rattle.dsde_core_moves.specs.given.core_flat.lemmas_Fitting.{kids-own-names}
use Rattle.dsde_core_moving.proofs.Whole.{lacks-behind}
use Rattle.dsde_core_moving.proofs.starting.start_fresh.Goals as goal

pub graft_kids-requires-clause-free : goal.graft_kids-requires-clause-free
graft_kids-requires-clause-free g c =
    subst (λ (path : Path). AllByRecursion (IsRoomFor c.args.grove.now path) c.in_ok-kids.kids) (sym c.requires.here) (room-for c.args.grove.now c.args.path.now c.args.entries c.in_ok-kids.kids c.in_ok-kids.ensures.are c.requires.free)

pub graft_kids-requires-clause-named : goal.graft_kids-requires-clause-named
graft_kids-requires-clause-named g c = started-apart c.args.entries c.in_ok-kids.kids c.requires.order c.requires.ordinary c.in_ok-kids.ensures.are

pub graft_kids-requires-clause-names : goal.graft_kids-requires-clause-names
graft_kids-requires-clause-names g c = kids-own-names c.args.program.now c.in_ok-kids.kids c.in_ok-kids.ensures.fits

pub returns-in_err-kids-clause-told : goal.returns-in_err-kids-clause-told
returns-in_err-kids-clause-told g c =
    let e = err_from_is_err_and c.from_residual.result c.from_residual.ensures.1 in
    let S = system c.args.program.now in
    subst (λ (r : Result (List WiredKid × ℕ) TurnEnd). Tells (starts (start S (left_behind c.args.path.now)) c.args.entries c.args.path.now c.args.time c.args.room []) c.args.events.now c.started.new.events (as_shown c.args.grove.now r)) (sym (e.1 ∙ ap Err e.2))
    (subst (λ (left : ℕ). Tells (starts (start S left) c.args.entries c.args.path.now c.args.time c.args.room []) c.args.events.now c.started.new.events (Err c.in_err-kids.field-0.0)) c.left_behind-left.ensures c.in_err-kids.ensures.told)

pub returns-in_err-fresh-clause-told : goal.returns-in_err-fresh-clause-told
returns-in_err-fresh-clause-told g c =
    let e = err_from_is_err_and c.from_residual-in_err-fresh.result c.from_residual-in_err-fresh.ensures.1 in
    let S = system c.args.program.now in
    lacks-behind (starts (start S (left_behind c.args.path.now)) c.args.entries c.args.path.now c.args.time c.args.room []) c.args.events.now c.started.new.events (c.in_ok-kids.kids, c.in_ok-kids.rest) c.from_residual-in_err-fresh.result
    (as_shown c.graft_kids.new.grove) (λ end. refl) (e.1 ∙ ap Err e.2)
    (subst (λ (left : ℕ). Tells (starts (start S left) c.args.entries c.args.path.now c.args.time c.args.room []) c.args.events.now c.started.new.events (Ok (c.in_ok-kids.kids, c.in_ok-kids.rest))) c.left_behind-left.ensures c.in_ok-kids.ensures.told)

pub returns-clause-told : goal.returns-clause-told
returns-clause-told g c =
    let S = system c.args.program.now in
    subst (λ (kids : List Kid). Tells (starts (start S (left_behind c.args.path.now)) c.args.entries c.args.path.now c.args.time c.args.room []) c.args.events.now c.started.new.events (Ok (kids, c.in_ok-kids.rest))) (sym c.in_ok-fresh.ensures.grafted.shows)
    (subst (λ (left : ℕ). Tells (starts (start S left) c.args.entries c.args.path.now c.args.time c.args.room []) c.args.events.now c.started.new.events (Ok (c.in_ok-kids.kids, c.in_ok-kids.rest))) c.left_behind-left.ensures c.in_ok-kids.ensures.told)

pub returns-clause-grafted : goal.returns-clause-grafted
returns-clause-grafted g c =
    subst (λ (kids : List Kid). AreGrafted c.args.grove.now c.graft_kids.new.grove c.args.path.now kids c.in_ok-fresh.fresh) (sym c.in_ok-fresh.ensures.grafted.shows)
    (subst (λ (path : Path). AreGrafted c.args.grove.now c.graft_kids.new.grove path c.in_ok-kids.kids c.in_ok-fresh.fresh) c.requires.here c.in_ok-fresh.ensures.grafted)

pub returns-clause-room : goal.returns-clause-room
returns-clause-room g c = ap (λ (kids : List Kid). parts_of_kids kids + c.in_ok-kids.rest) c.in_ok-fresh.ensures.grafted.shows ∙ c.in_ok-kids.ensures.room

pub returns-clause-fits : goal.returns-clause-fits
returns-clause-fits g c = subst (AllByRecursion (FitsKid c.args.program.now)) (sym c.in_ok-fresh.ensures.grafted.shows) c.in_ok-kids.ensures.fits

pub returns-clause-are : goal.returns-clause-are
returns-clause-are g c = ap (map entry_of) c.in_ok-fresh.ensures.grafted.shows ∙ c.in_ok-kids.ensures.are

pub returns-clause-ticks : goal.returns-clause-ticks
returns-clause-ticks g c =
    subst (λ (kids : List Kid). c.graft_kids.new.looks ≤ c.args.looks.now + 4 * parts_of_kids kids) (sym c.in_ok-fresh.ensures.grafted.shows) c.in_ok-fresh.ensures.ticks

pub returns-clause-longer : goal.returns-clause-longer
returns-clause-longer g c =
    subst (λ (kids : List Kid). length c.graft_kids.new.queue.pairs ≤ length c.args.queue.now.pairs + parts_of_kids kids) (sym c.in_ok-fresh.ensures.grafted.shows) c.in_ok-fresh.ensures.longer
