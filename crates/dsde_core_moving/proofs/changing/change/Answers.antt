use Rattle.std.proofs.Common.{◌≡◌, ℕ, ◌+◌, ◌++◌, Bool, List, [], length, map, not, true, false, Ok, Err, sym, ap, subst, ◌∙◌, arith}
use Rattle.std.specs.List.{AllByRecursion, list_any}
use Rattle.std.proofs.lemmas.List.{length-map}
use Rattle.std.proofs.lemmas.Result.{err_from_is_err_and}
use Rattle.dsde_values.specs.Path.{EXEC}
use Rattle.dsde_structure.specs.declared.plan.Entry.{Entry}
use Rattle.dsde_structure.specs.Gather.{is_same_name}
use Rattle.dsde_structure.specs.Survival.{fresh, survives as stays, IsInOrder}
use Rattle.dsde_sim_tree.specs.Told.{IsCut, Tells}
use Rattle.dsde_sim_starting.specs.given.system.Program.{system}
use Rattle.dsde_grove.specs.Grove.{value_of}
use Rattle.dsde_sim_tree.specs.declared.sim.Kid.{Kid}
use Rattle.dsde_sim_tree.specs.Tree.{parts_of_kids, started_as}
use Rattle.dsde_sim_tree.specs.Start.{start, starts}
use Rattle.dsde_sim_tree.specs.Move.{change, drop_of, kept, left_behind, survives}
use Rattle.dsde_routes_wiring.specs.declared.wiring.WiredKid.{WiredKid}
use Rattle.dsde_routes_wiring.specs.declared.wiring.WiredKid.TheViews.{out-Wiring}
use Rattle.dsde_repair_walks.specs.Found.{name_of}
use Rattle.dsde_core_moves.specs.given.core_flat.Shown.{kid_under}
use Rattle.dsde_core_moves.specs.given.core_flat.Stands.{NetStands}
use Rattle.dsde_core_moves.specs.given.core_flat.lemmas_Grafting.{kids-kept}
use Rattle.dsde_core_moves.specs.given.core_flat.lemmas_Groves.{changes-twice}
use Rattle.dsde_core_moves.specs.given.core_flat.lemmas_Inside.{graft-stands}
use Rattle.dsde_core_moves.specs.given.core_flat.lemmas_Meeting.{told-apart}
use Rattle.dsde_sim_changing.proofs.Keeping.{each-filter}
use Rattle.dsde_sim_starting.specs.given.system.Plans.{FitsEntry}
use Rattle.dsde_core_moves.specs.Chosen.{chosen, lost, shown}
use Rattle.dsde_core_moves.specs.Compared.{entries_of}
use Rattle.dsde_core_moving.proofs.Needed.{fresh-without, is_without}
use Rattle.dsde_core_moves.specs.given.core_flat.lemmas_Fitting.{kids-own-names}
use Rattle.dsde_core_moving.proofs.Room.{all-held, graft-changes, net-live, net-path, room-there, value-kept}
use Rattle.dsde_core_moving.proofs.Staying.{chosen-kept, chosen-stay, fewer-parts, gone-order, lost-gone, order-filter, tests-length, wired-order}
use Rattle.dsde_core_moving.proofs.Whole.{lacks-here, lacks-there, stops-there, told-all, told-work}
use Rattle.dsde_core_moving.proofs.changing.change.Goals as goal

pub survivors-requires-clause-held : goal.survivors-requires-clause-held
survivors-requires-clause-held g c = all-held c.args.grove.now c.args.path.now (out-Wiring c.args.wiring.now).kids c.requires.stands.components

pub survivors-requires-clause-order : goal.survivors-requires-clause-order
survivors-requires-clause-order g c = c.requires.named.order

pub names_lost-requires : goal.names_lost-requires
names_lost-requires g c = ap length c.in_ok-tests.ensures.tests ∙ tests-length c.args.grove.now c.args.entries (out-Wiring c.args.wiring.now).kids

pub fresh_entries-requires-clause-held : goal.fresh_entries-requires-clause-held
fresh_entries-requires-clause-held g c = all-held c.args.grove.now c.args.path.now (out-Wiring c.args.wiring.now).kids c.requires.stands.components

pub fresh_entries-requires-clause-order : goal.fresh_entries-requires-clause-order
fresh_entries-requires-clause-order g c = c.requires.named.order

pub drop_others-requires-clause-tests : goal.drop_others-requires-clause-tests
drop_others-requires-clause-tests g c =
    ap length (c.as_slice.ensures ∙ c.in_ok-tests.ensures.tests) ∙ tests-length c.args.grove.now c.args.entries (out-Wiring c.args.wiring.now).kids

pub drop_others-requires-clause-named : goal.drop_others-requires-clause-named
drop_others-requires-clause-named g c = told-apart (entries_of c.args.grove.now (out-Wiring c.args.wiring.now).kids) c.requires.named.order c.requires.named.ordinary

pub drop_others-requires-clause-inside : goal.drop_others-requires-clause-inside
drop_others-requires-clause-inside g c = kids-own-names c.args.program.now (shown c.args.grove.now (out-Wiring c.args.wiring.now).kids) c.requires.fits

pub drop_others-requires-clause-few : goal.drop_others-requires-clause-few
drop_others-requires-clause-few g c =
    let own = c.args.grove.now in
    let kids = (out-Wiring c.args.wiring.now).kids in
    let is = lost-gone own c.args.entries kids c.as_slice.result.now c.in_ok-gone.gone (c.as_slice.ensures ∙ c.in_ok-tests.ensures.tests) (c.in_ok-gone.ensures ∙ ap (λ (ts : List Bool). map name_of (lost ts kids)) (sym c.as_slice.ensures)) (wired-order own c.args.entries kids c.requires.named.order) in
    omega (arith, ap parts_of_kids is, fewer-parts (λ (kid : Kid). not (survives c.args.entries kid)) (shown own kids), c.requires.births)

pub start_fresh-requires-clause-entries : goal.start_fresh-requires-clause-entries
start_fresh-requires-clause-entries g c =
    let olds = entries_of c.args.grove.now (out-Wiring c.args.wiring.now).kids in
    subst (AllByRecursion (FitsEntry c.args.program.now)) (sym c.in_ok-needed.ensures.fresh) (each-filter (FitsEntry c.args.program.now) (λ (new : Entry). not (list_any (λ (old : Entry). stays old new) olds)) c.args.entries c.requires.entries)

pub start_fresh-requires-clause-order : goal.start_fresh-requires-clause-order
start_fresh-requires-clause-order g c =
    let olds = entries_of c.args.grove.now (out-Wiring c.args.wiring.now).kids in
    subst IsInOrder (sym c.in_ok-needed.ensures.fresh) (order-filter (λ (entry : Entry). entry.name) (λ (new : Entry). not (list_any (λ (old : Entry). stays old new) olds)) c.args.entries c.requires.order)

pub start_fresh-requires-clause-ordinary : goal.start_fresh-requires-clause-ordinary
start_fresh-requires-clause-ordinary g c =
    let olds = entries_of c.args.grove.now (out-Wiring c.args.wiring.now).kids in
    let P : Entry → Type 0 = λ entry. is_same_name EXEC entry.name ≡ false in
    subst (AllByRecursion P) (sym c.in_ok-needed.ensures.fresh) (each-filter P (λ (new : Entry). not (list_any (λ (old : Entry). stays old new) olds)) c.args.entries c.requires.ordinary)

pub start_fresh-requires-clause-live : goal.start_fresh-requires-clause-live
start_fresh-requires-clause-live g c =
    let w = out-Wiring c.args.wiring.now in
    net-live c.drop_others.new.grove w.me w.boss c.args.path.now (chosen c.as_slice.result.now w.kids) c.in_ok-more.ensures.stands

pub start_fresh-requires-clause-here : goal.start_fresh-requires-clause-here
start_fresh-requires-clause-here g c =
    let w = out-Wiring c.args.wiring.now in
    net-path c.drop_others.new.grove w.me w.boss c.args.path.now (chosen c.as_slice.result.now w.kids) c.in_ok-more.ensures.stands

pub start_fresh-requires-clause-free : goal.start_fresh-requires-clause-free
start_fresh-requires-clause-free g c =
    let w = out-Wiring c.args.wiring.now in
    let own = c.args.grove.now in
    let tests = c.as_slice.result.now in
    let P : Entry → Type 0 = λ entry. is_same_name EXEC entry.name ≡ false in
    let kept_are = c.in_ok-more.ensures.shows ∙ chosen-kept own c.args.entries w.kids tests c.in_ok-gone.gone (c.as_slice.ensures ∙ c.in_ok-tests.ensures.tests) (c.in_ok-gone.ensures ∙ ap (λ (ts : List Bool). map name_of (lost ts w.kids)) (sym c.as_slice.ensures)) (wired-order own c.args.entries w.kids c.requires.named.order) in
    let ordinary = subst (AllByRecursion P) (sym c.in_ok-needed.ensures.fresh) (each-filter P (λ (new : Entry). not (list_any (λ (old : Entry). stays old new) (entries_of own w.kids))) c.args.entries c.requires.ordinary) in
    let without = fresh-without c.args.entries (shown own w.kids) c.requires.order in
    room-there c.drop_others.new.grove w.me w.boss c.args.path.now (chosen tests w.kids) c.in_ok-more.ensures.stands c.in_ok-needed.needed ordinary
    (subst (λ (kids : List Kid). AllByRecursion (λ (entry : Entry). is_without kids entry ≡ true) c.in_ok-needed.needed) (sym kept_are)
    (subst (AllByRecursion (λ (entry : Entry). is_without (kept c.args.entries (shown own w.kids)) entry ≡ true)) (sym c.in_ok-needed.ensures.fresh) without))

pub start_fresh-requires-clause-births : goal.start_fresh-requires-clause-births
start_fresh-requires-clause-births g c =
    let own = c.args.grove.now in
    let kids = (out-Wiring c.args.wiring.now).kids in
    let is = lost-gone own c.args.entries kids c.as_slice.result.now c.in_ok-gone.gone (c.as_slice.ensures ∙ c.in_ok-tests.ensures.tests) (c.in_ok-gone.ensures ∙ ap (λ (ts : List Bool). map name_of (lost ts kids)) (sym c.as_slice.ensures)) (wired-order own c.args.entries kids c.requires.named.order) in
    omega (arith, ap parts_of_kids is, fewer-parts (λ (kid : Kid). not (survives c.args.entries kid)) (shown own kids), c.requires.births, c.in_ok-more.ensures.born, c.in_ok-more.ensures.room)

pub returns-in_err-tests-clause-told : goal.returns-in_err-tests-clause-told
returns-in_err-tests-clause-told g c =
    let e = err_from_is_err_and c.from_residual.result c.from_residual.ensures.1 in
    lacks-here (system c.args.program.now) c.args.entries (shown c.args.grove.now (out-Wiring c.args.wiring.now).kids) c.args.path.now c.args.time c.args.room c.args.events.now
    (c.changes_start_the_fresh.ensures (system c.args.program.now) c.args.entries (shown c.args.grove.now (out-Wiring c.args.wiring.now).kids) c.args.path.now c.args.time c.args.room c.requires.order)
    c.args.grove.now c.from_residual.result (e.1 ∙ ap Err e.2)

pub returns-in_err-gone-clause-told : goal.returns-in_err-gone-clause-told
returns-in_err-gone-clause-told g c =
    let e = err_from_is_err_and c.from_residual-in_err-gone.result c.from_residual-in_err-gone.ensures.1 in
    lacks-here (system c.args.program.now) c.args.entries (shown c.args.grove.now (out-Wiring c.args.wiring.now).kids) c.args.path.now c.args.time c.args.room c.args.events.now
    (c.changes_start_the_fresh.ensures (system c.args.program.now) c.args.entries (shown c.args.grove.now (out-Wiring c.args.wiring.now).kids) c.args.path.now c.args.time c.args.room c.requires.order)
    c.args.grove.now c.from_residual-in_err-gone.result (e.1 ∙ ap Err e.2)

pub returns-in_err-needed-clause-told : goal.returns-in_err-needed-clause-told
returns-in_err-needed-clause-told g c =
    let e = err_from_is_err_and c.from_residual-in_err-needed.result c.from_residual-in_err-needed.ensures.1 in
    lacks-here (system c.args.program.now) c.args.entries (shown c.args.grove.now (out-Wiring c.args.wiring.now).kids) c.args.path.now c.args.time c.args.room c.args.events.now
    (c.changes_start_the_fresh.ensures (system c.args.program.now) c.args.entries (shown c.args.grove.now (out-Wiring c.args.wiring.now).kids) c.args.path.now c.args.time c.args.room c.requires.order)
    c.args.grove.now c.from_residual-in_err-needed.result (e.1 ∙ ap Err e.2)

pub returns-in_err-more-clause-told : goal.returns-in_err-more-clause-told
returns-in_err-more-clause-told g c =
    let e = err_from_is_err_and c.from_residual-in_err-more.result c.from_residual-in_err-more.ensures.1 in
    let own = c.args.grove.now in
    let kids = (out-Wiring c.args.wiring.now).kids in
    let is = lost-gone own c.args.entries kids c.as_slice.result.now c.in_ok-gone.gone (c.as_slice.ensures ∙ c.in_ok-tests.ensures.tests) (c.in_ok-gone.ensures ∙ ap (λ (ts : List Bool). map name_of (lost ts kids)) (sym c.as_slice.ensures)) (wired-order own c.args.entries kids c.requires.named.order) in
    lacks-there (system c.args.program.now) c.args.entries (shown own kids) c.args.path.now c.args.time c.args.room c.args.events.now
    (c.changes_start_the_fresh.ensures (system c.args.program.now) c.args.entries (shown own kids) c.args.path.now c.args.time c.args.room c.requires.order)
    c.drop_others.new.grove c.drop_others.new.events c.from_residual-in_err-more.result (e.1 ∙ ap Err e.2)
    (subst (λ (ks : List Kid). IsCut c.args.events.now (map (drop_of c.args.path.now) ks) c.drop_others.new.events) is c.in_err-more.ensures.cut)

pub returns-in_err-fresh-clause-told : goal.returns-in_err-fresh-clause-told
returns-in_err-fresh-clause-told g c =
    let e = err_from_is_err_and c.from_residual-in_err-fresh.result c.from_residual-in_err-fresh.ensures.1 in
    let S = system c.args.program.now in
    let own = c.args.grove.now in
    let kids = (out-Wiring c.args.wiring.now).kids in
    let is = lost-gone own c.args.entries kids c.as_slice.result.now c.in_ok-gone.gone (c.as_slice.ensures ∙ c.in_ok-tests.ensures.tests) (c.in_ok-gone.ensures ∙ ap (λ (ts : List Bool). map name_of (lost ts kids)) (sym c.as_slice.ensures)) (wired-order own c.args.entries kids c.requires.named.order) in
    let starter = start S (left_behind c.args.path.now) in
    stops-there S c.args.entries (shown own kids) c.args.path.now c.args.time c.args.room c.args.events.now
    (c.changes_start_the_fresh.ensures S c.args.entries (shown own kids) c.args.path.now c.args.time c.args.room c.requires.order)
    c.drop_others.new.events (c.in_ok-more.ensures.told ∙ ap (λ (ks : List Kid). c.args.events.now ++ map (drop_of c.args.path.now) ks) is)
    c.start_fresh.new.grove c.start_fresh.new.events c.from_residual-in_err-fresh.result c.in_err-fresh.field-0.0 (e.1 ∙ ap Err e.2)
    (subst (λ (room : ℕ). Tells (starts starter (fresh (entries_of own kids) c.args.entries) c.args.path.now c.args.time room []) c.drop_others.new.events c.start_fresh.new.events (Err c.in_err-fresh.field-0.0))
    (c.in_ok-more.ensures.room ∙ ap (λ (ks : List Kid). c.args.room + parts_of_kids ks) is)
    (subst (λ (es : List Entry). Tells (starts starter es c.args.path.now c.args.time c.in_ok-more.more []) c.drop_others.new.events c.start_fresh.new.events (Err c.in_err-fresh.field-0.0)) c.in_ok-needed.ensures.fresh c.in_err-fresh.ensures.told))

pub returns-clause-told : goal.returns-clause-told
returns-clause-told g c =
    let S = system c.args.program.now in
    let own = c.args.grove.now in
    let kids = (out-Wiring c.args.wiring.now).kids in
    let is = lost-gone own c.args.entries kids c.as_slice.result.now c.in_ok-gone.gone (c.as_slice.ensures ∙ c.in_ok-tests.ensures.tests) (c.in_ok-gone.ensures ∙ ap (λ (ts : List Bool). map name_of (lost ts kids)) (sym c.as_slice.ensures)) (wired-order own c.args.entries kids c.requires.named.order) in
    let starter = start S (left_behind c.args.path.now) in
    told-all S c.args.entries (shown own kids) c.args.path.now c.args.time c.args.room c.args.events.now
    (c.changes_start_the_fresh.ensures S c.args.entries (shown own kids) c.args.path.now c.args.time c.args.room c.requires.order)
    c.drop_others.new.events (c.in_ok-more.ensures.told ∙ ap (λ (ks : List Kid). c.args.events.now ++ map (drop_of c.args.path.now) ks) is)
    c.start_fresh.new.events c.start_fresh.new.grove (record { gone = c.in_ok-gone.gone; fresh = c.in_ok-fresh.fresh; room = c.in_ok-fresh.rest })
    (subst (λ (room : ℕ). Tells (starts starter (fresh (entries_of own kids) c.args.entries) c.args.path.now c.args.time room []) c.drop_others.new.events c.start_fresh.new.events (Ok (shown c.start_fresh.new.grove c.in_ok-fresh.fresh, c.in_ok-fresh.rest)))
    (c.in_ok-more.ensures.room ∙ ap (λ (ks : List Kid). c.args.room + parts_of_kids ks) is)
    (subst (λ (es : List Entry). Tells (starts starter es c.args.path.now c.args.time c.in_ok-more.more []) c.drop_others.new.events c.start_fresh.new.events (Ok (shown c.start_fresh.new.grove c.in_ok-fresh.fresh, c.in_ok-fresh.rest))) c.in_ok-needed.ensures.fresh c.in_ok-fresh.ensures.told))

pub returns-clause-stands : goal.returns-clause-stands
returns-clause-stands g c =
    let w = out-Wiring c.args.wiring.now in
    let own = c.args.grove.now in
    let new = c.start_fresh.new.grove in
    let stay = chosen-stay own c.args.entries w.kids c.as_slice.result.now c.in_ok-gone.gone (c.as_slice.ensures ∙ c.in_ok-tests.ensures.tests) (c.in_ok-gone.ensures ∙ ap (λ (ts : List Bool). map name_of (lost ts w.kids)) (sym c.as_slice.ensures)) (wired-order own c.args.entries w.kids c.requires.named.order) in
    subst (λ (ks : List WiredKid). NetStands new w.me w.boss c.args.path.now (ks ++ c.in_ok-fresh.fresh)) stay
    (graft-stands c.drop_others.new.grove new w.me w.boss c.args.path.now (chosen c.as_slice.result.now w.kids) (shown new c.in_ok-fresh.fresh) c.in_ok-fresh.fresh c.in_ok-more.ensures.stands c.in_ok-fresh.ensures.grafted)

pub returns-clause-stay : goal.returns-clause-stay
returns-clause-stay g c =
    let w = out-Wiring c.args.wiring.now in
    let own = c.args.grove.now in
    let new = c.start_fresh.new.grove in
    let tests = c.as_slice.result.now in
    let are = c.as_slice.ensures ∙ c.in_ok-tests.ensures.tests in
    let named = c.in_ok-gone.ensures ∙ ap (λ (ts : List Bool). map name_of (lost ts w.kids)) (sym c.as_slice.ensures) in
    let order = wired-order own c.args.entries w.kids c.requires.named.order in
    ap (shown new) (sym (chosen-stay own c.args.entries w.kids tests c.in_ok-gone.gone are named order))
    ∙ kids-kept c.drop_others.new.grove new c.in_ok-fresh.ensures.grafted.kept c.args.path.now (chosen tests w.kids) c.in_ok-more.ensures.stands.components
    ∙ c.in_ok-more.ensures.shows
    ∙ chosen-kept own c.args.entries w.kids tests c.in_ok-gone.gone are named order

pub returns-clause-gone : goal.returns-clause-gone
returns-clause-gone g c =
    let w = out-Wiring c.args.wiring.now in
    let own = c.args.grove.now in
    gone-order own c.args.entries w.kids c.as_slice.result.now c.in_ok-gone.gone (c.as_slice.ensures ∙ c.in_ok-tests.ensures.tests) (c.in_ok-gone.ensures ∙ ap (λ (ts : List Bool). map name_of (lost ts w.kids)) (sym c.as_slice.ensures)) (wired-order own c.args.entries w.kids c.requires.named.order)

pub returns-clause-are : goal.returns-clause-are
returns-clause-are g c = c.in_ok-fresh.ensures.are ∙ ap (map started_as) c.in_ok-needed.ensures.fresh

pub returns-clause-changes : goal.returns-clause-changes
returns-clause-changes g c =
    changes-twice c.args.path.now.names c.args.grove.now c.drop_others.new.grove c.start_fresh.new.grove c.in_ok-more.ensures.changes
    (graft-changes c.drop_others.new.grove c.start_fresh.new.grove c.args.path.now (shown c.start_fresh.new.grove c.in_ok-fresh.fresh) c.in_ok-fresh.fresh c.in_ok-fresh.ensures.grafted)

pub returns-clause-itself : goal.returns-clause-itself
returns-clause-itself g c =
    let stands = c.in_ok-more.ensures.stands in
    value-kept c.drop_others.new.grove c.start_fresh.new.grove c.args.path.now (shown c.start_fresh.new.grove c.in_ok-fresh.fresh) c.in_ok-fresh.fresh (out-Wiring c.args.wiring.now).me stands.itself.part c.in_ok-fresh.ensures.grafted stands.itself.live
    ∙ c.in_ok-more.ensures.itself

pub returns-clause-executive : goal.returns-clause-executive
returns-clause-executive g c =
    let stands = c.in_ok-more.ensures.stands in
    value-kept c.drop_others.new.grove c.start_fresh.new.grove c.args.path.now (shown c.start_fresh.new.grove c.in_ok-fresh.fresh) c.in_ok-fresh.fresh (out-Wiring c.args.wiring.now).boss stands.executive.part c.in_ok-fresh.ensures.grafted stands.executive.live
    ∙ c.in_ok-more.ensures.executive

pub returns-clause-born : goal.returns-clause-born
returns-clause-born g c =
    let own = c.args.grove.now in
    let kids = (out-Wiring c.args.wiring.now).kids in
    let is = lost-gone own c.args.entries kids c.as_slice.result.now c.in_ok-gone.gone (c.as_slice.ensures ∙ c.in_ok-tests.ensures.tests) (c.in_ok-gone.ensures ∙ ap (λ (ts : List Bool). map name_of (lost ts kids)) (sym c.as_slice.ensures)) (wired-order own c.args.entries kids c.requires.named.order) in
    omega (arith, ap parts_of_kids is, c.in_ok-more.ensures.born, c.in_ok-more.ensures.room, c.in_ok-fresh.ensures.grafted.next, c.in_ok-fresh.ensures.room)

pub returns-clause-room : goal.returns-clause-room
returns-clause-room g c =
    let own = c.args.grove.now in
    let kids = (out-Wiring c.args.wiring.now).kids in
    let is = lost-gone own c.args.entries kids c.as_slice.result.now c.in_ok-gone.gone (c.as_slice.ensures ∙ c.in_ok-tests.ensures.tests) (c.in_ok-gone.ensures ∙ ap (λ (ts : List Bool). map name_of (lost ts kids)) (sym c.as_slice.ensures)) (wired-order own c.args.entries kids c.requires.named.order) in
    omega (arith, ap parts_of_kids is, c.in_ok-more.ensures.room, c.in_ok-fresh.ensures.room)

pub returns-clause-waits : goal.returns-clause-waits
returns-clause-waits g c waiting but = c.in_ok-fresh.ensures.waits waiting (c.in_ok-more.ensures.waits waiting c.args.queue.now.pairs but)

pub returns-clause-ticks : goal.returns-clause-ticks
returns-clause-ticks g c =
    let own = c.args.grove.now in
    let kids = (out-Wiring c.args.wiring.now).kids in
    let is = lost-gone own c.args.entries kids c.as_slice.result.now c.in_ok-gone.gone (c.as_slice.ensures ∙ c.in_ok-tests.ensures.tests) (c.in_ok-gone.ensures ∙ ap (λ (ts : List Bool). map name_of (lost ts kids)) (sym c.as_slice.ensures)) (wired-order own c.args.entries kids c.requires.named.order) in
    omega (arith, ap parts_of_kids is, c.in_ok-tests.ensures.ticks, c.in_ok-needed.ensures.ticks, c.in_ok-more.ensures.ticks, c.in_ok-fresh.ensures.ticks)

pub returns-clause-young : goal.returns-clause-young
returns-clause-young g c birth has =
    let late = c.in_ok-fresh.ensures.grafted.young birth has in
    omega (arith, late, c.in_ok-more.ensures.born)

pub returns-clause-work : goal.returns-clause-work
returns-clause-work g c =
    let S = system c.args.program.now in
    let kids = shown c.args.grove.now (out-Wiring c.args.wiring.now).kids in
    let told = returns-clause-told g c in
    let all = told-work (change S c.args.entries kids c.args.path.now c.args.time c.args.room) c.args.events.now c.start_fresh.new.events _ told in
    let own = c.steps_tell_their_work.ensures.changes S c.args.entries kids _ c.args.path.now c.args.time c.args.room c.in_ok-fresh.rest told.1 in
    let few = c.steps_tell_their_work.ensures.few c.args.entries kids c.requires.named.order in
    let many : length kids ≡ length (out-Wiring c.args.wiring.now).kids = length-map (out-Wiring c.args.wiring.now).kids (kid_under (value_of c.args.grove.now)) in
    omega (arith, all, own, few, many, returns-clause-ticks g c, returns-clause-room g c, c.in_ok-fresh.ensures.longer)
