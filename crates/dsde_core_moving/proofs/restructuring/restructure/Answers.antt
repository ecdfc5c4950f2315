use Rattle.std.proofs.Common.{rules, ◌≡◌, ◌+◌, List, [], Some, None, Err, refl, sym, ap, subst, ◌∙◌, arith}
use Rattle.std.specs.List.{AllByRecursion}
use Rattle.std.proofs.lemmas.Result.{err_from_is_err_and}
use Rattle.dsde_structure.specs.Survival.{AreInOrder}
use Rattle.dsde_sim_tree.specs.Told.{Tells}
use Rattle.dsde_sim_starting.specs.given.system.Program.{system}
use Rattle.dsde_sim_tree.specs.declared.sim.Kid.{Kid}
use Rattle.dsde_sim_tree.specs.Move.{gone}
use Rattle.dsde_sim_tree.specs.Tree.{parts_of_kids}
use Rattle.dsde_sim_starting.specs.given.sim_telling.lemmas_GoingOn.{goes-begin, goes-memory}
use Rattle.dsde_routes_wiring.specs.declared.wiring.WiredKid.TheViews.{out-Wiring}
use Rattle.dsde_routes_wiring.specs.Wired.{LeadsInside}
use Rattle.dsde_routes_wiring.specs.Places.{nets_at, staying}
use Rattle.dsde_core_moves.specs.Chosen.{shown}
use Rattle.dsde_core_moves.specs.Compared.{entries_of}
use Rattle.dsde_core_moving.proofs.Whole.{lacks-behind}
use Rattle.dsde_core_moves.specs.Flat.{tree_of}
use Rattle.dsde_core_moves.specs.given.core_flat.lemmas_Fitting.{kids-own-names}
use Rattle.dsde_core_moving.proofs.Fitting.{links-inside}
use Rattle.dsde_core_moving.specs.Restructured.{restructured, with_room}
use Rattle.dsde_core_moving.proofs.Ending.{names-apart, stands-done, told-changed, told-done, told-end, touched-by, with-end}
use Rattle.dsde_core_moving.proofs.Working.{fits-whole, fresh-apart, fresh-live, fresh-themselves, match-none, net-there, own-births, own-fits, own-length, own-named, own-names, own-shown, own-stands, rows-whole, stands-whole, wired-there}
use Rattle.dsde_core_moving.proofs.restructuring.restructure.Goals as goal

pub net_at-requires : goal.net_at-requires
net_at-requires g c =
    let was : c.args.flat.now.wiring ≡ Some c.in-Some.whole = search rules in
    c.fitting_trees_are_wired.ensures.wiring c.args.program.now c.args.flat.now.grove c.args.flat.now.root c.in-Some.whole (fits-whole c.args.program.now c.args.flat.now c.in-Some.whole c.requires.stands was)

pub unreachable-requires : goal.unreachable-requires
unreachable-requires g c =
    let a = c.args in
    let none : a.flat.now.wiring ≡ None = search rules in
    wired-there a.program.now a.flat.now a.place.now a.path.now c.requires.there.0 c.requires.stands c.requires.there.1 c.requires.path none

pub unreachable-requires-in_default-net_at : goal.unreachable-requires-in_default-net_at
unreachable-requires-in_default-net_at g c =
    let was : c.args.flat.now.wiring ≡ Some c.in-Some.whole = search rules in
    net-there c.args.program.now c.args.flat.now c.args.place.now c.args.path.now c.requires.there.0 c.requires.stands c.requires.there.1 c.requires.path c.in-Some.whole was c.wirings_change_alike.ensures.there
    (match-none c.net_at.result (nets_at c.args.place.now c.in-Some.whole ≡ []) _ c.net_at.ensures c.in_default-net_at.is)

pub change-requires-clause-entries : goal.change-requires-clause-entries
change-requires-clause-entries g c = (c.requires.plan c.requires.there.0 c.requires.there.1).fits.entries

pub change-requires-clause-order : goal.change-requires-clause-order
change-requires-clause-order g c = (c.requires.plan c.requires.there.0 c.requires.there.1).fits.order

pub change-requires-clause-ordinary : goal.change-requires-clause-ordinary
change-requires-clause-ordinary g c = (c.requires.plan c.requires.there.0 c.requires.there.1).fits.ordinary

pub change-requires-clause-tree : goal.change-requires-clause-tree
change-requires-clause-tree g c = c.requires.stands.tree

pub change-requires-clause-stands : goal.change-requires-clause-stands
change-requires-clause-stands g c =
    let was : c.args.flat.now.wiring ≡ Some c.in-Some.whole = search rules in
    own-stands c.args.program.now c.args.flat.now c.args.place.now c.args.path.now c.requires.there.0 c.requires.stands c.requires.there.1 c.requires.path c.in-Some.whole was c.wirings_change_alike.ensures.there c.in-Some-net_at.net.now c.in-Some-net_at.ensures

pub change-requires-clause-named : goal.change-requires-clause-named
change-requires-clause-named g c =
    let was : c.args.flat.now.wiring ≡ Some c.in-Some.whole = search rules in
    own-named c.args.program.now c.args.flat.now c.args.place.now c.args.path.now c.requires.there.0 c.requires.stands c.requires.there.1 c.requires.path c.in-Some.whole was c.wirings_change_alike.ensures.there c.in-Some-net_at.net.now c.in-Some-net_at.ensures

pub change-requires-clause-fits : goal.change-requires-clause-fits
change-requires-clause-fits g c =
    let was : c.args.flat.now.wiring ≡ Some c.in-Some.whole = search rules in
    own-fits c.args.program.now c.args.flat.now c.args.place.now c.args.path.now c.requires.there.0 c.requires.stands c.requires.there.1 c.requires.path c.in-Some.whole was c.wirings_change_alike.ensures.there c.in-Some-net_at.net.now c.in-Some-net_at.ensures

pub change-requires-clause-births : goal.change-requires-clause-births
change-requires-clause-births g c =
    let was : c.args.flat.now.wiring ≡ Some c.in-Some.whole = search rules in
    own-births c.args.program.now c.args.flat.now c.args.place.now c.args.path.now c.requires.there.0 c.requires.stands c.requires.there.1 c.requires.path c.in-Some.whole was c.wirings_change_alike.ensures.there c.in-Some-net_at.net.now c.in-Some-net_at.ensures
    c.args.room c.requires.births

pub repair-requires-clause-table : goal.repair-requires-clause-table
repair-requires-clause-table g c =
    let was : c.args.flat.now.wiring ≡ Some c.in-Some.whole = search rules in
    rows-whole c.args.program.now c.args.flat.now c.in-Some.whole c.requires.stands was

pub repair-requires-clause-there : goal.repair-requires-clause-there
repair-requires-clause-there g c = (c.in-Some-net_at.net.now, c.in-Some-net_at.ensures)

pub repair-requires-clause-wired : goal.repair-requires-clause-wired
repair-requires-clause-wired g c =
    let was : c.args.flat.now.wiring ≡ Some c.in-Some.whole = search rules in
    c.fitting_trees_are_wired.ensures.wiring c.args.program.now c.args.flat.now.grove c.args.flat.now.root c.in-Some.whole (fits-whole c.args.program.now c.args.flat.now c.in-Some.whole c.requires.stands was)

pub repair-requires-clause-gone : goal.repair-requires-clause-gone
repair-requires-clause-gone g c = subst AreInOrder (sym c.as_slice.ensures) c.in_ok-changed.ensures.gone

pub repair-requires-clause-below : goal.repair-requires-clause-below
repair-requires-clause-below g c = c.fitting_trees_are_wired.ensures.kids c.args.program.now c.change.new.grove c.in_ok-changed.changed.fresh c.in_ok-changed.ensures.fits

pub repair-requires-clause-links : goal.repair-requires-clause-links
repair-requires-clause-links g c =
    let is_plan = c.requires.plan c.requires.there.0 c.requires.there.1 in
    subst (AllByRecursion LeadsInside) (sym c.in_ok-links.ensures) (links-inside c.args.program.now is_plan.own c.args.plan.entries c.args.plan.links is_plan.fits.links)

pub repair-requires-clause-names : goal.repair-requires-clause-names
repair-requires-clause-names g c =
    let was : c.args.flat.now.wiring ≡ Some c.in-Some.whole = search rules in
    let a = c.args in
    let net = c.requires.there.0 in
    let e = c.in_ok-changed.ensures in
    names-apart a.program.now a.flat.now a.place.now a.path.now net c.requires.stands c.requires.there.1 c.requires.path a.plan (c.requires.plan net c.requires.there.1) c.in-Some.whole was c.wirings_change_alike.ensures.there c.in-Some-net_at.net.now c.in-Some-net_at.ensures
    c.change.new.grove c.in_ok-changed.changed.gone c.as_slice.result.now c.as_slice.ensures c.in_ok-changed.changed.fresh c.in_ok-changed.changed.room
    (record { stands = e.stands; stay = e.stay; are = e.are; itself = e.itself; executive = e.executive }) e.fits

pub repair-requires-clause-distinct : goal.repair-requires-clause-distinct
repair-requires-clause-distinct g c =
    let was : c.args.flat.now.wiring ≡ Some c.in-Some.whole = search rules in
    let a = c.args in
    let net = c.requires.there.0 in
    let e = c.in_ok-changed.ensures in
    let plan = (c.requires.plan net c.requires.there.1).fits in
    let w = out-Wiring c.in-Some-net_at.net.now in
    let stay = staying c.in_ok-changed.changed.gone w.kids in
    let fresh_kids = c.in_ok-changed.changed.fresh in
    c.handles_are_apart.ensures a.flat.now.grove c.change.new.grove a.flat.now.root c.in-Some.whole (tree_of a.flat.now) a.path.now fresh_kids
    (stands-whole a.program.now a.flat.now c.in-Some.whole c.requires.stands was)
    (own-names a.program.now a.flat.now a.place.now a.path.now net c.requires.stands c.requires.there.1 c.requires.path)
    c.requires.stands.tree
    (fresh-live c.change.new.grove w.me w.boss a.path.now stay fresh_kids e.stands)
    (fresh-themselves c.change.new.grove w.me w.boss a.path.now stay fresh_kids e.stands)
    (fresh-apart (entries_of a.flat.now.grove w.kids) a.plan.entries (shown c.change.new.grove fresh_kids) plan.order plan.ordinary e.are)
    (kids-own-names a.program.now (shown c.change.new.grove fresh_kids) e.fits)
    e.young

pub returns-in_err-links-clause-told : goal.returns-in_err-links-clause-told
returns-in_err-links-clause-told g c net is =
    let e = err_from_is_err_and c.from_residual.result c.from_residual.ensures.1 in
    let whole = restructured (system c.args.program.now) (tree_of c.args.flat.now) c.args.place.now c.args.path.now net c.args.time c.args.room c.args.plan in
    subst (Tells whole c.args.events.now c.args.events.now) (sym (with-end c.args.flat.now _ _ (e.1 ∙ ap Err e.2))) (goes-memory whole whole c.args.events.now c.args.events.now (goes-begin whole c.args.events.now))

pub returns-in_err-changed-clause-told : goal.returns-in_err-changed-clause-told
returns-in_err-changed-clause-told g c net is =
    let was : c.args.flat.now.wiring ≡ Some c.in-Some.whole = search rules in
    let a = c.args in
    let e = err_from_is_err_and c.from_residual-in_err-changed.result c.from_residual-in_err-changed.ensures.1 in
    let whole = restructured (system a.program.now) (tree_of a.flat.now) a.place.now a.path.now net a.time a.room a.plan in
    subst (Tells whole a.events.now c.change.new.events) (sym (with-end (record { root = _; grove = record { parts = _; next_birth = 0 }; queue = a.flat.now.queue; rows = a.flat.now.rows; wiring = _ }) _ _ (e.1 ∙ ap Err e.2)))
    (told-end a.program.now a.flat.now a.place.now a.path.now net c.requires.stands is c.requires.path a.plan (c.requires.plan net is) c.in-Some.whole was c.wirings_change_alike.ensures.there c.in-Some-net_at.net.now c.in-Some-net_at.ensures
    a.time a.room a.events.now c.change.new.events c.in_err-changed.field-0.0 c.in_err-changed.ensures.told)

pub returns-in_err-repair-clause-told : goal.returns-in_err-repair-clause-told
returns-in_err-repair-clause-told g c net is =
    let was : c.args.flat.now.wiring ≡ Some c.in-Some.whole = search rules in
    let a = c.args in
    let e = err_from_is_err_and c.from_residual-in_err-repair.result c.from_residual-in_err-repair.ensures.1 in
    let f = c.in_ok-changed.ensures in
    let whole = restructured (system a.program.now) (tree_of a.flat.now) a.place.now a.path.now net a.time a.room a.plan in
    lacks-behind whole a.events.now c.change.new.events _ c.from_residual-in_err-repair.result (with_room (record { root = _; grove = record { parts = _; next_birth = 0 }; queue = a.flat.now.queue; rows = a.flat.now.rows; wiring = _ })) (λ end. refl) (e.1 ∙ ap Err e.2)
    (told-changed a.program.now a.flat.now a.place.now a.path.now net c.requires.stands is c.requires.path a.plan (c.requires.plan net is) c.in-Some.whole was c.wirings_change_alike.ensures.there c.in-Some-net_at.net.now c.in-Some-net_at.ensures
    c.change.new.grove c.in_ok-changed.changed.gone c.as_slice.result.now c.as_slice.ensures c.in_ok-changed.changed.fresh c.in_ok-changed.changed.room
    (record { stands = f.stands; stay = f.stay; are = f.are; itself = f.itself; executive = f.executive }) f.fits
    a.time a.room a.events.now c.change.new.events f.told)

pub returns-clause-told : goal.returns-clause-told
returns-clause-told g c net is =
    let was : c.args.flat.now.wiring ≡ Some c.in-Some.whole = search rules in
    let a = c.args in
    let f = c.in_ok-changed.ensures in
    let r = c.in_ok-repair.ensures in
    told-done a.program.now a.flat.now a.place.now a.path.now net c.requires.stands is c.requires.path a.plan (c.requires.plan net is) c.in-Some.whole was c.wirings_change_alike.ensures.there c.in-Some-net_at.net.now c.in-Some-net_at.ensures
    c.change.new.grove c.in_ok-changed.changed.gone c.as_slice.result.now c.as_slice.ensures c.in_ok-changed.changed.fresh c.in_ok-changed.changed.room
    (record { stands = f.stands; stay = f.stay; are = f.are; itself = f.itself; executive = f.executive }) f.fits
    c.wirings_change_alike.ensures.alike c.in_ok-links.links c.in_ok-links.ensures r.wiring.0 r.wiring.1 r.wiring.2 c.repair.new.wiring r.wiring.3 f.changes c.change.new.queue c.repair.new.table
    a.time a.room a.events.now c.change.new.events f.told

pub returns-clause-stands : goal.returns-clause-stands
returns-clause-stands g c =
    let was : c.args.flat.now.wiring ≡ Some c.in-Some.whole = search rules in
    let a = c.args in
    let net = c.requires.there.0 in
    let f = c.in_ok-changed.ensures in
    let r = c.in_ok-repair.ensures in
    stands-done a.program.now a.flat.now a.place.now a.path.now net c.requires.stands c.requires.there.1 c.requires.path a.plan (c.requires.plan net c.requires.there.1) c.in-Some.whole was c.wirings_change_alike.ensures.there c.in-Some-net_at.net.now c.in-Some-net_at.ensures
    c.change.new.grove c.in_ok-changed.changed.gone c.as_slice.result.now c.as_slice.ensures c.in_ok-changed.changed.fresh c.in_ok-changed.changed.room
    (record { stands = f.stands; stay = f.stay; are = f.are; itself = f.itself; executive = f.executive }) f.fits
    c.wirings_change_alike.ensures.alike c.in_ok-links.links c.in_ok-links.ensures r.wiring.0 r.wiring.1 r.wiring.2 c.repair.new.wiring r.wiring.3 f.changes c.change.new.queue c.repair.new.table
    c.survivors_keep_their_roles.ensures.exact f.tree r.table

pub returns-clause-born : goal.returns-clause-born
returns-clause-born g c net is =
    let was : c.args.flat.now.wiring ≡ Some c.in-Some.whole = search rules in
    let a = c.args in
    subst (λ (kids : List Kid). c.change.new.grove.next_birth + c.in_ok-changed.changed.room ≡ a.flat.now.grove.next_birth + a.room + parts_of_kids (gone a.plan.entries kids))
    (own-shown a.program.now a.flat.now a.place.now a.path.now net c.requires.stands is c.requires.path c.in-Some.whole was c.wirings_change_alike.ensures.there c.in-Some-net_at.net.now c.in-Some-net_at.ensures)
    c.in_ok-changed.ensures.born

pub returns-clause-ticks : goal.returns-clause-ticks
returns-clause-ticks g c net is =
    let was : c.args.flat.now.wiring ≡ Some c.in-Some.whole = search rules in
    let a = c.args in
    let f = c.in_ok-changed.ensures in
    let there = c.wirings_change_alike.ensures.there in
    let kids_are = own-shown a.program.now a.flat.now a.place.now a.path.now net c.requires.stands is c.requires.path c.in-Some.whole was there c.in-Some-net_at.net.now c.in-Some-net_at.ensures in
    let as_many = own-length a.program.now a.flat.now a.place.now a.path.now net c.requires.stands is c.requires.path c.in-Some.whole was there c.in-Some-net_at.net.now c.in-Some-net_at.ensures in
    omega (arith, f.ticks, f.born, f.room, as_many, ap (λ (kids : List Kid). parts_of_kids (gone a.plan.entries kids)) kids_are)

pub returns-clause-touches : goal.returns-clause-touches
returns-clause-touches g c before after net is nets becomes =
    let was : c.args.flat.now.wiring ≡ Some c.in-Some.whole = search rules in
    touched-by c.args.place.now c.args.flat.now.wiring c.in-Some.whole c.repair.new.wiring before after net c.args.changes.now c.repair.new.changes was c.in_ok-repair.ensures.ticks is nets becomes
