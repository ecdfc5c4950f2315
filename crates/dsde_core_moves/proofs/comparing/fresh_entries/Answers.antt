use Rattle.std.proofs.Common.{rules, ◌≡◌, true, false, List, [], refl, sym, subst, ◌∙◌, arith}
use Rattle.dsde_routes_wiring.specs.given.structure.plan_Entry.{Entry}
use Rattle.dsde_routes_wiring.specs.declared.wiring.WiredKid.{WiredKid}
use Rattle.dsde_routes_wiring.specs.declared.wiring.WiredKid.TheViews.{out-Wiring}
use Rattle.dsde_core_moves.proofs.ComparingStepping.{none-long, sifted-first, sifted-next, sifted-all, Sifted}
use Rattle.dsde_core_moves.proofs.comparing.fresh_entries.Goals as goal

pub loop-entry-init : goal.loop-entry-init
loop-entry-init g c =
    let kids = (out-Wiring c.args.wiring.now).kids in
    let looks = c.args.looks.now in
    let items : c.into_iter-entry-iterator.result.rest.items ≡ c.args.entries = search rules in
    subst (λ (list : List Entry). Sifted c.args.grove.now kids c.args.entries looks list looks c.as_slice-left.result.now c.into_iter-entry-iterator.result.rest.items) (sym c.new-list.ensures)
    (subst (λ (left : List WiredKid). Sifted c.args.grove.now kids c.args.entries looks [] looks left c.into_iter-entry-iterator.result.rest.items) (sym c.as_slice-left.ensures)
    (subst (λ (rest : List Entry). Sifted c.args.grove.now kids c.args.entries looks [] looks kids rest) (sym items)
    (sifted-first c.args.grove.now kids c.args.entries looks c.requires.held c.requires.order c.requires.entries)))

pub loop-entry-preserved-in-Continue-1 : goal.loop-entry-preserved-in-Continue-1
loop-entry-preserved-in-Continue-1 g c =
    sifted-next c.args.grove.now (out-Wiring c.args.wiring.now).kids c.args.entries c.args.looks.now c.loop-entry.list c.loop-entry.looks c.loop-entry.left.now c.kids_from-left.result.now c.loop-entry.entry-iterator.rest.items c.in-Some.entry c.next.new.self.rest.items
    c.loop-entry.invariant c.in-Some.ensures.steps.0 c.kids_from-left.ensures false c.push.new.self c.is_first_kid.new.looks (sym c.is_first_kid.ensures.value ∙ c.if-not-is_first_kid.true) c.in_ok-push.ensures.ok c.is_first_kid.ensures.ticks

pub loop-entry-preserved : goal.loop-entry-preserved
loop-entry-preserved g c =
    sifted-next c.args.grove.now (out-Wiring c.args.wiring.now).kids c.args.entries c.args.looks.now c.loop-entry.list c.loop-entry.looks c.loop-entry.left.now c.kids_from-left.result.now c.loop-entry.entry-iterator.rest.items c.in-Some.entry c.next.new.self.rest.items
    c.loop-entry.invariant c.in-Some.ensures.steps.0 c.kids_from-left.ensures true c.loop-entry.list c.is_first_kid.new.looks (sym c.is_first_kid.ensures.value ∙ c.if-not-is_first_kid.false) refl c.is_first_kid.ensures.ticks

pub returns-clause-fresh : goal.returns-clause-fresh
returns-clause-fresh g c =
    sifted-all c.args.grove.now (out-Wiring c.args.wiring.now).kids c.args.entries c.args.looks.now c.loop-entry.list c.loop-entry.looks c.loop-entry.left.now c.loop-entry.entry-iterator.rest.items (none-long c.loop-entry.entry-iterator.rest.items (omega (arith, c.loop-entry.entry-iterator.rest.ok.0, c.in-None.ensures.steps.0))) c.loop-entry.invariant

pub returns-clause-ticks : goal.returns-clause-ticks
returns-clause-ticks g c = omega (arith, c.loop-entry.invariant.looks)
