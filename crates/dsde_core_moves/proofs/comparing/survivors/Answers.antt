use Rattle.std.proofs.Common.{◌≡◌, ◌∷◌, ◌++◌, [], List, length, Bool, ◌∙◌, sym, ap, subst, arith}
use Rattle.dsde_routes_wiring.specs.given.structure.plan_Entry.{Entry}
use Rattle.dsde_routes_wiring.specs.declared.wiring.WiredKid.{WiredKid}
use Rattle.dsde_routes_wiring.specs.declared.wiring.WiredKid.TheViews.{out-Wiring}
use Rattle.dsde_core_moves.proofs.ComparingStepping.{match-none, none-long, tested-first, tested-next, tested-all, Tested}
use Rattle.dsde_core_moves.proofs.comparing.survivors.Goals as goal

pub loop-kid-init : goal.loop-kid-init
loop-kid-init g c =
    let kids = (out-Wiring c.args.wiring.now).kids in
    let looks = c.args.looks.now in
    subst (λ (tests : List Bool). Tested c.args.grove.now c.args.entries.now kids looks tests looks c.as_slice-rest.result.now c.as_slice-left.result.now) (sym c.new-tests.ensures)
    (subst (λ (left : List WiredKid). Tested c.args.grove.now c.args.entries.now kids looks [] looks c.as_slice-rest.result.now left) (sym c.as_slice-left.ensures)
    (subst (λ (rest : List Entry). Tested c.args.grove.now c.args.entries.now kids looks [] looks rest kids) (sym c.as_slice-rest.ensures)
    (tested-first c.args.grove.now c.args.entries.now kids looks c.requires.held c.requires.order c.requires.entries)))

pub loop-kid-preserved : goal.loop-kid-preserved
loop-kid-preserved g c =
    tested-next c.args.grove.now c.args.entries.now (out-Wiring c.args.wiring.now).kids c.args.looks.now c.loop-kid.tests c.loop-kid.looks c.loop-kid.rest.now c.from_name-rest.result.now c.loop-kid.left.now c.in-Some.kid.now c.in-Some.later.now
    c.loop-kid.invariant c.in-Some.ensures.cases.0 c.from_name-rest.ensures c.push.new.self c.is_first_entry.new.looks
    (c.in_ok-push.ensures.ok ∙ ap (λ (b : Bool). c.loop-kid.tests ++ b ∷ []) c.is_first_entry.ensures.value) c.is_first_entry.ensures.ticks

pub returns-clause-tests : goal.returns-clause-tests
returns-clause-tests g c =
    tested-all c.args.grove.now c.args.entries.now (out-Wiring c.args.wiring.now).kids c.args.looks.now c.loop-kid.tests c.loop-kid.looks c.loop-kid.rest.now c.loop-kid.left.now (none-long c.loop-kid.left.now (match-none c.split_first.result (length c.loop-kid.left.now ≡ 0) _ c.split_first.ensures.cases c.in_default.is)) c.loop-kid.invariant

pub returns-clause-ticks : goal.returns-clause-ticks
returns-clause-ticks g c = omega (arith, c.loop-kid.invariant.looks)
