use Rattle.std.proofs.Common.{◌<◌, length, drop, arith, length-drop}
use Rattle.std.proofs.lemmas.List.{drop-drop}
use Rattle.dsde_input_parser.proofs.Items.{rest_from}
use Rattle.dsde_input_parser.proofs.ItemLists.{so_far_first, none_first, so_far_next, so_far_none, so_far_all}
use Rattle.dsde_input_parser.proofs.read_record.read_items.Goals as goal

pub returns-in_default-clause-only : goal.returns-in_default-clause-only
returns-in_default-clause-only c = λ items are same.
    absurd (none_first c.args.ports.now c.args.types.now c.args.text.now (rw c.in_default.is at c.in_ok-item.ensures) items are same)

pub loop-at-init : goal.loop-at-init
loop-at-init c =
    let found = rw c.in-Some.is at c.in_ok-item.ensures in record {
      within = found.stands.within;
      so_far = rw (c.in_ok-push.ensures.ok, c.new-items.ensures)
          (so_far_first c.args.ports.now c.args.types.now c.args.text.now c.in-Some.item c.in-Some.at found);
    }

pub returns-in_default-2-clause-only : goal.returns-in_default-2-clause-only
returns-in_default-2-clause-only c = λ items are same.
    let some : 0 < length (drop c.loop-at.at c.args.text.now) = omega (arith, length-drop c.loop-at.at c.args.text.now) in
    let found = rw (c.in_default-2.is, rest_from c.loop-at.at c.args.text.now) at c.in_ok-later.ensures in
    absurd (so_far_none c.args.ports.now c.args.types.now c.args.text.now c.loop-at.items _ some c.loop-at.invariant.so_far found items are same)

pub loop-at-preserved : goal.loop-at-preserved
loop-at-preserved c =
    let some : 0 < length (drop c.loop-at.at c.args.text.now) = omega (arith, length-drop c.loop-at.at c.args.text.now) in
    let found = rw (c.in-Some-2.is, rest_from c.loop-at.at c.args.text.now) at c.in_ok-later.ensures in
    record {
      within = omega (arith, length-drop c.loop-at.at c.args.text.now, found.stands.within, c.loop-at.invariant.within);
      so_far = rw (c.in_ok-push-2.ensures.ok, ← drop-drop c.in-Some-2.size c.loop-at.at c.args.text.now)
          (so_far_next c.args.ports.now c.args.types.now c.args.text.now c.loop-at.items _ c.in-Some-2.later c.in-Some-2.size some c.loop-at.invariant.so_far found);
    }

pub returns-clause-only : goal.returns-clause-only
returns-clause-only c =
    (so_far_all c.args.ports.now c.args.types.now c.args.text.now c.loop-at.items (drop c.loop-at.at c.args.text.now)
    (omega (arith, length-drop c.loop-at.at c.args.text.now)) c.loop-at.invariant.so_far).1
