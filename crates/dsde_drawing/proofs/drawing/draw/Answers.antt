use Rattle.std.proofs.Common.{◌≡◌, ◌≢◌, ◌<◌, ◌-◌, ℕ, List, [], length, ap, arith}
use Rattle.dsde_drawing.proofs.Left.{behind-end, behind-on, draws-end, draws-leaves, draws-on}
use Rattle.dsde_drawing.proofs.drawing.draw.Goals as goal

none-left : {A : Type 0} (left items : List A) (turn end : ℕ) → length left ≡ length items - turn → end ≡ length items → turn < end → left ≢ []
none-left left items turn end counted is within none =
    let empty : length left ≡ 0 = ap length none in
    omega (arith, empty, counted, is, within)

pub draw_one-requires-clause-some : goal.draw_one-requires-clause-some
draw_one-requires-clause-some g c =
    let end_is : length c.as_slice-count.result.now ≡ length c.args.items.items = ap (λ list. length list) c.as_slice-count.ensures.value in
    none-left c.loop-turn.left.items c.args.items.items c.loop-turn._turn (length c.as_slice-count.result.now) c.loop-turn.invariant.counted end_is c.loop-turn-test.true

pub loop-turn-preserved : goal.loop-turn-preserved
loop-turn-preserved g c =
    let n = length c.args.items.items in
    let kept = c.loop-turn.invariant in
    let end : length c.as_slice-count.result.now ≡ n = ap (λ list. length list) c.as_slice-count.ensures.value in
    let test : c.loop-turn._turn < length c.as_slice-count.result.now = c.loop-turn-test.true in
    let within : c.loop-turn._turn < n = omega (arith, end, test) in
    let some = none-left c.loop-turn.left.items c.args.items.items c.loop-turn._turn (length c.as_slice-count.result.now) kept.counted end test in
    let leaves = draws-leaves g.T.Waits.waits c.loop-turn.left.items c.draw_one.new.left.items _ _ kept.orderly some c.in_ok-item.ensures.item in
    let fewer = leaves.1 in
    let counted = kept.counted in
    record {
      drawn = draws-on g.T.Waits.waits c.loop-turn.order c.loop-turn.left.items c.draw_one.new.left.items c.push.new.self _ n c.loop-turn._turn c.loop-turn.words c.draw_one.new.words _ within some
          c.in_ok-item.ensures.item c.in_ok-item.ensures.words c.in_ok-push.ensures.ok kept.drawn;
      words = behind-on n c.loop-turn._turn c.loop-turn.words c.draw_one.new.words _ within c.in_ok-item.ensures.words kept.words;
      counted = omega (arith, fewer, counted, within);
      orderly = leaves.0;
    }

pub returns-clause-order : goal.returns-clause-order
returns-clause-order g c =
    let end : length c.as_slice-count.result.now ≡ length c.args.items.items = ap (λ list. length list) c.as_slice-count.ensures.value in
    let test = c.loop-turn-test.false in
    draws-end g.T.Waits.waits c.loop-turn.order c.loop-turn.left.items (length c.args.items.items) c.loop-turn._turn c.loop-turn.words _ (omega (arith, end, test)) c.loop-turn.invariant.drawn

pub returns-clause-words : goal.returns-clause-words
returns-clause-words g c =
    let end : length c.as_slice-count.result.now ≡ length c.args.items.items = ap (λ list. length list) c.as_slice-count.ensures.value in
    let test = c.loop-turn-test.false in
    behind-end (length c.args.items.items) c.loop-turn._turn c.loop-turn.words _ (omega (arith, end, test)) c.loop-turn.invariant.words
