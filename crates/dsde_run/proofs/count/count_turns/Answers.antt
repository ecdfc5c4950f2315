use Rattle.std.proofs.Common.{◌≡◌, ◌+◌, ◌-◌, suc, refl, sym, subst, ◌∙◌, arith}
use Rattle.dsde_input_records.specs.Records.{end}
use Rattle.dsde_sim_tree.specs.declared.event.Finish.TheVariants as how
use Rattle.dsde_run_meaning.specs.Run.{ended}
use Rattle.dsde_run.specs.Run.{go}
use Rattle.dsde_run.specs.Counting.{EndsCounted, IsNextTurn, TurnsCounted}
use Rattle.dsde_run.proofs.CountEnding.{counted-then, ending_of, ends-now}
use Rattle.dsde_run.proofs.count.count_turns.Goals as goal

pub returns-in-Some-clause-counts : goal.returns-in-Some-clause-counts
returns-in-Some-clause-counts c =
    let left : c.args.turns - c.loop-turn._turn ≡ suc (c.args.turns - (c.loop-turn._turn + 1)) = omega (arith, c.loop-turn-test.true) in
    c.loop-turn.invariant.goes c.count_turn.new.summary c.in-Some.ending
    (subst (λ n. EndsCounted c.loop-turn.summary (go c.args.own.now n end c.loop-turn.core.engine) c.count_turn.new.summary c.in-Some.ending) (sym left)
    ((rw c.in-Some.is at c.in_ok-ending.ensures.counts) (λ took after. go c.args.own.now (c.args.turns - (c.loop-turn._turn + 1)) end after)))

pub loop-turn-preserved : goal.loop-turn-preserved
loop-turn-preserved c =
    let left : c.args.turns - c.loop-turn._turn ≡ suc (c.args.turns - (c.loop-turn._turn + 1)) = omega (arith, c.loop-turn-test.true) in
    let turns : TurnsCounted c.args.own.now c.loop-turn.core.engine c.count_turn.new.core.engine c.loop-turn.summary c.count_turn.new.summary = rw c.in_default.is at c.in_ok-ending.ensures.counts in
    let next : IsNextTurn c.loop-turn.core c.count_turn.new.core = (rw c.in_default.is at c.in_ok-ending.ensures.next) refl in
    record {
      goes = λ new ending ends.
          c.loop-turn.invariant.goes new ending
          (subst (λ n. EndsCounted c.loop-turn.summary (go c.args.own.now n end c.loop-turn.core.engine) new ending) (sym left)
          (counted-then c.args.own.now c.loop-turn.core.engine c.count_turn.new.core.engine c.loop-turn.summary c.count_turn.new.summary new
          (λ after. go c.args.own.now (c.args.turns - (c.loop-turn._turn + 1)) end after) ending turns ends));
      program = next.same ∙ c.loop-turn.invariant.program;
      fresh = next.fresh;
      bounded = omega (arith, next.counted, c.loop-turn.invariant.bounded, c.loop-turn-test.true);
      births = omega (arith, next.births, c.loop-turn.invariant.births);
      room = omega (arith, c.loop-turn.invariant.room, c.count_turn.ensures.few);
      empty = c.count_turn.ensures.emptied;
    }

pub returns-clause-counts : goal.returns-clause-counts
returns-clause-counts c =
    let zero : c.args.turns - c.loop-turn._turn ≡ 0 = omega (arith, c.loop-turn-test.false) in
    let engine = c.loop-turn.core.engine in
    c.loop-turn.invariant.goes c.loop-turn.summary (ending_of how.Bound c.turn.result c.time.result)
    (subst (λ n. EndsCounted c.loop-turn.summary (go c.args.own.now n end c.loop-turn.core.engine) c.loop-turn.summary (ending_of how.Bound c.turn.result c.time.result)) (sym zero)
    (subst (λ time. EndsCounted c.loop-turn.summary (ended how.Bound c.loop-turn.core.engine.turn time c.loop-turn.core.engine) c.loop-turn.summary (ending_of how.Bound c.turn.result c.time.result)) c.time.ensures
    (subst (λ turn. EndsCounted c.loop-turn.summary (ended how.Bound turn c.time.result c.loop-turn.core.engine) c.loop-turn.summary (ending_of how.Bound c.turn.result c.time.result)) c.turn.ensures
    (ends-now c.loop-turn.summary how.Bound c.turn.result c.time.result engine))))
