use Rattle.std.proofs.Common.{◌≡◌, ℕ, List, ◌∷◌, Some, length, sym, ap, ◌∙◌, arith}
use Rattle.dsde_bank.specs.declared.handle.Handle.{Handle}
use Rattle.dsde_core_flat.specs.lemmas.Pairs.{front-tells, front-none, stale-goes, took}
use Rattle.dsde_core_flat.proofs.front.due_time.Goals as goal

pub returns-then-is_due_at-clause-time : goal.returns-then-is_due_at-clause-time
returns-then-is_due_at-clause-time g c =
    front-tells c.args.grove.now c.loop-time.queue.pairs (c.in-Some.time, c.in-Some.handle) c.loop-time.invariant.scheduled c.least.ensures.ordered (sym c.in-Some.ensures.first)
    (sym c.is_due_at.ensures.value ∙ c.if-is_due_at.true)

pub loop-time-preserved : goal.loop-time-preserved
loop-time-preserved g c =
    let rest = took c.loop-time.queue c.take_first.new.self c.take_first.result (c.in-Some.time, c.in-Some.handle) c.take_first.ensures.taken (sym c.in-Some.ensures.first) in
    record {
      scheduled = stale-goes c.args.grove.now c.loop-time.queue.pairs c.take_first.new.self.pairs (c.in-Some.time, c.in-Some.handle) c.loop-time.invariant.scheduled rest (sym c.is_due_at.ensures.value ∙ c.if-is_due_at.false);
      shorter = omega (arith, c.loop-time.invariant.shorter, ap length rest);
      ticks = omega (arith, c.loop-time.invariant.ticks, ap length rest, c.is_due_at.ensures.ticks);
    }

pub returns-clause-time : goal.returns-clause-time
returns-clause-time g c =
    front-none c.args.grove.now c.loop-time.queue.pairs c.loop-time.invariant.scheduled (sym c.least.ensures.first ∙ c.in_default.is)
