use Rattle.std.proofs.Common.{sym, ap, ◌∙◌, arith}
use Rattle.dsde_trace.specs.declared.count.Summary.{Summary}
use Rattle.dsde_trace.specs.Count.{counted}
use Rattle.dsde_run.specs.Counting.{total}
use Rattle.dsde_run.proofs.Counting.{counts-more, total-counted}
use Rattle.dsde_run.proofs.count.count_events.Goals as goal

pub loop-event-preserved : goal.loop-event-preserved
loop-event-preserved c = record {
  counted = c.count_event.ensures ∙ ap (λ (summary : Summary). counted summary c.event-item.result) c.loop-event.invariant.counted
      ∙ sym (counts-more c.args.summary.now c.args.events.now c.loop-event.event-index c.event-item.result c.loop-event-test.true c.event-item.is);
  few = omega (arith, c.loop-event.invariant.few, total-counted c.loop-event.summary c.event-item.result, ap total c.count_event.ensures);
}
