use Rattle.std.proofs.Common.{◌≡◌, ◌≤◌, ◌+◌, take}
use Rattle.dsde_trace.specs.Count.{counts_from}
use Rattle.dsde_run.specs.Counting.{total}
use Rattle.dsde_run.proofs.count.count_events.Given as goal

abbrev pub invariant-loop-event : goal.invariant-loop-event
invariant-loop-event l = record {
  counted : l.summary ≡ counts_from l.initial.summary (take l.event-index l.events);
  few : total l.summary ≤ total l.initial.summary + l.event-index;
}
