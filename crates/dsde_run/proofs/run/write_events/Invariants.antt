use Rattle.std.proofs.Common.{◌≡◌, ◌++◌, take}
use Rattle.dsde_run.specs.Run.{kept_text}
use Rattle.dsde_run.proofs.run.write_events.Given as goal

abbrev pub invariant-loop-event : goal.invariant-loop-event
invariant-loop-event l = l.text ≡ l.initial.text ++ kept_text l.own l.pick (take l.event-index l.events)
