use Rattle.std.proofs.Common.{◌≡◌, ◌≤◌, ◌+◌, ◌-◌, ◌*◌, ◌<◌, ◌^◌, true, []}
use Rattle.std.specs.Prelude.{is_some}
use Rattle.dsde_input_records.specs.Records.{end}
use Rattle.dsde_trace.specs.declared.count.Summary.{Summary}
use Rattle.dsde_run.specs.Run.{go}
use Rattle.dsde_run.specs.declared.count.Ending.{Ending}
use Rattle.dsde_run.specs.Counting.{EndsCounted, total}
use Rattle.dsde_run.proofs.count.count_turns.Given as goal

abbrev pub invariant-loop-turn : goal.invariant-loop-turn
invariant-loop-turn l = record {
  goes : (new : Summary) (ending : Ending) → EndsCounted l.summary (go l.own (l.turns - l._turn) end l.core.engine) new ending → EndsCounted l.initial.summary (go l.own l.turns end l.initial.core.engine) new ending;
  program : l.core.program ≡ l.own.model;
  fresh : is_some l.core.engine.tree ≡ true;
  bounded : l.core.engine.turn + (l.turns - l._turn) < 2 ^ 63;
  births : l.core.born ≤ 2 ^ 62 + l._turn * 2 ^ 33;
  room : total l.summary ≤ 2 ^ 64 + l._turn * 2 ^ 64;
  empty : l.events ≡ [];
}
