use Rattle.std.proofs.Common.{◌≡◌, ◌≤◌, ◌+◌, ◌-◌, ◌*◌, ◌<◌, ◌^◌, true, []}
use Rattle.std.specs.Prelude.{is_some}
use Rattle.dsde_run.specs.Run.{go_by}
use Rattle.dsde_run.specs.Reading.{Told}
use Rattle.dsde_run.specs.Steps.{IsRoot, Waits, to_give, Stands}
use Rattle.dsde_run.proofs.run.go.Given as goal

abbrev pub invariant-loop-turn : goal.invariant-loop-turn
invariant-loop-turn g l = record {
  stands : Told (g.R.Source.left l.initial.source) (g.R.Source.left l.source) (λ before.
      Stands l.own l.pick (λ records. go_by g.E.Advance.engine (g.E.Advance.advance l.own.model) l.own l.turns records (g.E.Advance.state l.initial.engine))
      (λ records. go_by g.E.Advance.engine (g.E.Advance.advance l.own.model) l.own (l.turns - l._turn) records (g.E.Advance.state l.engine))
      (to_give l.own l.initial.reader before) l.initial.reader l.reader l.head (g.W.Sink.written l.initial.sink) (g.W.Sink.written l.sink) l.text before);
  waits : Waits l.own (g.E.Advance.engine (g.E.Advance.state l.engine)).time l.reader l.head;
  program : g.E.Advance.program l.engine ≡ l.own.model;
  root : IsRoot l.own (g.E.Advance.engine (g.E.Advance.state l.engine));
  kept : g.E.Advance.program l.engine ≡ g.E.Advance.program l.initial.engine;
  fresh : is_some (g.E.Advance.engine (g.E.Advance.state l.engine)).tree ≡ true;
  bounded : (g.E.Advance.engine (g.E.Advance.state l.engine)).turn + (l.turns - l._turn) < 2 ^ 63;
  births : g.E.Advance.born l.engine ≤ 2 ^ 62 + l._turn * 2 ^ 33;
  reads_counted : g.R.Source.faults l.initial.source ≤ g.R.Source.faults l.source;
  writes_counted : g.W.Sink.faults l.initial.sink ≤ g.W.Sink.faults l.sink;
  idle : l._turn ≡ 0 → (l.source ≡ l.initial.source) × (l.reader ≡ l.initial.reader);
  empty : l.events ≡ [];
}
