use Rattle.std.proofs.Common.{◌≡◌, ◌≤◌, ◌+◌, ◌-◌, ◌^◌, Err, suc, refl, ap, sym, subst, ◌∙◌, arith}
use Rattle.dsde_run.specs.declared.run.After.TheVariants.{Turned, Ended}
use Rattle.dsde_run.specs.declared.run.Head.TheVariants.{Wanted}
use Rattle.dsde_run.specs.Run.{go_by}
use Rattle.dsde_run.specs.Reading.{Told}
use Rattle.dsde_run.specs.Steps.{to_give, Stands, Turns, IsNext, Waits, record_of, passed}
use Rattle.dsde_run.proofs.RunEnding.{comes-halted, taken-halted, halts-not_quiet, comes-unwritten, comes-ended, comes-bound}
use Rattle.dsde_run.proofs.Standing.{stands-first, stands-ready, stands-turned, stands-handed, front-stands}
use Rattle.dsde_run.proofs.Timing.{waits-comes, waits-late, waits-passed}
use Rattle.dsde_language.specs.DeclaredModels.{top_number}
use Rattle.dsde_run.proofs.Tolds.{Told-then, Told-weaker, Told-same}
use Rattle.dsde_run.proofs.run.go.Goals as goal

pub loop-turn-init : goal.loop-turn-init
loop-turn-init g c =
    let none : c.args.turns - 0 ≡ c.args.turns = omega arith in
    record {
      stands = Told-same (g.R.Source.left c.args.source.now) (λ before after. Stands c.args.own.now c.args.pick (λ records. go_by g.E.Advance.engine (g.E.Advance.advance c.args.own.now.model) c.args.own.now c.args.turns records (g.E.Advance.state c.args.engine.now)) (λ records. go_by g.E.Advance.engine (g.E.Advance.advance c.args.own.now.model) c.args.own.now (c.args.turns - 0) records (g.E.Advance.state c.args.engine.now))
          (to_give c.args.own.now c.args.reader.now before) c.args.reader.now c.args.reader.now Wanted (g.W.Sink.written c.args.sink.now) (g.W.Sink.written c.args.sink.now) c.new-text.result before after)
          (λ bytes. subst (λ left. Stands c.args.own.now c.args.pick (λ records. go_by g.E.Advance.engine (g.E.Advance.advance c.args.own.now.model) c.args.own.now c.args.turns records (g.E.Advance.state c.args.engine.now)) (λ records. go_by g.E.Advance.engine (g.E.Advance.advance c.args.own.now.model) c.args.own.now left records (g.E.Advance.state c.args.engine.now))
          (to_give c.args.own.now c.args.reader.now bytes) c.args.reader.now c.args.reader.now Wanted (g.W.Sink.written c.args.sink.now) (g.W.Sink.written c.args.sink.now) c.new-text.result bytes bytes) (sym none)
          (subst (λ text. Stands c.args.own.now c.args.pick (λ records. go_by g.E.Advance.engine (g.E.Advance.advance c.args.own.now.model) c.args.own.now c.args.turns records (g.E.Advance.state c.args.engine.now)) (λ records. go_by g.E.Advance.engine (g.E.Advance.advance c.args.own.now.model) c.args.own.now c.args.turns records (g.E.Advance.state c.args.engine.now)) (to_give c.args.own.now c.args.reader.now bytes) c.args.reader.now c.args.reader.now Wanted (g.W.Sink.written c.args.sink.now) (g.W.Sink.written c.args.sink.now) text bytes bytes) (sym c.new-text.ensures)
          (stands-first c.args.own.now c.args.pick (λ records. go_by g.E.Advance.engine (g.E.Advance.advance c.args.own.now.model) c.args.own.now c.args.turns records (g.E.Advance.state c.args.engine.now)) c.args.reader.now (g.W.Sink.written c.args.sink.now) bytes)));
      waits = c.requires.in_time;
      root = c.requires.root;
      program = c.requires.program;
      kept = refl;
      fresh = c.requires.fresh;
      bounded = omega (arith, c.requires.bounded);
      births = omega (arith, c.requires.births);
      reads_counted = omega arith;
      writes_counted = omega arith;
      idle = λ _. (refl, refl);
      empty = c.new-events.ensures;
    }

pub returns-in-Err-clause-comes : goal.returns-in-Err-clause-comes
returns-in-Err-clause-comes g c =
    let later = c.args.turns - (c.loop-turn._turn + 1) in
    let left : c.args.turns - c.loop-turn._turn ≡ suc (c.args.turns - (c.loop-turn._turn + 1)) = omega arith in
    Told-then (g.R.Source.left c.args.source.now) (g.R.Source.left c.loop-turn.source) (g.R.Source.left c.ready.new.source) (rw left at c.loop-turn.invariant.stands) c.in-Err.ensures.refused
    (λ before mid after stands unready.
    comes-halted c.args.own.now c.args.pick (λ records. go_by g.E.Advance.engine (g.E.Advance.advance c.args.own.now.model) c.args.own.now c.args.turns records (g.E.Advance.state c.args.engine.now)) (to_give c.args.own.now c.args.reader.now before) c.args.reader.now c.loop-turn.reader (g.W.Sink.written c.args.sink.now) (g.W.Sink.written c.loop-turn.sink) (g.W.Sink.written c.ready.new.sink) (g.W.Sink.written c.halt.new.sink) before mid after (λ records. go_by g.E.Advance.engine (g.E.Advance.advance c.args.own.now.model) c.args.own.now (suc later) records (g.E.Advance.state c.loop-turn.engine)) (g.E.Advance.engine (g.E.Advance.state c.loop-turn.engine))
    (λ why. refl) c.loop-turn.head c.loop-turn.text c.ready.new.text c.turn.result c.time.result (sym c.turn.ensures) (sym c.time.ensures) c.in-Err.why c.halt.result stands unready c.in-Err.ensures.no_read c.halt.ensures.halts)

pub returns-in-Err-clause-taken : goal.returns-in-Err-clause-taken
returns-in-Err-clause-taken g c =
    let later = c.args.turns - (c.loop-turn._turn + 1) in
    let left : c.args.turns - c.loop-turn._turn ≡ suc (c.args.turns - (c.loop-turn._turn + 1)) = omega arith in
    Told-then (g.R.Source.left c.args.source.now) (g.R.Source.left c.loop-turn.source) (g.R.Source.left c.ready.new.source) (rw left at c.loop-turn.invariant.stands) c.in-Err.ensures.refused
    (λ before mid after stands unready.
    taken-halted c.args.own.now c.args.pick (λ records. go_by g.E.Advance.engine (g.E.Advance.advance c.args.own.now.model) c.args.own.now c.args.turns records (g.E.Advance.state c.args.engine.now)) (to_give c.args.own.now c.args.reader.now before) c.args.reader.now c.loop-turn.reader (g.W.Sink.written c.args.sink.now) (g.W.Sink.written c.loop-turn.sink) (g.W.Sink.written c.ready.new.sink) (g.W.Sink.written c.halt.new.sink) before mid after (λ records. go_by g.E.Advance.engine (g.E.Advance.advance c.args.own.now.model) c.args.own.now (suc later) records (g.E.Advance.state c.loop-turn.engine)) (g.E.Advance.engine (g.E.Advance.state c.loop-turn.engine))
    (λ why. refl) c.loop-turn.head c.loop-turn.text c.ready.new.text c.turn.result c.time.result (sym c.turn.ensures) (sym c.time.ensures) refl c.in-Err.why stands unready)

pub returns-in-Err-clause-quiet : goal.returns-in-Err-clause-quiet
returns-in-Err-clause-quiet g c = λ unended quiet.
    absurd (halts-not_quiet c.args.own.now c.in-Err.why c.turn.result c.time.result c.ready.new.text (g.W.Sink.written c.ready.new.sink) (g.W.Sink.written c.halt.new.sink) c.halt.result c.halt.ensures.halts
    (g.E.Advance.engine (g.E.Advance.state c.loop-turn.engine)) (sym c.turn.ensures) (sym c.time.ensures) quiet)

pub returns-in-Err-turn-clause-comes : goal.returns-in-Err-turn-clause-comes
returns-in-Err-turn-clause-comes g c =
    let later = c.args.turns - (c.loop-turn._turn + 1) in
    let left : c.args.turns - c.loop-turn._turn ≡ suc (c.args.turns - (c.loop-turn._turn + 1)) = omega arith in
    let ready : Told (g.R.Source.left c.args.source.now) (g.R.Source.left c.ready.new.source) (λ before.
    Stands c.args.own.now c.args.pick (λ records. go_by g.E.Advance.engine (g.E.Advance.advance c.args.own.now.model) c.args.own.now c.args.turns records (g.E.Advance.state c.args.engine.now)) (λ records. go_by g.E.Advance.engine (g.E.Advance.advance c.args.own.now.model) c.args.own.now (suc (c.args.turns - (c.loop-turn._turn + 1))) records (g.E.Advance.state c.loop-turn.engine))
    (to_give c.args.own.now c.args.reader.now before) c.args.reader.now c.ready.new.reader c.ready.new.head (g.W.Sink.written c.args.sink.now) (g.W.Sink.written c.ready.new.sink) c.ready.new.text before) =
    Told-then (g.R.Source.left c.args.source.now) (g.R.Source.left c.loop-turn.source) (g.R.Source.left c.ready.new.source) (rw left at c.loop-turn.invariant.stands) c.in_default.ensures.ready
    (λ before mid after stands ready.
    stands-ready c.args.own.now c.args.pick (λ records. go_by g.E.Advance.engine (g.E.Advance.advance c.args.own.now.model) c.args.own.now c.args.turns records (g.E.Advance.state c.args.engine.now)) (λ records. go_by g.E.Advance.engine (g.E.Advance.advance c.args.own.now.model) c.args.own.now (suc later) records (g.E.Advance.state c.loop-turn.engine)) refl (to_give c.args.own.now c.args.reader.now before) c.args.reader.now c.loop-turn.reader c.ready.new.reader c.loop-turn.head c.ready.new.head
    (g.W.Sink.written c.args.sink.now) (g.W.Sink.written c.loop-turn.sink) (g.W.Sink.written c.ready.new.sink) c.loop-turn.text c.ready.new.text before mid after stands ready) in
    Told-weaker (g.R.Source.left c.args.source.now) (g.R.Source.left c.ready.new.source) ready
    (λ before after stands.
    front-stands c.args.own.now c.args.pick (λ records. go_by g.E.Advance.engine (g.E.Advance.advance c.args.own.now.model) c.args.own.now c.args.turns records (g.E.Advance.state c.args.engine.now)) (λ records. go_by g.E.Advance.engine (g.E.Advance.advance c.args.own.now.model) c.args.own.now (suc later) records (g.E.Advance.state c.loop-turn.engine)) (to_give c.args.own.now c.args.reader.now before) c.args.reader.now c.ready.new.reader c.ready.new.head (g.W.Sink.written c.args.sink.now) (g.W.Sink.written c.ready.new.sink) c.ready.new.text before after stands)

pub returns-in-Err-turn-clause-taken : goal.returns-in-Err-turn-clause-taken
returns-in-Err-turn-clause-taken g c =
    let later = c.args.turns - (c.loop-turn._turn + 1) in
    let left : c.args.turns - c.loop-turn._turn ≡ suc (c.args.turns - (c.loop-turn._turn + 1)) = omega arith in
    let ready : Told (g.R.Source.left c.args.source.now) (g.R.Source.left c.ready.new.source) (λ before.
    Stands c.args.own.now c.args.pick (λ records. go_by g.E.Advance.engine (g.E.Advance.advance c.args.own.now.model) c.args.own.now c.args.turns records (g.E.Advance.state c.args.engine.now)) (λ records. go_by g.E.Advance.engine (g.E.Advance.advance c.args.own.now.model) c.args.own.now (suc (c.args.turns - (c.loop-turn._turn + 1))) records (g.E.Advance.state c.loop-turn.engine))
    (to_give c.args.own.now c.args.reader.now before) c.args.reader.now c.ready.new.reader c.ready.new.head (g.W.Sink.written c.args.sink.now) (g.W.Sink.written c.ready.new.sink) c.ready.new.text before) =
    Told-then (g.R.Source.left c.args.source.now) (g.R.Source.left c.loop-turn.source) (g.R.Source.left c.ready.new.source) (rw left at c.loop-turn.invariant.stands) c.in_default.ensures.ready
    (λ before mid after stands ready.
    stands-ready c.args.own.now c.args.pick (λ records. go_by g.E.Advance.engine (g.E.Advance.advance c.args.own.now.model) c.args.own.now c.args.turns records (g.E.Advance.state c.args.engine.now)) (λ records. go_by g.E.Advance.engine (g.E.Advance.advance c.args.own.now.model) c.args.own.now (suc later) records (g.E.Advance.state c.loop-turn.engine)) refl (to_give c.args.own.now c.args.reader.now before) c.args.reader.now c.loop-turn.reader c.ready.new.reader c.loop-turn.head c.ready.new.head
    (g.W.Sink.written c.args.sink.now) (g.W.Sink.written c.loop-turn.sink) (g.W.Sink.written c.ready.new.sink) c.loop-turn.text c.ready.new.text before mid after stands ready) in
    Told-weaker (g.R.Source.left c.args.source.now) (g.R.Source.left c.ready.new.source) ready (λ before after stands. stands.takes)

pub returns-in-Ended-clause-comes : goal.returns-in-Ended-clause-comes
returns-in-Ended-clause-comes g c =
    let later = c.args.turns - (c.loop-turn._turn + 1) in
    let left : c.args.turns - c.loop-turn._turn ≡ suc (c.args.turns - (c.loop-turn._turn + 1)) = omega arith in
    let ready : Told (g.R.Source.left c.args.source.now) (g.R.Source.left c.ready.new.source) (λ before.
    Stands c.args.own.now c.args.pick (λ records. go_by g.E.Advance.engine (g.E.Advance.advance c.args.own.now.model) c.args.own.now c.args.turns records (g.E.Advance.state c.args.engine.now)) (λ records. go_by g.E.Advance.engine (g.E.Advance.advance c.args.own.now.model) c.args.own.now (suc (c.args.turns - (c.loop-turn._turn + 1))) records (g.E.Advance.state c.loop-turn.engine))
    (to_give c.args.own.now c.args.reader.now before) c.args.reader.now c.ready.new.reader c.ready.new.head (g.W.Sink.written c.args.sink.now) (g.W.Sink.written c.ready.new.sink) c.ready.new.text before) =
    Told-then (g.R.Source.left c.args.source.now) (g.R.Source.left c.loop-turn.source) (g.R.Source.left c.ready.new.source) (rw left at c.loop-turn.invariant.stands) c.in_default.ensures.ready
    (λ before mid after stands ready.
    stands-ready c.args.own.now c.args.pick (λ records. go_by g.E.Advance.engine (g.E.Advance.advance c.args.own.now.model) c.args.own.now c.args.turns records (g.E.Advance.state c.args.engine.now)) (λ records. go_by g.E.Advance.engine (g.E.Advance.advance c.args.own.now.model) c.args.own.now (suc later) records (g.E.Advance.state c.loop-turn.engine)) refl (to_give c.args.own.now c.args.reader.now before) c.args.reader.now c.loop-turn.reader c.ready.new.reader c.loop-turn.head c.ready.new.head
    (g.W.Sink.written c.args.sink.now) (g.W.Sink.written c.loop-turn.sink) (g.W.Sink.written c.ready.new.sink) c.loop-turn.text c.ready.new.text before mid after stands ready) in
    let ended : Turns g.E.Advance.engine (g.E.Advance.advance c.args.own.now.model) c.args.own.now c.args.pick (g.E.Advance.state c.loop-turn.engine) (record_of c.ready.new.head) (g.E.Advance.state c.turn-in-loop-turn.new.engine) c.ready.new.text c.turn-in-loop-turn.new.text (Ended c.in-Ended.how) =
    rw c.in-Ended.is at c.in-Ok.ensures.turns in
    Told-weaker (g.R.Source.left c.args.source.now) (g.R.Source.left c.ready.new.source) ready
    (λ before after stands.
    comes-ended c.args.own.now c.args.pick (λ records. go_by g.E.Advance.engine (g.E.Advance.advance c.args.own.now.model) c.args.own.now c.args.turns records (g.E.Advance.state c.args.engine.now)) (to_give c.args.own.now c.args.reader.now before) c.args.reader.now c.ready.new.reader (g.W.Sink.written c.args.sink.now) (g.W.Sink.written c.ready.new.sink) (g.W.Sink.written c.close.new.sink) before g.E.Advance.engine (g.E.Advance.advance c.args.own.now.model) later (g.E.Advance.state c.loop-turn.engine) (g.E.Advance.state c.turn-in-loop-turn.new.engine)
    c.ready.new.head c.in-Ended.how c.ready.new.text c.turn-in-loop-turn.new.text after stands c.in_default.ensures.known ended c.close.result c.close.ensures.ok c.close.ensures.front c.close.ensures.no_read)

pub returns-in-Ended-clause-taken : goal.returns-in-Ended-clause-taken
returns-in-Ended-clause-taken g c =
    let later = c.args.turns - (c.loop-turn._turn + 1) in
    let left : c.args.turns - c.loop-turn._turn ≡ suc (c.args.turns - (c.loop-turn._turn + 1)) = omega arith in
    let ready : Told (g.R.Source.left c.args.source.now) (g.R.Source.left c.ready.new.source) (λ before.
    Stands c.args.own.now c.args.pick (λ records. go_by g.E.Advance.engine (g.E.Advance.advance c.args.own.now.model) c.args.own.now c.args.turns records (g.E.Advance.state c.args.engine.now)) (λ records. go_by g.E.Advance.engine (g.E.Advance.advance c.args.own.now.model) c.args.own.now (suc (c.args.turns - (c.loop-turn._turn + 1))) records (g.E.Advance.state c.loop-turn.engine))
    (to_give c.args.own.now c.args.reader.now before) c.args.reader.now c.ready.new.reader c.ready.new.head (g.W.Sink.written c.args.sink.now) (g.W.Sink.written c.ready.new.sink) c.ready.new.text before) =
    Told-then (g.R.Source.left c.args.source.now) (g.R.Source.left c.loop-turn.source) (g.R.Source.left c.ready.new.source) (rw left at c.loop-turn.invariant.stands) c.in_default.ensures.ready
    (λ before mid after stands ready.
    stands-ready c.args.own.now c.args.pick (λ records. go_by g.E.Advance.engine (g.E.Advance.advance c.args.own.now.model) c.args.own.now c.args.turns records (g.E.Advance.state c.args.engine.now)) (λ records. go_by g.E.Advance.engine (g.E.Advance.advance c.args.own.now.model) c.args.own.now (suc later) records (g.E.Advance.state c.loop-turn.engine)) refl (to_give c.args.own.now c.args.reader.now before) c.args.reader.now c.loop-turn.reader c.ready.new.reader c.loop-turn.head c.ready.new.head
    (g.W.Sink.written c.args.sink.now) (g.W.Sink.written c.loop-turn.sink) (g.W.Sink.written c.ready.new.sink) c.loop-turn.text c.ready.new.text before mid after stands ready) in
    Told-weaker (g.R.Source.left c.args.source.now) (g.R.Source.left c.ready.new.source) ready (λ before after stands. stands.takes)

pub returns-in-Err-hand_on_much-clause-comes : goal.returns-in-Err-hand_on_much-clause-comes
returns-in-Err-hand_on_much-clause-comes g c =
    let later = c.args.turns - (c.loop-turn._turn + 1) in
    let left : c.args.turns - c.loop-turn._turn ≡ suc (c.args.turns - (c.loop-turn._turn + 1)) = omega arith in
    let ready : Told (g.R.Source.left c.args.source.now) (g.R.Source.left c.ready.new.source) (λ before.
    Stands c.args.own.now c.args.pick (λ records. go_by g.E.Advance.engine (g.E.Advance.advance c.args.own.now.model) c.args.own.now c.args.turns records (g.E.Advance.state c.args.engine.now)) (λ records. go_by g.E.Advance.engine (g.E.Advance.advance c.args.own.now.model) c.args.own.now (suc (c.args.turns - (c.loop-turn._turn + 1))) records (g.E.Advance.state c.loop-turn.engine))
    (to_give c.args.own.now c.args.reader.now before) c.args.reader.now c.ready.new.reader c.ready.new.head (g.W.Sink.written c.args.sink.now) (g.W.Sink.written c.ready.new.sink) c.ready.new.text before) =
    Told-then (g.R.Source.left c.args.source.now) (g.R.Source.left c.loop-turn.source) (g.R.Source.left c.ready.new.source) (rw left at c.loop-turn.invariant.stands) c.in_default.ensures.ready
    (λ before mid after stands ready.
    stands-ready c.args.own.now c.args.pick (λ records. go_by g.E.Advance.engine (g.E.Advance.advance c.args.own.now.model) c.args.own.now c.args.turns records (g.E.Advance.state c.args.engine.now)) (λ records. go_by g.E.Advance.engine (g.E.Advance.advance c.args.own.now.model) c.args.own.now (suc later) records (g.E.Advance.state c.loop-turn.engine)) refl (to_give c.args.own.now c.args.reader.now before) c.args.reader.now c.loop-turn.reader c.ready.new.reader c.loop-turn.head c.ready.new.head
    (g.W.Sink.written c.args.sink.now) (g.W.Sink.written c.loop-turn.sink) (g.W.Sink.written c.ready.new.sink) c.loop-turn.text c.ready.new.text before mid after stands ready) in
    let turned : Turns g.E.Advance.engine (g.E.Advance.advance c.args.own.now.model) c.args.own.now c.args.pick (g.E.Advance.state c.loop-turn.engine) (record_of c.ready.new.head) (g.E.Advance.state c.turn-in-loop-turn.new.engine) c.ready.new.text c.turn-in-loop-turn.new.text (Turned c.in-Turned.took_input) =
    rw c.in-Turned.is at c.in-Ok.ensures.turns in
    let after_turn : Told (g.R.Source.left c.args.source.now) (g.R.Source.left c.ready.new.source) (λ before.
    Stands c.args.own.now c.args.pick (λ records. go_by g.E.Advance.engine (g.E.Advance.advance c.args.own.now.model) c.args.own.now c.args.turns records (g.E.Advance.state c.args.engine.now)) (λ records. go_by g.E.Advance.engine (g.E.Advance.advance c.args.own.now.model) c.args.own.now (c.args.turns - (c.loop-turn._turn + 1)) records (g.E.Advance.state c.turn-in-loop-turn.new.engine))
    (to_give c.args.own.now c.args.reader.now before) c.args.reader.now c.ready.new.reader (passed c.ready.new.head c.in-Turned.took_input) (g.W.Sink.written c.args.sink.now) (g.W.Sink.written c.ready.new.sink) c.turn-in-loop-turn.new.text before) =
    Told-weaker (g.R.Source.left c.args.source.now) (g.R.Source.left c.ready.new.source) ready
    (λ before after stands.
    stands-turned c.args.own.now c.args.pick (λ records. go_by g.E.Advance.engine (g.E.Advance.advance c.args.own.now.model) c.args.own.now c.args.turns records (g.E.Advance.state c.args.engine.now)) g.E.Advance.engine (g.E.Advance.advance c.args.own.now.model) later (g.E.Advance.state c.loop-turn.engine) c.args.reader.now c.ready.new.reader (to_give c.args.own.now c.args.reader.now before) c.ready.new.head (g.E.Advance.state c.turn-in-loop-turn.new.engine) c.in-Turned.took_input
    (g.W.Sink.written c.args.sink.now) (g.W.Sink.written c.ready.new.sink) c.ready.new.text c.turn-in-loop-turn.new.text before after stands c.in_default.ensures.known turned) in
    Told-weaker (g.R.Source.left c.args.source.now) (g.R.Source.left c.ready.new.source) after_turn
    (λ before after stands.
    comes-unwritten c.args.own.now c.args.pick (λ records. go_by g.E.Advance.engine (g.E.Advance.advance c.args.own.now.model) c.args.own.now c.args.turns records (g.E.Advance.state c.args.engine.now)) (to_give c.args.own.now c.args.reader.now before) c.args.reader.now c.ready.new.reader (g.W.Sink.written c.args.sink.now) (g.W.Sink.written c.ready.new.sink) (g.W.Sink.written c.hand_on_much.new.sink) before
    (λ records. go_by g.E.Advance.engine (g.E.Advance.advance c.args.own.now.model) c.args.own.now later records (g.E.Advance.state c.turn-in-loop-turn.new.engine)) (g.E.Advance.engine (g.E.Advance.state c.turn-in-loop-turn.new.engine)) after (passed c.ready.new.head c.in-Turned.took_input) c.turn-in-loop-turn.new.text
    c.in-Err-hand_on_much.cut (Err c.in-Err-hand_on_much.cut) refl stands c.in-Err-hand_on_much.ensures.front c.in-Err-hand_on_much.ensures.no_read)

pub returns-in-Err-hand_on_much-clause-taken : goal.returns-in-Err-hand_on_much-clause-taken
returns-in-Err-hand_on_much-clause-taken g c =
    let later = c.args.turns - (c.loop-turn._turn + 1) in
    let left : c.args.turns - c.loop-turn._turn ≡ suc (c.args.turns - (c.loop-turn._turn + 1)) = omega arith in
    let ready : Told (g.R.Source.left c.args.source.now) (g.R.Source.left c.ready.new.source) (λ before.
    Stands c.args.own.now c.args.pick (λ records. go_by g.E.Advance.engine (g.E.Advance.advance c.args.own.now.model) c.args.own.now c.args.turns records (g.E.Advance.state c.args.engine.now)) (λ records. go_by g.E.Advance.engine (g.E.Advance.advance c.args.own.now.model) c.args.own.now (suc (c.args.turns - (c.loop-turn._turn + 1))) records (g.E.Advance.state c.loop-turn.engine))
    (to_give c.args.own.now c.args.reader.now before) c.args.reader.now c.ready.new.reader c.ready.new.head (g.W.Sink.written c.args.sink.now) (g.W.Sink.written c.ready.new.sink) c.ready.new.text before) =
    Told-then (g.R.Source.left c.args.source.now) (g.R.Source.left c.loop-turn.source) (g.R.Source.left c.ready.new.source) (rw left at c.loop-turn.invariant.stands) c.in_default.ensures.ready
    (λ before mid after stands ready.
    stands-ready c.args.own.now c.args.pick (λ records. go_by g.E.Advance.engine (g.E.Advance.advance c.args.own.now.model) c.args.own.now c.args.turns records (g.E.Advance.state c.args.engine.now)) (λ records. go_by g.E.Advance.engine (g.E.Advance.advance c.args.own.now.model) c.args.own.now (suc later) records (g.E.Advance.state c.loop-turn.engine)) refl (to_give c.args.own.now c.args.reader.now before) c.args.reader.now c.loop-turn.reader c.ready.new.reader c.loop-turn.head c.ready.new.head
    (g.W.Sink.written c.args.sink.now) (g.W.Sink.written c.loop-turn.sink) (g.W.Sink.written c.ready.new.sink) c.loop-turn.text c.ready.new.text before mid after stands ready) in
    Told-weaker (g.R.Source.left c.args.source.now) (g.R.Source.left c.ready.new.source) ready (λ before after stands. stands.takes)

pub loop-turn-preserved : goal.loop-turn-preserved
loop-turn-preserved g c =
    let later = c.args.turns - (c.loop-turn._turn + 1) in
    let left : c.args.turns - c.loop-turn._turn ≡ suc (c.args.turns - (c.loop-turn._turn + 1)) = omega arith in
    let ready : Told (g.R.Source.left c.args.source.now) (g.R.Source.left c.ready.new.source) (λ before.
    Stands c.args.own.now c.args.pick (λ records. go_by g.E.Advance.engine (g.E.Advance.advance c.args.own.now.model) c.args.own.now c.args.turns records (g.E.Advance.state c.args.engine.now)) (λ records. go_by g.E.Advance.engine (g.E.Advance.advance c.args.own.now.model) c.args.own.now (suc (c.args.turns - (c.loop-turn._turn + 1))) records (g.E.Advance.state c.loop-turn.engine))
    (to_give c.args.own.now c.args.reader.now before) c.args.reader.now c.ready.new.reader c.ready.new.head (g.W.Sink.written c.args.sink.now) (g.W.Sink.written c.ready.new.sink) c.ready.new.text before) =
    Told-then (g.R.Source.left c.args.source.now) (g.R.Source.left c.loop-turn.source) (g.R.Source.left c.ready.new.source) (rw left at c.loop-turn.invariant.stands) c.in_default.ensures.ready
    (λ before mid after stands ready.
    stands-ready c.args.own.now c.args.pick (λ records. go_by g.E.Advance.engine (g.E.Advance.advance c.args.own.now.model) c.args.own.now c.args.turns records (g.E.Advance.state c.args.engine.now)) (λ records. go_by g.E.Advance.engine (g.E.Advance.advance c.args.own.now.model) c.args.own.now (suc later) records (g.E.Advance.state c.loop-turn.engine)) refl (to_give c.args.own.now c.args.reader.now before) c.args.reader.now c.loop-turn.reader c.ready.new.reader c.loop-turn.head c.ready.new.head
    (g.W.Sink.written c.args.sink.now) (g.W.Sink.written c.loop-turn.sink) (g.W.Sink.written c.ready.new.sink) c.loop-turn.text c.ready.new.text before mid after stands ready) in
    let turned : Turns g.E.Advance.engine (g.E.Advance.advance c.args.own.now.model) c.args.own.now c.args.pick (g.E.Advance.state c.loop-turn.engine) (record_of c.ready.new.head) (g.E.Advance.state c.turn-in-loop-turn.new.engine) c.ready.new.text c.turn-in-loop-turn.new.text (Turned c.in-Turned.took_input) =
    rw c.in-Turned.is at c.in-Ok.ensures.turns in
    let after_turn : Told (g.R.Source.left c.args.source.now) (g.R.Source.left c.ready.new.source) (λ before.
    Stands c.args.own.now c.args.pick (λ records. go_by g.E.Advance.engine (g.E.Advance.advance c.args.own.now.model) c.args.own.now c.args.turns records (g.E.Advance.state c.args.engine.now)) (λ records. go_by g.E.Advance.engine (g.E.Advance.advance c.args.own.now.model) c.args.own.now (c.args.turns - (c.loop-turn._turn + 1)) records (g.E.Advance.state c.turn-in-loop-turn.new.engine))
    (to_give c.args.own.now c.args.reader.now before) c.args.reader.now c.ready.new.reader (passed c.ready.new.head c.in-Turned.took_input) (g.W.Sink.written c.args.sink.now) (g.W.Sink.written c.ready.new.sink) c.turn-in-loop-turn.new.text before) =
    Told-weaker (g.R.Source.left c.args.source.now) (g.R.Source.left c.ready.new.source) ready
    (λ before after stands.
    stands-turned c.args.own.now c.args.pick (λ records. go_by g.E.Advance.engine (g.E.Advance.advance c.args.own.now.model) c.args.own.now c.args.turns records (g.E.Advance.state c.args.engine.now)) g.E.Advance.engine (g.E.Advance.advance c.args.own.now.model) later (g.E.Advance.state c.loop-turn.engine) c.args.reader.now c.ready.new.reader (to_give c.args.own.now c.args.reader.now before) c.ready.new.head (g.E.Advance.state c.turn-in-loop-turn.new.engine) c.in-Turned.took_input
    (g.W.Sink.written c.args.sink.now) (g.W.Sink.written c.ready.new.sink) c.ready.new.text c.turn-in-loop-turn.new.text before after stands c.in_default.ensures.known turned) in
    let next : IsNext (g.E.Advance.engine (g.E.Advance.state c.loop-turn.engine)) (g.E.Advance.engine (g.E.Advance.state c.turn-in-loop-turn.new.engine)) (record_of c.ready.new.head) c.in-Turned.took_input = rw c.in-Turned.is at c.in-Ok.ensures.readies in
    let bears : g.E.Advance.born c.turn-in-loop-turn.new.engine ≤ g.E.Advance.born c.loop-turn.engine + 2 ^ 33 = rw c.in-Turned.is at c.in-Ok.ensures.births in
    record {
      stands = Told-weaker (g.R.Source.left c.args.source.now) (g.R.Source.left c.ready.new.source) after_turn
          (λ before after stands.
          stands-handed c.args.own.now c.args.pick (λ records. go_by g.E.Advance.engine (g.E.Advance.advance c.args.own.now.model) c.args.own.now c.args.turns records (g.E.Advance.state c.args.engine.now)) (λ records. go_by g.E.Advance.engine (g.E.Advance.advance c.args.own.now.model) c.args.own.now (c.args.turns - (c.loop-turn._turn + 1)) records (g.E.Advance.state c.turn-in-loop-turn.new.engine))
          (to_give c.args.own.now c.args.reader.now before) c.args.reader.now c.ready.new.reader c.pass.new.self (g.W.Sink.written c.args.sink.now) (g.W.Sink.written c.ready.new.sink) (g.W.Sink.written c.hand_on_much.new.sink) c.turn-in-loop-turn.new.text c.hand_on_much.new.text before after
          (subst (λ head. Stands c.args.own.now c.args.pick (λ records. go_by g.E.Advance.engine (g.E.Advance.advance c.args.own.now.model) c.args.own.now c.args.turns records (g.E.Advance.state c.args.engine.now)) (λ records. go_by g.E.Advance.engine (g.E.Advance.advance c.args.own.now.model) c.args.own.now (c.args.turns - (c.loop-turn._turn + 1)) records (g.E.Advance.state c.turn-in-loop-turn.new.engine))
          (to_give c.args.own.now c.args.reader.now before) c.args.reader.now c.ready.new.reader head (g.W.Sink.written c.args.sink.now) (g.W.Sink.written c.ready.new.sink) c.turn-in-loop-turn.new.text before after) (sym c.pass.ensures) stands) c.in_default-hand_on_much.ensures.handed);
      waits = subst (Waits c.args.own.now (g.E.Advance.engine (g.E.Advance.state c.turn-in-loop-turn.new.engine)).time c.ready.new.reader) (sym c.pass.ensures)
          (waits-passed c.args.own.now (g.E.Advance.engine (g.E.Advance.state c.loop-turn.engine)).time (g.E.Advance.engine (g.E.Advance.state c.turn-in-loop-turn.new.engine)) c.ready.new.reader c.ready.new.head c.in-Turned.took_input
          (c.in_default.ensures.waits (g.E.Advance.engine (g.E.Advance.state c.loop-turn.engine)).time c.loop-turn.invariant.waits) c.in_default.ensures.known next.turned.timely);
      root = next.root (top_number c.args.own.now.model) c.loop-turn.invariant.root;
      program = c.turn-in-loop-turn.ensures.program ∙ c.loop-turn.invariant.program;
      kept = c.turn-in-loop-turn.ensures.program ∙ c.loop-turn.invariant.kept;
      fresh = next.fresh;
      bounded = omega (arith, next.turned.counted, c.loop-turn.invariant.bounded);
      births = omega (arith, bears, c.loop-turn.invariant.births);
      reads_counted = omega (arith, c.loop-turn.invariant.reads_counted, c.in_default.ensures.reads_counted);
      writes_counted = omega (arith, c.loop-turn.invariant.writes_counted, c.in_default.ensures.writes_counted, c.in_default-hand_on_much.ensures.counted);
      idle = λ same. absurd (omega (arith, same));
      empty = c.in-Ok.ensures.emptied;
    }

pub returns-clause-comes : goal.returns-clause-comes
returns-clause-comes g c =
    let zero : c.args.turns - c.loop-turn._turn ≡ 0 = omega (arith, c.loop-turn-test.false) in
    Told-weaker (g.R.Source.left c.args.source.now) (g.R.Source.left c.loop-turn.source) c.loop-turn.invariant.stands
    (λ before after stands.
    comes-bound c.args.own.now c.args.pick (λ records. go_by g.E.Advance.engine (g.E.Advance.advance c.args.own.now.model) c.args.own.now c.args.turns records (g.E.Advance.state c.args.engine.now)) (to_give c.args.own.now c.args.reader.now before) c.args.reader.now c.loop-turn.reader (g.W.Sink.written c.args.sink.now) (g.W.Sink.written c.loop-turn.sink) (g.W.Sink.written c.finish.new.sink) before
    (λ records. go_by g.E.Advance.engine (g.E.Advance.advance c.args.own.now.model) c.args.own.now (c.args.turns - c.loop-turn._turn) records (g.E.Advance.state c.loop-turn.engine)) (g.E.Advance.engine (g.E.Advance.state c.loop-turn.engine)) c.loop-turn.head c.turn-2.result c.time-2.result c.loop-turn.text after stands
    (λ records. ap (λ left. go_by g.E.Advance.engine (g.E.Advance.advance c.args.own.now.model) c.args.own.now left records (g.E.Advance.state c.loop-turn.engine)) zero) c.turn-2.ensures c.time-2.ensures c.finish.result c.finish.ensures.ok c.finish.ensures.front c.finish.ensures.no_read)

pub turn-requires-in-loop-turn-clause-comes : goal.turn-requires-in-loop-turn-clause-comes
turn-requires-in-loop-turn-clause-comes g c =
    waits-comes c.args.own.now (g.E.Advance.engine (g.E.Advance.state c.loop-turn.engine)).time c.ready.new.reader c.ready.new.head (c.in_default.ensures.waits (g.E.Advance.engine (g.E.Advance.state c.loop-turn.engine)).time c.loop-turn.invariant.waits)

pub turn-requires-in-loop-turn-clause-late : goal.turn-requires-in-loop-turn-clause-late
turn-requires-in-loop-turn-clause-late g c =
    waits-late c.args.own.now (g.E.Advance.engine (g.E.Advance.state c.loop-turn.engine)).time c.ready.new.reader c.ready.new.head (c.in_default.ensures.waits (g.E.Advance.engine (g.E.Advance.state c.loop-turn.engine)).time c.loop-turn.invariant.waits)

pub turn-requires-in-loop-turn-clause-births : goal.turn-requires-in-loop-turn-clause-births
turn-requires-in-loop-turn-clause-births g c = omega (arith, c.loop-turn.invariant.births, c.loop-turn-test.true, c.requires.few)
