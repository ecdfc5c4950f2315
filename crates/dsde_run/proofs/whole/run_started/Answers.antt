use Rattle.std.proofs.lemmas.Result.{IfOk-weaker}
use Rattle.std.proofs.Common.{[], Err, subst, ◌∙◌}
use Rattle.dsde_input.specs.Reader.{Reader}
use Rattle.dsde_run.specs.declared.run.Cut.TheVariants as cut
use Rattle.dsde_run_meaning.specs.Run.{unstarted}
use Rattle.dsde_run.specs.Run.{run_by, go_by, records_in, kept_text}
use Rattle.dsde_run.specs.Reading.{TakesWanted, Comes, ComesWhole}
use Rattle.dsde_run.specs.Steps.{Begins, to_give}
use Rattle.dsde_run.proofs.Handing.{IsFront-none}
use Rattle.dsde_run.proofs.Tolds.{Told-same, Told-weaker}
use Rattle.dsde_run.proofs.Starting.{GoesOn-start, comes-behind, wanted-behind, front-start, front-mid, whole-stands, comes-unstarted, comes-short, unstarted-not_quiet, unstarted-not_read}
use Rattle.dsde_run.proofs.whole.run_started.Goals as goal

pub returns-in-Err-clause-comes : goal.returns-in-Err-clause-comes
returns-in-Err-clause-comes g c = λ begins is.
    Told-same (g.R.Source.left c.args.source.now) (λ before after. ComesWhole c.args.own.now c.args.pick (λ records. run_by g.E.Advance.engine (g.E.Advance.advance c.args.own.now.model) begins c.args.own.now records c.args.turns) (records_in c.args.own.now before) (g.W.Sink.written c.args.sink.now) (g.W.Sink.written c.args.sink.now) (Err cut.Memory) before after)
    (λ bytes. (unstarted, IsFront-none (g.W.Sink.written c.args.sink.now) (kept_text c.args.own.now c.args.pick (run_by g.E.Advance.engine (g.E.Advance.advance c.args.own.now.model) begins c.args.own.now (records_in c.args.own.now bytes) c.args.turns).events)))

pub returns-in-Err-hand_on-clause-comes : goal.returns-in-Err-hand_on-clause-comes
returns-in-Err-hand_on-clause-comes g c = λ begins is.
    Told-same (g.R.Source.left c.args.source.now) (λ before after. ComesWhole c.args.own.now c.args.pick (λ records. run_by g.E.Advance.engine (g.E.Advance.advance c.args.own.now.model) begins c.args.own.now records c.args.turns) (records_in c.args.own.now before) (g.W.Sink.written c.args.sink.now) (g.W.Sink.written c.hand_on.new.sink) (Err c.in-Err-hand_on.cut) before after)
    (λ bytes. comes-short c.args.own.now c.args.pick (λ records. run_by g.E.Advance.engine (g.E.Advance.advance c.args.own.now.model) begins c.args.own.now records c.args.turns) (records_in c.args.own.now bytes) (g.W.Sink.written c.args.sink.now) (g.W.Sink.written c.hand_on.new.sink) c.in-Err-hand_on.cut bytes bytes c.in-Err-hand_on.ensures.no_read
    (front-start g.E.Advance.engine (g.E.Advance.advance c.args.own.now.model) begins c.args.own.now c.args.pick c.args.turns (g.E.Advance.state c.in-Ok.engine) c.args.events.now c.new-text.result c.write_events.new.text (g.W.Sink.written c.args.sink.now) (g.W.Sink.written c.hand_on.new.sink)
    (subst (Begins g.E.Advance.state begins c.args.events.now) c.in-Ok.is is) c.new-text.ensures c.in_default.ensures.ok c.in-Err-hand_on.ensures.front (records_in c.args.own.now bytes)))

pub returns-in-Err-new-clause-comes : goal.returns-in-Err-new-clause-comes
returns-in-Err-new-clause-comes g c = λ begins is.
    Told-same (g.R.Source.left c.args.source.now) (λ before after. ComesWhole c.args.own.now c.args.pick (λ records. run_by g.E.Advance.engine (g.E.Advance.advance c.args.own.now.model) begins c.args.own.now records c.args.turns) (records_in c.args.own.now before) (g.W.Sink.written c.args.sink.now) (g.W.Sink.written c.hand_on.new.sink) (Err cut.Memory) before after)
    (λ bytes. (
      unstarted,
      front-mid c.args.own.now c.args.pick (λ records. run_by g.E.Advance.engine (g.E.Advance.advance c.args.own.now.model) begins c.args.own.now records c.args.turns) (λ records. go_by g.E.Advance.engine (g.E.Advance.advance c.args.own.now.model) c.args.own.now c.args.turns records (g.E.Advance.state c.in-Ok.engine)) (records_in c.args.own.now bytes) (g.W.Sink.written c.args.sink.now) (g.W.Sink.written c.hand_on.new.sink) (g.W.Sink.written c.hand_on.new.sink)
          (GoesOn-start g.E.Advance.engine (g.E.Advance.advance c.args.own.now.model) begins c.args.own.now c.args.pick c.args.turns (g.E.Advance.state c.in-Ok.engine) c.args.events.now c.new-text.result c.write_events.new.text c.hand_on.new.text (g.W.Sink.written c.args.sink.now) (g.W.Sink.written c.hand_on.new.sink)
          (subst (Begins g.E.Advance.state begins c.args.events.now) c.in-Ok.is is) c.new-text.ensures c.in_default.ensures.ok c.in_default-hand_on.ensures.handed c.in_default-hand_on.ensures.empty),
    ))

pub returns-in-Ok-clause-comes : goal.returns-in-Ok-clause-comes
returns-in-Ok-clause-comes g c = λ begins is.
    Told-weaker (g.R.Source.left c.args.source.now) (g.R.Source.left c.go-answer.new.source) c.go-answer.ensures.comes
    (λ before after comes. (
      g.E.Advance.engine (g.E.Advance.state c.go-answer.new.engine),
      comes-behind c.args.own.now c.args.pick (λ records. run_by g.E.Advance.engine (g.E.Advance.advance c.args.own.now.model) begins c.args.own.now records c.args.turns) (λ records. go_by g.E.Advance.engine (g.E.Advance.advance c.args.own.now.model) c.args.own.now c.args.turns records (g.E.Advance.state c.in-Ok.engine)) (records_in c.args.own.now before) (g.W.Sink.written c.args.sink.now) (g.W.Sink.written c.hand_on.new.sink) (g.W.Sink.written c.go-answer.new.sink)
          (GoesOn-start g.E.Advance.engine (g.E.Advance.advance c.args.own.now.model) begins c.args.own.now c.args.pick c.args.turns (g.E.Advance.state c.in-Ok.engine) c.args.events.now c.new-text.result c.write_events.new.text c.hand_on.new.text (g.W.Sink.written c.args.sink.now) (g.W.Sink.written c.hand_on.new.sink)
          (subst (Begins g.E.Advance.state begins c.args.events.now) c.in-Ok.is is) c.new-text.ensures c.in_default.ensures.ok c.in_default-hand_on.ensures.handed c.in_default-hand_on.ensures.empty)
          (g.E.Advance.engine (g.E.Advance.state c.go-answer.new.engine)) c.go-answer.result [] before after
          (subst (λ (reader : Reader). Comes c.args.own.now c.args.pick (λ records. go_by g.E.Advance.engine (g.E.Advance.advance c.args.own.now.model) c.args.own.now c.args.turns records (g.E.Advance.state c.in-Ok.engine)) (to_give c.args.own.now reader before) (g.E.Advance.engine (g.E.Advance.state c.go-answer.new.engine)) (g.W.Sink.written c.hand_on.new.sink) (g.W.Sink.written c.go-answer.new.sink) c.go-answer.result reader.held before after) c.in-Ok-new.ensures comes),
    ))

pub returns-in-Ok-clause-taken : goal.returns-in-Ok-clause-taken
returns-in-Ok-clause-taken g c = λ begins is.
    Told-weaker (g.R.Source.left c.args.source.now) (g.R.Source.left c.go-answer.new.source) c.go-answer.ensures.taken
    (λ before after takes.
    wanted-behind c.args.own.now c.args.pick (λ records. run_by g.E.Advance.engine (g.E.Advance.advance c.args.own.now.model) begins c.args.own.now records c.args.turns) (λ records. go_by g.E.Advance.engine (g.E.Advance.advance c.args.own.now.model) c.args.own.now c.args.turns records (g.E.Advance.state c.in-Ok.engine)) (records_in c.args.own.now before) (g.W.Sink.written c.args.sink.now) (g.W.Sink.written c.hand_on.new.sink) (g.W.Sink.written c.go-answer.new.sink)
    (GoesOn-start g.E.Advance.engine (g.E.Advance.advance c.args.own.now.model) begins c.args.own.now c.args.pick c.args.turns (g.E.Advance.state c.in-Ok.engine) c.args.events.now c.new-text.result c.write_events.new.text c.hand_on.new.text (g.W.Sink.written c.args.sink.now) (g.W.Sink.written c.hand_on.new.sink)
    (subst (Begins g.E.Advance.state begins c.args.events.now) c.in-Ok.is is) c.new-text.ensures c.in_default.ensures.ok c.in_default-hand_on.ensures.handed c.in_default-hand_on.ensures.empty) [] before after
    (subst (λ (reader : Reader). TakesWanted (λ records. go_by g.E.Advance.engine (g.E.Advance.advance c.args.own.now.model) c.args.own.now c.args.turns records (g.E.Advance.state c.in-Ok.engine)) (to_give c.args.own.now reader before) reader.held before after) c.in-Ok-new.ensures takes))

pub returns-clause-comes : goal.returns-clause-comes
returns-clause-comes g c = λ begins is.
    Told-same (g.R.Source.left c.args.source.now) (λ before after. ComesWhole c.args.own.now c.args.pick (λ records. run_by g.E.Advance.engine (g.E.Advance.advance c.args.own.now.model) begins c.args.own.now records c.args.turns) (records_in c.args.own.now before) (g.W.Sink.written c.args.sink.now) (g.W.Sink.written c.not_started.new.sink) c.not_started.result before after)
    (λ bytes. comes-unstarted g.E.Advance.engine (g.E.Advance.advance c.args.own.now.model) begins c.args.own.now c.args.pick c.args.turns (records_in c.args.own.now bytes) c.args.events.now c.new-text.result c.write_events.new.text (g.W.Sink.written c.args.sink.now) (g.W.Sink.written c.not_started.new.sink) bytes
    c.new-text.ensures c.in_default.ensures.ok c.in-Err-started.end c.not_started.result (subst (Begins g.E.Advance.state begins c.args.events.now) c.in-Err-started.is is) c.not_started.ensures.faulted)

pub returns-clause-quiet : goal.returns-clause-quiet
returns-clause-quiet g c = λ quiet. absurd (unstarted-not_quiet c.args.own.now c.args.pick c.in-Err-started.end c.write_events.new.text (g.W.Sink.written c.args.sink.now) (g.W.Sink.written c.not_started.new.sink) c.not_started.result c.not_started.ensures.faulted quiet)

pub returns-clause-unread : goal.returns-clause-unread
returns-clause-unread g c = λ fault. absurd (unstarted-not_read c.args.own.now c.args.pick c.in-Err-started.end c.write_events.new.text (g.W.Sink.written c.args.sink.now) (g.W.Sink.written c.not_started.new.sink) c.not_started.result c.not_started.ensures.faulted fault)

pub returns-in-Ok-clause-left : goal.returns-in-Ok-clause-left
returns-in-Ok-clause-left g c =
    let starts = rw c.in-Ok.is at c.requires.starts in
    IfOk-weaker c.go-answer.result _ _ (λ how unspent is. (c.go-answer.ensures.program ∙ starts.is_program, unspent is)) c.go-answer.ensures.unspent

pub returns-in-Ok-clause-stands : goal.returns-in-Ok-clause-stands
returns-in-Ok-clause-stands g c = λ begins is.
    whole-stands c.args.own.now c.args.pick (λ records. run_by g.E.Advance.engine (g.E.Advance.advance c.args.own.now.model) begins c.args.own.now records c.args.turns) (records_in c.args.own.now) (g.E.Advance.engine (g.E.Advance.state c.go-answer.new.engine)) (g.W.Sink.written c.args.sink.now) (g.W.Sink.written c.go-answer.new.sink)
    (g.R.Source.left c.args.source.now) (g.R.Source.left c.go-answer.new.source) c.go-answer.result
    (Told-weaker (g.R.Source.left c.args.source.now) (g.R.Source.left c.go-answer.new.source) c.go-answer.ensures.comes
    (λ before after comes.
    comes-behind c.args.own.now c.args.pick (λ records. run_by g.E.Advance.engine (g.E.Advance.advance c.args.own.now.model) begins c.args.own.now records c.args.turns) (λ records. go_by g.E.Advance.engine (g.E.Advance.advance c.args.own.now.model) c.args.own.now c.args.turns records (g.E.Advance.state c.in-Ok.engine)) (records_in c.args.own.now before) (g.W.Sink.written c.args.sink.now) (g.W.Sink.written c.hand_on.new.sink) (g.W.Sink.written c.go-answer.new.sink)
    (GoesOn-start g.E.Advance.engine (g.E.Advance.advance c.args.own.now.model) begins c.args.own.now c.args.pick c.args.turns (g.E.Advance.state c.in-Ok.engine) c.args.events.now c.new-text.result c.write_events.new.text c.hand_on.new.text (g.W.Sink.written c.args.sink.now) (g.W.Sink.written c.hand_on.new.sink)
    (subst (Begins g.E.Advance.state begins c.args.events.now) c.in-Ok.is is) c.new-text.ensures c.in_default.ensures.ok c.in_default-hand_on.ensures.handed c.in_default-hand_on.ensures.empty)
    (g.E.Advance.engine (g.E.Advance.state c.go-answer.new.engine)) c.go-answer.result [] before after
    (subst (λ (reader : Reader). Comes c.args.own.now c.args.pick (λ records. go_by g.E.Advance.engine (g.E.Advance.advance c.args.own.now.model) c.args.own.now c.args.turns records (g.E.Advance.state c.in-Ok.engine)) (to_give c.args.own.now reader before) (g.E.Advance.engine (g.E.Advance.state c.go-answer.new.engine)) (g.W.Sink.written c.hand_on.new.sink) (g.W.Sink.written c.go-answer.new.sink) c.go-answer.result reader.held before after) c.in-Ok-new.ensures comes)))
