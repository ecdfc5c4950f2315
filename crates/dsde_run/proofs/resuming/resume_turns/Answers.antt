use Rattle.std.proofs.Common.{◌≡◌, true, sym, ◌∙◌}
use Rattle.std.specs.Prelude.{is_some}
use Rattle.dsde_run.specs.Ends.{answer_of}
use Rattle.dsde_run.specs.Reading.{IsWhole}
use Rattle.dsde_run.proofs.ResumeEnding.{ends-back, stays-fresh, turns-quiet}
use Rattle.dsde_run.proofs.Joined.{told-back, told-quiet, told-skipped, told-stopped, told-taken}
use Rattle.dsde_run.proofs.resuming.resume_turns.Goals as goal

pub returns-in-Ok-clause-comes : goal.returns-in-Ok-clause-comes
returns-in-Ok-clause-comes g c =
    rw c.answered.ensures
    (told-back c.args.own.now c.args.core.now.engine c.ins.result.now c.types.result.now c.taken.result c.time.result c.ins.ensures.value c.types.ensures.value c.taken.ensures.value c.time.ensures c.args.pick c.args.turns (g.R.Source.left c.args.source.now) (g.R.Source.left c.skip-skipped.new.source)
    (g.R.Source.left c.run_turns.new.source) c.in-Ok.reader c.in-Ok.ensures.behind
    c.run_turns.new.engine.engine (g.W.Sink.written c.args.sink.now) (g.W.Sink.written c.run_turns.new.sink) (answer_of c.run_turns.result) c.run_turns.ensures.comes)

pub returns-in-Ok-clause-taken : goal.returns-in-Ok-clause-taken
returns-in-Ok-clause-taken g c =
    told-taken c.args.own.now c.args.core.now.engine c.ins.result.now c.types.result.now c.taken.result c.time.result c.ins.ensures.value c.types.ensures.value c.taken.ensures.value c.time.ensures c.args.pick c.args.turns (g.R.Source.left c.args.source.now) (g.R.Source.left c.skip-skipped.new.source)
    (g.R.Source.left c.run_turns.new.source) c.in-Ok.reader c.in-Ok.ensures.behind
    c.in-Ok.ensures.taken c.run_turns.ensures.taken

pub returns-in-Ok-clause-quiet : goal.returns-in-Ok-clause-quiet
returns-in-Ok-clause-quiet g c = λ quiet.
    told-quiet c.args.own.now c.args.core.now.engine c.ins.result.now c.types.result.now c.taken.result c.time.result c.ins.ensures.value c.types.ensures.value c.taken.ensures.value c.time.ensures c.args.pick c.args.turns (g.R.Source.left c.args.source.now) (g.R.Source.left c.skip-skipped.new.source)
    (g.R.Source.left c.run_turns.new.source) c.in-Ok.reader c.in-Ok.ensures.behind
    c.run_turns.ensures.taken (λ unended. c.run_turns.ensures.quiet unended (turns-quiet c.run_turns.result (sym c.answered.ensures ∙ quiet)))

pub returns-in-Ok-clause-unspent : goal.returns-in-Ok-clause-unspent
returns-in-Ok-clause-unspent g c =
    rw c.answered.ensures
    (ends-back (λ how. IsWhole how → is_some c.run_turns.new.engine.engine.tree ≡ true) (answer_of c.run_turns.result) c.run_turns.ensures.unspent)

pub returns-in-Ok-clause-idle : goal.returns-in-Ok-clause-idle
returns-in-Ok-clause-idle g c = λ none no_turns. (c.run_turns.ensures.idle no_turns).0 ∙ c.skip-skipped.ensures.idle (c.taken.ensures.value ∙ none)

pub returns-in-Err-clause-comes : goal.returns-in-Err-clause-comes
returns-in-Err-clause-comes g c =
    rw c.stopped.ensures
    (told-stopped c.args.own.now c.args.core.now.engine c.ins.result.now c.types.result.now c.taken.result c.time.result c.ins.ensures.value c.types.ensures.value c.taken.ensures.value c.time.ensures c.args.pick c.args.turns (g.R.Source.left c.args.source.now) (g.R.Source.left c.skip-skipped.new.source)
    c.in-Err.why (g.W.Sink.written c.args.sink.now) c.in-Err.ensures.stopped)

pub returns-in-Err-clause-taken : goal.returns-in-Err-clause-taken
returns-in-Err-clause-taken g c =
    told-skipped c.args.own.now c.args.core.now.engine c.ins.result.now c.types.result.now c.taken.result c.time.result c.ins.ensures.value c.types.ensures.value c.taken.ensures.value c.time.ensures c.args.pick c.args.turns (g.R.Source.left c.args.source.now) (g.R.Source.left c.skip-skipped.new.source)
    c.in-Err.ensures.taken

pub returns-in-Err-clause-unspent : goal.returns-in-Err-clause-unspent
returns-in-Err-clause-unspent g c = stays-fresh c.stopped.result (is_some c.args.core.now.engine.tree) c.requires.fresh

pub returns-in-Err-clause-idle : goal.returns-in-Err-clause-idle
returns-in-Err-clause-idle g c = λ none no_turns. c.skip-skipped.ensures.idle (c.taken.ensures.value ∙ none)
