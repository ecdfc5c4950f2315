use Rattle.dsde_run.proofs.Handing.{IsFront-none}
use Rattle.dsde_run.proofs.Starting.{starts-finished}
use Rattle.dsde_run.proofs.whole.not_started.Goals as goal

pub returns-in-Ok-clause-faulted : goal.returns-in-Ok-clause-faulted
returns-in-Ok-clause-faulted g c =
    starts-finished c.args.own.now c.args.pick c.args.end c.in-Ok.how c.args.text.now (g.W.Sink.written c.args.sink.now) (g.W.Sink.written c.finish.new.sink) c.in-Ok.ensures.fault c.in-Ok.ensures.not_whole
    c.finish.result c.finish.ensures.ok c.finish.ensures.front c.finish.ensures.no_read

pub returns-in-Err-clause-faulted : goal.returns-in-Err-clause-faulted
returns-in-Err-clause-faulted g c = IsFront-none (g.W.Sink.written c.args.sink.now) _
