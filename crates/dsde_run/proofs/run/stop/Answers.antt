use Rattle.dsde_run.proofs.RunEnding.{front-stopped}
use Rattle.dsde_run.proofs.run.stop.Goals as goal

pub returns-in-Ok-clause-front : goal.returns-in-Ok-clause-front
returns-in-Ok-clause-front g c =
    front-stopped c.args.own.now c.args.why c.in-Ok.how c.args.turns c.args.time c.args.text.now (g.W.Sink.written c.args.sink.now) (g.W.Sink.written c.finish.new.sink) c.finish.result
    c.in-Ok.ensures.end c.finish.ensures.front
