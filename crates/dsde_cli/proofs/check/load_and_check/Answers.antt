use Rattle.dsde_cli.specs.Answer.{Answers, answer_of}
use Rattle.dsde_cli.proofs.Completing.{check-completes, none-checked}
use Rattle.dsde_cli.proofs.Loads.{answers-cut, check_cut, check_unrefused, refusal_tells, told_same}
use Rattle.dsde_cli.proofs.check.load_and_check.Goals as goal

pub returns-in-Err-clause-checks : goal.returns-in-Err-clause-checks
returns-in-Err-clause-checks g c = λ model holds.
    let written = g.W.Sink.written c.args.out.now in
    let cut = check_cut c.one_verdict.ensures c.args.name.now (g.F.Shelf.held c.args.shelf.now) _ c.in-Err.status model c.in-Err.ensures.none holds in
    told_same written (λ before. Answers (answer_of c.args.print model) before written c.in-Err.status)
    (λ before told. answers-cut (answer_of c.args.print model) before written c.in-Err.status cut told)

pub returns-in-Ok-clause-refused : goal.returns-in-Ok-clause-refused
returns-in-Ok-clause-refused g c = λ kind line column has.
    absurd (check_unrefused c.one_verdict.ensures c.args.name.now (g.F.Shelf.held c.args.shelf.now) kind line column c.in-Ok.ensures.accepted has)

pub returns-in-Err-clause-refused : goal.returns-in-Err-clause-refused
returns-in-Err-clause-refused g c = λ kind line column has.
    refusal_tells c.one_verdict.ensures c.args.name.now (g.F.Shelf.held c.args.shelf.now) _ c.in-Err.status kind line column c.in-Err.ensures.none has

pub returns-in-Ok-clause-complete : goal.returns-in-Ok-clause-complete
returns-in-Ok-clause-complete g c = λ model holds shelf sink. check-completes _ c.write_answer.result c.write_answer.ensures.cause sink

pub returns-in-Err-clause-complete : goal.returns-in-Err-clause-complete
returns-in-Err-clause-complete g c = λ model holds shelf sink.
    none-checked c.args.name.now (g.F.Shelf.held c.args.shelf.now) _ c.in-Err.status c.in-Err.ensures.none
    (check_cut c.one_verdict.ensures c.args.name.now (g.F.Shelf.held c.args.shelf.now) _ c.in-Err.status model c.in-Err.ensures.none holds) shelf
