use Rattle.std.proofs.Common.{inl}
use Rattle.dsde_cli_status.proofs.NoteLemmas.{front-nothing, gains-nothing}
use Rattle.dsde_cli_status.proofs.note.report.Goals as goal

pub returns-in-Done-clause-noted : goal.returns-in-Done-clause-noted
returns-in-Done-clause-noted g c = λ not. inl (gains-nothing (g.E.Sink.written c.args.notes.now))

pub returns-in-Done-clause-noted_front : goal.returns-in-Done-clause-noted_front
returns-in-Done-clause-noted_front g c = front-nothing (g.E.Sink.written c.args.notes.now)
