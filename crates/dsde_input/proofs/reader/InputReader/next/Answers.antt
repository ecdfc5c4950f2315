use Rattle.dsde_input.proofs.Moving.{Tells-moved, TakesOfLine-none, line_answer, end_answer}
use Rattle.dsde_input.proofs.reader.InputReader.next.Goals as goal

pub returns-clause-records : goal.returns-clause-records
returns-clause-records g c =
    Tells-moved c.args.ports.now c.args.types.now c.args.self.now c.fill.new.self c.give.new.self
    (g.R.Source.left c.args.source.now) (g.R.Source.left c.fill.new.source) c.give.result c.in_ok-fill.ensures.moves c.give.ensures.records

pub returns-in-Some-clause-of_line : goal.returns-in-Some-clause-of_line
returns-in-Some-clause-of_line g c = TakesOfLine-none c.args.self.now (g.R.Source.left c.args.source.now)

pub returns-clause-line : goal.returns-clause-line
returns-clause-line g c =
    line_answer c.args.self.now c.fill.new.self c.give.new.self (g.R.Source.left c.args.source.now) (g.R.Source.left c.fill.new.source)
    c.give.result c.in_ok-fill.ensures.moves c.give.ensures.given c.give.ensures.line

pub returns-clause-over : goal.returns-clause-over
returns-clause-over g c =
    end_answer c.args.self.now c.fill.new.self c.give.new.self (g.R.Source.left c.args.source.now) (g.R.Source.left c.fill.new.source)
    c.give.result c.in_ok-fill.ensures.moves c.give.ensures.given
