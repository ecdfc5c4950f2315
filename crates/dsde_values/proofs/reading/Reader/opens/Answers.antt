use Rattle.dsde_values.proofs.Fronts.{opened}
use Rattle.dsde_values.proofs.reading.Reader.opens.Goals as goal

pub returns-then-takes : goal.returns-then-takes
returns-then-takes c =
    opened c.args.name.now c.args.mark.now c.args.self.now c.takes.new.self c.takes-then-takes.new.self c.takes-then-takes.result c.if-takes.ensures c.takes-then-takes.ensures
