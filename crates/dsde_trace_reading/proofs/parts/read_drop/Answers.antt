use Rattle.std.specs.Prelude.{Some, None}
use Rattle.dsde_trace_reading.proofs.Telling.{drop-reads}
use Rattle.dsde_trace_reading.proofs.parts.read_drop.Goals as goal

pub returns-in-Some : goal.returns-in-Some
returns-in-Some c =
    λ model. drop-reads model c.args.text.now (Some (c.in-Some.path, c.in-Some.count)) (rw c.in-Some.is at c.in_ok-path.ensures)

pub returns-in-None : goal.returns-in-None
returns-in-None c =
    λ model. drop-reads model c.args.text.now None (rw c.in-None.is at c.in_ok-path.ensures)
