use Rattle.std.specs.Prelude.{Some, None}
use Rattle.dsde_trace_reading.proofs.Telling.{turn-reads}
use Rattle.dsde_trace_reading.proofs.parts.read_turn.Goals as goal

pub returns-in-Some : goal.returns-in-Some
returns-in-Some c =
    λ model. turn-reads model c.args.text.now (Some (c.in-Some.number, c.in-Some.time)) c.in-Some.ensures

pub returns-in-None : goal.returns-in-None
returns-in-None c =
    λ model. turn-reads model c.args.text.now None c.in-None.ensures
