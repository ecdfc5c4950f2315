use Rattle.dsde_sound_runs.proofs.Arriving.{inputs-arrive}
use Rattle.dsde_sound_runs.proofs.laws.inputs_arrive.Goals as goal

pub returns : goal.returns
returns c = λ model bytes right.
    inputs-arrive c.record_is_spelled.ensures c.types_are_lawful.ensures c.ports_are_lawful.ensures c.top_is_declared.ensures c.bodies_stand.ensures model right bytes
