use Rattle.dsde_sound_runs.specs.given.system.Program.{system}
use Rattle.dsde_cli.proofs.Delivering.{run-delivered}
use Rattle.dsde_cli.proofs.delivery_laws.runs_are_delivered.Goals as goal

pub returns : goal.returns
returns c model records turns shaped =
    run-delivered c.turns_are_delivered.ensures c.trees_are_named.ensures.start c.trees_are_named.ensures.turn c.turns_move_one_by_one.ensures (system model) (c.models_name_parts.ensures model shaped) records turns
