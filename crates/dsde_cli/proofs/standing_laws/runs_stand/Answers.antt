use Rattle.std.proofs.Common.{None}
use Rattle.dsde_language.specs.DeclaredModels.{top_ins, types_of}
use Rattle.dsde_input_records.specs.Lines.{lines}
use Rattle.dsde_sound_runs.specs.given.run_meaning.Run.{records_in}
use Rattle.dsde_cli.proofs.Running.{run-stands}
use Rattle.dsde_cli.proofs.standing_laws.runs_stand.Goals as goal

pub returns : goal.returns
returns c = λ model spots bytes turns more right can.
    run-stands model (record {
      right = right;
      forward = c.programs_lead_on.ensures model;
      names = c.models_name_parts.ensures model right.shaped;
      start_fits = c.engines_fit.ensures.start;
      advance_fits = c.engines_fit.ensures.advance;
      start_stands = c.trees_stand.ensures.start;
      advance_stands = c.trees_stand.ensures.advance;
      taken = c.turns_are_taken.ensures;
      in_time = c.turns_are_in_time.ensures;
      start_named = c.trees_are_named.ensures.start;
      turn_named = c.trees_are_named.ensures.turn;
      movers = c.turns_move_one_by_one.ensures;
      turn_room = c.room_is_kept.ensures.turn;
      start_room = c.room_is_kept.ensures.start;
    }) spots (records_in (top_ins model) (types_of model) bytes) turns more (c.inputs_arrive.ensures model bytes right)
    (c.records_come_in_order.ensures (top_ins model) (types_of model) 0 (lines bytes) 0 None) can
