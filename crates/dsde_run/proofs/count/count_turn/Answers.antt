use Rattle.std.proofs.Common.{◌+◌, Err, ap, subst, ◌∙◌}
use Rattle.std.specs.Prelude.{None, unwrap_or}
use Rattle.dsde_syntax.specs.declared.decl.Model.{Model}
use Rattle.dsde_image_rows.specs.given.system.Program.{system}
use Rattle.dsde_sim_tree.specs.Told as turn
use Rattle.dsde_sim_tree.specs.Engine.{next_of}
use Rattle.dsde_sim_tree.specs.Turn as turning
use Rattle.dsde_sim_tree.specs.Turn.{turn_time}
use Rattle.dsde_trace.specs.Count.{counts_from}
use Rattle.dsde_run.proofs.CountEnding.{fault-counted}
use Rattle.dsde_run.proofs.count.count_turn.Goals as goal

pub returns-in-Ok-clause-counts : goal.returns-in-Ok-clause-counts
returns-in-Ok-clause-counts c =
    let engine = c.args.core.now.engine in
    fault-counted c.args.own.now engine c.args.events.now c.advance-step.new.events c.args.summary.now c.count_events.new.summary c.requires.empty
    (c.count_events.ensures.counted ∙ ap (counts_from c.args.summary.now) c.as_slice.ensures) c.in-Err.end c.in-Ok.how (c.turn-done.result + 1) c.unwrap_or-time.result
    (subst (λ (m : Model). turn.Tells (turning.advance (system m) c.args.core.now.engine None) c.args.events.now c.advance-step.new.events (Err c.in-Err.end)) c.requires.program c.in-Err.ensures.err)
    c.in-Ok.ensures.fault (ap (λ n. n + 1) c.turn-done.ensures)
    (c.unwrap_or-time.ensures ∙ ap (λ time. unwrap_or time c.time-last.result) c.turn_time.ensures ∙ ap (unwrap_or (turn_time (next_of c.args.core.now.engine) None)) c.time-last.ensures)
