use Rattle.std.proofs.Common.{Ok, Err, refl, ap, subst, ◌∙◌}
use Rattle.dsde_syntax.specs.declared.decl.Model.{Model}
use Rattle.dsde_image_rows.specs.given.system.Program.{system}
use Rattle.dsde_sim_tree.specs.Told as turn
use Rattle.dsde_sim_tree.specs.Turn as turning
use Rattle.dsde_trace.specs.declared.count.Summary.{Summary}
use Rattle.dsde_trace.specs.Count.{counts_from, none_counted}
use Rattle.dsde_run.proofs.CountEnding.{counts-started, counts-unstarted}
use Rattle.dsde_run.proofs.count.count_run.Goals as goal

pub returns-in-Ok-count_turns-clause-counts : goal.returns-in-Ok-count_turns-clause-counts
returns-in-Ok-count_turns-clause-counts c =
    counts-started c.args.own.now c.args.turns c.in-Ok.core.engine c.new-events.result c.start-started.new.events c.count_events.new.summary
    (record { summary = c.count_turns.new.summary; how = c.in-Ok-count_turns.ending.how; turns = c.in-Ok-count_turns.ending.turns; time = c.in-Ok-count_turns.ending.time }) c.new-events.ensures
    (subst (λ (m : Model). turn.Tells (turning.start (system m)) c.new-events.result c.start-started.new.events (Ok c.in-Ok.core.engine)) c.program.ensures c.in-Ok.ensures.ok)
    (c.count_events.ensures.counted ∙ ap (λ (summary : Summary). counts_from summary c.as_slice.result.now) c.none_counted-summary.ensures ∙ ap (counts_from none_counted) c.as_slice.ensures)
    c.in-Ok-count_turns.ensures.counts

pub returns-in-Ok-finish_of-clause-counts : goal.returns-in-Ok-finish_of-clause-counts
returns-in-Ok-finish_of-clause-counts c =
    counts-unstarted c.args.own.now c.args.turns c.new-events.result c.start-started.new.events c.in-Err.end
    (record { summary = c.count_events.new.summary; how = c.in-Ok-finish_of.how; turns = 0; time = 0 }) c.new-events.ensures
    (subst (λ (m : Model). turn.Tells (turning.start (system m)) c.new-events.result c.start-started.new.events (Err c.in-Err.end)) c.program.ensures c.in-Err.ensures.err)
    c.in-Ok-finish_of.ensures.fault refl refl
    (c.count_events.ensures.counted ∙ ap (λ (summary : Summary). counts_from summary c.as_slice.result.now) c.none_counted-summary.ensures ∙ ap (counts_from none_counted) c.as_slice.ensures)
