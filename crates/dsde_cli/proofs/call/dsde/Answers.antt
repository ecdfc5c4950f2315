use Rattle.std.proofs.Common.{◌≡◌, ℕ, List, Option, Some, None, [], map, string_bytes, refl, subst, sym, ap, ◌∙◌}
use Rattle.std.specs.Prelude.{IfSome}
use Rattle.dsde_io.specs.Fault.{Rose}
use Rattle.dsde_run_free.specs.given.run.Reading.{Told, TakesWanted}
use Rattle.dsde_run_free.specs.given.run.Run.{Running, run, records_in}
use Rattle.dsde_run_big.specs.Model.{big_text}
use Rattle.dsde_run_free.specs.given.run.Counting.{summary_text}
use Rattle.dsde_run_free.specs.given.run.Resumed.{records_for, resumed, resumed_on}
use Rattle.dsde_run_free.specs.given.run.SavedRuns.{image_left}
use Rattle.dsde_cli_status.specs.given.trace.pick_Pick_TheVariants.{All}
use Rattle.dsde_cli_command.specs.Commands.{BigCommand, CheckCommand, FreeCommand, ResumeCommand, RunCommand, checks, counts, draws, resumes, run_asked, runs}
use Rattle.dsde_cli.specs.Asked.{drawn_on, pick_of, tells_on}
use Rattle.dsde_cli.specs.Back.{ComesBack, IsRefusedFor, NoneSaved, Restores, SaysBack, TellsSave}
use Rattle.dsde_cli.specs.Loads.{Has}
use Rattle.dsde_cli.specs.RunOutcome.{Comes, SaysEnd}
use Rattle.dsde_cli.specs.Saved.{Leaves, Stores}
use Rattle.dsde_cli_status.specs.declared.status.SaveFault.{SaveFault}
use Rattle.dsde_cli.specs.Answer.{Answers, answer_of}
use Rattle.dsde_cli.specs.Big.{Summarizes, big_run}
use Rattle.dsde_cli.specs.Causes.{Cause, CauseResume, Holds, HoldsModel, Runs}
use Rattle.dsde_cli.specs.Loaded.{save_in, save_of, tells_free}
use Rattle.dsde_cli.specs.Outcome.{Completes, CompletesBack}
use Rattle.dsde_cli.proofs.Completing.{back-completed, check-reported, completes-reported, holds-right}
use Rattle.dsde_cli.proofs.Drawing.{end-reported, summary-reported}
use Rattle.dsde_cli.proofs.Outcomes.{answers-reported, back-reported, cause-reported, comes-reported, done-before, ends-reported, leaves-reported, no_task, other_task, refused-reported, resume-reported, same_big, same_check, same_free, same_resume, same_run, says-reported}
use Rattle.dsde_cli.proofs.call.dsde.Goals as goal
use Rattle.dsde_cli.proofs.call.dsde.Goals.{in-Some-Check, in-Some-Run, in-Some-Resume, in-Some-Big, in-Some-Free, in-None}

pub returns-clause-runs : goal.returns-clause-runs
returns-clause-runs g c = λ loaded. elim c.match-read_command.branch [
  | in-Some-Check w ↦ absurd (other_task (checks (record { model = w.in-Some-Check.model.now; print = w.in-Some-Check.print })) (runs loaded.asked.run) (λ same. cc same) ((rw w.in-Some-Check.field-0-is at w.in-Some-Check.ensures.spelled) ∙ loaded.asked.spelled))
  | in-Some-Run w ↦
      let own : RunCommand = run_asked w.in-Some-Run.run' in
      let same = same_run own loaded.asked.run ((rw w.in-Some-Run.field-0-is at w.in-Some-Run.ensures.spelled) ∙ loaded.asked.spelled) in
      let here = subst (λ (asked : RunCommand). Holds asked.model (g.F.Shelf.held c.args.shelf.now) loaded.own) (sym same) loaded.holds in
      subst (λ (asked : RunCommand). IfSome (g.R.Source.left c.args.input.now) (λ bytes. IfSome (g.W.Sink.written c.args.out.now) (λ written.
      Comes loaded.own (pick_of asked.kept) (tells_on loaded.own asked) bytes (g.R.Source.left c.match-read_command.input) written (g.W.Sink.written c.match-read_command.out) c.report.result))) same
      (rw (w.input-is, w.out-is) (comes-reported loaded.own (pick_of own.kept) (tells_on loaded.own own) (g.R.Source.left c.args.input.now) (g.R.Source.left w.load_and_run-status.new.input) (g.W.Sink.written c.args.out.now) (g.W.Sink.written w.load_and_run-status.new.out)
      w.load_and_run-status.result c.report.result (w.load_and_run-status.ensures.runs loaded.own here) (rw w.status-is at c.report.ensures.same)))
  | in-Some-Resume w ↦ absurd (other_task (resumes (record { file = w.in-Some-Resume.file.now; run = run_asked w.in-Some-Resume.run' })) (runs loaded.asked.run) (λ same. cc same) ((rw w.in-Some-Resume.field-0-is at w.in-Some-Resume.ensures.spelled) ∙ loaded.asked.spelled))
  | in-Some-Big w ↦ absurd (other_task (counts (record { seed = w.in-Some-Big.seed; turns = w.in-Some-Big.turns })) (runs loaded.asked.run) (λ same. cc same) ((rw w.in-Some-Big.field-0-is at w.in-Some-Big.ensures.spelled) ∙ loaded.asked.spelled))
  | in-Some-Free w ↦ absurd (other_task (draws (record { model = w.in-Some-Free.model.now; turns = w.in-Some-Free.turns; seed = w.in-Some-Free.seed })) (runs loaded.asked.run) (λ same. cc same) ((rw w.in-Some-Free.field-0-is at w.in-Some-Free.ensures.spelled) ∙ loaded.asked.spelled))
  | in-None w ↦ absurd (no_task (runs loaded.asked.run) (w.in-None.ensures.spelled ∙ loaded.asked.spelled))
]

pub returns-clause-ends : goal.returns-clause-ends
returns-clause-ends g c = λ loaded. elim c.match-read_command.branch [
  | in-Some-Check w ↦ absurd (other_task (checks (record { model = w.in-Some-Check.model.now; print = w.in-Some-Check.print })) (runs loaded.asked.run) (λ same. cc same) ((rw w.in-Some-Check.field-0-is at w.in-Some-Check.ensures.spelled) ∙ loaded.asked.spelled))
  | in-Some-Run w ↦
      let own : RunCommand = run_asked w.in-Some-Run.run' in
      let same = same_run own loaded.asked.run ((rw w.in-Some-Run.field-0-is at w.in-Some-Run.ensures.spelled) ∙ loaded.asked.spelled) in
      let here = subst (λ (asked : RunCommand). Holds asked.model (g.F.Shelf.held c.args.shelf.now) loaded.own) (sym same) loaded.holds in
      subst (λ (asked : RunCommand). IfSome (g.R.Source.left c.args.input.now) (λ bytes.
      SaysEnd (tells_on loaded.own asked (records_in loaded.own bytes)).end (g.R.Source.left c.match-read_command.input) c.report.result)) same
      (rw (w.input-is) (ends-reported loaded.own (tells_on loaded.own own) (g.R.Source.left c.args.input.now) (g.R.Source.left w.load_and_run-status.new.input) w.load_and_run-status.result c.report.result (w.load_and_run-status.ensures.ends loaded.own here) (rw w.status-is at c.report.ensures.same)))
  | in-Some-Resume w ↦ absurd (other_task (resumes (record { file = w.in-Some-Resume.file.now; run = run_asked w.in-Some-Resume.run' })) (runs loaded.asked.run) (λ same. cc same) ((rw w.in-Some-Resume.field-0-is at w.in-Some-Resume.ensures.spelled) ∙ loaded.asked.spelled))
  | in-Some-Big w ↦ absurd (other_task (counts (record { seed = w.in-Some-Big.seed; turns = w.in-Some-Big.turns })) (runs loaded.asked.run) (λ same. cc same) ((rw w.in-Some-Big.field-0-is at w.in-Some-Big.ensures.spelled) ∙ loaded.asked.spelled))
  | in-Some-Free w ↦ absurd (other_task (draws (record { model = w.in-Some-Free.model.now; turns = w.in-Some-Free.turns; seed = w.in-Some-Free.seed })) (runs loaded.asked.run) (λ same. cc same) ((rw w.in-Some-Free.field-0-is at w.in-Some-Free.ensures.spelled) ∙ loaded.asked.spelled))
  | in-None w ↦ absurd (no_task (runs loaded.asked.run) (w.in-None.ensures.spelled ∙ loaded.asked.spelled))
]

pub returns-clause-stored : goal.returns-clause-stored
returns-clause-stored g c = λ loaded well. elim c.match-read_command.branch [
  | in-Some-Check w ↦ absurd (other_task (checks (record { model = w.in-Some-Check.model.now; print = w.in-Some-Check.print })) (runs loaded.asked.run) (λ same. cc same) ((rw w.in-Some-Check.field-0-is at w.in-Some-Check.ensures.spelled) ∙ loaded.asked.spelled))
  | in-Some-Run w ↦
      let own : RunCommand = run_asked w.in-Some-Run.run' in
      let same = same_run own loaded.asked.run ((rw w.in-Some-Run.field-0-is at w.in-Some-Run.ensures.spelled) ∙ loaded.asked.spelled) in
      let here = subst (λ (asked : RunCommand). Holds asked.model (g.F.Shelf.held c.args.shelf.now) loaded.own) (sym same) loaded.holds in
      subst (λ (asked : RunCommand). IfSome (g.R.Source.left c.args.input.now) (λ bytes.
      Stores asked.save (image_left loaded.own.model (tells_on loaded.own asked (records_in loaded.own bytes))) (g.F.Shelf.held c.match-read_command.shelf))) same
      (rw (w.shelf-is) (w.load_and_run-status.ensures.stored loaded.own here (done-before w.load_and_run-status.result c.report.result well (rw w.status-is at c.report.ensures.same))))
  | in-Some-Resume w ↦ absurd (other_task (resumes (record { file = w.in-Some-Resume.file.now; run = run_asked w.in-Some-Resume.run' })) (runs loaded.asked.run) (λ same. cc same) ((rw w.in-Some-Resume.field-0-is at w.in-Some-Resume.ensures.spelled) ∙ loaded.asked.spelled))
  | in-Some-Big w ↦ absurd (other_task (counts (record { seed = w.in-Some-Big.seed; turns = w.in-Some-Big.turns })) (runs loaded.asked.run) (λ same. cc same) ((rw w.in-Some-Big.field-0-is at w.in-Some-Big.ensures.spelled) ∙ loaded.asked.spelled))
  | in-Some-Free w ↦ absurd (other_task (draws (record { model = w.in-Some-Free.model.now; turns = w.in-Some-Free.turns; seed = w.in-Some-Free.seed })) (runs loaded.asked.run) (λ same. cc same) ((rw w.in-Some-Free.field-0-is at w.in-Some-Free.ensures.spelled) ∙ loaded.asked.spelled))
  | in-None w ↦ absurd (no_task (runs loaded.asked.run) (w.in-None.ensures.spelled ∙ loaded.asked.spelled))
]

pub returns-clause-complete : goal.returns-clause-complete
returns-clause-complete g c = λ loaded. elim c.match-read_command.branch [
  | in-Some-Check w ↦ absurd (other_task (checks (record { model = w.in-Some-Check.model.now; print = w.in-Some-Check.print })) (runs loaded.asked.run) (λ same. cc same) ((rw w.in-Some-Check.field-0-is at w.in-Some-Check.ensures.spelled) ∙ loaded.asked.spelled))
  | in-Some-Run w ↦
      let own : RunCommand = run_asked w.in-Some-Run.run' in
      let same = same_run own loaded.asked.run ((rw w.in-Some-Run.field-0-is at w.in-Some-Run.ensures.spelled) ∙ loaded.asked.spelled) in
      let here = subst (λ (asked : RunCommand). Holds asked.model (g.F.Shelf.held c.args.shelf.now) loaded.own) (sym same) loaded.holds in
      subst (λ (asked : RunCommand). ¬ (Rose (g.F.Shelf.faults c.args.shelf.now) (g.F.Shelf.faults c.match-read_command.shelf)) → ¬ (Rose (g.R.Source.faults c.args.input.now) (g.R.Source.faults c.match-read_command.input)) → ¬ (Rose (g.W.Sink.faults c.args.out.now) (g.W.Sink.faults c.match-read_command.out)) →
      Completes loaded.own (tells_on loaded.own asked) (g.R.Source.left c.args.input.now) c.report.result) same
      (rw (w.shelf-is, w.input-is, w.out-is) (λ shelf source sink. completes-reported loaded.own (tells_on loaded.own own) (g.R.Source.left c.args.input.now) w.load_and_run-status.result c.report.result (w.load_and_run-status.ensures.complete loaded.own here shelf source sink) (rw w.status-is at c.report.ensures.same)))
  | in-Some-Resume w ↦ absurd (other_task (resumes (record { file = w.in-Some-Resume.file.now; run = run_asked w.in-Some-Resume.run' })) (runs loaded.asked.run) (λ same. cc same) ((rw w.in-Some-Resume.field-0-is at w.in-Some-Resume.ensures.spelled) ∙ loaded.asked.spelled))
  | in-Some-Big w ↦ absurd (other_task (counts (record { seed = w.in-Some-Big.seed; turns = w.in-Some-Big.turns })) (runs loaded.asked.run) (λ same. cc same) ((rw w.in-Some-Big.field-0-is at w.in-Some-Big.ensures.spelled) ∙ loaded.asked.spelled))
  | in-Some-Free w ↦ absurd (other_task (draws (record { model = w.in-Some-Free.model.now; turns = w.in-Some-Free.turns; seed = w.in-Some-Free.seed })) (runs loaded.asked.run) (λ same. cc same) ((rw w.in-Some-Free.field-0-is at w.in-Some-Free.ensures.spelled) ∙ loaded.asked.spelled))
  | in-None w ↦ absurd (no_task (runs loaded.asked.run) (w.in-None.ensures.spelled ∙ loaded.asked.spelled))
]

pub returns-clause-taken : goal.returns-clause-taken
returns-clause-taken g c = λ loaded. elim c.match-read_command.branch [
  | in-Some-Check w ↦ absurd (other_task (checks (record { model = w.in-Some-Check.model.now; print = w.in-Some-Check.print })) (runs loaded.asked.run) (λ same. cc same) ((rw w.in-Some-Check.field-0-is at w.in-Some-Check.ensures.spelled) ∙ loaded.asked.spelled))
  | in-Some-Run w ↦
      let own : RunCommand = run_asked w.in-Some-Run.run' in
      let same = same_run own loaded.asked.run ((rw w.in-Some-Run.field-0-is at w.in-Some-Run.ensures.spelled) ∙ loaded.asked.spelled) in
      let here = subst (λ (asked : RunCommand). Holds asked.model (g.F.Shelf.held c.args.shelf.now) loaded.own) (sym same) loaded.holds in
      subst (λ (asked : RunCommand). Told (g.R.Source.left c.args.input.now) (g.R.Source.left c.match-read_command.input) (λ before.
      TakesWanted (tells_on loaded.own asked) (records_in loaded.own before) [] before)) same
      (rw (w.input-is) (w.load_and_run-status.ensures.taken loaded.own here))
  | in-Some-Resume w ↦ absurd (other_task (resumes (record { file = w.in-Some-Resume.file.now; run = run_asked w.in-Some-Resume.run' })) (runs loaded.asked.run) (λ same. cc same) ((rw w.in-Some-Resume.field-0-is at w.in-Some-Resume.ensures.spelled) ∙ loaded.asked.spelled))
  | in-Some-Big w ↦ absurd (other_task (counts (record { seed = w.in-Some-Big.seed; turns = w.in-Some-Big.turns })) (runs loaded.asked.run) (λ same. cc same) ((rw w.in-Some-Big.field-0-is at w.in-Some-Big.ensures.spelled) ∙ loaded.asked.spelled))
  | in-Some-Free w ↦ absurd (other_task (draws (record { model = w.in-Some-Free.model.now; turns = w.in-Some-Free.turns; seed = w.in-Some-Free.seed })) (runs loaded.asked.run) (λ same. cc same) ((rw w.in-Some-Free.field-0-is at w.in-Some-Free.ensures.spelled) ∙ loaded.asked.spelled))
  | in-None w ↦ absurd (no_task (runs loaded.asked.run) (w.in-None.ensures.spelled ∙ loaded.asked.spelled))
]

pub returns-clause-cause : goal.returns-clause-cause
returns-clause-cause g c = λ asked. elim c.match-read_command.branch [
  | in-Some-Check w ↦ absurd (other_task (checks (record { model = w.in-Some-Check.model.now; print = w.in-Some-Check.print })) (runs asked.run) (λ same. cc same) ((rw w.in-Some-Check.field-0-is at w.in-Some-Check.ensures.spelled) ∙ asked.spelled))
  | in-Some-Run w ↦
      let own : RunCommand = run_asked w.in-Some-Run.run' in
      let same = same_run own asked.run ((rw w.in-Some-Run.field-0-is at w.in-Some-Run.ensures.spelled) ∙ asked.spelled) in
      subst (λ (asked : RunCommand). Cause asked.model asked.save (g.F.Shelf.held c.args.shelf.now) (Rose (g.F.Shelf.faults c.args.shelf.now) (g.F.Shelf.faults c.match-read_command.shelf))
      (Rose (g.R.Source.faults c.args.input.now) (g.R.Source.faults c.match-read_command.input)) (Rose (g.W.Sink.faults c.args.out.now) (g.W.Sink.faults c.match-read_command.out)) c.report.result) same
      (rw (w.shelf-is, w.input-is, w.out-is) (cause-reported own.model own.save (g.F.Shelf.held c.args.shelf.now) _ _ _ w.load_and_run-status.result c.report.result w.load_and_run-status.ensures.cause (rw w.status-is at c.report.ensures.same)))
  | in-Some-Resume w ↦ absurd (other_task (resumes (record { file = w.in-Some-Resume.file.now; run = run_asked w.in-Some-Resume.run' })) (runs asked.run) (λ same. cc same) ((rw w.in-Some-Resume.field-0-is at w.in-Some-Resume.ensures.spelled) ∙ asked.spelled))
  | in-Some-Big w ↦ absurd (other_task (counts (record { seed = w.in-Some-Big.seed; turns = w.in-Some-Big.turns })) (runs asked.run) (λ same. cc same) ((rw w.in-Some-Big.field-0-is at w.in-Some-Big.ensures.spelled) ∙ asked.spelled))
  | in-Some-Free w ↦ absurd (other_task (draws (record { model = w.in-Some-Free.model.now; turns = w.in-Some-Free.turns; seed = w.in-Some-Free.seed })) (runs asked.run) (λ same. cc same) ((rw w.in-Some-Free.field-0-is at w.in-Some-Free.ensures.spelled) ∙ asked.spelled))
  | in-None w ↦ absurd (no_task (runs asked.run) (w.in-None.ensures.spelled ∙ asked.spelled))
]

pub returns-clause-resumes : goal.returns-clause-resumes
returns-clause-resumes g c = λ again. elim c.match-read_command.branch [
  | in-Some-Check w ↦ absurd (other_task (checks (record { model = w.in-Some-Check.model.now; print = w.in-Some-Check.print })) (resumes again.asked.resume) (λ same. cc same) ((rw w.in-Some-Check.field-0-is at w.in-Some-Check.ensures.spelled) ∙ again.asked.spelled))
  | in-Some-Run w ↦ absurd (other_task (runs (run_asked w.in-Some-Run.run')) (resumes again.asked.resume) (λ same. cc same) ((rw w.in-Some-Run.field-0-is at w.in-Some-Run.ensures.spelled) ∙ again.asked.spelled))
  | in-Some-Resume w ↦
      let own : ResumeCommand = record { file = w.in-Some-Resume.file.now; run = run_asked w.in-Some-Resume.run' } in
      let same = same_resume own again.asked.resume ((rw w.in-Some-Resume.field-0-is at w.in-Some-Resume.ensures.spelled) ∙ again.asked.spelled) in
      let here = subst (λ (asked : ResumeCommand). Holds asked.run.model (g.F.Shelf.held c.args.shelf.now) again.own) (sym same) again.holds in
      let saved = subst (λ (asked : ResumeCommand). Has asked.file (g.F.Shelf.held c.args.shelf.now) (Restores again.own.model again.engine)) (sym same) again.saved in
      subst (λ (asked : ResumeCommand). IfSome (g.R.Source.left c.args.input.now) (λ bytes. IfSome (g.W.Sink.written c.args.out.now) (λ written.
      ComesBack again.own (pick_of asked.run.kept) asked.run.turns again.engine bytes (g.R.Source.left c.match-read_command.input) written (g.W.Sink.written c.match-read_command.out) c.report.result))) same
      (rw (w.input-is, w.out-is) (back-reported again.own (pick_of own.run.kept) own.run.turns again.engine (g.R.Source.left c.args.input.now) (g.R.Source.left w.load_and_resume-status.new.input) (g.W.Sink.written c.args.out.now) (g.W.Sink.written w.load_and_resume-status.new.out)
      w.load_and_resume-status.result c.report.result (w.load_and_resume-status.ensures.resumes again.own here again.engine saved) (rw w.status-is at c.report.ensures.same)))
  | in-Some-Big w ↦ absurd (other_task (counts (record { seed = w.in-Some-Big.seed; turns = w.in-Some-Big.turns })) (resumes again.asked.resume) (λ same. cc same) ((rw w.in-Some-Big.field-0-is at w.in-Some-Big.ensures.spelled) ∙ again.asked.spelled))
  | in-Some-Free w ↦ absurd (other_task (draws (record { model = w.in-Some-Free.model.now; turns = w.in-Some-Free.turns; seed = w.in-Some-Free.seed })) (resumes again.asked.resume) (λ same. cc same) ((rw w.in-Some-Free.field-0-is at w.in-Some-Free.ensures.spelled) ∙ again.asked.spelled))
  | in-None w ↦ absurd (no_task (resumes again.asked.resume) (w.in-None.ensures.spelled ∙ again.asked.spelled))
]

pub returns-clause-ends_resumed : goal.returns-clause-ends_resumed
returns-clause-ends_resumed g c = λ again. elim c.match-read_command.branch [
  | in-Some-Check w ↦ absurd (other_task (checks (record { model = w.in-Some-Check.model.now; print = w.in-Some-Check.print })) (resumes again.asked.resume) (λ same. cc same) ((rw w.in-Some-Check.field-0-is at w.in-Some-Check.ensures.spelled) ∙ again.asked.spelled))
  | in-Some-Run w ↦ absurd (other_task (runs (run_asked w.in-Some-Run.run')) (resumes again.asked.resume) (λ same. cc same) ((rw w.in-Some-Run.field-0-is at w.in-Some-Run.ensures.spelled) ∙ again.asked.spelled))
  | in-Some-Resume w ↦
      let own : ResumeCommand = record { file = w.in-Some-Resume.file.now; run = run_asked w.in-Some-Resume.run' } in
      let same = same_resume own again.asked.resume ((rw w.in-Some-Resume.field-0-is at w.in-Some-Resume.ensures.spelled) ∙ again.asked.spelled) in
      let here = subst (λ (asked : ResumeCommand). Holds asked.run.model (g.F.Shelf.held c.args.shelf.now) again.own) (sym same) again.holds in
      let saved = subst (λ (asked : ResumeCommand). Has asked.file (g.F.Shelf.held c.args.shelf.now) (Restores again.own.model again.engine)) (sym same) again.saved in
      subst (λ (asked : ResumeCommand). IfSome (g.R.Source.left c.args.input.now) (λ bytes. SaysBack again.own asked.run.turns again.engine bytes (g.R.Source.left c.match-read_command.input) c.report.result)) same
      (rw (w.input-is) (says-reported again.own own.run.turns again.engine (g.R.Source.left c.args.input.now) (g.R.Source.left w.load_and_resume-status.new.input) w.load_and_resume-status.result c.report.result (w.load_and_resume-status.ensures.ends again.own here again.engine saved) (rw w.status-is at c.report.ensures.same)))
  | in-Some-Big w ↦ absurd (other_task (counts (record { seed = w.in-Some-Big.seed; turns = w.in-Some-Big.turns })) (resumes again.asked.resume) (λ same. cc same) ((rw w.in-Some-Big.field-0-is at w.in-Some-Big.ensures.spelled) ∙ again.asked.spelled))
  | in-Some-Free w ↦ absurd (other_task (draws (record { model = w.in-Some-Free.model.now; turns = w.in-Some-Free.turns; seed = w.in-Some-Free.seed })) (resumes again.asked.resume) (λ same. cc same) ((rw w.in-Some-Free.field-0-is at w.in-Some-Free.ensures.spelled) ∙ again.asked.spelled))
  | in-None w ↦ absurd (no_task (resumes again.asked.resume) (w.in-None.ensures.spelled ∙ again.asked.spelled))
]

pub returns-clause-stored_resumed : goal.returns-clause-stored_resumed
returns-clause-stored_resumed g c = λ again well. elim c.match-read_command.branch [
  | in-Some-Check w ↦ absurd (other_task (checks (record { model = w.in-Some-Check.model.now; print = w.in-Some-Check.print })) (resumes again.asked.resume) (λ same. cc same) ((rw w.in-Some-Check.field-0-is at w.in-Some-Check.ensures.spelled) ∙ again.asked.spelled))
  | in-Some-Run w ↦ absurd (other_task (runs (run_asked w.in-Some-Run.run')) (resumes again.asked.resume) (λ same. cc same) ((rw w.in-Some-Run.field-0-is at w.in-Some-Run.ensures.spelled) ∙ again.asked.spelled))
  | in-Some-Resume w ↦
      let own : ResumeCommand = record { file = w.in-Some-Resume.file.now; run = run_asked w.in-Some-Resume.run' } in
      let same = same_resume own again.asked.resume ((rw w.in-Some-Resume.field-0-is at w.in-Some-Resume.ensures.spelled) ∙ again.asked.spelled) in
      let here = subst (λ (asked : ResumeCommand). Holds asked.run.model (g.F.Shelf.held c.args.shelf.now) again.own) (sym same) again.holds in
      let saved = subst (λ (asked : ResumeCommand). Has asked.file (g.F.Shelf.held c.args.shelf.now) (Restores again.own.model again.engine)) (sym same) again.saved in
      subst (λ (asked : ResumeCommand). IfSome (g.R.Source.left c.args.input.now) (λ bytes.
      Stores asked.run.save (image_left again.own.model (resumed again.own bytes asked.run.turns again.engine)) (g.F.Shelf.held c.match-read_command.shelf))) same
      (rw (w.shelf-is) (w.load_and_resume-status.ensures.stored again.own here again.engine saved (done-before w.load_and_resume-status.result c.report.result well (rw w.status-is at c.report.ensures.same))))
  | in-Some-Big w ↦ absurd (other_task (counts (record { seed = w.in-Some-Big.seed; turns = w.in-Some-Big.turns })) (resumes again.asked.resume) (λ same. cc same) ((rw w.in-Some-Big.field-0-is at w.in-Some-Big.ensures.spelled) ∙ again.asked.spelled))
  | in-Some-Free w ↦ absurd (other_task (draws (record { model = w.in-Some-Free.model.now; turns = w.in-Some-Free.turns; seed = w.in-Some-Free.seed })) (resumes again.asked.resume) (λ same. cc same) ((rw w.in-Some-Free.field-0-is at w.in-Some-Free.ensures.spelled) ∙ again.asked.spelled))
  | in-None w ↦ absurd (no_task (resumes again.asked.resume) (w.in-None.ensures.spelled ∙ again.asked.spelled))
]

pub returns-clause-complete_resumed : goal.returns-clause-complete_resumed
returns-clause-complete_resumed g c = λ again. elim c.match-read_command.branch [
  | in-Some-Check w ↦ absurd (other_task (checks (record { model = w.in-Some-Check.model.now; print = w.in-Some-Check.print })) (resumes again.asked.resume) (λ same. cc same) ((rw w.in-Some-Check.field-0-is at w.in-Some-Check.ensures.spelled) ∙ again.asked.spelled))
  | in-Some-Run w ↦ absurd (other_task (runs (run_asked w.in-Some-Run.run')) (resumes again.asked.resume) (λ same. cc same) ((rw w.in-Some-Run.field-0-is at w.in-Some-Run.ensures.spelled) ∙ again.asked.spelled))
  | in-Some-Resume w ↦
      let own : ResumeCommand = record { file = w.in-Some-Resume.file.now; run = run_asked w.in-Some-Resume.run' } in
      let same = same_resume own again.asked.resume ((rw w.in-Some-Resume.field-0-is at w.in-Some-Resume.ensures.spelled) ∙ again.asked.spelled) in
      let here = subst (λ (asked : ResumeCommand). Holds asked.run.model (g.F.Shelf.held c.args.shelf.now) again.own) (sym same) again.holds in
      let saved = subst (λ (asked : ResumeCommand). Has asked.file (g.F.Shelf.held c.args.shelf.now) (Restores again.own.model again.engine)) (sym same) again.saved in
      subst (λ (asked : ResumeCommand). ¬ (Rose (g.F.Shelf.faults c.args.shelf.now) (g.F.Shelf.faults c.match-read_command.shelf)) → ¬ (Rose (g.R.Source.faults c.args.input.now) (g.R.Source.faults c.match-read_command.input)) → ¬ (Rose (g.W.Sink.faults c.args.out.now) (g.W.Sink.faults c.match-read_command.out)) →
      CompletesBack again.own asked.run.turns again.engine (g.R.Source.left c.args.input.now) c.report.result) same
      (rw (w.shelf-is, w.input-is, w.out-is) (λ shelf source sink. back-completed again.own own.run.turns again.engine (g.R.Source.left c.args.input.now) w.load_and_resume-status.result c.report.result (w.load_and_resume-status.ensures.complete again.own here again.engine saved shelf source sink) (rw w.status-is at c.report.ensures.same)))
  | in-Some-Big w ↦ absurd (other_task (counts (record { seed = w.in-Some-Big.seed; turns = w.in-Some-Big.turns })) (resumes again.asked.resume) (λ same. cc same) ((rw w.in-Some-Big.field-0-is at w.in-Some-Big.ensures.spelled) ∙ again.asked.spelled))
  | in-Some-Free w ↦ absurd (other_task (draws (record { model = w.in-Some-Free.model.now; turns = w.in-Some-Free.turns; seed = w.in-Some-Free.seed })) (resumes again.asked.resume) (λ same. cc same) ((rw w.in-Some-Free.field-0-is at w.in-Some-Free.ensures.spelled) ∙ again.asked.spelled))
  | in-None w ↦ absurd (no_task (resumes again.asked.resume) (w.in-None.ensures.spelled ∙ again.asked.spelled))
]

pub returns-clause-taken_resumed : goal.returns-clause-taken_resumed
returns-clause-taken_resumed g c = λ again. elim c.match-read_command.branch [
  | in-Some-Check w ↦ absurd (other_task (checks (record { model = w.in-Some-Check.model.now; print = w.in-Some-Check.print })) (resumes again.asked.resume) (λ same. cc same) ((rw w.in-Some-Check.field-0-is at w.in-Some-Check.ensures.spelled) ∙ again.asked.spelled))
  | in-Some-Run w ↦ absurd (other_task (runs (run_asked w.in-Some-Run.run')) (resumes again.asked.resume) (λ same. cc same) ((rw w.in-Some-Run.field-0-is at w.in-Some-Run.ensures.spelled) ∙ again.asked.spelled))
  | in-Some-Resume w ↦
      let own : ResumeCommand = record { file = w.in-Some-Resume.file.now; run = run_asked w.in-Some-Resume.run' } in
      let same = same_resume own again.asked.resume ((rw w.in-Some-Resume.field-0-is at w.in-Some-Resume.ensures.spelled) ∙ again.asked.spelled) in
      let here = subst (λ (asked : ResumeCommand). Holds asked.run.model (g.F.Shelf.held c.args.shelf.now) again.own) (sym same) again.holds in
      let saved = subst (λ (asked : ResumeCommand). Has asked.file (g.F.Shelf.held c.args.shelf.now) (Restores again.own.model again.engine)) (sym same) again.saved in
      subst (λ (asked : ResumeCommand). Told (g.R.Source.left c.args.input.now) (g.R.Source.left c.match-read_command.input) (λ before.
      TakesWanted (resumed_on again.own asked.run.turns again.engine) (records_for again.own again.engine before) [] before)) same
      (rw (w.input-is) (w.load_and_resume-status.ensures.taken again.own here again.engine saved))
  | in-Some-Big w ↦ absurd (other_task (counts (record { seed = w.in-Some-Big.seed; turns = w.in-Some-Big.turns })) (resumes again.asked.resume) (λ same. cc same) ((rw w.in-Some-Big.field-0-is at w.in-Some-Big.ensures.spelled) ∙ again.asked.spelled))
  | in-Some-Free w ↦ absurd (other_task (draws (record { model = w.in-Some-Free.model.now; turns = w.in-Some-Free.turns; seed = w.in-Some-Free.seed })) (resumes again.asked.resume) (λ same. cc same) ((rw w.in-Some-Free.field-0-is at w.in-Some-Free.ensures.spelled) ∙ again.asked.spelled))
  | in-None w ↦ absurd (no_task (resumes again.asked.resume) (w.in-None.ensures.spelled ∙ again.asked.spelled))
]

pub returns-clause-cause_resumed : goal.returns-clause-cause_resumed
returns-clause-cause_resumed g c = λ asked. elim c.match-read_command.branch [
  | in-Some-Check w ↦ absurd (other_task (checks (record { model = w.in-Some-Check.model.now; print = w.in-Some-Check.print })) (resumes asked.resume) (λ same. cc same) ((rw w.in-Some-Check.field-0-is at w.in-Some-Check.ensures.spelled) ∙ asked.spelled))
  | in-Some-Run w ↦ absurd (other_task (runs (run_asked w.in-Some-Run.run')) (resumes asked.resume) (λ same. cc same) ((rw w.in-Some-Run.field-0-is at w.in-Some-Run.ensures.spelled) ∙ asked.spelled))
  | in-Some-Resume w ↦
      let own : ResumeCommand = record { file = w.in-Some-Resume.file.now; run = run_asked w.in-Some-Resume.run' } in
      let same = same_resume own asked.resume ((rw w.in-Some-Resume.field-0-is at w.in-Some-Resume.ensures.spelled) ∙ asked.spelled) in
      subst (λ (asked : ResumeCommand). CauseResume asked.run.model asked.file asked.run.save (g.F.Shelf.held c.args.shelf.now) (Rose (g.F.Shelf.faults c.args.shelf.now) (g.F.Shelf.faults c.match-read_command.shelf))
      (Rose (g.R.Source.faults c.args.input.now) (g.R.Source.faults c.match-read_command.input)) (Rose (g.W.Sink.faults c.args.out.now) (g.W.Sink.faults c.match-read_command.out)) c.report.result) same
      (rw (w.shelf-is, w.input-is, w.out-is) (resume-reported own.run.model own.file own.run.save (g.F.Shelf.held c.args.shelf.now) _ _ _ w.load_and_resume-status.result c.report.result w.load_and_resume-status.ensures.cause (rw w.status-is at c.report.ensures.same)))
  | in-Some-Big w ↦ absurd (other_task (counts (record { seed = w.in-Some-Big.seed; turns = w.in-Some-Big.turns })) (resumes asked.resume) (λ same. cc same) ((rw w.in-Some-Big.field-0-is at w.in-Some-Big.ensures.spelled) ∙ asked.spelled))
  | in-Some-Free w ↦ absurd (other_task (draws (record { model = w.in-Some-Free.model.now; turns = w.in-Some-Free.turns; seed = w.in-Some-Free.seed })) (resumes asked.resume) (λ same. cc same) ((rw w.in-Some-Free.field-0-is at w.in-Some-Free.ensures.spelled) ∙ asked.spelled))
  | in-None w ↦ absurd (no_task (resumes asked.resume) (w.in-None.ensures.spelled ∙ asked.spelled))
]

pub returns-clause-refused_save : goal.returns-clause-refused_save
returns-clause-refused_save g c = λ asked. elim c.match-read_command.branch [
  | in-Some-Check w ↦ absurd (other_task (checks (record { model = w.in-Some-Check.model.now; print = w.in-Some-Check.print })) (resumes asked.resume) (λ same. cc same) ((rw w.in-Some-Check.field-0-is at w.in-Some-Check.ensures.spelled) ∙ asked.spelled))
  | in-Some-Run w ↦ absurd (other_task (runs (run_asked w.in-Some-Run.run')) (resumes asked.resume) (λ same. cc same) ((rw w.in-Some-Run.field-0-is at w.in-Some-Run.ensures.spelled) ∙ asked.spelled))
  | in-Some-Resume w ↦
      let own : ResumeCommand = record { file = w.in-Some-Resume.file.now; run = run_asked w.in-Some-Resume.run' } in
      let same = same_resume own asked.resume ((rw w.in-Some-Resume.field-0-is at w.in-Some-Resume.ensures.spelled) ∙ asked.spelled) in
      subst (λ (asked : ResumeCommand). (own : Running) → Holds asked.run.model (g.F.Shelf.held c.args.shelf.now) own → (fault : SaveFault) → Has asked.file (g.F.Shelf.held c.args.shelf.now) (IsRefusedFor own.model fault) → TellsSave fault c.report.result) same
      ((λ running holds fault has. refused-reported fault w.load_and_resume-status.result c.report.result (w.load_and_resume-status.ensures.refused_save running holds fault has) (rw w.status-is at c.report.ensures.same)))
  | in-Some-Big w ↦ absurd (other_task (counts (record { seed = w.in-Some-Big.seed; turns = w.in-Some-Big.turns })) (resumes asked.resume) (λ same. cc same) ((rw w.in-Some-Big.field-0-is at w.in-Some-Big.ensures.spelled) ∙ asked.spelled))
  | in-Some-Free w ↦ absurd (other_task (draws (record { model = w.in-Some-Free.model.now; turns = w.in-Some-Free.turns; seed = w.in-Some-Free.seed })) (resumes asked.resume) (λ same. cc same) ((rw w.in-Some-Free.field-0-is at w.in-Some-Free.ensures.spelled) ∙ asked.spelled))
  | in-None w ↦ absurd (no_task (resumes asked.resume) (w.in-None.ensures.spelled ∙ asked.spelled))
]

pub returns-clause-unresumed : goal.returns-clause-unresumed
returns-clause-unresumed g c = λ asked. elim c.match-read_command.branch [
  | in-Some-Check w ↦ absurd (other_task (checks (record { model = w.in-Some-Check.model.now; print = w.in-Some-Check.print })) (resumes asked.resume) (λ same. cc same) ((rw w.in-Some-Check.field-0-is at w.in-Some-Check.ensures.spelled) ∙ asked.spelled))
  | in-Some-Run w ↦ absurd (other_task (runs (run_asked w.in-Some-Run.run')) (resumes asked.resume) (λ same. cc same) ((rw w.in-Some-Run.field-0-is at w.in-Some-Run.ensures.spelled) ∙ asked.spelled))
  | in-Some-Resume w ↦
      let own : ResumeCommand = record { file = w.in-Some-Resume.file.now; run = run_asked w.in-Some-Resume.run' } in
      let same = same_resume own asked.resume ((rw w.in-Some-Resume.field-0-is at w.in-Some-Resume.ensures.spelled) ∙ asked.spelled) in
      subst (λ (asked : ResumeCommand). (own : Running) → Holds asked.run.model (g.F.Shelf.held c.args.shelf.now) own → NoneSaved own.model asked.file (g.F.Shelf.held c.args.shelf.now) → (c.match-read_command.input ≡ c.args.input.now) × (c.match-read_command.out ≡ c.args.out.now)) same
      (rw (w.input-is, w.out-is) (λ running holds none. w.load_and_resume-status.ensures.unresumed running holds none))
  | in-Some-Big w ↦ absurd (other_task (counts (record { seed = w.in-Some-Big.seed; turns = w.in-Some-Big.turns })) (resumes asked.resume) (λ same. cc same) ((rw w.in-Some-Big.field-0-is at w.in-Some-Big.ensures.spelled) ∙ asked.spelled))
  | in-Some-Free w ↦ absurd (other_task (draws (record { model = w.in-Some-Free.model.now; turns = w.in-Some-Free.turns; seed = w.in-Some-Free.seed })) (resumes asked.resume) (λ same. cc same) ((rw w.in-Some-Free.field-0-is at w.in-Some-Free.ensures.spelled) ∙ asked.spelled))
  | in-None w ↦ absurd (no_task (resumes asked.resume) (w.in-None.ensures.spelled ∙ asked.spelled))
]

pub returns-clause-checks : goal.returns-clause-checks
returns-clause-checks g c = λ checked. elim c.match-read_command.branch [
  | in-Some-Check w ↦
      let own : CheckCommand = record { model = w.in-Some-Check.model.now; print = w.in-Some-Check.print } in
      let same = same_check own checked.asked.check ((rw w.in-Some-Check.field-0-is at w.in-Some-Check.ensures.spelled) ∙ checked.asked.spelled) in
      let here = subst (λ asked. HoldsModel asked.model (g.F.Shelf.held c.args.shelf.now) checked.model) (sym same) checked.holds in
      let print : own.print ≡ checked.asked.check.print = ap (λ asked. asked.print) same in
      subst (λ print. IfSome (g.W.Sink.written c.args.out.now) (λ written.
      Answers (answer_of print checked.model) written (g.W.Sink.written c.match-read_command.out) c.report.result)) print
      (rw w.out-is
      (answers-reported (answer_of own.print checked.model) (g.W.Sink.written c.args.out.now) (g.W.Sink.written w.load_and_check-status.new.out)
      w.load_and_check-status.result c.report.result (w.load_and_check-status.ensures.checks checked.model here) (rw w.status-is at c.report.ensures.same)))
  | in-Some-Run w ↦ absurd (other_task (runs (run_asked w.in-Some-Run.run')) (checks checked.asked.check) (λ same. cc same) ((rw w.in-Some-Run.field-0-is at w.in-Some-Run.ensures.spelled) ∙ checked.asked.spelled))
  | in-Some-Resume w ↦ absurd (other_task (resumes (record { file = w.in-Some-Resume.file.now; run = run_asked w.in-Some-Resume.run' })) (checks checked.asked.check) (λ same. cc same) ((rw w.in-Some-Resume.field-0-is at w.in-Some-Resume.ensures.spelled) ∙ checked.asked.spelled))
  | in-Some-Big w ↦ absurd (other_task (counts (record { seed = w.in-Some-Big.seed; turns = w.in-Some-Big.turns })) (checks checked.asked.check) (λ same. cc same) ((rw w.in-Some-Big.field-0-is at w.in-Some-Big.ensures.spelled) ∙ checked.asked.spelled))
  | in-Some-Free w ↦ absurd (other_task (draws (record { model = w.in-Some-Free.model.now; turns = w.in-Some-Free.turns; seed = w.in-Some-Free.seed })) (checks checked.asked.check) (λ same. cc same) ((rw w.in-Some-Free.field-0-is at w.in-Some-Free.ensures.spelled) ∙ checked.asked.spelled))
  | in-None w ↦ absurd (no_task (checks checked.asked.check) (w.in-None.ensures.spelled ∙ checked.asked.spelled))
]

pub returns-clause-complete_check : goal.returns-clause-complete_check
returns-clause-complete_check g c = λ checked. elim c.match-read_command.branch [
  | in-Some-Check w ↦
      let own : CheckCommand = record { model = w.in-Some-Check.model.now; print = w.in-Some-Check.print } in
      let same = same_check own checked.asked.check ((rw w.in-Some-Check.field-0-is at w.in-Some-Check.ensures.spelled) ∙ checked.asked.spelled) in
      let here = subst (λ asked. HoldsModel asked.model (g.F.Shelf.held c.args.shelf.now) checked.model) (sym same) checked.holds in
      rw (w.shelf-is, w.out-is) (λ shelf sink.
      check-reported w.load_and_check-status.result c.report.result (w.load_and_check-status.ensures.complete checked.model here shelf sink) (rw w.status-is at c.report.ensures.same))
  | in-Some-Run w ↦ absurd (other_task (runs (run_asked w.in-Some-Run.run')) (checks checked.asked.check) (λ same. cc same) ((rw w.in-Some-Run.field-0-is at w.in-Some-Run.ensures.spelled) ∙ checked.asked.spelled))
  | in-Some-Resume w ↦ absurd (other_task (resumes (record { file = w.in-Some-Resume.file.now; run = run_asked w.in-Some-Resume.run' })) (checks checked.asked.check) (λ same. cc same) ((rw w.in-Some-Resume.field-0-is at w.in-Some-Resume.ensures.spelled) ∙ checked.asked.spelled))
  | in-Some-Big w ↦ absurd (other_task (counts (record { seed = w.in-Some-Big.seed; turns = w.in-Some-Big.turns })) (checks checked.asked.check) (λ same. cc same) ((rw w.in-Some-Big.field-0-is at w.in-Some-Big.ensures.spelled) ∙ checked.asked.spelled))
  | in-Some-Free w ↦ absurd (other_task (draws (record { model = w.in-Some-Free.model.now; turns = w.in-Some-Free.turns; seed = w.in-Some-Free.seed })) (checks checked.asked.check) (λ same. cc same) ((rw w.in-Some-Free.field-0-is at w.in-Some-Free.ensures.spelled) ∙ checked.asked.spelled))
  | in-None w ↦ absurd (no_task (checks checked.asked.check) (w.in-None.ensures.spelled ∙ checked.asked.spelled))
]

pub returns-clause-delivered : goal.returns-clause-delivered
returns-clause-delivered g c = λ loaded records.
    c.runs_are_delivered.ensures loaded.own.model records loaded.asked.run.turns
    (holds-right loaded.asked.run.model (g.F.Shelf.held c.args.shelf.now) loaded.own loaded.holds).shaped

pub returns-clause-summarizes : goal.returns-clause-summarizes
returns-clause-summarizes g c = λ drawn. elim c.match-read_command.branch [
  | in-Some-Check w ↦ absurd (other_task (checks (record { model = w.in-Some-Check.model.now; print = w.in-Some-Check.print })) (counts drawn.asked.big) (λ same. cc same) ((rw w.in-Some-Check.field-0-is at w.in-Some-Check.ensures.spelled) ∙ drawn.asked.spelled))
  | in-Some-Run w ↦ absurd (other_task (runs (run_asked w.in-Some-Run.run')) (counts drawn.asked.big) (λ same. cc same) ((rw w.in-Some-Run.field-0-is at w.in-Some-Run.ensures.spelled) ∙ drawn.asked.spelled))
  | in-Some-Resume w ↦ absurd (other_task (resumes (record { file = w.in-Some-Resume.file.now; run = run_asked w.in-Some-Resume.run' })) (counts drawn.asked.big) (λ same. cc same) ((rw w.in-Some-Resume.field-0-is at w.in-Some-Resume.ensures.spelled) ∙ drawn.asked.spelled))
  | in-Some-Big w ↦
      let own : BigCommand = record { seed = w.in-Some-Big.seed; turns = w.in-Some-Big.turns } in
      let same = same_big own drawn.asked.big ((rw w.in-Some-Big.field-0-is at w.in-Some-Big.ensures.spelled) ∙ drawn.asked.spelled) in
      let here = subst (λ (asked : BigCommand). Runs (big_text asked.seed) drawn.own) (sym same) drawn.runs in
      subst (λ (asked : BigCommand). IfSome (g.W.Sink.written c.args.out.now) (λ written.
      Summarizes (summary_text drawn.own (big_run drawn.own asked.turns)) written (g.W.Sink.written c.match-read_command.out) c.report.result)) same
      (rw w.out-is
      (summary-reported (summary_text drawn.own (big_run drawn.own own.turns)) (g.W.Sink.written c.args.out.now) (g.W.Sink.written w.run_big-status.new.out)
      w.run_big-status.result c.report.result (w.run_big-status.ensures.summarizes drawn.own here) (rw w.status-is at c.report.ensures.same)))
  | in-Some-Free w ↦ absurd (other_task (draws (record { model = w.in-Some-Free.model.now; turns = w.in-Some-Free.turns; seed = w.in-Some-Free.seed })) (counts drawn.asked.big) (λ same. cc same) ((rw w.in-Some-Free.field-0-is at w.in-Some-Free.ensures.spelled) ∙ drawn.asked.spelled))
  | in-None w ↦ absurd (no_task (counts drawn.asked.big) (w.in-None.ensures.spelled ∙ drawn.asked.spelled))
]

pub returns-clause-ends_big : goal.returns-clause-ends_big
returns-clause-ends_big g c = λ drawn. elim c.match-read_command.branch [
  | in-Some-Check w ↦ absurd (other_task (checks (record { model = w.in-Some-Check.model.now; print = w.in-Some-Check.print })) (counts drawn.asked.big) (λ same. cc same) ((rw w.in-Some-Check.field-0-is at w.in-Some-Check.ensures.spelled) ∙ drawn.asked.spelled))
  | in-Some-Run w ↦ absurd (other_task (runs (run_asked w.in-Some-Run.run')) (counts drawn.asked.big) (λ same. cc same) ((rw w.in-Some-Run.field-0-is at w.in-Some-Run.ensures.spelled) ∙ drawn.asked.spelled))
  | in-Some-Resume w ↦ absurd (other_task (resumes (record { file = w.in-Some-Resume.file.now; run = run_asked w.in-Some-Resume.run' })) (counts drawn.asked.big) (λ same. cc same) ((rw w.in-Some-Resume.field-0-is at w.in-Some-Resume.ensures.spelled) ∙ drawn.asked.spelled))
  | in-Some-Big w ↦
      let own : BigCommand = record { seed = w.in-Some-Big.seed; turns = w.in-Some-Big.turns } in
      let same = same_big own drawn.asked.big ((rw w.in-Some-Big.field-0-is at w.in-Some-Big.ensures.spelled) ∙ drawn.asked.spelled) in
      let here = subst (λ (asked : BigCommand). Runs (big_text asked.seed) drawn.own) (sym same) drawn.runs in
      subst (λ (asked : BigCommand). SaysEnd (big_run drawn.own asked.turns).end (Some []) c.report.result) same
      (end-reported (big_run drawn.own own.turns).end (Some []) w.run_big-status.result c.report.result (w.run_big-status.ensures.ends drawn.own here) (rw w.status-is at c.report.ensures.same))
  | in-Some-Free w ↦ absurd (other_task (draws (record { model = w.in-Some-Free.model.now; turns = w.in-Some-Free.turns; seed = w.in-Some-Free.seed })) (counts drawn.asked.big) (λ same. cc same) ((rw w.in-Some-Free.field-0-is at w.in-Some-Free.ensures.spelled) ∙ drawn.asked.spelled))
  | in-None w ↦ absurd (no_task (counts drawn.asked.big) (w.in-None.ensures.spelled ∙ drawn.asked.spelled))
]

pub returns-clause-complete_big : goal.returns-clause-complete_big
returns-clause-complete_big g c = λ drawn. elim c.match-read_command.branch [
  | in-Some-Check w ↦ absurd (other_task (checks (record { model = w.in-Some-Check.model.now; print = w.in-Some-Check.print })) (counts drawn.asked.big) (λ same. cc same) ((rw w.in-Some-Check.field-0-is at w.in-Some-Check.ensures.spelled) ∙ drawn.asked.spelled))
  | in-Some-Run w ↦ absurd (other_task (runs (run_asked w.in-Some-Run.run')) (counts drawn.asked.big) (λ same. cc same) ((rw w.in-Some-Run.field-0-is at w.in-Some-Run.ensures.spelled) ∙ drawn.asked.spelled))
  | in-Some-Resume w ↦ absurd (other_task (resumes (record { file = w.in-Some-Resume.file.now; run = run_asked w.in-Some-Resume.run' })) (counts drawn.asked.big) (λ same. cc same) ((rw w.in-Some-Resume.field-0-is at w.in-Some-Resume.ensures.spelled) ∙ drawn.asked.spelled))
  | in-Some-Big w ↦
      let own : BigCommand = record { seed = w.in-Some-Big.seed; turns = w.in-Some-Big.turns } in
      let same = same_big own drawn.asked.big ((rw w.in-Some-Big.field-0-is at w.in-Some-Big.ensures.spelled) ∙ drawn.asked.spelled) in
      let here = subst (λ (asked : BigCommand). Runs (big_text asked.seed) drawn.own) (sym same) drawn.runs in
      rw w.out-is (λ sink.
      subst (λ (asked : BigCommand). Completes drawn.own (λ records. run drawn.own records asked.turns) (Some []) c.report.result) same
      (completes-reported drawn.own (λ records. run drawn.own records own.turns) (Some [])
      w.run_big-status.result c.report.result (w.run_big-status.ensures.complete drawn.own here sink) (rw w.status-is at c.report.ensures.same)))
  | in-Some-Free w ↦ absurd (other_task (draws (record { model = w.in-Some-Free.model.now; turns = w.in-Some-Free.turns; seed = w.in-Some-Free.seed })) (counts drawn.asked.big) (λ same. cc same) ((rw w.in-Some-Free.field-0-is at w.in-Some-Free.ensures.spelled) ∙ drawn.asked.spelled))
  | in-None w ↦ absurd (no_task (counts drawn.asked.big) (w.in-None.ensures.spelled ∙ drawn.asked.spelled))
]

pub returns-clause-kept : goal.returns-clause-kept
returns-clause-kept g c = elim c.match-read_command.branch [
  | in-Some-Run w ↦
      let name : save_in (Some (runs (run_asked w.in-Some-Run.run'))) ≡ save_of (map string_bytes c.args.words.now) = ap save_in (rw w.in-Some-Run.field-0-is at w.in-Some-Run.ensures.spelled) in
      rw w.shelf-is (subst (λ (name : Option (List ℕ)). Leaves name (Rose (g.F.Shelf.faults c.args.shelf.now) (g.F.Shelf.faults w.load_and_run-status.new.shelf)) (g.F.Shelf.held c.args.shelf.now) (g.F.Shelf.held w.load_and_run-status.new.shelf) c.report.result) name
      (leaves-reported (run_asked w.in-Some-Run.run').save (Rose (g.F.Shelf.faults c.args.shelf.now) (g.F.Shelf.faults w.load_and_run-status.new.shelf)) (g.F.Shelf.held c.args.shelf.now) (g.F.Shelf.held w.load_and_run-status.new.shelf) w.load_and_run-status.result c.report.result w.load_and_run-status.ensures.kept (rw w.status-is at c.report.ensures.done) (rw w.status-is at c.report.ensures.same)))
  | in-Some-Resume w ↦
      let name : save_in (Some (resumes (record { file = w.in-Some-Resume.file.now; run = run_asked w.in-Some-Resume.run' }))) ≡ save_of (map string_bytes c.args.words.now) = ap save_in (rw w.in-Some-Resume.field-0-is at w.in-Some-Resume.ensures.spelled) in
      rw w.shelf-is (subst (λ (name : Option (List ℕ)). Leaves name (Rose (g.F.Shelf.faults c.args.shelf.now) (g.F.Shelf.faults w.load_and_resume-status.new.shelf)) (g.F.Shelf.held c.args.shelf.now) (g.F.Shelf.held w.load_and_resume-status.new.shelf) c.report.result) name
      (leaves-reported (run_asked w.in-Some-Resume.run').save (Rose (g.F.Shelf.faults c.args.shelf.now) (g.F.Shelf.faults w.load_and_resume-status.new.shelf)) (g.F.Shelf.held c.args.shelf.now) (g.F.Shelf.held w.load_and_resume-status.new.shelf) w.load_and_resume-status.result c.report.result w.load_and_resume-status.ensures.kept (rw w.status-is at c.report.ensures.done) (rw w.status-is at c.report.ensures.same)))
  | in-Some-Check w ↦
      let name : None ≡ save_of (map string_bytes c.args.words.now) = ap save_in (rw w.in-Some-Check.field-0-is at w.in-Some-Check.ensures.spelled) in
      rw w.shelf-is (subst (λ (name : Option (List ℕ)). Leaves name (Rose (g.F.Shelf.faults c.args.shelf.now) (g.F.Shelf.faults w.load_and_check-status.new.shelf)) (g.F.Shelf.held c.args.shelf.now) (g.F.Shelf.held w.load_and_check-status.new.shelf) c.report.result) name w.load_and_check-status.ensures.kept)
  | in-Some-Big w ↦
      let name : None ≡ save_of (map string_bytes c.args.words.now) = ap save_in (rw w.in-Some-Big.field-0-is at w.in-Some-Big.ensures.spelled) in
      rw w.shelf-is (subst (λ (name : Option (List ℕ)). Leaves name (Rose (g.F.Shelf.faults c.args.shelf.now) (g.F.Shelf.faults c.args.shelf.now)) (g.F.Shelf.held c.args.shelf.now) (g.F.Shelf.held c.args.shelf.now) c.report.result) name refl)
  | in-Some-Free w ↦
      let name : None ≡ save_of (map string_bytes c.args.words.now) = ap save_in (rw w.in-Some-Free.field-0-is at w.in-Some-Free.ensures.spelled) in
      rw w.shelf-is (subst (λ (name : Option (List ℕ)). Leaves name (Rose (g.F.Shelf.faults c.args.shelf.now) (g.F.Shelf.faults w.load_and_free-status.new.shelf)) (g.F.Shelf.held c.args.shelf.now) (g.F.Shelf.held w.load_and_free-status.new.shelf) c.report.result) name w.load_and_free-status.ensures.kept)
  | in-None w ↦
      let name : None ≡ save_of (map string_bytes c.args.words.now) = ap save_in w.in-None.ensures.spelled in
      rw w.shelf-is (subst (λ (name : Option (List ℕ)). Leaves name (Rose (g.F.Shelf.faults c.args.shelf.now) (g.F.Shelf.faults c.args.shelf.now)) (g.F.Shelf.held c.args.shelf.now) (g.F.Shelf.held c.args.shelf.now) c.report.result) name refl)
]

pub returns-clause-runs_free : goal.returns-clause-runs_free
unfolding tells_free
returns-clause-runs_free g c = λ loaded. elim c.match-read_command.branch [
  | in-Some-Check w ↦ absurd (other_task (checks (record { model = w.in-Some-Check.model.now; print = w.in-Some-Check.print })) (draws loaded.asked.free) (λ same. cc same) ((rw w.in-Some-Check.field-0-is at w.in-Some-Check.ensures.spelled) ∙ loaded.asked.spelled))
  | in-Some-Run w ↦ absurd (other_task (runs (run_asked w.in-Some-Run.run')) (draws loaded.asked.free) (λ same. cc same) ((rw w.in-Some-Run.field-0-is at w.in-Some-Run.ensures.spelled) ∙ loaded.asked.spelled))
  | in-Some-Resume w ↦ absurd (other_task (resumes (record { file = w.in-Some-Resume.file.now; run = run_asked w.in-Some-Resume.run' })) (draws loaded.asked.free) (λ same. cc same) ((rw w.in-Some-Resume.field-0-is at w.in-Some-Resume.ensures.spelled) ∙ loaded.asked.spelled))
  | in-Some-Big w ↦ absurd (other_task (counts (record { seed = w.in-Some-Big.seed; turns = w.in-Some-Big.turns })) (draws loaded.asked.free) (λ same. cc same) ((rw w.in-Some-Big.field-0-is at w.in-Some-Big.ensures.spelled) ∙ loaded.asked.spelled))
  | in-Some-Free w ↦
      let own : FreeCommand = record { model = w.in-Some-Free.model.now; turns = w.in-Some-Free.turns; seed = w.in-Some-Free.seed } in
      let same = same_free own loaded.asked.free ((rw w.in-Some-Free.field-0-is at w.in-Some-Free.ensures.spelled) ∙ loaded.asked.spelled) in
      let here = subst (λ (asked : FreeCommand). Holds asked.model (g.F.Shelf.held c.args.shelf.now) loaded.own) (sym same) loaded.holds in
      subst (λ (asked : FreeCommand). IfSome (g.R.Source.left c.args.input.now) (λ bytes. IfSome (g.W.Sink.written c.args.out.now) (λ written.
      Comes loaded.own All (drawn_on loaded.own asked.seed asked.turns) bytes (g.R.Source.left c.match-read_command.input) written (g.W.Sink.written c.match-read_command.out) c.report.result))) same
      (rw (w.input-is, w.out-is) (comes-reported loaded.own All (drawn_on loaded.own own.seed own.turns) (g.R.Source.left c.args.input.now) (g.R.Source.left w.load_and_free-status.new.input) (g.W.Sink.written c.args.out.now) (g.W.Sink.written w.load_and_free-status.new.out)
      w.load_and_free-status.result c.report.result (w.load_and_free-status.ensures.runs loaded.own here) (rw w.status-is at c.report.ensures.same)))
  | in-None w ↦ absurd (no_task (draws loaded.asked.free) (w.in-None.ensures.spelled ∙ loaded.asked.spelled))
]

pub returns-clause-ends_free : goal.returns-clause-ends_free
unfolding tells_free
returns-clause-ends_free g c = λ loaded. elim c.match-read_command.branch [
  | in-Some-Check w ↦ absurd (other_task (checks (record { model = w.in-Some-Check.model.now; print = w.in-Some-Check.print })) (draws loaded.asked.free) (λ same. cc same) ((rw w.in-Some-Check.field-0-is at w.in-Some-Check.ensures.spelled) ∙ loaded.asked.spelled))
  | in-Some-Run w ↦ absurd (other_task (runs (run_asked w.in-Some-Run.run')) (draws loaded.asked.free) (λ same. cc same) ((rw w.in-Some-Run.field-0-is at w.in-Some-Run.ensures.spelled) ∙ loaded.asked.spelled))
  | in-Some-Resume w ↦ absurd (other_task (resumes (record { file = w.in-Some-Resume.file.now; run = run_asked w.in-Some-Resume.run' })) (draws loaded.asked.free) (λ same. cc same) ((rw w.in-Some-Resume.field-0-is at w.in-Some-Resume.ensures.spelled) ∙ loaded.asked.spelled))
  | in-Some-Big w ↦ absurd (other_task (counts (record { seed = w.in-Some-Big.seed; turns = w.in-Some-Big.turns })) (draws loaded.asked.free) (λ same. cc same) ((rw w.in-Some-Big.field-0-is at w.in-Some-Big.ensures.spelled) ∙ loaded.asked.spelled))
  | in-Some-Free w ↦
      let own : FreeCommand = record { model = w.in-Some-Free.model.now; turns = w.in-Some-Free.turns; seed = w.in-Some-Free.seed } in
      let same = same_free own loaded.asked.free ((rw w.in-Some-Free.field-0-is at w.in-Some-Free.ensures.spelled) ∙ loaded.asked.spelled) in
      let here = subst (λ (asked : FreeCommand). Holds asked.model (g.F.Shelf.held c.args.shelf.now) loaded.own) (sym same) loaded.holds in
      subst (λ (asked : FreeCommand). IfSome (g.R.Source.left c.args.input.now) (λ bytes.
      SaysEnd (drawn_on loaded.own asked.seed asked.turns (records_in loaded.own bytes)).end (g.R.Source.left c.match-read_command.input) c.report.result)) same
      (rw (w.input-is) (ends-reported loaded.own (drawn_on loaded.own own.seed own.turns) (g.R.Source.left c.args.input.now) (g.R.Source.left w.load_and_free-status.new.input) w.load_and_free-status.result c.report.result (w.load_and_free-status.ensures.ends loaded.own here) (rw w.status-is at c.report.ensures.same)))
  | in-None w ↦ absurd (no_task (draws loaded.asked.free) (w.in-None.ensures.spelled ∙ loaded.asked.spelled))
]

pub returns-clause-complete_free : goal.returns-clause-complete_free
unfolding tells_free
returns-clause-complete_free g c = λ loaded. elim c.match-read_command.branch [
  | in-Some-Check w ↦ absurd (other_task (checks (record { model = w.in-Some-Check.model.now; print = w.in-Some-Check.print })) (draws loaded.asked.free) (λ same. cc same) ((rw w.in-Some-Check.field-0-is at w.in-Some-Check.ensures.spelled) ∙ loaded.asked.spelled))
  | in-Some-Run w ↦ absurd (other_task (runs (run_asked w.in-Some-Run.run')) (draws loaded.asked.free) (λ same. cc same) ((rw w.in-Some-Run.field-0-is at w.in-Some-Run.ensures.spelled) ∙ loaded.asked.spelled))
  | in-Some-Resume w ↦ absurd (other_task (resumes (record { file = w.in-Some-Resume.file.now; run = run_asked w.in-Some-Resume.run' })) (draws loaded.asked.free) (λ same. cc same) ((rw w.in-Some-Resume.field-0-is at w.in-Some-Resume.ensures.spelled) ∙ loaded.asked.spelled))
  | in-Some-Big w ↦ absurd (other_task (counts (record { seed = w.in-Some-Big.seed; turns = w.in-Some-Big.turns })) (draws loaded.asked.free) (λ same. cc same) ((rw w.in-Some-Big.field-0-is at w.in-Some-Big.ensures.spelled) ∙ loaded.asked.spelled))
  | in-Some-Free w ↦
      let own : FreeCommand = record { model = w.in-Some-Free.model.now; turns = w.in-Some-Free.turns; seed = w.in-Some-Free.seed } in
      let same = same_free own loaded.asked.free ((rw w.in-Some-Free.field-0-is at w.in-Some-Free.ensures.spelled) ∙ loaded.asked.spelled) in
      let here = subst (λ (asked : FreeCommand). Holds asked.model (g.F.Shelf.held c.args.shelf.now) loaded.own) (sym same) loaded.holds in
      subst (λ (asked : FreeCommand). ¬ (Rose (g.F.Shelf.faults c.args.shelf.now) (g.F.Shelf.faults c.match-read_command.shelf)) → ¬ (Rose (g.R.Source.faults c.args.input.now) (g.R.Source.faults c.match-read_command.input)) → ¬ (Rose (g.W.Sink.faults c.args.out.now) (g.W.Sink.faults c.match-read_command.out)) →
      Completes loaded.own (drawn_on loaded.own asked.seed asked.turns) (g.R.Source.left c.args.input.now) c.report.result) same
      (rw (w.shelf-is, w.input-is, w.out-is) (λ shelf source sink. completes-reported loaded.own (drawn_on loaded.own own.seed own.turns) (g.R.Source.left c.args.input.now) w.load_and_free-status.result c.report.result (w.load_and_free-status.ensures.complete loaded.own here shelf source sink) (rw w.status-is at c.report.ensures.same)))
  | in-None w ↦ absurd (no_task (draws loaded.asked.free) (w.in-None.ensures.spelled ∙ loaded.asked.spelled))
]

pub returns-clause-taken_free : goal.returns-clause-taken_free
unfolding tells_free
returns-clause-taken_free g c = λ loaded. elim c.match-read_command.branch [
  | in-Some-Check w ↦ absurd (other_task (checks (record { model = w.in-Some-Check.model.now; print = w.in-Some-Check.print })) (draws loaded.asked.free) (λ same. cc same) ((rw w.in-Some-Check.field-0-is at w.in-Some-Check.ensures.spelled) ∙ loaded.asked.spelled))
  | in-Some-Run w ↦ absurd (other_task (runs (run_asked w.in-Some-Run.run')) (draws loaded.asked.free) (λ same. cc same) ((rw w.in-Some-Run.field-0-is at w.in-Some-Run.ensures.spelled) ∙ loaded.asked.spelled))
  | in-Some-Resume w ↦ absurd (other_task (resumes (record { file = w.in-Some-Resume.file.now; run = run_asked w.in-Some-Resume.run' })) (draws loaded.asked.free) (λ same. cc same) ((rw w.in-Some-Resume.field-0-is at w.in-Some-Resume.ensures.spelled) ∙ loaded.asked.spelled))
  | in-Some-Big w ↦ absurd (other_task (counts (record { seed = w.in-Some-Big.seed; turns = w.in-Some-Big.turns })) (draws loaded.asked.free) (λ same. cc same) ((rw w.in-Some-Big.field-0-is at w.in-Some-Big.ensures.spelled) ∙ loaded.asked.spelled))
  | in-Some-Free w ↦
      let own : FreeCommand = record { model = w.in-Some-Free.model.now; turns = w.in-Some-Free.turns; seed = w.in-Some-Free.seed } in
      let same = same_free own loaded.asked.free ((rw w.in-Some-Free.field-0-is at w.in-Some-Free.ensures.spelled) ∙ loaded.asked.spelled) in
      let here = subst (λ (asked : FreeCommand). Holds asked.model (g.F.Shelf.held c.args.shelf.now) loaded.own) (sym same) loaded.holds in
      subst (λ (asked : FreeCommand). Told (g.R.Source.left c.args.input.now) (g.R.Source.left c.match-read_command.input) (λ before.
      TakesWanted (drawn_on loaded.own asked.seed asked.turns) (records_in loaded.own before) [] before)) same
      (rw (w.input-is) (w.load_and_free-status.ensures.taken loaded.own here))
  | in-None w ↦ absurd (no_task (draws loaded.asked.free) (w.in-None.ensures.spelled ∙ loaded.asked.spelled))
]

pub returns-clause-cause_free : goal.returns-clause-cause_free
returns-clause-cause_free g c = λ asked. elim c.match-read_command.branch [
  | in-Some-Check w ↦ absurd (other_task (checks (record { model = w.in-Some-Check.model.now; print = w.in-Some-Check.print })) (draws asked.free) (λ same. cc same) ((rw w.in-Some-Check.field-0-is at w.in-Some-Check.ensures.spelled) ∙ asked.spelled))
  | in-Some-Run w ↦ absurd (other_task (runs (run_asked w.in-Some-Run.run')) (draws asked.free) (λ same. cc same) ((rw w.in-Some-Run.field-0-is at w.in-Some-Run.ensures.spelled) ∙ asked.spelled))
  | in-Some-Resume w ↦ absurd (other_task (resumes (record { file = w.in-Some-Resume.file.now; run = run_asked w.in-Some-Resume.run' })) (draws asked.free) (λ same. cc same) ((rw w.in-Some-Resume.field-0-is at w.in-Some-Resume.ensures.spelled) ∙ asked.spelled))
  | in-Some-Big w ↦ absurd (other_task (counts (record { seed = w.in-Some-Big.seed; turns = w.in-Some-Big.turns })) (draws asked.free) (λ same. cc same) ((rw w.in-Some-Big.field-0-is at w.in-Some-Big.ensures.spelled) ∙ asked.spelled))
  | in-Some-Free w ↦
      let own : FreeCommand = record { model = w.in-Some-Free.model.now; turns = w.in-Some-Free.turns; seed = w.in-Some-Free.seed } in
      let same = same_free own asked.free ((rw w.in-Some-Free.field-0-is at w.in-Some-Free.ensures.spelled) ∙ asked.spelled) in
      subst (λ (asked : FreeCommand). Cause asked.model None (g.F.Shelf.held c.args.shelf.now) (Rose (g.F.Shelf.faults c.args.shelf.now) (g.F.Shelf.faults c.match-read_command.shelf))
      (Rose (g.R.Source.faults c.args.input.now) (g.R.Source.faults c.match-read_command.input)) (Rose (g.W.Sink.faults c.args.out.now) (g.W.Sink.faults c.match-read_command.out)) c.report.result) same
      (rw (w.shelf-is, w.input-is, w.out-is) (cause-reported own.model None (g.F.Shelf.held c.args.shelf.now) _ _ _ w.load_and_free-status.result c.report.result w.load_and_free-status.ensures.cause (rw w.status-is at c.report.ensures.same)))
  | in-None w ↦ absurd (no_task (draws asked.free) (w.in-None.ensures.spelled ∙ asked.spelled))
]
