use Rattle.std.proofs.Common.{rules, ◌≡◌, Ok, Err, refl, sym, ap, subst, ◌∙◌, ◌++◌, ◌+◌}
use Rattle.std.specs.Prelude.{Option, unwrap_or}
use Rattle.std.specs.Option.{option_copied}
use Rattle.std.proofs.lemmas.Result.{IfOk-weaker}
use Rattle.dsde_syntax.specs.declared.decl.Model.{Model}
use Rattle.dsde_values.specs.declared.arrival.Arrival.{Arrival}
use Rattle.dsde_sim_tree.specs.Told as turn
use Rattle.dsde_sim_tree.specs.declared.step.Step.{Step}
use Rattle.dsde_sim_tree.specs.declared.step.Step.TheVariants.{Quiet}
use Rattle.dsde_run.specs.Advancing.{StepsOn}
use Rattle.dsde_sim_tree.specs.Engine.{next_of}
use Rattle.dsde_sim_tree.specs.Turn.{turn_time}
use Rattle.dsde_run.specs.Run.{kept_text}
use Rattle.dsde_run.specs.Steps.{Turns, record_of}
use Rattle.dsde_run.proofs.Coming.{head-comes}
use Rattle.dsde_run.proofs.Turning.{EndsIn-faulted, EndsIn-quiet, of-step}
use Rattle.dsde_run.proofs.run.turn.Goals as goal

pub returns-in_ok-finish_of-in-Err-clause-turns : goal.returns-in_ok-finish_of-in-Err-clause-turns
returns-in_ok-finish_of-in-Err-clause-turns g c =
    let how = c.in_ok-finish_of-in-Err.field-0 in
    let head = record_of c.args.head.now in
    let at_time : c.unwrap_or-time.result ≡ unwrap_or (turn_time (next_of (g.E.Advance.engine (g.E.Advance.state c.args.engine.now))) (record_of c.args.head.now)) (g.E.Advance.engine (g.E.Advance.state c.args.engine.now)).time =
    c.unwrap_or-time.ensures ∙ ap (λ time. unwrap_or time c.time-last.result) (c.turn_time.ensures ∙ ap (turn_time (next_of (g.E.Advance.engine (g.E.Advance.state c.args.engine.now)))) c.record-head.ensures)
    ∙ ap (unwrap_or (turn_time (next_of (g.E.Advance.engine (g.E.Advance.state c.args.engine.now))) (record_of c.args.head.now))) c.time-last.ensures in
    let tells : turn.Tells (g.E.Advance.advance c.args.own.now.model (g.E.Advance.state c.args.engine.now) (record_of c.args.head.now)) c.args.events.now c.advance-step.new.events (Err c.in-Err.end) =
    subst (λ (m : Model). turn.Tells (g.E.Advance.advance m (g.E.Advance.state c.args.engine.now) (record_of c.args.head.now)) c.args.events.now c.advance-step.new.events (Err c.in-Err.end)) c.requires.program
    (subst (λ (head : Option Arrival). turn.Tells (g.E.Advance.advance (g.E.Advance.program c.args.engine.now) (g.E.Advance.state c.args.engine.now) head) c.args.events.now c.advance-step.new.events (Err c.in-Err.end)) c.record-head.ensures c.in-Err.ensures.err) in
    IfOk-weaker c.last_line-in-Err.result _ _
    (λ after p.
    subst (Turns g.E.Advance.engine (g.E.Advance.advance c.args.own.now.model) c.args.own.now c.args.pick (g.E.Advance.state c.args.engine.now) head (g.E.Advance.state c.advance-step.new.self) c.args.text.now c.last_line-in-Err.new.text) (sym p.0)
    (EndsIn-faulted g.E.Advance.engine (g.E.Advance.advance c.args.own.now.model) c.args.own.now c.args.pick (g.E.Advance.state c.args.engine.now) (g.E.Advance.engine (g.E.Advance.state c.advance-step.new.self)) head c.in-Err.end how _ _ c.args.events.now c.advance-step.new.events
    c.args.text.now c.write_events.new.text c.last_line-in-Err.new.text c.requires.empty tells (λ engine. c.in_ok-finish_of-in-Err.ensures.fault _ _ engine)
    (ap (λ n. n + 1) c.turn-done.ensures) at_time
    (c.in_ok-write_events.ensures.ok ∙ ap (λ events. c.args.text.now ++ kept_text c.args.own.now c.args.pick events) c.as_slice.ensures) p.1))
    c.last_line-in-Err.ensures

pub advance-step-requires-clause-head : goal.advance-step-requires-clause-head
advance-step-requires-clause-head g c =
    head-comes c.args.own.now (g.E.Advance.program c.args.engine.now) (g.E.Advance.engine (g.E.Advance.state c.args.engine.now)) (option_copied c.record-head.result) (record_of c.args.head.now) c.comes.ensures c.requires.program c.record-head.ensures
    c.requires.root c.requires.comes

pub returns-in-Ok-Quiet-clause-turns : goal.returns-in-Ok-Quiet-clause-turns
returns-in-Ok-Quiet-clause-turns g c =
    let is : c.advance-step.result ≡ Ok Quiet = search rules in
    let told : turn.Tells (g.E.Advance.advance (g.E.Advance.program c.args.engine.now) (g.E.Advance.state c.args.engine.now) (option_copied c.record-head.result)) c.args.events.now c.advance-step.new.events (Ok (Quiet, (g.E.Advance.state c.advance-step.new.self))) =
    of-step (λ (step : Step). turn.Tells (g.E.Advance.advance (g.E.Advance.program c.args.engine.now) (g.E.Advance.state c.args.engine.now) (option_copied c.record-head.result)) c.args.events.now c.advance-step.new.events (Ok (step, (g.E.Advance.state c.advance-step.new.self))))
    c.advance-step.result Quiet Quiet is refl c.advance-step.ensures.ok in
    let steps : StepsOn g.E.Advance.engine (g.E.Advance.state c.args.engine.now) (g.E.Advance.state c.advance-step.new.self) (option_copied c.record-head.result) Quiet =
    of-step (StepsOn g.E.Advance.engine (g.E.Advance.state c.args.engine.now) (g.E.Advance.state c.advance-step.new.self) (option_copied c.record-head.result)) c.advance-step.result Quiet Quiet is refl c.advance-step.ensures.steps in
    let tells : turn.Tells (g.E.Advance.advance c.args.own.now.model (g.E.Advance.state c.args.engine.now) (record_of c.args.head.now)) c.args.events.now c.advance-step.new.events (Ok (Quiet, (g.E.Advance.state c.advance-step.new.self))) =
    subst (λ (m : Model). turn.Tells (g.E.Advance.advance m (g.E.Advance.state c.args.engine.now) (record_of c.args.head.now)) c.args.events.now c.advance-step.new.events (Ok (Quiet, (g.E.Advance.state c.advance-step.new.self)))) c.requires.program
    (subst (λ (head : Option Arrival). turn.Tells (g.E.Advance.advance (g.E.Advance.program c.args.engine.now) (g.E.Advance.state c.args.engine.now) head) c.args.events.now c.advance-step.new.events (Ok (Quiet, (g.E.Advance.state c.advance-step.new.self)))) c.record-head.ensures told) in
    IfOk-weaker c.last_line.result _ _
    (λ after p.
    subst (Turns g.E.Advance.engine (g.E.Advance.advance c.args.own.now.model) c.args.own.now c.args.pick (g.E.Advance.state c.args.engine.now) (record_of c.args.head.now) (g.E.Advance.state c.advance-step.new.self) c.args.text.now c.last_line.new.text) (sym p.0)
    (EndsIn-quiet g.E.Advance.engine (g.E.Advance.advance c.args.own.now.model) c.args.own.now c.args.pick (g.E.Advance.state c.args.engine.now) (g.E.Advance.state c.advance-step.new.self) (record_of c.args.head.now) c.turn-done.result c.time-last.result c.args.events.now c.advance-step.new.events
    c.args.text.now c.write_events.new.text c.last_line.new.text c.requires.empty tells steps.1 c.turn-done.ensures c.time-last.ensures
    (c.in_ok-write_events.ensures.ok ∙ ap (λ events. c.args.text.now ++ kept_text c.args.own.now c.args.pick events) c.as_slice.ensures) p.1))
    c.last_line.ensures
