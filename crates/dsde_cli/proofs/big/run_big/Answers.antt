use Rattle.std.proofs.Common.{Some, [], sym, subst}
use Rattle.std.specs.Prelude.{IfSome}
use Rattle.dsde_run_big.specs.Model.{big_text}
use Rattle.dsde_run_free.specs.given.run.Counting.{summary_text}
use Rattle.dsde_cli.specs.Big.{Summarizes, big_run}
use Rattle.dsde_cli.specs.Loaded.{own_of}
use Rattle.dsde_cli.specs.RunOutcome.{SaysEnd}
use Rattle.dsde_cli_status.specs.declared.status.Status.TheVariants.{Memory}
use Rattle.dsde_cli.proofs.Drawing.{big-completes, big-memory, big-refused, big-unrefused, cause-made, cause-none, summary-none}
use Rattle.dsde_cli.proofs.big.run_big.Goals as goal

pub returns-in-Ok-clause-summarizes : goal.returns-in-Ok-clause-summarizes
returns-in-Ok-clause-summarizes g c = λ own runs.
    subst (λ own. IfSome (g.W.Sink.written c.args.out.now) (λ written. Summarizes (summary_text own (big_run own c.args.turns)) written (g.W.Sink.written c.run_loaded.new.out) c.run_loaded.result))
    (sym (c.in-Ok.ensures.only own runs)) c.run_loaded.ensures.summarizes

pub returns-in-Err-clause-summarizes : goal.returns-in-Err-clause-summarizes
returns-in-Err-clause-summarizes g c = λ own runs.
    summary-none (summary_text own (big_run own c.args.turns)) (g.W.Sink.written c.args.out.now) c.in-Err.status (big-memory c.one_verdict.ensures (big_text c.args.seed) own c.in-Err.status c.in-Err.ensures.none runs)

pub returns-in-Ok-clause-ends : goal.returns-in-Ok-clause-ends
returns-in-Ok-clause-ends g c = λ own runs.
    subst (λ own. SaysEnd (big_run own c.args.turns).end (Some []) c.run_loaded.result) (sym (c.in-Ok.ensures.only own runs)) c.run_loaded.ensures.ends

pub returns-in-Err-clause-ends : goal.returns-in-Err-clause-ends
returns-in-Err-clause-ends g c = λ own runs.
    subst (SaysEnd (big_run own c.args.turns).end (Some [])) (sym (big-memory c.one_verdict.ensures (big_text c.args.seed) own c.in-Err.status c.in-Err.ensures.none runs)) tt

pub returns-in-Ok-clause-complete : goal.returns-in-Ok-clause-complete
returns-in-Ok-clause-complete g c = λ own runs sink.
    big-completes c.runs_end.ensures c.inputs_arrive.ensures (big_text c.args.seed) own c.args.turns runs _ c.run_loaded.result c.run_loaded.ensures.cause
    (subst (λ own. SaysEnd (big_run own c.args.turns).end (Some []) c.run_loaded.result) (sym (c.in-Ok.ensures.only own runs)) c.run_loaded.ensures.ends) sink

pub returns-in-Err-clause-complete : goal.returns-in-Err-clause-complete
returns-in-Err-clause-complete g c = λ own runs sink.
    rw (big-memory c.one_verdict.ensures (big_text c.args.seed) own c.in-Err.status c.in-Err.ensures.none runs)
    (big-completes c.runs_end.ensures c.inputs_arrive.ensures (big_text c.args.seed) own c.args.turns runs ⊥ Memory tt tt (λ never. never))

pub returns-in-Ok-clause-cause : goal.returns-in-Ok-clause-cause
returns-in-Ok-clause-cause g c = cause-made c.args.seed _ c.run_loaded.result (record { own = own_of c.in-Ok.loaded; runs = c.in-Ok.ensures.runs }) c.run_loaded.ensures.cause

pub returns-in-Err-clause-cause : goal.returns-in-Err-clause-cause
returns-in-Err-clause-cause g c = cause-none c.args.seed _ c.in-Err.status (c.large_models_are_short.ensures c.args.seed) c.in-Err.ensures.none

pub returns-in-Ok-clause-refused : goal.returns-in-Ok-clause-refused
returns-in-Ok-clause-refused g c = λ kind line column refuses.
    absurd (big-unrefused c.one_verdict.ensures (big_text c.args.seed) kind line column (record { own = own_of c.in-Ok.loaded; runs = c.in-Ok.ensures.runs }) refuses)

pub returns-in-Err-clause-refused : goal.returns-in-Err-clause-refused
returns-in-Err-clause-refused g c = λ kind line column refuses. big-refused c.one_verdict.ensures (big_text c.args.seed) c.in-Err.status kind line column c.in-Err.ensures.none refuses
