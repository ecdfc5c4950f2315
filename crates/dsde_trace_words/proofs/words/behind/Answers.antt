use Rattle.dsde_trace_words.proofs.Cutting.{behind-some, behind-none}
use Rattle.dsde_trace_words.proofs.words.behind.Goals as goal

pub returns-in-Some-clause-some : goal.returns-in-Some-clause-some
returns-in-Some-clause-some c = behind-some c.args.text.now c.args.front.now c.in-Some.rest.now c.in-Some.ensures.cases.0 c.in-Some.ensures.cases.1

pub returns-in-None-clause-none : goal.returns-in-None-clause-none
returns-in-None-clause-none c = behind-none c.args.text.now c.args.front.now c.in-None.ensures.cases
