use Rattle.std.proofs.Common.{◌∙◌, ap}
use Rattle.dsde_eval.specs.declared.env.Env.{Env}
use Rattle.dsde_atomic.proofs.Bodies.{body-of}
use Rattle.dsde_atomic.proofs.Settling.{state-behind, leaf-fits}
use Rattle.dsde_atomic.proofs.leaf.settled.Goals as goal

pub due-requires-clause-fits : goal.due-requires-clause-fits
due-requires-clause-fits c = body-of c.args.program.now c.args.model.0 c.args.args c.args.state c.in_ok-slots.slots c.requires.args c.requires.state c.in_ok-slots.ensures

pub returns-clause-fits : goal.returns-clause-fits
returns-clause-fits c =
    leaf-fits c.args.program.now c.args.model c.args.boss c.args.args c.args.state c.behind-state.result c.args.time c.in_ok-next.next c.requires.args c.requires.state c.requires.moment c.in_ok-next.ensures.in_time
    (c.behind-state.ensures ∙ state-behind c.args.args c.args.state c.due.new.env.slots c.len-params.result c.len-params.ensures (ap (λ (e : Env). e.slots) c.due.ensures.keeps ∙ c.in_ok-slots.ensures))
