use Rattle.std.proofs.Common.{◌≡◌, ◌∙◌, List, subst}
use Rattle.dsde_values.specs.declared.value.Value.{Value}
use Rattle.dsde_atomic.specs.Steps.{Begins}
use Rattle.dsde_atomic.proofs.Inits.{init-state, init-fits, init-fails}
use Rattle.dsde_atomic.proofs.init.init.Goals as goal

pub returns-in-Ok-clause-gives : goal.returns-in-Ok-clause-gives
returns-in-Ok-clause-gives c =
    let same : c.in_ok-slots.slots ≡ c.args.args.now = c.in_ok-slots.ensures ∙ c.as_slice.ensures in
    let begins = c.begin.ensures in
    let size = c.len.ensures in
    rw (c.behind.ensures, size) (init-state c.args.program.now c.args.model c.args.args.now c.requires c.begin.result c.begin.new.env.slots c.in-Ok.field-0 (subst (λ (l : List Value). Begins c.args.program.now c.args.model.0 l c.begin.result c.begin.new.env.slots) same begins) c.in-Ok.is)

pub returns-in-Ok-clause-fits : goal.returns-in-Ok-clause-fits
returns-in-Ok-clause-fits c =
    let same : c.in_ok-slots.slots ≡ c.args.args.now = c.in_ok-slots.ensures ∙ c.as_slice.ensures in
    let begins = c.begin.ensures in
    let size = c.len.ensures in
    rw (c.behind.ensures, size) (init-fits c.args.program.now c.args.model c.args.args.now c.requires c.begin.result c.begin.new.env.slots c.in-Ok.field-0 (subst (λ (l : List Value). Begins c.args.program.now c.args.model.0 l c.begin.result c.begin.new.env.slots) same begins) c.in-Ok.is)

pub returns-in-Err-clause-gives : goal.returns-in-Err-clause-gives
returns-in-Err-clause-gives c =
    let same : c.in_ok-slots.slots ≡ c.args.args.now = c.in_ok-slots.ensures ∙ c.as_slice.ensures in
    let begins = c.begin.ensures in
    rw c.at_site.ensures (init-fails c.args.program.now c.args.model c.args.args.now c.requires c.begin.result c.begin.new.env.slots c.in-Err.end (subst (λ (l : List Value). Begins c.args.program.now c.args.model.0 l c.begin.result c.begin.new.env.slots) same begins) c.in-Err.is)
