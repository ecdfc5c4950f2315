use Rattle.std.proofs.Common.{subst, List, Option}
use Rattle.std.specs.Prelude.{IfSome}
use Rattle.dsde_values.specs.declared.value.Value.{Value}
use Rattle.dsde_sound_structures.specs.given.system.Fitting.{FitsState}
use Rattle.dsde_image_rows.proofs.Fitting.{leaf-fits, not-later}
use Rattle.dsde_image_rows.proofs.parts.stood.Goals as goal

pub returns-in-Ok-clause-fits : goal.returns-in-Ok-clause-fits
returns-in-Ok-clause-fits c =
    leaf-fits c.args.program.now c.args.model c.args.boss c.args.args c.in-Some.state c.args.standing.now.last c.in-Ok.next c.requires.args
    (subst (λ (own : Option (List Value)). IfSome own (FitsState c.args.program.now c.args.model.0)) c.in-Some.is c.in_ok-state.ensures.fits)
    (not-later c.args.standing.now.last c.args.time c.if-standing-time.false c.requires.moment) c.in-Ok.ensures.in_time
