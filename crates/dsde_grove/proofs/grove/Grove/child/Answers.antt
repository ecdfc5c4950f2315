use Rattle.std.proofs.Common.{Some, ap}
use Rattle.dsde_grove.proofs.KidLemmas.{some_option}
use Rattle.dsde_grove.proofs.grove.Grove.child.Goals as goal

pub returns-in-Some-clause-child : goal.returns-in-Some-clause-child
returns-in-Some-clause-child g c kid =
    let told = c.in-Some.ensures.child kid in (λ same. told.0 (ap Some same), λ is. some_option c.in-Some.kid (Some kid) (told.1 is))

pub returns-in-None-clause-child : goal.returns-in-None-clause-child
returns-in-None-clause-child g c kid =
    let told = c.in-None.ensures.child kid in (λ wrong. absurd (cc), λ is. let wrong = told.1 is in absurd (cc))
