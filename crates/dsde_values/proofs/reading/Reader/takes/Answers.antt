use Rattle.std.proofs.Common.{◌∙◌, sym, refl}
use Rattle.dsde_values.proofs.Fronts.{front_taken, front_missing}
use Rattle.dsde_values.proofs.reading.Reader.takes.Goals as goal

pub returns-in-Some : goal.returns-in-Some
returns-in-Some c =
    sym c.self.view_is ∙ front_taken c.args.text.now c.self.inside.left.now c.in-Some.left.now c.in-Some.ensures.cases.0 c.in-Some.ensures.cases.1

pub returns-in-None : goal.returns-in-None
returns-in-None c =
    (refl, λ rest same. front_missing c.args.text.now c.self.inside.left.now c.in-None.ensures.cases rest (c.self.view_is ∙ same))
