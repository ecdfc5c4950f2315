use Rattle.std.proofs.Common.{map, subst}
use Rattle.dsde_grove.specs.Part.{kid_of, Forgets}
use Rattle.dsde_grove.proofs.Named.{forgets}
use Rattle.dsde_grove.proofs.kids.Kids.forget.Goals as goal

pub returns : goal.returns
returns c =
    subst (λ kids. Forgets c.args.name.now kids (map kid_of c.remove.new.self.entries)) c.self.view_is
    (forgets c.self.inside.by_name c.remove.new.self c.self.invariant c.remove.ensures.ordered c.args.name.now c.remove.ensures.updates)
