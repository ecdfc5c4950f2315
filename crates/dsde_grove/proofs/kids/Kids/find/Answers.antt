use Rattle.std.proofs.Common.{◌≢◌, ◌∙◌, All, Contains, MatchOption, subst}
use Rattle.dsde_grove.specs.Part.{Kid}
use Rattle.dsde_grove.proofs.Named.{find_named}
use Rattle.dsde_grove.proofs.kids.Kids.find.Goals as goal

pub returns : goal.returns
returns c =
    subst (λ kids. MatchOption c.copied.result (All (λ (kid : Kid). kid.name ≢ c.args.name.now) kids) (λ handle. Contains kids record { name = c.args.name.now; handle = handle })) c.self.view_is
    (find_named c.self.inside.by_name c.self.invariant c.args.name.now c.copied.result (c.copied.ensures ∙ c.get.ensures.value))
