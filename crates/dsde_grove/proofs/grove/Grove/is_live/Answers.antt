use Rattle.std.proofs.Common.{is_some, sym, ap, subst, ◌∙◌}
use Rattle.dsde_grove.specs.Grove.{spot, IsTree}
use Rattle.dsde_grove.proofs.Parts.{live-found, is_some-copied}
use Rattle.dsde_grove.proofs.ShownTrees.{tree-shown}
use Rattle.dsde_grove.proofs.grove.Grove.is_live.Goals as goal

pub returns-clause-value : goal.returns-clause-value
returns-clause-value g c =
    c.is_some.ensures ∙ sym (is_some-copied c.get.result) ∙ ap is_some c.get.ensures.value ∙ sym (live-found c.self.inside.bank c.args.handle)
    ∙ ap (λ v. is_some (spot v c.args.handle)) c.self.view_is

pub returns-clause-tree : goal.returns-clause-tree
returns-clause-tree g c = subst IsTree c.self.view_is (tree-shown c.self.inside.bank c.self.invariant.tree)
