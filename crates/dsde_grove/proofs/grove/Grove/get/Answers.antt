use Rattle.std.proofs.Common.{◌∙◌, sym, ap, subst}
use Rattle.std.specs.Option.{option_map}
use Rattle.dsde_grove.specs.Grove.{value_of, IsTree}
use Rattle.dsde_grove.proofs.Parts.{value_of-found}
use Rattle.dsde_grove.proofs.ShownTrees.{tree-shown}
use Rattle.dsde_grove.proofs.grove.Grove.get.Goals as goal

pub returns-in-Some-clause-value : goal.returns-in-Some-clause-value
returns-in-Some-clause-value g c =
    ap (option_map (λ part. part.value)) c.in-Some.ensures.value ∙ sym (value_of-found c.self.inside.bank c.args.handle) ∙ ap (λ v. value_of v c.args.handle) c.self.view_is

pub returns-in-None-clause-value : goal.returns-in-None-clause-value
returns-in-None-clause-value g c =
    ap (option_map (λ part. part.value)) c.in-None.ensures.value ∙ sym (value_of-found c.self.inside.bank c.args.handle) ∙ ap (λ v. value_of v c.args.handle) c.self.view_is

pub returns-in-Some-clause-tree : goal.returns-in-Some-clause-tree
returns-in-Some-clause-tree g c = subst IsTree c.self.view_is (tree-shown c.self.inside.bank c.self.invariant.tree)

pub returns-in-None-clause-tree : goal.returns-in-None-clause-tree
returns-in-None-clause-tree g c = subst IsTree c.self.view_is (tree-shown c.self.inside.bank c.self.invariant.tree)
