use Rattle.std.proofs.Common.{◌∙◌, sym, ap, subst}
use Rattle.std.specs.FinMap as map
use Rattle.dsde_grove.proofs.Parts.{len-parts_of}
use Rattle.dsde_grove.specs.Grove.{IsTree}
use Rattle.dsde_grove.proofs.ShownTrees.{tree-shown}
use Rattle.dsde_grove.proofs.grove.Grove.live.Goals as goal

pub returns-clause-count : goal.returns-clause-count
returns-clause-count g c = c.len.ensures ∙ sym (len-parts_of c.self.inside.bank.held) ∙ ap (λ v. map.len v.parts) c.self.view_is

pub returns-clause-tree : goal.returns-clause-tree
returns-clause-tree g c = subst IsTree c.self.view_is (tree-shown c.self.inside.bank c.self.invariant.tree)
