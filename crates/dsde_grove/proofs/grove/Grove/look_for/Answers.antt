use Rattle.std.proofs.Common.{is_some, Some, None, sym, ap, subst, ◌∙◌}
use Rattle.dsde_grove.specs.Grove.{spot}
use Rattle.dsde_grove.proofs.Parts.{live-found}
use Rattle.dsde_grove.proofs.KidLemmas.{Tells, kid_named-is, no_kids}
use Rattle.dsde_grove.proofs.grove.Grove.look_for.Goals as goal

pub returns-in-Some-clause-live : goal.returns-in-Some-clause-live
returns-in-Some-clause-live g c =
    ap is_some c.in-Some.ensures.value ∙ sym (live-found c.self.inside.bank c.args.handle) ∙ ap (λ v. is_some (spot v c.args.handle)) c.self.view_is

pub returns-in-Some-clause-child : goal.returns-in-Some-clause-child
returns-in-Some-clause-child g c =
    let name = c.args.name.now in
    subst (λ v. Tells v c.args.handle name (Some c.find.result)) c.self.view_is
    (kid_named-is c.self.inside.bank c.self.inside.bank.next_birth c.self.invariant.tree c.args.handle name c.in-Some.part.now (sym c.in-Some.ensures.value) c.find.result c.find.ensures)

pub returns-in-None-clause-live : goal.returns-in-None-clause-live
returns-in-None-clause-live g c =
    ap is_some c.in-None.ensures.value ∙ sym (live-found c.self.inside.bank c.args.handle) ∙ ap (λ v. is_some (spot v c.args.handle)) c.self.view_is

pub returns-in-None-clause-child : goal.returns-in-None-clause-child
returns-in-None-clause-child g c =
    subst (λ v. Tells v c.args.handle c.args.name.now None) c.self.view_is
    (no_kids c.self.inside.bank c.self.inside.bank.next_birth c.self.invariant.tree c.args.handle c.args.name.now (sym c.in-None.ensures.value))
