use Rattle.std.proofs.Common.{ap, sym, ◌∙◌}
use Rattle.dsde_sim_tree.specs.given.formalism.Leaf.{kind_of}
use Rattle.dsde_sim_tree.specs.given.formalism.System.{Ports}
use Rattle.dsde_core_outputs.proofs.AloneCalling.{none-called, some-called}
use Rattle.dsde_core_outputs.proofs.single.called.Goals as goal

pub returns-in-Some : goal.returns-in-Some
returns-in-Some c =
    let a = c.args in
    let kind = ap (λ (got : Ports). kind_of a.leaf.now a.time got) (sym c.as_slice.ensures) ∙ sym c.kind_of.ensures ∙ c.in-Some.is in
    sym (some-called a.leaf.now a.handle a.path a.time a.got c.in-Some.field-0 kind)

pub returns-in-None : goal.returns-in-None
returns-in-None c =
    let a = c.args in
    let none = ap (λ (got : Ports). kind_of a.leaf.now a.time got) (sym c.as_slice.ensures) ∙ sym c.kind_of.ensures ∙ c.in-None.is in
    sym (none-called a.leaf.now a.handle a.path a.time a.got none)
