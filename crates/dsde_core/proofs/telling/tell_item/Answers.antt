use Rattle.std.proofs.Common.{◌≡◌, ◌∙◌, ◌++◌, List, OnOk, ap, sym, subst, append-nil}
use Rattle.dsde_sim_tree.specs.declared.event.Event.{Event}
use Rattle.dsde_core.proofs.Outs.{none-there, one-told}
use Rattle.dsde_core.proofs.telling.tell_item.Goals as goal

pub returns-then-item-ports-clause-ok : goal.returns-then-item-ports-clause-ok
returns-then-item-ports-clause-ok c =
    let a = c.args in
    sym (ap (λ (list : List Event). a.events.now ++ list) (none-there a.item a.ports c.if-item-ports.true) ∙ append-nil a.events.now)

pub returns-clause-ok : goal.returns-clause-ok
returns-clause-ok c =
    let a = c.args in
    subst (λ (list : List Event). OnOk c.push.result (c.push.new.self ≡ a.events.now ++ list)) (sym (one-told a.item a.ports c.if-item-ports.false)) c.push.ensures.ok
