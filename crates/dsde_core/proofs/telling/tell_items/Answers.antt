use Rattle.std.proofs.Common.{◌∙◌, ◌++◌, List, ap, sym, append-nil}
use Rattle.dsde_values.specs.declared.arrival.Item.{Item}
use Rattle.dsde_sim_tree.specs.declared.event.Event.{Event}
use Rattle.dsde_sim_tree.specs.Output.{by_port, outs_from}
use Rattle.dsde_core.proofs.Outs.{none-told}
use Rattle.dsde_core.proofs.telling.tell_items.Goals as goal

pub returns-clause-ok : goal.returns-clause-ok
returns-clause-ok c =
    let a = c.args in
    sym (ap (λ (list : List Event). a.events.now ++ list) (ap (λ (items : List Item). outs_from 0 (by_port a.ports items)) c.in-None.ensures.0 ∙ none-told a.ports) ∙ append-nil a.events.now)
