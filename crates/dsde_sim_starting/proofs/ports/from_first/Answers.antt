use Rattle.std.proofs.Common.{List, [], ◌∷◌, ◌++◌, ◌∙◌, ap, sym, arith}
use Rattle.std.proofs.lemmas.List.FromFn.{map-range_with_len_more}
use Rattle.dsde_values.specs.declared.value.Value.{Value}
use Rattle.dsde_sim_tree.specs.given.formalism.System.{Ports}
use Rattle.dsde_sim_tree.specs.Output.{values_at}
use Rattle.dsde_sim_starting.proofs.ports.from_first.Goals as goal

pub loop-port-preserved : goal.loop-port-preserved
loop-port-preserved c =
    c.in_ok-push.ensures.ok
    ∙ ap (λ (values : List Value). c.loop-port.got ++ values ∷ []) c.in_ok-values_at.ensures
    ∙ ap (λ (got : Ports). got ++ values_at c.args.items.now c.loop-port.port ∷ []) c.loop-port.invariant
    ∙ sym (map-range_with_len_more (values_at c.args.items.now) 0 c.loop-port.port c.loop-port.port (omega arith))
