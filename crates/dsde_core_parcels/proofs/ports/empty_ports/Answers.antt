use Rattle.std.proofs.Common.{List, [], ◌∷◌, ◌++◌, ◌∙◌, ap, sym, arith}
use Rattle.std.proofs.lemmas.List.FromFn.{map-range_with_len_more}
use Rattle.dsde_values.specs.declared.value.Value.{Value}
use Rattle.dsde_routes_wiring.specs.given.structure.Gather.{Ports}
use Rattle.dsde_core_parcels.proofs.ports.empty_ports.Goals as goal

pub loop-port-preserved : goal.loop-port-preserved
loop-port-preserved c =
    let none : List Value = [] in
    c.in_ok-push.ensures.ok
    ∙ ap (λ (values : List Value). c.loop-port.got ++ values ∷ []) c.new.ensures
    ∙ ap (λ (got : Ports). got ++ none ∷ []) c.loop-port.invariant
    ∙ sym (map-range_with_len_more (λ port. none) 0 c.loop-port._port c.loop-port._port (omega arith))
