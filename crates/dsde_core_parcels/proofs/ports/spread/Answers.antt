use Rattle.std.proofs.Common.{◌∙◌, ap}
use Rattle.dsde_routes_wiring.specs.given.structure.Gather.{Ports}
use Rattle.dsde_core_parcels.specs.Ports.{add_all}
use Rattle.dsde_core_parcels.proofs.Adding.{all-spread}
use Rattle.dsde_core_parcels.proofs.ports.spread.Goals as goal

pub returns : goal.returns
returns c = c.in_ok-got.ensures ∙ ap (λ (none : Ports). add_all c.args.gets none) c.in_ok-none.ensures ∙ all-spread c.args.gets c.args.ports
