use Rattle.std.proofs.Common.{sym, subst}
use Rattle.std.specs.List.{AllByRecursion}
use Rattle.dsde_sim_working.specs.given.system.Program.{system}
use Rattle.dsde_core_parcels.specs.given.routes_wiring.Sets.{Rows}
use Rattle.dsde_core_parcels.specs.Parcels.{ArePushed, GoFrom}
use Rattle.dsde_core_parcels.specs.Sent.{IsSentBy}
use Rattle.dsde_core_parcels.specs.Traffic.{traffic_of}
use Rattle.dsde_core_outputs.proofs.Filling.{carries, net_got, outlets-are}
use Rattle.dsde_core_outputs.proofs.root_laws.outlets_fill_inboxes.Goals as goal

pub returns-clause-go : goal.returns-clause-go
returns-clause-go c = λ model flat time items dues outlets stands is are.
    let own = c.roots_are_networks.ensures.rooted model flat stands is in
    let got = net_got model flat own items in
    let carry = carries model flat own time items dues outlets are stands in
    let sent =
    subst (IsSentBy (traffic_of (system model) flat.grove flat.root time got)) (sym (outlets-are model flat own time items dues outlets are))
    (c.flat_outlets_are_sent.ensures model flat.grove flat.root own.wiring own.net time got dues carry are.due) in
    subst (λ (rows : Rows). AllByRecursion (GoFrom model rows) outlets) (sym own.rows)
    (c.flat_outlets_go.ensures model flat.grove flat.root own.wiring own.net time got outlets carry sent)

pub returns-clause-ready : goal.returns-clause-ready
returns-clause-ready c = λ model flat time items dues outlets inboxes stands is are fill.
    let own = c.roots_are_networks.ensures.rooted model flat stands is in
    let got = net_got model flat own items in
    let carry = carries model flat own time items dues outlets are stands in
    let sent =
    subst (IsSentBy (traffic_of (system model) flat.grove flat.root time got)) (sym (outlets-are model flat own time items dues outlets are))
    (c.flat_outlets_are_sent.ensures model flat.grove flat.root own.wiring own.net time got dues carry are.due) in
    let pushed = subst (λ (rows : Rows). ArePushed rows (system model).translate outlets fill.pushed) own.rows fill.are in
    let turn = c.flat_parcels_are_of_turns.ensures model flat.grove flat.root own.wiring own.net time items outlets fill.pushed fill.parcels carry sent pushed fill.same fill.order in
    record { rooted = own; filled = record { carry = carry; are_due = are.due; parcels = fill.parcels; turn = turn; filled = fill.filled } }
