use Rattle.std.proofs.Common.{◌≡◌, true, ℕ, List, flat_map, Some, refl, sym, ap, subst, ◌∙◌}
use Rattle.std.specs.FinSet as set
use Rattle.dsde_bank.specs.declared.handle.Handle.{Handle}
use Rattle.dsde_values.specs.Path.{root}
use Rattle.dsde_sim_tree.specs.given.formalism.leaf_Leaf.{Leaf}
use Rattle.dsde_sim_working.specs.given.system.Fitting.{FitsInputs}
use Rattle.dsde_sim_working.specs.given.system.Program.{system}
use Rattle.dsde_sim_tree.specs.declared.sim.Sim.TheVariants as sim
use Rattle.dsde_sim_tree.specs.Move.{ins_of}
use Rattle.dsde_sim_tree.specs.Output.{by_port}
use Rattle.dsde_core_parcels.specs.given.routes_wiring.row_Row.{Row}
use Rattle.dsde_core_parcels.specs.given.routes_wiring.wiring_Wiring.{Wiring}
use Rattle.dsde_core_parcels.specs.given.routes_wiring.Flatten.{flatten}
use Rattle.dsde_core_parcels.specs.given.routes_pushing.Carried.{pushed}
use Rattle.dsde_core_parcels.specs.given.routes_pushing.Pushed.{AreRowsTo}
use Rattle.dsde_core_parcels.specs.given.routes_pushing.lemmas_Lists.{all-from}
use Rattle.dsde_core_parcels.specs.given.routes_pushing.Wire.{wired_net}
use Rattle.dsde_core_parcels.specs.given.core_flat.Shown.{leaf_in}
use Rattle.dsde_core_parcels.specs.declared.inbox.Inbox.{Inbox}
use Rattle.dsde_core_parcels.specs.Brought.{brought, Rise}
use Rattle.dsde_core_parcels.specs.Traffic.{handle_in, traffic_of, GoesToPort}
use Rattle.dsde_core_parcels.specs.Calling.{called}
use Rattle.dsde_core_outputs.specs.Called.{IsFit}
use Rattle.dsde_core_parcels.specs.lemmas.Living.{living-fits}
use Rattle.dsde_core_outputs.proofs.Moving.{either-brought}
use Rattle.dsde_core_outputs.proofs.Typing.{leaf-inputs, KeepTypes}
use Rattle.dsde_core_outputs.proofs.called_laws.called_fit.Goals as goal

pub returns : goal.returns
returns c = λ model own top wiring net time items due inboxes right filled.
    let S = system model in
    let tree = sim.Net net in
    let got = by_port (ins_of S tree) items in
    let traffic = traffic_of S own top time got in
    let wired = wired_net (handle_in top wiring) net root in
    let are = filled.turn.are in
    let rise = subst Rise (sym filled.filled) (c.inboxes_are_received.ensures.rise filled.parcels are.order) in
    let apart = c.inboxes_are_apart.ensures inboxes rise in
    let keep : KeepTypes model = λ via from to one made takes typed is. c.translations_keep_types.ensures model via from to one made right takes typed is in
    let same_wiring : wired ≡ wiring = c.flat_states_carry.ensures.wiring model own top wiring net time got filled.carry in
    let brings : (target : Handle) (port : ℕ) (rows : List Row) → AreRowsTo (flatten wired) target port rows → brought inboxes target port ≡ flat_map (pushed traffic) rows =
    λ target port rows to.
    ap (λ (boxes : List Inbox). brought boxes target port) filled.filled
    ∙ sym (c.inboxes_are_received.ensures.brought traffic wired filled.parcels are target port)
    ∙ c.push_equals_gather.ensures.pushed traffic wired are.own are.have target port rows to in
    let goes : (row : Row) → set.contains (flatten wired) row ≡ true → GoesToPort model own traffic.sent row =
    λ row there. c.flat_states_carry.ensures.goes model own top wiring net time got filled.carry row (subst (λ (one : Wiring). set.contains (flatten one) row ≡ true) same_wiring there) in
    all-from (IsFit model own) (called S own time due inboxes)
    (λ mover among.
    let is = either-brought model own top wiring net time items due inboxes filled rise apart mover among in
    let fits = living-fits own top (Some wiring) tree filled.carry.stands filled.carry.named model filled.carry.fits mover.handle is.leaf is.held in
    let inputs = leaf-inputs model keep own traffic refl wired (brought inboxes) brings (c.push_equals_gather.ensures.ordered wired are.own) goes mover.handle is.leaf is.held fits in
    subst (λ (leaf : Leaf). FitsInputs model leaf.model.0 mover.got) (sym (ap leaf_in is.held)) (subst (FitsInputs model is.leaf.model.0) (sym is.got_is) inputs))
