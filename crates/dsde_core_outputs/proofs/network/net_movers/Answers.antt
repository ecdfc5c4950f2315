use Rattle.std.proofs.Common.{◌≡◌, List, length, arith, map, Ok, Err, Result, IsPermutation, IsSorted, sym, ap, subst, ◌∙◌}
use Rattle.std.proofs.lemmas.List.{length-map}
use Rattle.std.proofs.lemmas.Result.{err_from_is_err_and}
use Rattle.dsde_values.specs.Path.{root}
use Rattle.dsde_sim_tree.specs.given.formalism.System.{Ports}
use Rattle.dsde_sim_working.specs.given.system.Program.{system}
use Rattle.dsde_sim_tree.specs.declared.fault.TurnEnd.{TurnEnd}
use Rattle.dsde_sim_tree.specs.Told.{Comes}
use Rattle.dsde_sim_tree.specs.Output.{output}
use Rattle.dsde_sim_working.specs.given.sim_movers.Asking.{ask_each}
use Rattle.dsde_core_parcels.specs.given.core_flat.due_Due.{Due}
use Rattle.dsde_core_parcels.specs.given.core_flat.Due.{asked}
use Rattle.dsde_core_parcels.specs.declared.inbox.Inbox.{Inbox}
use Rattle.dsde_core_parcels.specs.Calling.{due_movers, emptied, mover_cmp}
use Rattle.dsde_core_parcels.specs.given.core_moves.Flat.{tree_of}
use Rattle.dsde_core_parcels.specs.given.core_moves.phase_Phase.{Phase}
use Rattle.dsde_core_parcels.specs.given.core_moves.Movers.{sent_of}
use Rattle.dsde_core_outputs.specs.Rooting.{taken_by, AreReady}
use Rattle.dsde_core_outputs.proofs.network.net_movers.Goals as goal

pub all_called-requires-clause-order : goal.all_called-requires-clause-order
all_called-requires-clause-order g c =
    let f = c.args.flat.now in
    let m = c.args.program.now in
    let dues = c.args.due.items in
    let boxes = c.in_ok-boxes.boxes in
    let ready = subst (λ (own : List Due). AreReady m f c.args.time c.args.items.now own boxes) c.as_slice-due_now.ensures.value c.in_ok-boxes.ensures.ready in
    subst (λ (own : List Inbox). IsSorted mover_cmp (due_movers (system m) f.grove dues own)) (sym c.in_ok-sent.ensures.left)
    (c.full_inboxes_call.ensures.order m f c.args.time c.args.items.now dues boxes ready)

pub returns-clause-comes : goal.returns-clause-comes
returns-clause-comes g c =
    let f = c.args.flat.now in
    let m = c.args.program.now in
    let time = c.args.time in
    let dues = c.args.due.items in
    let boxes = c.in_ok-boxes.boxes in
    let ready = subst (λ (own : List Due). AreReady m f time c.args.items.now own boxes) c.as_slice-due_now.ensures.value c.in_ok-boxes.ensures.ready in
    let came =
    c.outputs_come_of_asking.ensures.sent m f time dues c.requires.stands c.requires.due
    (subst (λ (own : List Due). ask_each (system m) time (map (asked f.grove) own) ≡ Ok tt) c.as_slice-due_now.ensures.value c.in_ok-boxes.ensures.comes) in
    came.1 ∙ ap (λ (own : Ports). let end : Result Ports TurnEnd = Ok own in end)
    (c.full_inboxes_call.ensures.sent m f time c.args.items.now dues boxes came.0 ready came.1 ∙ sym c.in_ok-sent.ensures.sent)

pub returns-clause-movers : goal.returns-clause-movers
returns-clause-movers g c =
    let f = c.args.flat.now in
    let m = c.args.program.now in
    let time = c.args.time in
    let dues = c.args.due.items in
    let boxes = c.in_ok-boxes.boxes in
    let movers = c.in_ok-movers.movers in
    let ready = subst (λ (own : List Due). AreReady m f time c.args.items.now own boxes) c.as_slice-due_now.ensures.value c.in_ok-boxes.ensures.ready in
    let came =
    c.outputs_come_of_asking.ensures.sent m f time dues c.requires.stands c.requires.due
    (subst (λ (own : List Due). ask_each (system m) time (map (asked f.grove) own) ≡ Ok tt) c.as_slice-due_now.ensures.value c.in_ok-boxes.ensures.comes) in
    let same = subst (λ (own : List Inbox). IsPermutation (taken_by (system m) f.grove time dues own) movers) c.in_ok-sent.ensures.left c.in_ok-movers.ensures.same in
    c.full_inboxes_call.ensures.movers m f time c.args.items.now dues boxes came.0 movers c.right.ensures ready came.1 same c.in_ok-movers.ensures.order c.in_ok-movers.ensures.few

pub returns-clause-wait : goal.returns-clause-wait
returns-clause-wait g c =
    let f = c.args.flat.now in
    let m = c.args.program.now in
    let time = c.args.time in
    let dues = c.args.due.items in
    let boxes = c.in_ok-boxes.boxes in
    let movers = c.in_ok-movers.movers in
    let ready = subst (λ (own : List Due). AreReady m f time c.args.items.now own boxes) c.as_slice-due_now.ensures.value c.in_ok-boxes.ensures.ready in
    let same = subst (λ (own : List Inbox). IsPermutation (taken_by (system m) f.grove time dues own) movers) c.in_ok-sent.ensures.left c.in_ok-movers.ensures.same in
    c.full_inboxes_call.ensures.wait m f time c.args.items.now dues boxes movers ready same

pub returns-in_err-boxes-clause-comes : goal.returns-in_err-boxes-clause-comes
returns-in_err-boxes-clause-comes g c =
    let f = c.args.flat.now in
    let m = c.args.program.now in
    let time = c.args.time in
    let dues = c.args.due.items in
    let end = c.in_err-boxes.field-0.0 in
    let e = err_from_is_err_and c.from_residual.result c.from_residual.ensures.1 in
    subst (λ (r : Result Phase TurnEnd). Comes (output (system m) (tree_of f) root time) (sent_of r)) (sym (e.1 ∙ ap Err e.2))
    (c.outputs_come_of_asking.ensures.fault m f time dues end c.requires.stands c.requires.due
    (subst (λ (own : List Due). Comes (ask_each (system m) time (map (asked f.grove) own)) (let r : Result (Unit {0}) TurnEnd = Err end in r)) c.as_slice-due_now.ensures.value c.in_err-boxes.ensures.comes))

pub returns-clause-ticks : goal.returns-clause-ticks
returns-clause-ticks g c =
    let few = c.in_ok-boxes.ensures.few in
    let less = few.2 in
    let due = ap length c.as_slice-due_now.ensures.value in
    let left = ap length c.in_ok-sent.ensures.left in
    let many = length-map c.in_ok-boxes.boxes (emptied c.args.flat.now.root) in
    (few.0, few.1, omega (arith, c.root_model-model.ensures.ticks, c.in_ok-boxes.ensures.ticks, c.in_ok-movers.ensures.ticks, less, due, left, many))
