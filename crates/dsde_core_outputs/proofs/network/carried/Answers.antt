use Rattle.std.proofs.Common.{◌≤◌, length, List, sym, subst}
use Rattle.dsde_sim_working.specs.given.system.Program.{system}
use Rattle.dsde_core_parcels.specs.declared.inbox.Inbox.{Inbox}
use Rattle.dsde_core_parcels.specs.Brought.{Rise}
use Rattle.dsde_core_outputs.proofs.network.carried.Goals as goal

pub returns-clause-fill : goal.returns-clause-fill
returns-clause-fill c = record {
  pushed = c.in_ok-pushed.pushed;
  parcels = c.in_ok-parcels.parcels;
  are = c.in_ok-pushed.ensures;
  same = c.in_ok-parcels.ensures.same;
  order = c.in_ok-parcels.ensures.order;
  filled = c.in_ok-boxes.ensures;
}

pub returns-clause-rise : goal.returns-clause-rise
returns-clause-rise c = subst Rise (sym c.in_ok-boxes.ensures) (c.inboxes_are_received.ensures.rise c.in_ok-parcels.parcels c.in_ok-parcels.ensures.order)

pub returns-clause-few : goal.returns-clause-few
returns-clause-few c =
    let few = c.inboxes_are_few.ensures c.args.table.now (system c.args.program.now).translate c.args.outlets.now c.in_ok-pushed.pushed c.in_ok-parcels.parcels c.in_ok-pushed.ensures c.in_ok-parcels.ensures.same in
    (few.0, few.1, subst (λ (boxes : List Inbox). length boxes ≤ few.0) (sym c.in_ok-boxes.ensures) few.2)
