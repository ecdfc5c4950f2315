use Rattle.std.proofs.Common.{ℕ, List, IsPermutation, IsSorted, sym, ap, subst, ◌∙◌}
use Rattle.dsde_values.specs.Path.{root}
use Rattle.dsde_sim_working.specs.given.system.Program.{system}
use Rattle.dsde_sim_tree.specs.declared.sim.Sim.{Sim}
use Rattle.dsde_sim_tree.specs.Output.{output}
use Rattle.dsde_sim_working.specs.given.sim_movers.Turns.{turn_movers}
use Rattle.dsde_core_parcels.specs.Inboxes.{spread}
use Rattle.dsde_core_parcels.specs.given.core_moves.flat_Mover.{Mover}
use Rattle.dsde_core_parcels.specs.Calling.{called, gets_for, mover_cmp}
use Rattle.dsde_core_outputs.specs.Called.{IsFit, IsLiveMover}
use Rattle.dsde_core_outputs.proofs.RootCalling.{all-permuted, all-there, all-wait, both-fit, taken-are}
use Rattle.dsde_core_outputs.proofs.Roots.{root-outs}
use Rattle.dsde_core_outputs.proofs.root_laws.full_inboxes_call.Goals as goal

pub returns-clause-order : goal.returns-clause-order
returns-clause-order c = λ model flat time items dues boxes ready.
    let own = ready.rooted in
    subst (IsSorted mover_cmp)
    (sym (c.due_are_called.ensures.due model flat.grove flat.root own.wiring own.net time items dues boxes ready.filled))
    (c.due_are_called.ensures.order model flat.grove flat.root own.wiring own.net time items dues boxes ready.filled)

pub returns-clause-sent : goal.returns-clause-sent
returns-clause-sent c = λ model flat time items dues boxes sent ready is.
    let own = ready.rooted in
    let came = ap (λ (tree : Sim). output (system model) tree root time) (sym own.shown) ∙ is in
    c.root_is_sent.ensures model flat.grove flat.root own.wiring own.net time items dues boxes ready.filled sent came
    ∙ ap (λ (ports : ℕ). spread ports (gets_for flat.root boxes)) (root-outs model flat own)

pub returns-clause-movers : goal.returns-clause-movers
returns-clause-movers c = λ model flat time items dues boxes sent list right ready is same order few.
    let own = ready.rooted in
    let came = ap (λ (tree : Sim). output (system model) tree root time) (sym own.shown) ∙ is in
    let are =
    taken-are (system model) flat.grove flat.root time dues boxes
    (c.due_are_called.ensures.due model flat.grove flat.root own.wiring own.net time items dues boxes ready.filled)
    (c.due_are_called.ensures.told model flat.grove flat.root own.wiring own.net time items dues boxes ready.filled) in
    let permuted = subst (λ (movers : List Mover). IsPermutation movers list) are same in
    let those = called (system model) flat.grove time dues boxes in
    record {
      all =
          c.called_move.ensures model flat.grove flat.root own.wiring own.net time items dues boxes ready.filled sent came list permuted order
          ∙ ap (λ (tree : Sim). turn_movers (system model) tree time items) (sym own.shown);
      there = all-there flat list (all-permuted (IsLiveMover flat.grove) those list permuted (c.called_live.ensures model flat.grove flat.root own.wiring own.net time items dues boxes ready.filled));
      fit = both-fit model flat list (all-permuted (IsFit model flat.grove) those list permuted (c.called_fit.ensures model flat.grove flat.root own.wiring own.net time items dues boxes right ready.filled)) few;
    }

pub returns-clause-wait : goal.returns-clause-wait
returns-clause-wait c = λ model flat time items dues boxes list ready same.
    let own = ready.rooted in
    let are =
    taken-are (system model) flat.grove flat.root time dues boxes
    (c.due_are_called.ensures.due model flat.grove flat.root own.wiring own.net time items dues boxes ready.filled)
    (c.due_are_called.ensures.told model flat.grove flat.root own.wiring own.net time items dues boxes ready.filled) in
    all-wait (system model) flat.grove flat.root time dues boxes list (subst (λ (movers : List Mover). IsPermutation movers list) are same)
