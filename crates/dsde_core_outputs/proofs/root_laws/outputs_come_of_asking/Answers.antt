use Rattle.std.proofs.Common.{map}
use Rattle.dsde_values.specs.Path.{root}
use Rattle.dsde_sim_working.specs.given.system.Program.{system}
use Rattle.dsde_sim_tree.specs.Output.{output}
use Rattle.dsde_sim_working.specs.given.sim_movers.Asking.{ask_each}
use Rattle.dsde_core_parcels.specs.given.core_flat.lemmas_Fitting.{tree-named}
use Rattle.dsde_core_parcels.specs.given.core_flat.Due.{asked}
use Rattle.dsde_core_parcels.specs.given.core_moves.Flat.{tree_of}
use Rattle.dsde_core_outputs.proofs.Asked.{faults, sends}
use Rattle.dsde_core_outputs.proofs.root_laws.outputs_come_of_asking.Goals as goal

pub returns-clause-sent : goal.returns-clause-sent
returns-clause-sent c = λ model flat time dues stands due came.
    sends (output (system model) (tree_of flat) root time) (ask_each (system model) time (map (asked flat.grove) dues))
    (c.outputs_ask_the_due.ensures (system model) flat.grove time flat.root flat.wiring (tree_of flat) dues stands.stands (tree-named model (tree_of flat) stands.fits) due)
    came

pub returns-clause-fault : goal.returns-clause-fault
returns-clause-fault c = λ model flat time dues end stands due came.
    faults (output (system model) (tree_of flat) root time) (ask_each (system model) time (map (asked flat.grove) dues)) end
    (c.outputs_ask_the_due.ensures (system model) flat.grove time flat.root flat.wiring (tree_of flat) dues stands.stands (tree-named model (tree_of flat) stands.fits) due)
    came
