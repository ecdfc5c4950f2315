-- A tree in which one network changes its structure.
use Rattle.std.specs.Prelude.{ℕ, List, [], Result, Ok, Err}
use Rattle.dsde_values.specs.declared.name.Name.{Name}
use Rattle.dsde_values.specs.declared.path.Path.{Path}
use Rattle.dsde_sim_tree.specs.given.formalism.System.{System}
use Rattle.dsde_structure.specs.declared.plan.Plan.{Plan}
use Rattle.dsde_sim_tree.specs.declared.fault.TurnEnd.{TurnEnd}
use Rattle.dsde_sim_tree.specs.Told.{Told, told, ◌then◌}
use Rattle.dsde_sim_tree.specs.declared.sim.Net.{Net}
use Rattle.dsde_sim_tree.specs.declared.sim.Sim.{Sim}
use Rattle.dsde_sim_tree.specs.declared.sim.Sim.TheVariants as sim
use Rattle.dsde_sim_tree.specs.declared.sim.Sim.TheViews.{out-Net}
use Rattle.dsde_sim_tree.specs.Move.{replanned}
use Rattle.dsde_sim_movers.specs.Parts.{with_part}
use Rattle.dsde_core_moves.specs.declared.flat.Flat.{Flat}
use Rattle.dsde_core_moves.specs.Flat.{tree_of}

-- the network at a place, with its path, gets the structure of a plan
abbrev pub restructured : System → Sim → List Name → Path → Net → ℕ → ℕ → Plan → Told (Sim × ℕ)
restructured system tree place path net time room plan =
    replanned system (out-Net net).model (out-Net net).args (out-Net net).boss (out-Net net).kids path time room plan then (λ after.
    told [] (with_part place (sim.Net after.0) tree, after.1))

-- what it came to, by the tree that is left
abbrev pub with_room : Flat → Result ℕ TurnEnd → Result (Sim × ℕ) TurnEnd
with_room flat (Ok room) = Ok (tree_of flat, room)
with_room flat (Err end) = Err end
