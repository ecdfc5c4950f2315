use Rattle.std.proofs.Common.{◌≡◌, map, take}
use Rattle.dsde_sound_structures.specs.given.system.Program.{system}
use Rattle.dsde_sim_tree.specs.declared.sim.Sim.TheViews.{out-Kid}
use Rattle.dsde_sim_tree.specs.Move.{ins_of}
use Rattle.dsde_sim_gathering.specs.Boxes.{empty_ports}
use Rattle.dsde_sim_gathering.proofs.boxes.empty_boxes.Given as goal

abbrev pub invariant-loop-kid : goal.invariant-loop-kid
invariant-loop-kid l = l.boxes ≡ map (λ kid. empty_ports (ins_of (system l.program) (out-Kid kid).sim)) (take l.kid-index l.kids)
