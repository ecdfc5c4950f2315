use Rattle.std.proofs.Common.{◌≡◌, take}
use Rattle.dsde_sim_tree.specs.given.structure.plan_Part_TheVariants as part
use Rattle.dsde_sim_tree.specs.given.structure.Gather.{gathered}
use Rattle.dsde_sound_structures.specs.given.system.Program.{system}
use Rattle.dsde_sim_gathering.proofs.boxes.sent_by_net.Given as goal

abbrev pub invariant-loop-link : goal.invariant-loop-link
invariant-loop-link l = l.got ≡ gathered (system l.program).translate (take l.link-index l.links) l.sources part.Net l.ports
