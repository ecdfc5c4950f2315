use Rattle.std.proofs.Common.{◌≡◌, take}
use Rattle.dsde_sound_structures.specs.given.system.Program.{system}
use Rattle.dsde_sim_gathering.specs.Boxes.{boxes_of}
use Rattle.dsde_sim_gathering.proofs.boxes.inboxes_of.Given as goal

abbrev pub invariant-loop-link : goal.invariant-loop-link
invariant-loop-link l = l.boxes ≡ boxes_of (system l.program) (take l.link-index l.links) l.sources l.boss_ins l.kids
