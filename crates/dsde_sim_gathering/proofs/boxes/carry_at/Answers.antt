use Rattle.std.proofs.Common.{sym}
use Rattle.dsde_sim_tree.specs.given.structure.Gather.{carried}
use Rattle.dsde_sound_structures.specs.given.system.Program.{system}
use Rattle.dsde_sim_gathering.specs.Boxes.{added}
use Rattle.dsde_sim_gathering.proofs.Adding.{changed-on, past-changed}
use Rattle.dsde_sim_gathering.proofs.boxes.carry_at.Goals as goal

pub returns-in-Some : goal.returns-in-Some
returns-in-Some c =
    changed-on c.carry_to.result c.args.kids.now c.args.index (added c.args.link.now.to.port (carried (system c.args.program.now).translate c.args.sources.now c.args.link.now))
    c.in-Some.ports.now c.carry_to.new.ports (sym c.in-Some.ensures.value) c.carry_to.ensures

pub returns-in-None : goal.returns-in-None
returns-in-None c =
    sym (past-changed c.args.kids.now c.args.index (added c.args.link.now.to.port (carried (system c.args.program.now).translate c.args.sources.now c.args.link.now)) (sym c.in-None.ensures.value))
