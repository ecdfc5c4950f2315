use Rattle.std.proofs.Common.{◌++◌, sym}
use Rattle.dsde_sim_tree.specs.given.structure.Gather.{carried}
use Rattle.dsde_sound_structures.specs.given.system.Program.{system}
use Rattle.dsde_sim_gathering.proofs.Adding.{changed-on, past-changed}
use Rattle.dsde_sim_gathering.proofs.carry.carry_to.Goals as goal

pub returns-in-Some : goal.returns-in-Some
returns-in-Some c =
    changed-on c.carry.result c.args.ports.now c.args.link.now.to.port (λ there. there ++ carried (system c.args.program.now).translate c.args.sources.now c.args.link.now)
    c.in-Some.values.now c.carry.new.values (sym c.in-Some.ensures.value) c.carry.ensures

pub returns-in-None : goal.returns-in-None
returns-in-None c =
    sym (past-changed c.args.ports.now c.args.link.now.to.port (λ there. there ++ carried (system c.args.program.now).translate c.args.sources.now c.args.link.now) (sym c.in-None.ensures.value))
