use Rattle.std.proofs.Common.{map, subst}
use Rattle.dsde_sim_moving.specs.given.system.Program.{system}
use Rattle.dsde_sim_tree.specs.Told.{Comes}
use Rattle.dsde_sim_tree.specs.declared.sim.Sim.TheViews.{out-Net}
use Rattle.dsde_sim_tree.specs.Output.{kid_output, sources_of}
use Rattle.dsde_order.proofs.Walked.{never-ends}
use Rattle.dsde_order.proofs.asked.sources_again.Goals as goal

pub unreachable-requires : goal.unreachable-requires
unreachable-requires c =
    let s = system c.args.program.now in
    let net = c.args.net.now in
    let end = rw c.in-Err-Fault.field-0-is at c.in-Err-Fault.is in
    never-ends s net c.args.path.now c.args.time c.requires.answers c.args.got _
    (subst (Comes (sources_of s (map (kid_output s) (out-Net net).kids) (out-Net net).boss c.args.path.now c.args.time c.args.got)) end c.sources_in.ensures.comes)
