use Rattle.std.proofs.Common.{[], ◌∷◌, ◌++◌, ◌∙◌, ap, sym, subst}
use Rattle.dsde_values.specs.declared.name.Name.{Name}
use Rattle.dsde_values.specs.declared.path.Path.{Path}
use Rattle.dsde_sim_tree.specs.given.structure.sources_Given.{Given}
use Rattle.dsde_executive.specs.given.system.Program.{system}
use Rattle.dsde_sim_tree.specs.declared.sim.Sim.TheViews.{out-Kid}
use Rattle.dsde_sim_tree.specs.Output.{output}
use Rattle.dsde_sim_starting.specs.Fitting.{FitsTree}
use Rattle.dsde_sim_starting.specs.lemmas.Fits.{leaf-tree}
use Rattle.dsde_sim_starting.proofs.Asks.{answers}
use Rattle.dsde_sim_starting.proofs.asking.+output.Goals as goal

pub output-leaf_output-requires : goal.output-leaf_output-requires
output-leaf_output-requires t c = leaf-tree c.args.program.now c.in-Leaf.leaf (subst (FitsTree c.args.program.now) c.in-Leaf.is c.requires)

pub asked-loop-kid-preserved : goal.asked-loop-kid-preserved
asked-loop-kid-preserved t c =
    let given : Name → Given = λ name. record { name = name; ports = c.in_ok-ports.ports } in
    answers c.args.program.now c.args.kids.now c.args.path.now c.args.time c.loop-kid.kid-index c.loop-kid.done c.loop-kid.invariant
    c.kid-item.result c.loop-kid-test.true c.kid-item.is c.in_ok-ports.ports
    (ap (λ (own : Path). output (system c.args.program.now) (out-Kid c.kid-item.result).sim own c.args.time) (sym c.in_ok-path.ensures) ∙ c.in_ok-ports.ensures.comes)
    c.in_ok-ports.ensures.fits c.push.new.self
    (c.in_ok-push.ensures.ok ∙ ap (λ (name : Name). c.loop-kid.done ++ given name ∷ []) c.in_ok-copy.ensures)
