-- What follows of the definitions of trees at an atomic component, a network and a component of one.
use Rattle.std.proofs.Common.{◌≡◌, ℕ, [], map, Ok, sym, ap, ◌∙◌}
use Rattle.dsde_values.specs.declared.path.Path.{Path}
use Rattle.dsde_formalism.specs.declared.leaf.Leaf.{Leaf}
use Rattle.dsde_formalism.specs.System.{System}
use Rattle.dsde_structure.specs.declared.plan.Part.TheVariants as part
use Rattle.dsde_structure.specs.declared.sources.Given.{Given}
use Rattle.dsde_structure.specs.Gather.{gathered}
use Rattle.dsde_sim_tree.specs.Told.{at, below}
use Rattle.dsde_sim_tree.specs.declared.sim.Kid.{Kid}
use Rattle.dsde_sim_tree.specs.declared.sim.Net.{Net}
use Rattle.dsde_sim_tree.specs.declared.sim.Sim.TheVariants as sim
use Rattle.dsde_sim_tree.specs.declared.sim.Sim.TheOpen as layer
use Rattle.dsde_sim_tree.specs.declared.sim.Sim.TheFolds.{fold-Net, fold-roll-Sim, fold-roll-Kid, fold-roll-Net}
use Rattle.dsde_sim_tree.specs.declared.sim.Sim.TheViews.{out-Kid, out-Net, roll-out-Kid, roll-out-Net, rolls-Leaf, rolls-Net}
use Rattle.dsde_sim_tree.specs.Output.{◌>>=◌, Answer, KidAnswer, output, output_step, output_kid, output_net, kid_output, sent, sources_of}

module _ (system : System) where
  pub output-Leaf : (leaf : Leaf) (path : Path) (time : ℕ) → output system (sim.Leaf leaf) path time ≡ at path (sent system leaf time)
  output-Leaf leaf path time =
      ap (λ own. output system own path time) (sym (rolls-Leaf leaf))
      ∙ ap (λ (answer : Answer). answer path time) (fold-roll-Sim Answer KidAnswer Answer (output_step system) output_kid (output_net system) (layer.Leaf leaf))

  pub output-Net : (net : Net) (path : Path) (time : ℕ) →
      output system (sim.Net net) path time
      ≡ (sources_of system (map (kid_output system) (out-Net net).kids) (out-Net net).boss path time [] >>= (λ sources.
      Ok (gathered system.translate (out-Net net).links sources part.Net (system.network (out-Net net).model (out-Net net).args).outs)))
  output-Net net path time =
      ap (λ own. output system own path time) (sym (rolls-Net net))
      ∙ ap (λ (answer : Answer). answer path time)
      (fold-roll-Sim Answer KidAnswer Answer (output_step system) output_kid (output_net system) (layer.Net net)
      ∙ ap (fold-Net Answer KidAnswer Answer (output_step system) output_kid (output_net system)) (sym (roll-out-Net net))
      ∙ fold-roll-Net Answer KidAnswer Answer (output_step system) output_kid (output_net system) (out-Net net))

  pub output-kid : (kid : Kid) (path : Path) (time : ℕ) →
      kid_output system kid path time
      ≡ (output system (out-Kid kid).sim (below path (out-Kid kid).name) time >>= (λ ports. let given : Given = record { name = (out-Kid kid).name; ports = ports } in Ok given))
  output-kid kid path time =
      ap (λ (own : Kid). kid_output system own path time) (sym (roll-out-Kid kid))
      ∙ ap (λ (answer : KidAnswer). answer path time) (fold-roll-Kid Answer KidAnswer Answer (output_step system) output_kid (output_net system) (out-Kid kid))
