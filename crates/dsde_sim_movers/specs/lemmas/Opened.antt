-- What the depth, the parts, the model and the arguments of a tree are at an atomic component, a network
-- and a component of one.
use Rattle.std.proofs.Common.{◌≡◌, ℕ, suc, ◌+◌, map, sym, ap, ◌∙◌}
use Rattle.dsde_sim_tree.specs.given.formalism.leaf_Leaf.{Leaf}
use Rattle.dsde_sim_tree.specs.declared.sim.Kid.{Kid}
use Rattle.dsde_sim_tree.specs.declared.sim.Net.{Net}
use Rattle.dsde_sim_tree.specs.declared.sim.Sim.TheFolds.{fold-roll-Sim, fold-roll-Kid, fold-roll-Net}
use Rattle.dsde_sim_tree.specs.declared.sim.Sim.TheOpen as layer
use Rattle.dsde_sim_tree.specs.declared.sim.Sim.TheVariants as sim
use Rattle.dsde_sim_tree.specs.declared.sim.Sim.TheViews.{out-Kid, out-Net, out-roll-Sim, roll-out-Kid, roll-out-Net, rolls-Leaf, rolls-Net}
use Rattle.dsde_sim_tree.specs.Tree.{parts, parts_of_kid, parts_of_net, parts_of_kids, parts_step, kid_parts, net_parts, model_of, args_of}
use Rattle.dsde_sim_movers.specs.Stands.{deepest, depth_step, depth_kid, depth_net, depth, depth_of_kid, depth_of_net}

pub depth-Leaf : (leaf : Leaf) → depth (sim.Leaf leaf) ≡ 1
depth-Leaf leaf = ap depth (sym (rolls-Leaf leaf)) ∙ fold-roll-Sim ℕ ℕ ℕ depth_step depth_kid depth_net (layer.Leaf leaf)

pub depth-Net : (net : Net) → depth (sim.Net net) ≡ suc (deepest (map depth_of_kid (out-Net net).kids))
depth-Net net =
    ap depth (sym (rolls-Net net)) ∙ fold-roll-Sim ℕ ℕ ℕ depth_step depth_kid depth_net (layer.Net net)
    ∙ ap depth_of_net (sym (roll-out-Net net)) ∙ fold-roll-Net ℕ ℕ ℕ depth_step depth_kid depth_net (out-Net net)

pub depth-kid : (kid : Kid) → depth_of_kid kid ≡ depth (out-Kid kid).sim
depth-kid kid = ap depth_of_kid (sym (roll-out-Kid kid)) ∙ fold-roll-Kid ℕ ℕ ℕ depth_step depth_kid depth_net (out-Kid kid)

pub parts-Leaf : (leaf : Leaf) → parts (sim.Leaf leaf) ≡ 1
parts-Leaf leaf = ap parts (sym (rolls-Leaf leaf)) ∙ fold-roll-Sim ℕ ℕ ℕ parts_step kid_parts net_parts (layer.Leaf leaf)

pub parts-Net : (net : Net) → parts (sim.Net net) ≡ 2 + parts_of_kids (out-Net net).kids
parts-Net net =
    ap parts (sym (rolls-Net net)) ∙ fold-roll-Sim ℕ ℕ ℕ parts_step kid_parts net_parts (layer.Net net)
    ∙ ap parts_of_net (sym (roll-out-Net net)) ∙ fold-roll-Net ℕ ℕ ℕ parts_step kid_parts net_parts (out-Net net)

pub parts-kid : (kid : Kid) → parts_of_kid kid ≡ parts (out-Kid kid).sim
parts-kid kid = ap parts_of_kid (sym (roll-out-Kid kid)) ∙ fold-roll-Kid ℕ ℕ ℕ parts_step kid_parts net_parts (out-Kid kid)

pub model-Leaf : (leaf : Leaf) → model_of (sim.Leaf leaf) ≡ leaf.model
model-Leaf leaf = ap model_of (sym (rolls-Leaf leaf)) ∙ ap (λ shown. elim shown [ layer.Leaf leaf ↦ leaf.model | layer.Net net ↦ (out-Net net).model ]) (out-roll-Sim (layer.Leaf leaf))

pub args-Leaf : (leaf : Leaf) → args_of (sim.Leaf leaf) ≡ leaf.args
args-Leaf leaf = ap args_of (sym (rolls-Leaf leaf)) ∙ ap (λ shown. elim shown [ layer.Leaf leaf ↦ leaf.args | layer.Net net ↦ (out-Net net).args ]) (out-roll-Sim (layer.Leaf leaf))

pub model-Net : (net : Net) → model_of (sim.Net net) ≡ (out-Net net).model
model-Net net = ap model_of (sym (rolls-Net net)) ∙ ap (λ shown. elim shown [ layer.Leaf leaf ↦ leaf.model | layer.Net net ↦ (out-Net net).model ]) (out-roll-Sim (layer.Net net))

pub args-Net : (net : Net) → args_of (sim.Net net) ≡ (out-Net net).args
args-Net net = ap args_of (sym (rolls-Net net)) ∙ ap (λ shown. elim shown [ layer.Leaf leaf ↦ leaf.args | layer.Net net ↦ (out-Net net).args ]) (out-roll-Sim (layer.Net net))
