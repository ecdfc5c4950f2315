-- How many ports the network has whose model is known.
use Rattle.std.proofs.Common.{◌≡◌, ℕ, List, sym, ap, ◌∙◌}
use Rattle.dsde_values.specs.declared.value.Value.{Value}
use Rattle.dsde_language.specs.declared.ids.ModelId.{ModelId}
use Rattle.dsde_sim_tree.specs.given.formalism.System.{System}

module _ (system : System) (number model : ModelId) (args : List Value) (is : model ≡ number) (found ports : ℕ) (narrow : ports ≡ found) where
  pub ins-are : (system.network model args).ins ≡ found → (system.network number args).ins ≡ ports
  ins-are has = ap (λ (one : ModelId). (system.network one args).ins) (sym is) ∙ has ∙ sym narrow

  pub outs-are : (system.network model args).outs ≡ found → (system.network number args).outs ≡ ports
  outs-are has = ap (λ (one : ModelId). (system.network one args).outs) (sym is) ∙ has ∙ sym narrow
