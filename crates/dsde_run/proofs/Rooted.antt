-- The root of an engine's tree is of the model that runs.
use Rattle.std.proofs.Common.{◌≡◌, ℕ, Option, Some, None, subst}
use Rattle.std.specs.Prelude.{IfSome}
use Rattle.dsde_syntax.specs.declared.decl.Model.{Model}
use Rattle.dsde_language.specs.DeclaredModels.{top_number}
use Rattle.dsde_image_rows.specs.given.sim_movers.Stands.{StandsTree}
use Rattle.dsde_sim_tree.specs.declared.sim.Sim.{Sim}
use Rattle.dsde_sim_tree.specs.Tree.{model_of}
use Rattle.dsde_image_rows.specs.given.sound_structures.Sure.{FitsChosen, Sure}
use Rattle.dsde_image_rows.specs.given.system.Program.{system}

module _ (model : Model) (sure : Sure (FitsChosen model) (system model).top) where
  tree-rooted : (time : ℕ) (tree : Sim) → StandsTree (system model) time tree → model_of tree ≡ top_number model
  tree-rooted time tree stands = (subst (Sure (FitsChosen model)) stands.top sure).is

  pub rooted : (time : ℕ) (found : Option Sim) → IfSome found (StandsTree (system model) time) → IfSome found (λ tree. model_of tree ≡ top_number model)
  rooted time None stands = tt
  rooted time (Some tree) stands = tree-rooted time tree stands
