-- The rows of a tree of a program are restored to it.
use Rattle.std.proofs.Common.{◌≡◌, ℕ, List, [], ◌∷◌, inl, inr}
use Rattle.std.specs.Prelude.{Ok}
use Rattle.std.specs.List.{AllByRecursion}
use Rattle.dsde_syntax.specs.declared.decl.Model.{Model}
use Rattle.dsde_values.specs.Path.{root}
use Rattle.dsde_language.specs.Right.{IsRight}
use Rattle.dsde_sim_movers.specs.given.formalism.leaf_Leaf.{Leaf}
use Rattle.dsde_sound_structures.specs.given.system.Program.{system}
use Rattle.dsde_sound_structures.specs.given.system.Fitting.{FitsLeaf}
use Rattle.dsde_sim_starting.specs.Fitting.{FitsSpot, FitsTree}
use Rattle.dsde_sim_movers.specs.Stands.{Stands}
use Rattle.dsde_sim_movers.specs.given.sim_tree.Spots.{Spot, spots}
use Rattle.dsde_sim_movers.specs.given.sim_tree.sim_Sim.{Sim}
use Rattle.dsde_image.specs.declared.image.Version.{Version}
use Rattle.dsde_image_rows.specs.Fits.{ImagesFit, SpotIsReadAgain, StateIsReadAgain}
use Rattle.dsde_image_rows.specs.Rows.{rows}
use Rattle.dsde_image_rows.specs.Walk.{tree_of}
use Rattle.dsde_image_rows.specs.Script.{script, ArgsReadAgain, StatesReadAgain}

module _ (fit : ImagesFit) (args : ArgsReadAgain) (states : StatesReadAgain) (model : Model) (right : IsRight model) where
  state-again : (leaf : Leaf) → FitsLeaf model leaf → StateIsReadAgain (script model) leaf
  state-again leaf fits = states model right leaf.model leaf.state (record { own = fits.own; found = fits.found; fill = fits.state })

  spot-again : (spot : Spot) → FitsSpot model spot → SpotIsReadAgain (script model) spot
  spot-again (inl leaf) fits = (
    state-again leaf fits.fits,
    args model right leaf.model leaf.args (record { below = fits.fits.below; own = fits.fits.own; found = fits.fits.found; fill = fits.fits.args }),
  )
  spot-again (inr shape) fits = (state-again shape.boss fits.boss, args model right shape.model shape.args fits.args)

  all-again : (all : List Spot) → AllByRecursion (FitsSpot model) all → AllByRecursion (SpotIsReadAgain (script model)) all
  all-again [] fits = tt
  all-again (spot ∷ all) fits = (spot-again spot fits.0, all-again all fits.1)

  pub tree-restored : (version : Version) (time : ℕ) (tree : Sim) → FitsTree model tree → Stands (system model) time tree → tree_of (system model) (script model) version time (rows (script model) version tree root) ≡ Ok tree
  tree-restored version time tree fits stands = fit (system model) (script model) version time tree stands (all-again (spots tree) fits.all)
