-- A tree that is restored of the rows of an image of a program.
use Rattle.std.proofs.Common.{ℕ, List}
use Rattle.std.specs.Prelude.{Result, Ok, Err, IfOk}
use Rattle.dsde_syntax.specs.declared.decl.Model.{Model}
use Rattle.dsde_sound_structures.specs.given.system.Program.{system}
use Rattle.dsde_sim_tree.specs.declared.sim.Sim.{Sim}
use Rattle.dsde_image.specs.declared.image.Row.{Row}
use Rattle.dsde_image.specs.declared.image.Version.{Version}
use Rattle.dsde_image_rows.specs.Fits.{IsExact, OnlyImagesFit, RestoredRight}
use Rattle.dsde_image_rows.specs.Walk.{tree_of}
use Rattle.dsde_image_rows.specs.Script.{script}
use Rattle.dsde_image_rows.specs.declared.ends.RestoreEnd.{RestoreEnd}
use Rattle.dsde_image_rows.specs.Walks.{Walks}

pub stands-then : (model : Model) (version : Version) (time : ℕ) (listed : List Row) (result : Result Sim RestoreEnd) → OnlyImagesFit → IsExact (script model)
    → Walks (λ tree. tree) result (tree_of (system model) (script model) version time listed) → IfOk result (RestoredRight (system model) (script model) version time listed)
stands-then model version time listed (Ok tree) only exact walks = only (system model) (script model) version exact time listed tree walks
stands-then model version time listed (Err why) only exact walks = tt
