-- Components that are restored one after another.
use Rattle.std.proofs.Common.{◌≡◌, ℕ, List, [], ◌++◌, map}
use Rattle.std.specs.List.{AllByRecursion}
use Rattle.dsde_syntax.specs.declared.decl.Model.{Model}
use Rattle.dsde_values.specs.declared.path.Path.{Path}
use Rattle.dsde_sim_tree.specs.given.structure.plan_Entry.{Entry}
use Rattle.dsde_sim_tree.specs.given.structure.Survival.{roles}
use Rattle.dsde_sound_structures.specs.given.system.Program.{system}
use Rattle.dsde_sound_structures.specs.given.system.Plans.{FitsEntry}
use Rattle.dsde_sim_tree.specs.declared.sim.Kid.{Kid}
use Rattle.dsde_sim_tree.specs.Tree.{entry_of}
use Rattle.dsde_sim_starting.specs.Fitting.{FitsKid}
use Rattle.dsde_image.specs.declared.image.Version.{Version}
use Rattle.dsde_image_rows.specs.Walk.{Left, restored_kids, restored}
use Rattle.dsde_image_rows.specs.Script.{script}

-- Of these entries those that are left are still to be restored behind these components.
pub record HaveRestored (model : Model) (version : Version) (time left : ℕ) (path : Path) (entries : List Entry) (begun : Left) (done : List Kid) (here : Left) (rest : List Entry) : Type 0 where
  pub walks : restored_kids (system model) (script model) version time (restored (system model) (script model) version time left) rest path here done
      ≡ restored_kids (system model) (script model) version time (restored (system model) (script model) version time left) entries path begun []
  pub fits : AllByRecursion (FitsKid model) done
  pub roles_are : roles (map entry_of done) ++ roles rest ≡ roles entries
  pub wanted : AllByRecursion (FitsEntry model) rest
