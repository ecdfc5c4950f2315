-- What a run leaves to be stored. This project's profile.
use Rattle.std.specs.Prelude.{Bool, true, false, if◌then◌else◌, ℕ, List, Option, Some, None}
use Rattle.std.specs.Option.{option_map}
use Rattle.serde_json.specs.Written.{compact_text}
use Rattle.dsde_syntax.specs.declared.decl.Model.{Model}
use Rattle.dsde_image.specs.declared.image.Image.{Image}
use Rattle.dsde_image.specs.declared.image.Version.TheVariants.{Two}
use Rattle.dsde_image.specs.Json.{image_data}
use Rattle.dsde_sim_tree.specs.declared.event.Finish.{Finish}
use Rattle.dsde_sim_tree.specs.declared.event.Finish.TheVariants as how
use Rattle.dsde_sim_tree.specs.Engine.{Engine}
use Rattle.dsde_run_meaning.specs.Run.{Run}
use Rattle.dsde_run.specs.Saved.{image_of}

-- whether a run that ends so is stored: by its bound, or quiet
abbrev pub is_stored : Option Finish → Bool
is_stored (Some how.Bound) = true
is_stored (Some how.Quiet) = true
is_stored _ = false

-- the image of an engine, of version 2, unless it is spent
abbrev pub image_at : Model → Engine → Option Image
image_at program engine = option_map (image_of program Two engine) engine.tree

-- what a run leaves to be stored: the image of its last engine, where it ended so
abbrev pub image_left : Model → Run → Option Image
image_left program run = if is_stored run.end then image_at program run.state else None

-- the text of that image, without blanks
abbrev pub text_left : Model → Run → Option (List ℕ)
text_left program run = option_map (λ (image : Image). compact_text (image_data image)) (image_left program run)
