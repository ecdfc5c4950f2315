-- The image of an engine at work: its rows may be written, and it is one.
use Rattle.std.proofs.Common.{◌≡◌, ◌≤◌, ◌^◌, ℕ, List, Option, Some, sym, subst}
use Rattle.std.specs.Prelude.{Result, Ok, Err, IfOk, IfSome}
use Rattle.std.specs.List.{AllByRecursion}
use Rattle.dsde_syntax.specs.declared.decl.Model.{Model}
use Rattle.dsde_values.specs.Path.{root}
use Rattle.dsde_language.specs.Right.{IsRight}
use Rattle.dsde_image_rows.specs.given.system.Program.{system}
use Rattle.dsde_sim_tree.specs.declared.sim.Sim.{Sim}
use Rattle.dsde_sim_tree.specs.Engine.{Engine}
use Rattle.dsde_image_rows.specs.given.sim_movers.Stands.{StandsTree}
use Rattle.dsde_core.specs.given.sim_working.Working.{StandsAt, StandsIf}
use Rattle.dsde_image.specs.Image.{IsImage}
use Rattle.dsde_image.specs.Written.{IsWrittenRow}
use Rattle.dsde_image.specs.declared.image.Image.{Image}
use Rattle.dsde_image.specs.declared.image.Row.{Row}
use Rattle.dsde_image.specs.declared.image.Version.TheVariants.{Two}
use Rattle.dsde_image_rows.specs.Rows.{rows}
use Rattle.dsde_image_rows.specs.Script.{script}
use Rattle.dsde_image_rows.specs.Plain.{ImagesAreWritten, RowsAreRight}
use Rattle.dsde_image.specs.Json.{image_data}
use Rattle.dsde_image.specs.Text.{IsReading}
use Rattle.dsde_run.specs.Saved.{Says, image_of}

pub parts-written : ImagesAreWritten → (model : Model) → IsRight model → (engine : Engine) (tree : Sim) (parts : List Row) → Some tree ≡ engine.tree → StandsIf model engine.tree → StandsAt model engine
    → parts ≡ rows (script model) Two tree root → AllByRecursion IsWrittenRow parts
parts-written written model right engine tree parts is fits stands listed =
    let own = subst (StandsIf model) (sym is) fits in
    let now = subst (λ (found : Option Sim). IfSome found (StandsTree (system model) engine.time)) (sym is) stands.stands in
    subst (AllByRecursion IsWrittenRow) (sym listed) (written model right engine.time tree own.fits now)

-- The image of an engine at work that has done at most 2^62 turns is one.
pub image-is : RowsAreRight → (model : Model) → IsRight model → (engine : Engine) (tree : Sim) → engine.tree ≡ Some tree → StandsIf model engine.tree → StandsAt model engine
    → engine.taken ≤ engine.turn → engine.turn ≤ 2 ^ 62 → IsImage (image_of model Two engine tree)
image-is rows_right model right engine tree is fits stands within few =
    let own = subst (StandsIf model) is fits in
    let now = subst (λ (found : Option Sim). IfSome found (StandsTree (system model) engine.time)) is stands.stands in
    record { time = stands.moment; turn = few; records = within; parts = rows_right model right Two engine.time tree own.fits now }

-- an image by its parts
pub image-made : (model : Model) (engine : Engine) (tree : Sim) (turn time records : ℕ) (parts : List Row) → turn ≡ engine.turn → time ≡ engine.time → records ≡ engine.taken
    → parts ≡ rows (script model) Two tree root
    → (let made : Image = record { version = Two; turn = turn; time = time; records = records; parts = parts } in made) ≡ image_of model Two engine tree
image-made model engine tree turn time records parts turns times taken listed = cc (turns, times, taken, listed)

-- A text that is read as that image says it.
pub says-by : {E : Type 0} → RowsAreRight → (model : Model) → IsRight model → (engine : Engine) (tree : Sim) (image : Image) (result : Result (List ℕ) E)
    → IfOk result (λ text. IsReading text (image_data image)) → image ≡ image_of model Two engine tree → Some tree ≡ engine.tree → StandsIf model engine.tree → StandsAt model engine
    → engine.taken ≤ engine.turn → engine.turn ≤ 2 ^ 62 → IfOk result (λ text. IfSome engine.tree (λ own. Says text (image_of model Two engine own)))
says-by rows_right model right engine tree image (Err why) reading made is fits stands within few = tt
says-by rows_right model right engine tree image (Ok text) reading made is fits stands within few =
    subst (λ (found : Option Sim). IfSome found (λ own. Says text (image_of model Two engine own))) is
    (record {
      image_is = image-is rows_right model right engine tree (sym is) fits stands within few;
      reading = subst (λ (own : Image). IsReading text (image_data own)) made reading;
    })
