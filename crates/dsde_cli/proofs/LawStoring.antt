-- The text that a run leaves to be stored is restored to its last engine.
use Rattle.std.proofs.Common.{◌≡◌, ◌^◌, ◌≤◌, ℕ, Bool, true, List, Option, Some, None, refl, sym, ap, subst, ◌∙◌, inl, inr, arith}
use Rattle.std.specs.Prelude.{if◌then◌else◌}
use Rattle.std.specs.Option.{option_map}
use Rattle.serde_json.specs.Written.{compact_text}
use Rattle.dsde_syntax.specs.declared.decl.Model.{Model}
use Rattle.dsde_language.specs.Right.{IsRight}
use Rattle.dsde_sim_tree.specs.declared.sim.Sim.{Sim}
use Rattle.dsde_sim_tree.specs.Engine.{Engine}
use Rattle.dsde_run_free.specs.given.sim_working.Working.{working}
use Rattle.dsde_image.specs.Image.{IsImage}
use Rattle.dsde_image.specs.Written.{IsWritten}
use Rattle.dsde_image.specs.declared.image.Image.{Image}
use Rattle.dsde_image.specs.declared.image.Version.TheVariants.{Two}
use Rattle.dsde_image.specs.Json.{image_data}
use Rattle.dsde_image.specs.Text.{IsReading}
use Rattle.dsde_cli.specs.Said.{ImagesAreSaid}
use Rattle.dsde_run_free.specs.given.image_rows.Plain.{ImagesAreRestored, ImagesAreWritten, RowsAreRight}
use Rattle.dsde_run_free.specs.given.run.Saved.{IsRestored, Says, image_of}
use Rattle.dsde_sound_runs.specs.given.run_meaning.Run.{Run}
use Rattle.dsde_cli.specs.LawCut.{CanGoOn}
use Rattle.dsde_cli.specs.Standing.{HasStanding}
use Rattle.dsde_run_free.specs.given.run.Run.{Running}
use Rattle.dsde_run_free.specs.given.run.SavedRuns.{image_at, image_left, is_stored, text_left}
use Rattle.dsde_cli.proofs.Restoring.{by-standing}

-- a run that can go on is stored
stored-if : (first : Run) (more : ℕ) → CanGoOn first more → is_stored first.end ≡ true
stored-if first more (inl is) = ap is_stored is
stored-if first more (inr is) = ap is_stored is.0

same-text : {x y : List ℕ} → (let own : Option (List ℕ) = Some x in own ≡ Some y) → x ≡ y
same-text is = cc

left-is : (program : Model) (first : Run) (tree : Sim) → is_stored first.end ≡ true → first.state.tree ≡ Some tree → image_left program first ≡ (let found : Option Image = Some (image_of program Two first.state tree) in found)
left-is program first tree stored is =
    ap (λ (test : Bool). if test then image_at program first.state else None) stored ∙ ap (option_map (image_of program Two first.state)) is

-- a text that is stored is that of the image
text-is : (program : Model) (first : Run) (tree : Sim) (text : List ℕ) → is_stored first.end ≡ true → first.state.tree ≡ Some tree → text_left program first ≡ Some text →
    text ≡ compact_text (image_data (image_of program Two first.state tree))
text-is program first tree text stored is left =
    same-text (sym left ∙ ap (option_map (λ (image : Image). compact_text (image_data image))) (left-is program first tree stored is))

module _ (model : Model) (right : IsRight model) (turns : ℕ) (engine : Engine) (standing : HasStanding model turns engine) where
  image-stands : RowsAreRight → turns ≤ 2 ^ 62 → IsImage (image_of model Two engine standing.tree)
  image-stands rows_right few = record {
    time = standing.moment;
    turn = omega (arith, standing.bounded, few);
    records = standing.taken;
    parts = rows_right model right Two engine.time standing.tree standing.fits.fits standing.stands;
  }

  image-written : ImagesAreWritten → IsWritten (image_of model Two engine standing.tree)
  image-written written = record { version = refl; parts = written model right engine.time standing.tree standing.fits.fits standing.stands }

  image-told : RowsAreRight → ImagesAreWritten → ImagesAreSaid → turns ≤ 2 ^ 62 → (text : List ℕ) → text ≡ compact_text (image_data (image_of model Two engine standing.tree)) →
      Says text (image_of model Two engine standing.tree)
  image-told rows_right written said few text is =
      let image = image_of model Two engine standing.tree in
      let own = image-stands rows_right few in
      record { image_is = own; reading = subst (λ (text : List ℕ). IsReading text (image_data image)) (sym is) (said image own (image-written written)) }

-- The text that a run leaves is restored to its last engine.
pub text-restored : RowsAreRight → ImagesAreWritten → ImagesAreSaid → ImagesAreRestored → (own : Running) (turns more : ℕ) (first : Run) (text : List ℕ) → IsRight own.model → HasStanding own.model turns first.state →
    CanGoOn first more → turns ≤ 2 ^ 62 → text_left own.model first ≡ Some text → IsRestored own.model text (working own.model first.state)
text-restored rows_right written said restored own turns more first text right standing can few left = record {
  image = image_of own.model Two first.state standing.tree;
  says = image-told own.model right turns first.state standing rows_right written said few text (text-is own.model first standing.tree text (stored-if first more can) standing.is left);
  engine = by-standing restored own turns first.state right standing Two;
}
