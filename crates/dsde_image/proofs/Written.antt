-- Lists of values that are written.
use Rattle.std.proofs.Common.{◌≡◌, ◌≤◌, ℕ, false, List, [], ◌∷◌, map, Option, Some, refl, sym, ap, subst, ◌∙◌}
use Rattle.std.specs.Prelude.{IsUtf8}
use Rattle.serde_json.specs.Read.{read}
use Rattle.serde_json.specs.Written.{has_float, compact_text}
use Rattle.dsde_image.specs.declared.image.Image.{Image}
use Rattle.dsde_image.specs.Text.{IsReading}
use Rattle.dsde_image.proofs.Shallow.{image-float, image-depth}
use Rattle.serde_json.specs.Data.{Data, item, depth}
use Rattle.serde_json.specs.View.{items_of}
use Rattle.dsde_image.specs.Json.{items_data, image_data}

pub items-are : {A : Type 0} (seen : A → Data) (things : List A) → items_of (map seen things) ≡ items_data seen things
items-are seen [] = refl
items-are seen (thing ∷ things) = ap (item (seen thing)) (items-are seen things)

pub text-is : (text bytes : List ℕ) (seen : Data) (image : Image) → text ≡ bytes → seen ≡ image_data image → (has_float seen ≡ false → bytes ≡ compact_text seen) → text ≡ compact_text (image_data image)
text-is text bytes seen image same is written = same ∙ written (ap has_float is ∙ image-float image) ∙ ap compact_text is

pub says-so : (text bytes : List ℕ) (seen : Data) (image : Image) → text ≡ bytes → seen ≡ image_data image → IsUtf8 bytes → (depth seen ≤ 127 → read bytes ≡ Some seen) → IsReading text (image_data image)
says-so text bytes seen image same is utf8 back = record {
  utf8 = subst IsUtf8 (sym same) utf8;
  says = ap read same ∙ back (subst (λ (own : Data). depth own ≤ 127) (sym is) (image-depth image)) ∙ ap (λ (own : Data). let found : Option Data = Some own in found) is;
}
