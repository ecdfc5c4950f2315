-- Images of version 2 are read of their texts.
use Rattle.std.proofs.Common.{ℕ, suc, ◌^◌, ◌<◌, List, [], ◌∷◌, refl, subst, arith}
use Rattle.std.specs.Prelude.{IsUtf8, codes}
use Rattle.std.specs.List.{AllByRecursion}
use Rattle.json.proofs.Printed.Utf8.{IsUtf8-are_ascii}
use Rattle.serde_json.specs.Data.{Data, null, boolean, number, string, array, object, unsigned, Members, no_members}
use Rattle.dsde_values.specs.declared.when.When.{When}
use Rattle.dsde_values.specs.declared.when.When.TheVariants.{At, Never}
use Rattle.dsde_image.specs.Image.{IsBody, IsImage, IsInTime, IsLocation, IsRow, IsStanding}
use Rattle.dsde_image.specs.Written.{AreUtf8, IsWritten, IsWrittenBody, IsWrittenLocation, IsWrittenRow}
use Rattle.dsde_image.specs.declared.image.Body.{Body}
use Rattle.dsde_image.specs.declared.image.Body.TheVariants.{Atomic, Net, Executive}
use Rattle.dsde_image.specs.declared.image.Image.{Image}
use Rattle.dsde_image.specs.declared.image.Location.{Location}
use Rattle.dsde_image.specs.declared.image.Location.TheVariants as location
use Rattle.dsde_image.specs.declared.image.Row.{Row}
use Rattle.dsde_image.specs.declared.image.Standing.{Standing}
use Rattle.dsde_image.specs.declared.image.Version.{Version}
use Rattle.dsde_image.specs.declared.image.Version.TheVariants.{One, Two}
use Rattle.dsde_image.specs.Json.{atomic_data, executive_data, image_data, items_data, located_data, net_data, row_data, texts_data, version_number, when_data}
use Rattle.dsde_cli.proofs.Said.{AreSaid, IsSaid, said-array, said-null, said-number, said-object, said-string}

-- the members of a value
abbrev members_of : Data → Members
members_of null = no_members
members_of (boolean test) = no_members
members_of (number own) = no_members
members_of (string text) = no_members
members_of (array items) = no_members
members_of (object members) = members

texts-said : (most : ℕ) (texts : List (List ℕ)) → AreUtf8 texts → IsSaid (suc most) (texts_data texts)
texts-said most texts all = said-array most (items_data string texts) (each texts all)
  where
    each : (texts : List (List ℕ)) → AreUtf8 texts → AreSaid most (items_data string texts)
    each [] all = tt
    each (text ∷ texts) all = (said-string most text all.0, each texts all.1)

when-said : (most : ℕ) (next : When) → IsInTime next → IsSaid most (when_data next)
when-said most (At time) moment = said-number most time (omega (arith, moment))
when-said most Never moment = said-null most

module _ (most : ℕ) (name : List ℕ) (depth : ℕ) (model : List ℕ) (name_utf8 : IsUtf8 name) (small : depth < 2 ^ 32) (model_utf8 : IsUtf8 model) where
  depth-said : IsSaid (suc most) (number (unsigned depth))
  depth-said = said-number (suc most) depth (omega (arith, small))

  atomic-said : (args : List (List ℕ)) (standing : Standing) → AreUtf8 args → IsStanding standing → AreUtf8 standing.state → IsSaid (suc (suc most)) (atomic_data name depth model args standing)
  atomic-said args standing args_utf8 times state_utf8 =
      said-object (suc most) (members_of (atomic_data name depth model args standing)) (
        IsUtf8-are_ascii (codes "args") refl,
        texts-said most args args_utf8,
        (
          IsUtf8-are_ascii (codes "depth") refl,
          depth-said,
          (
            IsUtf8-are_ascii (codes "last") refl,
            said-number (suc most) standing.last (omega (arith, times.last)),
            (
              IsUtf8-are_ascii (codes "model") refl,
              said-string (suc most) model model_utf8,
              (
                IsUtf8-are_ascii (codes "name") refl,
                said-string (suc most) name name_utf8,
                (
                  IsUtf8-are_ascii (codes "next") refl,
                  when-said (suc most) standing.next times.next,
                  (IsUtf8-are_ascii (codes "state") refl, texts-said most standing.state state_utf8, tt),
                ),
              ),
            ),
          ),
        ),
      )
      refl

  net-said : (args : List (List ℕ)) → AreUtf8 args → IsSaid (suc (suc most)) (net_data name depth model args)
  net-said args args_utf8 =
      said-object (suc most) (members_of (net_data name depth model args)) (
        IsUtf8-are_ascii (codes "args") refl,
        texts-said most args args_utf8,
        (
          IsUtf8-are_ascii (codes "depth") refl,
          depth-said,
          (
            IsUtf8-are_ascii (codes "model") refl,
            said-string (suc most) model model_utf8,
            (IsUtf8-are_ascii (codes "name") refl, said-string (suc most) name name_utf8, tt),
          ),
        ),
      )
      refl

  executive-said : (standing : Standing) → IsStanding standing → AreUtf8 standing.state → IsSaid (suc (suc most)) (executive_data name depth model standing)
  executive-said standing times state_utf8 =
      said-object (suc most) (members_of (executive_data name depth model standing)) (
        IsUtf8-are_ascii (codes "depth") refl,
        depth-said,
        (
          IsUtf8-are_ascii (codes "last") refl,
          said-number (suc most) standing.last (omega (arith, times.last)),
          (
            IsUtf8-are_ascii (codes "model") refl,
            said-string (suc most) model model_utf8,
            (
              IsUtf8-are_ascii (codes "name") refl,
              said-string (suc most) name name_utf8,
              (
                IsUtf8-are_ascii (codes "next") refl,
                when-said (suc most) standing.next times.next,
                (IsUtf8-are_ascii (codes "state") refl, texts-said most standing.state state_utf8, tt),
              ),
            ),
          ),
        ),
      )
      refl

located-said : (most : ℕ) (place : Location) (model : List ℕ) (body : Body) → IsLocation Two place → IsBody body → IsWrittenLocation place → IsUtf8 model → IsWrittenBody body →
    IsSaid (suc (suc most)) (located_data place model body)
located-said most (location.Path text) model body is own written model_utf8 body_utf8 = absurd is
located-said most (location.Last name depth) model (Atomic args standing) is own written model_utf8 body_utf8 = atomic-said most name depth model written is.1 model_utf8 args standing body_utf8.0 own body_utf8.1
located-said most (location.Last name depth) model (Net args) is own written model_utf8 body_utf8 = net-said most name depth model written is.1 model_utf8 args body_utf8
located-said most (location.Last name depth) model (Executive standing) is own written model_utf8 body_utf8 = executive-said most name depth model written is.1 model_utf8 standing own body_utf8

rows-said : (most : ℕ) (rows : List Row) → AllByRecursion (IsRow Two) rows → AllByRecursion IsWrittenRow rows → AreSaid (suc (suc most)) (items_data row_data rows)
rows-said most [] all written = tt
rows-said most (row ∷ rows) all written =
    (located-said most row.location row.model row.body all.0.location all.0.body written.0.location written.0.model written.0.body, rows-said most rows all.1 written.1)

version-small : (version : Version) → version_number version < 2 ^ 64
version-small One = omega arith
version-small Two = omega arith

-- An image of version 2 is read of its text.
pub image-said : (image : Image) → IsImage image → IsWritten image → IsSaid 4 (image_data image)
image-said image is written =
    said-object 3 (members_of (image_data image)) (
      IsUtf8-are_ascii (codes "kind") refl,
      said-string 3 (codes "dsde-save") (IsUtf8-are_ascii (codes "dsde-save") refl),
      (
        IsUtf8-are_ascii (codes "parts") refl,
        said-array 2 (items_data row_data image.parts) (rows-said 0 image.parts (subst (λ (version : Version). AllByRecursion (IsRow version) image.parts) written.version is.parts) written.parts),
        (
          IsUtf8-are_ascii (codes "records") refl,
          said-number 3 image.records (omega (arith, is.records, is.turn)),
          (
            IsUtf8-are_ascii (codes "time") refl,
            said-number 3 image.time (omega (arith, is.time)),
            (
              IsUtf8-are_ascii (codes "turn") refl,
              said-number 3 image.turn (omega (arith, is.turn)),
              (IsUtf8-are_ascii (codes "version") refl, said-number 3 (version_number image.version) (version-small image.version), tt),
            ),
          ),
        ),
      ),
    )
    refl
