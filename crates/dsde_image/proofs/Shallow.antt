-- An image has no float, and nests four deep.
use Rattle.std.proofs.Common.{◌≡◌, ℕ, ◌≤◌, false, List, [], ◌∷◌, refl, arith}
use Rattle.dsde_values.specs.declared.when.When.{When}
use Rattle.dsde_values.specs.declared.when.When.TheVariants.{At, Never}
use Rattle.serde_json.specs.Data.{Data, string, depth, items_depth}
use Rattle.serde_json.specs.Written.{has_float, items_have_float}
use Rattle.dsde_image.specs.declared.image.Body.{Body}
use Rattle.dsde_image.specs.declared.image.Body.TheVariants.{Atomic, Net, Executive}
use Rattle.dsde_image.specs.declared.image.Image.{Image}
use Rattle.dsde_image.specs.declared.image.Location.{Location}
use Rattle.dsde_image.specs.declared.image.Location.TheVariants as location
use Rattle.dsde_image.specs.declared.image.Row.{Row}
use Rattle.dsde_image.specs.Json.{items_data, when_data, texts_data, located_data, row_data, image_data}

each-float : {A : Type 0} (seen : A → Data) → ((thing : A) → has_float (seen thing) ≡ false) → (things : List A) → items_have_float (items_data seen things) ≡ false
each-float seen none [] = refl
each-float seen none (thing ∷ things) = rw (none thing, each-float seen none things) refl

when-float : (next : When) → has_float (when_data next) ≡ false
when-float (At time) = refl
when-float Never = refl

texts-float : (texts : List (List ℕ)) → has_float (texts_data texts) ≡ false
texts-float texts = each-float string (λ text. refl) texts

row-float : (row : Row) → has_float (row_data row) ≡ false
row-float row = located-float row.location row.model row.body
  where
    located-float : (place : Location) (model : List ℕ) (body : Body) → has_float (located_data place model body) ≡ false
    located-float (location.Path path) model (Atomic args standing) = rw (texts-float args, when-float standing.next, texts-float standing.state) refl
    located-float (location.Path path) model (Net args) = rw (texts-float args) refl
    located-float (location.Path path) model (Executive standing) = rw (when-float standing.next, texts-float standing.state) refl
    located-float (location.Last name depth) model (Atomic args standing) = rw (texts-float args, when-float standing.next, texts-float standing.state) refl
    located-float (location.Last name depth) model (Net args) = rw (texts-float args) refl
    located-float (location.Last name depth) model (Executive standing) = rw (when-float standing.next, texts-float standing.state) refl

pub image-float : (image : Image) → has_float (image_data image) ≡ false
image-float image = rw (each-float row_data row-float image.parts) refl

each-depth : {A : Type 0} (seen : A → Data) (most : ℕ) → ((thing : A) → depth (seen thing) ≤ most) → (things : List A) → items_depth (items_data seen things) ≤ most
each-depth seen most within [] = omega arith
each-depth seen most within (thing ∷ things) = omega (arith, within thing, each-depth seen most within things)

when-depth : (next : When) → depth (when_data next) ≤ 0
when-depth (At time) = omega arith
when-depth Never = omega arith

texts-depth : (texts : List (List ℕ)) → depth (texts_data texts) ≤ 1
texts-depth texts = omega (arith, each-depth string 0 (λ text. omega arith) texts)

row-depth : (row : Row) → depth (row_data row) ≤ 2
row-depth row = located-depth row.location row.model row.body
  where
    located-depth : (place : Location) (model : List ℕ) (body : Body) → depth (located_data place model body) ≤ 2
    located-depth (location.Path path) model (Atomic args standing) = omega (arith, texts-depth args, when-depth standing.next, texts-depth standing.state)
    located-depth (location.Path path) model (Net args) = omega (arith, texts-depth args)
    located-depth (location.Path path) model (Executive standing) = omega (arith, when-depth standing.next, texts-depth standing.state)
    located-depth (location.Last name depth) model (Atomic args standing) = omega (arith, texts-depth args, when-depth standing.next, texts-depth standing.state)
    located-depth (location.Last name depth) model (Net args) = omega (arith, texts-depth args)
    located-depth (location.Last name depth) model (Executive standing) = omega (arith, when-depth standing.next, texts-depth standing.state)

pub image-depth : (image : Image) → depth (image_data image) ≤ 127
image-depth image = omega (arith, each-depth row_data 2 row-depth image.parts)
