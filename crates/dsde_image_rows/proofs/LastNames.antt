-- The spelling of the last of some names.
use Rattle.std.proofs.Common.{◌≡◌, ℕ, List, [], ◌∷◌, ◌++◌, refl, ap, sym, ◌∙◌}
use Rattle.std.specs.Prelude.{Result, Ok, Err, IfOk}
use Rattle.dsde_lists.specs.declared.memory.Memory.{Memory}
use Rattle.dsde_values.specs.declared.name.Name.{Name}
use Rattle.dsde_values.specs.Path.{name_text}
use Rattle.dsde_image.specs.Image.{last_text}

last-behind : (front : List Name) (name : Name) → last_text (front ++ name ∷ []) ≡ name_text name
last-behind [] name = refl
last-behind (first ∷ []) name = refl
last-behind (first ∷ second ∷ front) name = last-behind (second ∷ front) name

pub last-ok : (result : Result (List ℕ) Memory) (names own front : List Name) (name : Name) → own ≡ names → own ≡ front ++ name ∷ [] → IfOk result (λ text. text ≡ name_text name) → IfOk result (λ text. text ≡ last_text names)
last-ok (Err why) names own front name same is text = tt
last-ok (Ok found) names own front name same is text = text ∙ sym (last-behind front name) ∙ ap last_text (sym is ∙ same)
