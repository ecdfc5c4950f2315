-- Rows that are the same.
use Rattle.std.proofs.Common.{◌≡◌, List, [], ◌∷◌, ◌++◌, subst}
use Rattle.std.specs.Prelude.{Result, OnOk, ⊤}
use Rattle.dsde_lists.specs.declared.memory.Memory.{Memory}
use Rattle.dsde_image.specs.declared.image.Row.{Row}

pub as-put : (result : Result ⊤ Memory) (old new : List Row) (row other : Row) → row ≡ other → OnOk result (new ≡ old ++ row ∷ []) → OnOk result (new ≡ old ++ other ∷ [])
as-put result old new row other same = subst (λ (row : Row). OnOk result (new ≡ old ++ row ∷ [])) same
