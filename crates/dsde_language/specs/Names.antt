-- The names that are seen with their types, each at its slot, and the numbers of types and of variants.
-- Where something is wrong they are of no account.
use Rattle.std.specs.Prelude.{ℕ, List, [], ◌∷◌, codes, unwrap_or, position}
use Rattle.std.specs.Str.{bytes_eq}
use Rattle.dsde_names.specs.Table.{place_of}
use Rattle.dsde_values.specs.declared.types.Field.{Field}
use Rattle.dsde_values.specs.declared.types.Ty.{Ty}
use Rattle.dsde_language.specs.declared.known.Known.{Known}
use Rattle.dsde_language.specs.Judge.{variants_at}
use Rattle.dsde_language.specs.RuleTables.{added, field_name, type_word}

-- the names that are seen with their types, each at its slot
abbrev pub Scope : Type 0
Scope = List Field

-- a scope with one name more, and with more; a name that is seen already has its slot
abbrev pub with_slot : Scope → List ℕ → Ty → Scope
with_slot scope name own = added field_name scope (record { name = name; ty = own })

abbrev pub with_slots : Scope → List Field → Scope
with_slots scope [] = scope
with_slots scope (field ∷ fields) = with_slots (with_slot scope field.name field.ty) fields

-- the slot of a name
abbrev pub slot_of : Scope → List ℕ → ℕ
slot_of scope name = unwrap_or (place_of field_name scope name) 0

-- the name of `elapsed` in a scope, which no identifier is
abbrev pub elapsed_name : List ℕ
elapsed_name = codes "elapsed"

-- the number of a type, and of a variant of it
abbrev pub type_number : Known → List ℕ → ℕ
type_number known name = unwrap_or (place_of type_word known.words name) 0

abbrev pub variant_number : Known → List ℕ → List ℕ → ℕ
variant_number known owner name =
    unwrap_or (position (λ own. bytes_eq own name) (unwrap_or (variants_at known (type_number known owner)) [])) 0
