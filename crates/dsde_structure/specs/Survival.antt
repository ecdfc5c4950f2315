-- What a change of structure keeps.
use Rattle.std.specs.Prelude.{◌≡◌, ◌⊎◌, ◌==◌, ◌&&◌, ◌||◌, not, Bool, true, List, [], ◌∷◌, ◌++◌, map, if◌then◌else◌}
use Rattle.std.specs.List.{filter, list_any}
use Rattle.std.specs.List.Sorted.{IsStrictlySortedBy}
use Rattle.dsde_values.specs.declared.name.Name.{Name}
use Rattle.dsde_values.specs.Path.{name_cmp}
use Rattle.dsde_language.specs.declared.ids.ModelId.{ModelId}
use Rattle.dsde_values_equality.specs.Same.{are_same_values}
use Rattle.dsde_structure.specs.Gather.{is_same_name}
use Rattle.dsde_structure.specs.declared.plan.Entry.{Entry}
use Rattle.dsde_structure.specs.declared.plan.Change.{Change}

-- An old entry survives as a new one of its name and model that is soft or has equal arguments: a rule
-- of this project's profile. Whether the old one is soft plays no part.
abbrev pub survives : Entry → Entry → Bool
survives old new =
    is_same_name old.name new.name && old.model.0 == new.model.0 && (new.soft || are_same_values old.args new.args)

-- the same in words of equality: what `survives` tests
abbrev pub StaysAs : Entry → Entry → Type 0
StaysAs old new = (old.name ≡ new.name) × (old.model ≡ new.model) × ((new.soft ≡ true) ⊎ (old.args ≡ new.args))

-- what links see of a component: its name with its model, which its survivors have
abbrev pub role : Entry → Name × ModelId
role entry = (entry.name, entry.model)

abbrev pub roles : List Entry → List (Name × ModelId)
roles entries = map role entries

abbrev pub names : List Entry → List Name
names entries = map (λ entry. entry.name) entries

-- names in their order, each once
abbrev pub AreInOrder : List Name → Type 0
AreInOrder = IsStrictlySortedBy name_cmp

-- entries in the order of their names, each name once
abbrev pub IsInOrder : List Entry → Type 0
IsInOrder entries = AreInOrder (names entries)

-- the old entries that survive as some new one, those that do not, and the new ones as which none survives
abbrev pub kept : List Entry → List Entry → List Entry
kept olds news = filter (λ old. list_any (survives old) news) olds

abbrev pub gone : List Entry → List Entry → List Entry
gone olds news = filter (λ old. not (list_any (survives old) news)) olds

abbrev pub fresh : List Entry → List Entry → List Entry
fresh olds news = filter (λ new. not (list_any (λ old. survives old new) olds)) news

-- what a change from old entries to new ones does
abbrev pub compared : List Entry → List Entry → Change
compared olds news = record { gone = names (gone olds news); kept = names (kept olds news); fresh = fresh olds news }

-- a change behind another
abbrev pub joined : Change → Change → Change
joined first later = record { gone = first.gone ++ later.gone; kept = first.kept ++ later.kept; fresh = first.fresh ++ later.fresh }

-- what becomes of an old entry where a new one has its name
abbrev pub met : Entry → Entry → Change
met old new =
    if survives old new
    then record { gone = []; kept = old.name ∷ []; fresh = [] }
    else record { gone = old.name ∷ []; kept = []; fresh = new ∷ [] }
