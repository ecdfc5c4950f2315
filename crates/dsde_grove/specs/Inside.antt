-- What the bank of a `Grove` means.
use Rattle.std.specs.Prelude.{◌≡◌, ◌≢◌, ℕ, zero, suc, ◌<◌, ◌≤◌, List, [], ◌∷◌, ◌++◌, map as map_list, Option, Some, None, Contains, option_and_then}
use Rattle.std.specs.Option.{option_map}
use Rattle.std.specs.Ordering.{nat_cmp}
use Rattle.std.specs.FinMap as map
use Rattle.dsde_bank.specs.Bank.{Bank, found}
use Rattle.dsde_bank.specs.Batch.{Batch}
use Rattle.dsde_bank.specs.declared.handle.Handle.{Handle}
use Rattle.dsde_values.specs.declared.name.Name.{Name}
use Rattle.dsde_grove.specs.Grove.{Grove, Spot, IsAbove, root_name}
use Rattle.dsde_grove.specs.declared.part.Part.{Part}
use Rattle.dsde_grove.specs.Part.{Kid, DifferInName}

-- the names down to a part: its own alone, or after those of its parent
abbrev pub path_step : Option (Option Handle × Name) → (Handle → List Name) → List Name
path_step None above = []
path_step (Some (None, name)) above = name ∷ []
path_step (Some (Some parent, name)) above = above parent ++ name ∷ []

-- the names down to a birth, where no part is that many parts below the root
abbrev pub path_in : ℕ → (ℕ → Option (Option Handle × Name)) → ℕ → List Name
path_in zero links birth = []
path_in (suc depth) links birth = path_step (links birth) (λ parent. path_in depth links parent.birth)

module _ {T : Type 0} where
  abbrev pub link : ℕ × Part T → Option Handle × Name
  link placed = (placed.1.parent, placed.1.name)

  -- the parent and the name of each birth
  abbrev pub link_of : map.FinMap nat_cmp (ℕ × Part T) → ℕ → Option (Option Handle × Name)
  link_of held birth = option_map link (map.get held birth)

  -- the names down to a birth: a part is born after those above it
  abbrev pub path_at : map.FinMap nat_cmp (ℕ × Part T) → ℕ → List Name
  path_at held birth = path_in (suc birth) (link_of held) birth

  -- what a part shows
  abbrev pub spot_in : map.FinMap nat_cmp (ℕ × Part T) → ℕ → ℕ × Part T → Spot T
  spot_in held birth placed = record { slot = placed.0; parent = placed.1.parent; name = placed.1.name; path = path_at held birth; value = placed.1.value }

  -- what all parts show
  abbrev pub parts_of : map.FinMap nat_cmp (ℕ × Part T) → map.FinMap nat_cmp (Spot T)
  parts_of held = map.from_sorted (map_list (λ e. (e.0, spot_in held e.0 e.1)) (map.entries held))

  abbrev pub grove_of : Bank (Part T) → Grove T
  grove_of bank = record { parts = parts_of bank.held; next_birth = bank.next_birth }

  -- the part of this birth and slot has its name and handle among the kids of its parent
  pub record IsBelow (held : map.FinMap nat_cmp (ℕ × Part T)) (birth : ℕ) (placed : ℕ × Part T) (parent : Handle) : Type 0 where
    pub above : Part T
    pub live : map.get held parent.birth ≡ Some (parent.slot, above)
    pub later : parent.birth < birth
    pub listed : Contains above.kids record { name = placed.1.name; handle = record { birth = birth; slot = placed.0 } }

  -- the kid is a part of this parent and of the name under which it stands there
  pub record IsListed (held : map.FinMap nat_cmp (ℕ × Part T)) (birth : ℕ) (placed : ℕ × Part T) (kid : Kid) : Type 0 where
    pub below : Part T
    pub live : map.get held kid.handle.birth ≡ Some (kid.handle.slot, below)
    pub parent : below.parent ≡ Some record { birth = birth; slot = placed.0 }
    pub named : below.name ≡ kid.name

  -- parts and their lists of kids agree, a parent is born before its kids, no two kids have one name, and a part without a parent is the root
  pub record IsLinked (held : map.FinMap nat_cmp (ℕ × Part T)) (next : ℕ) : Type 0 where
    pub given : (birth : ℕ) (placed : ℕ × Part T) → map.get held birth ≡ Some placed → birth < next
    pub up : (birth : ℕ) (placed : ℕ × Part T) (parent : Handle) → map.get held birth ≡ Some placed → placed.1.parent ≡ Some parent → IsBelow held birth placed parent
    pub down : (birth : ℕ) (placed : ℕ × Part T) (kid : Kid) → map.get held birth ≡ Some placed → Contains placed.1.kids kid → IsListed held birth placed kid
    pub apart : (birth : ℕ) (placed : ℕ × Part T) → map.get held birth ≡ Some placed → DifferInName placed.1.kids
    pub root : (birth : ℕ) (placed : ℕ × Part T) → map.get held birth ≡ Some placed → placed.1.parent ≡ None → (birth ≡ 0) × (placed.1.name ≡ root_name)

  -- the parts of the bank are linked, and the work list is empty and has room for all its parts
  pub record IsSound (bank : Bank (Part T)) (work : Batch Handle) : Type 0 where
    pub tree : IsLinked bank.held bank.next_birth
    pub idle : work.items ≡ []
    pub room : map.len bank.held ≤ work.spare

  -- of the parts only the kids of one change, and those as this relation says
  pub record ChangesKids (old new : Bank (Part T)) (parent : Handle) (Change : List Kid → List Kid → Type 0) : Type 0 where
    pub part : Part T
    pub kids : List Kid
    pub was : map.get old.held parent.birth ≡ Some (parent.slot, part)
    pub now : map.get new.held parent.birth ≡ Some (parent.slot, record part { kids = kids })
    pub changed : Change part.kids kids
    pub others : (birth : ℕ) → birth ≢ parent.birth → map.get new.held birth ≡ map.get old.held birth
    pub next : new.next_birth ≡ old.next_birth
    pub len : map.len new.held ≡ map.len old.held

  -- a kid of this part has this name
  pub record HasKid (bank : Bank (Part T)) (parent : Handle) (name : Name) : Type 0 where
    pub part : Part T
    pub live : map.get bank.held parent.birth ≡ Some (parent.slot, part)
    pub handle : Handle
    pub listed : Contains part.kids record { name = name; handle = handle }

  -- the parent of each birth
  abbrev pub parent_in : map.FinMap nat_cmp (ℕ × Part T) → ℕ → Option Handle
  parent_in held birth = option_and_then (λ placed. placed.1.parent) (map.get held birth)

  -- exactly the part of the top's birth and those below it leave
  pub record TakesAll (old new : Bank (Part T)) (top : Handle) : Type 0 where
    pub gone : (birth : ℕ) → IsAbove (parent_in old.held) top.birth birth → map.get new.held birth ≡ None
    pub kept : (birth : ℕ) → ¬ IsAbove (parent_in old.held) top.birth birth → map.get new.held birth ≡ map.get old.held birth
    pub left : (birth : ℕ) (placed : ℕ × Part T) → map.get new.held birth ≡ Some placed → ¬ IsAbove (parent_in old.held) top.birth birth
    pub next : new.next_birth ≡ old.next_birth
    pub len : map.len new.held ≤ map.len old.held

  -- the part under a handle has this name
  abbrev pub IsNameOf : Bank (Part T) → Handle → Name → Type 0
  IsNameOf bank handle name = (part : Part T) → found bank handle ≡ Some part → name ≡ part.name
