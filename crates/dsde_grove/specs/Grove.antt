-- What a contract sees of a `Grove`.
use Rattle.std.specs.Prelude.{◌≡◌, ℕ, ◌+◌, ◌<◌, ◌⊎◌, List, [], ◌∷◌, ◌++◌, length, Option, Some, None, option_and_then, codes, ◌==◌, if◌then◌else◌, refl}
use Rattle.std.specs.Option.{option_map, option_map_or}
use Rattle.std.specs.Coded.{Coded, code_by, coded×, coded_ℕ, coded_list, coded_option}
use Rattle.std.specs.Ordering.{nat_cmp}
use Rattle.std.specs.FinMap as map
use Rattle.dsde_bank.specs.declared.handle.Handle.{Handle}
use Rattle.dsde_values.specs.declared.name.Name.{Name}
use Rattle.dsde_values.specs.declared.path.Path.{Path}

-- a live part: its slot, its parent unless it is the root, its name, the names from the root to it, and its value
pub record Spot (T : Type 0) : Type 0 where
  pub slot : ℕ
  pub parent : Option Handle
  pub name : Name
  pub path : List Name
  pub value : T

-- the live parts by birth, and the next birth
pub record Grove (T : Type 0) : Type 0 where
  pub parts : map.FinMap nat_cmp (Spot T)
  pub next_birth : ℕ

abbrev pub handle_code : Coded Handle
handle_code = code_by (ℕ × ℕ) (coded× coded_ℕ coded_ℕ) (λ h. (h.birth, h.slot)) (λ p. record { birth = p.0; slot = p.1 }) (λ _. refl)

abbrev pub name_code : Coded Name
name_code = code_by (List ℕ × Option ℕ) (coded× (coded_list coded_ℕ) (coded_option coded_ℕ)) (λ n. (n.stem, n.index)) (λ p. record { stem = p.0; index = p.1 }) (λ _. refl)

-- a part is stored as the tuple of its fields
abbrev pub spot_code : {T : Type 0} → Coded T → Coded (Spot T)
spot_code {T} code =
    code_by
    (ℕ × (Option Handle × (Name × (List Name × T))))
    (coded× coded_ℕ (coded× (coded_option handle_code) (coded× name_code (coded× (coded_list name_code) code))))
    (λ s. (s.slot, (s.parent, (s.name, (s.path, s.value)))))
    (λ p. record { slot = p.0; parent = p.1.0; name = p.1.1.0; path = p.1.1.1.0; value = p.1.1.1.1 })
    (λ _. refl)

abbrev pub grove_code : {T : Type 0} → Coded T → Coded (Grove T)
grove_code {T} code =
    code_by (map.FinMap nat_cmp (Spot T) × ℕ) (coded× (map.code coded_ℕ (spot_code code)) coded_ℕ) (λ g. (g.parts, g.next_birth)) (λ p. record { parts = p.0; next_birth = p.1 }) (λ _. refl)

-- the name of every root
abbrev pub root_name : Name
root_name = record { stem = codes "root"; index = None }

-- a part of this parent lies above one, as the parts' parents say: it is that part, or lies above its parent
pub data IsAbove (parents : ℕ → Option Handle) (top : ℕ) : ℕ → Type 0 where
  itself : IsAbove parents top top
  above_parent : {birth : ℕ} {parent : Handle} → parents birth ≡ Some parent → IsAbove parents top parent.birth → IsAbove parents top birth

module _ {T : Type 0} where
  abbrev pub in_slot : ℕ → Spot T → Option (Spot T)
  in_slot slot part = if part.slot == slot then Some part else None

  -- the part that is live under a handle
  abbrev pub spot : Grove T → Handle → Option (Spot T)
  spot grove handle = option_and_then (in_slot handle.slot) (map.get grove.parts handle.birth)

  -- the value of the part that is live under a handle
  abbrev pub value_of : Grove T → Handle → Option T
  value_of grove handle = option_map (λ part. part.value) (spot grove handle)

  -- the path from the root to the part that is live under a handle
  abbrev pub path_of : Grove T → Handle → Option Path
  path_of grove handle = option_map (λ part. record { names = part.path }) (spot grove handle)

  -- how many names lead to the part that is live under a handle
  abbrev pub depth_of : Grove T → Handle → ℕ
  depth_of grove handle = option_map_or (λ part. length part.path) (spot grove handle) 0

  -- the parent of each birth
  abbrev pub parent_of : Grove T → ℕ → Option Handle
  parent_of grove birth = option_and_then (λ part. part.parent) (map.get grove.parts birth)

  -- `kid` is live under `parent`, with this name
  pub record IsKid (grove : Grove T) (parent : Handle) (name : Name) (kid : Handle) : Type 0 where
    pub part : Spot T
    pub live : spot grove kid ≡ Some part
    pub below : part.parent ≡ Some parent
    pub named : part.name ≡ name

  -- the grove with another value under a handle
  abbrev pub with_value : Grove T → Handle → T → Grove T
  with_value grove handle value = record grove { parts = option_map_or (λ part. map.insert grove.parts handle.birth (record part { value = value })) (spot grove handle) grove.parts }

  -- the root of a tree
  abbrev pub root_spot : Handle → T → Spot T
  root_spot handle value = record { slot = handle.slot; parent = None; name = root_name; path = root_name ∷ []; value = value }

  -- a part of this name and value is new under `parent`
  pub record Grows (old new : Grove T) (parent : Handle) (name : Name) (value : T) (kid : Handle) : Type 0 where
    pub above : Spot T
    pub live : spot old parent ≡ Some above
    pub birth : kid.birth ≡ old.next_birth
    pub parts : new.parts ≡ map.insert old.parts kid.birth record { slot = kid.slot; parent = Some parent; name = name; path = above.path ++ name ∷ []; value = value }
    pub next : new.next_birth ≡ old.next_birth + 1

  -- the parent of a part is live and born before it, and their paths differ by the part's own name
  pub record IsParent (grove : Grove T) (birth : ℕ) (part : Spot T) (parent : Handle) : Type 0 where
    pub above : Spot T
    pub live : spot grove parent ≡ Some above
    pub earlier : parent.birth < birth
    pub path : part.path ≡ above.path ++ part.name ∷ []

  -- births are below the next one; a part without a parent is the root, of birth 0; each other part has its parent; no two siblings have one name
  pub record IsTree (grove : Grove T) : Type 0 where
    pub given : (birth : ℕ) (part : Spot T) → map.get grove.parts birth ≡ Some part → birth < grove.next_birth
    pub root : (birth : ℕ) (part : Spot T) → map.get grove.parts birth ≡ Some part → part.parent ≡ None → (birth ≡ 0) × (part.name ≡ root_name) × (part.path ≡ root_name ∷ [])
    pub up : (birth : ℕ) (part : Spot T) (parent : Handle) → map.get grove.parts birth ≡ Some part → part.parent ≡ Some parent → IsParent grove birth part parent
    pub apart : (a b : ℕ) (p q : Spot T) (parent : Handle) → map.get grove.parts a ≡ Some p → map.get grove.parts b ≡ Some q → p.parent ≡ Some parent → q.parent ≡ Some parent → p.name ≡ q.name → a ≡ b

  -- the handle finds nothing, and its birth was given before
  pub record IsGone (grove : Grove T) (handle : Handle) : Type 0 where
    pub absent : spot grove handle ≡ None
    pub given : handle.birth < grove.next_birth

  -- the part of this birth is the top or below it: its path has that of the top in front
  pub record IsUnder (grove : Grove T) (top : Spot T) (birth : ℕ) : Type 0 where
    pub part : Spot T
    pub live : map.get grove.parts birth ≡ Some part
    pub rest : List Name
    pub path : part.path ≡ top.path ++ rest

  -- the part under a handle and all parts below it are gone, and all others as they were: which of the two holds of a birth, its path tells
  pub record DropsSubtree (old new : Grove T) (top : Handle) : Type 0 where
    pub gone : (birth : ℕ) → IsAbove (parent_of old) top.birth birth → map.get new.parts birth ≡ None
    pub kept : (birth : ℕ) → ¬ IsAbove (parent_of old) top.birth birth → map.get new.parts birth ≡ map.get old.parts birth
    pub next : new.next_birth ≡ old.next_birth
    pub part : Spot T
    pub live : spot old top ≡ Some part
    pub either : (birth : ℕ) → (IsUnder old part birth × (map.get new.parts birth ≡ None)) ⊎ ((¬ IsUnder old part birth) × (map.get new.parts birth ≡ map.get old.parts birth))
