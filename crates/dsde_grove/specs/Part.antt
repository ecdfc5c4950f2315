-- Words on the parts of a grove.
use Rattle.std.specs.Prelude.{◌≡◌, ◌≢◌, ◌⊎◌, List, Contains, AllPairs, refl}
use Rattle.std.specs.Coded.{Coded, code_by, coded×}
use Rattle.dsde_bank.specs.declared.handle.Handle.{Handle}
use Rattle.dsde_values.specs.declared.name.Name.{Name}
use Rattle.dsde_grove.specs.Grove.{name_code, handle_code}

-- a kid of a part: its name and its handle
pub record Kid : Type 0 where
  pub name : Name
  pub handle : Handle

-- a kid is stored as the pair of its fields
abbrev pub kid_code : Coded Kid
kid_code = code_by (Name × Handle) (coded× name_code handle_code) (λ k. (k.name, k.handle)) (λ p. record { name = p.0; handle = p.1 }) (λ _. refl)

-- the kid that an entry of a map by name is
abbrev pub kid_of : Name × Handle → Kid
kid_of entry = record { name = entry.0; handle = entry.1 }

-- no two kids have one name
abbrev pub DifferInName : List Kid → Type 0
DifferInName kids = AllPairs (λ a b. a.name ≢ b.name) kids

-- the kids with one more, which takes the place of the one of its name
pub record Puts (kid : Kid) (old new : List Kid) : Type 0 where
  pub there : Contains new kid
  pub kept : (other : Kid) → Contains old other → other.name ≢ kid.name → Contains new other
  pub only : (other : Kid) → Contains new other → (kid ≡ other) ⊎ (Contains old other × (other.name ≢ kid.name))
  pub apart : DifferInName new

-- the kids without the one of this name
pub record Forgets (name : Name) (old new : List Kid) : Type 0 where
  pub kept : (kid : Kid) → Contains old kid → kid.name ≢ name → Contains new kid
  pub only : (kid : Kid) → Contains new kid → Contains old kid × (kid.name ≢ name)
  pub apart : DifferInName new
