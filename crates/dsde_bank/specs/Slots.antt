-- What the slots of a `Bank` mean.
use Rattle.std.specs.Prelude.{◌≡◌, ℕ, ◌-◌, ◌<◌, map as map_list, Some}
use Rattle.std.specs.Ordering.{nat_cmp}
use Rattle.std.specs.FinMap as map
use Rattle.std.specs.Borrow.{Lends, Fml, RattleType, MutBor}
use Rattle.slab.specs.Slab.{Slab, get, entries, slab_len}
use Rattle.dsde_bank.specs.Bank.{Bank}
use Rattle.dsde_bank.specs.declared.bank.Entry.{Entry}
use Rattle.dsde_bank.specs.contracts.bank.Entry as entry

-- the entry ends with the last value written through the borrow
abbrev pub LendsValue : (T : RattleType) → MutBor (Entry T.Denot) → MutBor T.Denot → Fml
LendsValue T e r = Lends (entry.the_row T) T e r (λ w. record e.now { value = w })

module _ {T : Type 0} where
  -- an entry under its birth, with the slot that it lies in
  abbrev pub by_birth : ℕ × Entry T → ℕ × (ℕ × T)
  by_birth placed = (placed.1.birth, (placed.0, placed.1.value))

  -- the slot and the value of each birth
  abbrev pub held_in : Slab (Entry T) → map.FinMap nat_cmp (ℕ × T)
  held_in slots = map.from_entries (map_list by_birth (entries slots))

  -- the bank of these slots and this next birth
  abbrev pub bank_of : Slab (Entry T) → ℕ → Bank T
  bank_of slots born = record { held = held_in slots; next_birth = born; spare = slots.capacity - slab_len slots }

  -- no two slots have one birth
  abbrev pub AreApart : Slab (Entry T) → Type 0
  AreApart slots = (a b : ℕ) (x y : Entry T) → get slots a ≡ Some x → get slots b ≡ Some y → x.birth ≡ y.birth → a ≡ b

  -- each birth lies in one slot and is below the next one, and the map has as many entries as slots are filled
  pub record IsSound (slots : Slab (Entry T)) (born : ℕ) : Type 0 where
    pub apart : AreApart slots
    pub below : (a : ℕ) (x : Entry T) → get slots a ≡ Some x → x.birth < born
    pub counted : map.len (held_in slots) ≡ slab_len slots
