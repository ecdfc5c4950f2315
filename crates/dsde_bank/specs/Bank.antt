-- What a contract sees of a `Bank`.
use Rattle.std.specs.Prelude.{◌≡◌, ℕ, ◌+◌, ◌<◌, ◌==◌, Option, Some, None, option_and_then, if◌then◌else◌, refl}
use Rattle.std.specs.Coded.{Coded, code_by, coded×, coded_ℕ}
use Rattle.std.specs.Ordering.{nat_cmp}
use Rattle.std.specs.FinMap as map
use Rattle.dsde_bank.specs.declared.handle.Handle.{Handle}

-- the slot and the value of each birth that is held, the next birth, and how many more values fit
-- with no memory
pub record Bank (T : Type 0) : Type 0 where
  pub held : map.FinMap nat_cmp (ℕ × T)
  pub next_birth : ℕ
  pub spare : ℕ

-- a bank is stored as the tuple of its fields
abbrev pub bank_code : {T : Type 0} → Coded T → Coded (Bank T)
bank_code {T} code =
    code_by
    (map.FinMap nat_cmp (ℕ × T) × (ℕ × ℕ))
    (coded× (map.code coded_ℕ (coded× coded_ℕ code)) (coded× coded_ℕ coded_ℕ))
    (λ b. (b.held, (b.next_birth, b.spare)))
    (λ p. record { held = p.0; next_birth = p.1.0; spare = p.1.1 })
    (λ _. refl)

module _ {T : Type 0} where
  -- the value, if it lies in this slot
  abbrev pub in_slot : ℕ → ℕ × T → Option T
  in_slot slot placed = if placed.0 == slot then Some placed.1 else None

  -- the value that is held in the handle's slot under the handle's birth
  abbrev pub found : Bank T → Handle → Option T
  found bank handle = option_and_then (in_slot handle.slot) (map.get bank.held handle.birth)

  -- the bank with another value under the handle
  abbrev pub with_value : Bank T → Handle → T → Bank T
  with_value bank handle value = record bank { held = map.insert bank.held handle.birth (handle.slot, value) }

  -- the bank with the handle's value taken out, whose room comes free
  abbrev pub without : Bank T → Handle → Bank T
  without bank handle = record bank { held = map.remove bank.held handle.birth; spare = bank.spare + 1 }

  -- the handle finds nothing, and its birth was given before
  pub record IsGone (bank : Bank T) (handle : Handle) : Type 0 where
    pub absent : found bank handle ≡ None
    pub given : handle.birth < bank.next_birth
