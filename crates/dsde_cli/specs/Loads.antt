-- What a shelf has under a name, and why bytes were not read from it.
use Rattle.std.specs.Prelude.{ℕ, ◌≡◌, ◌<◌, List, length, Option, None, IfSome, IsSomeAnd}
use Rattle.dsde_io.specs.Held.{Bytes}
use Rattle.dsde_cli_status.specs.declared.status.Why.{Why}
use Rattle.dsde_cli_status.specs.declared.status.Why.TheVariants as why

-- The shelf, where it tells what it holds, has bytes under the name, and this holds of them.
abbrev pub Under : List ℕ → Option Bytes → (List ℕ → Type 0) → Type 0
Under name held Holds = IfSome held (λ map. IsSomeAnd (map name) Holds)

-- The shelf tells that bytes are under the name, and this holds of them.
abbrev pub Has : List ℕ → Option Bytes → (List ℕ → Type 0) → Type 0
Has name held Holds = IsSomeAnd held (λ map. IsSomeAnd (map name) Holds)

-- Why bytes of at most so many were not read. The shelf's faults rose where it failed.
abbrev pub CauseUnread : (limit : ℕ) → List ℕ → Option Bytes → (ShelfFails : Type 0) → Why → Type 0
CauseUnread limit name held ShelfFails why.Absent = IfSome held (λ map. map name ≡ None)
CauseUnread limit name held ShelfFails why.TooLong = Under name held (λ bytes. limit < length bytes)
CauseUnread limit name held ShelfFails why.Failed = ShelfFails
