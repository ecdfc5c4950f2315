-- The rows of a set to one port, in the order of their rank.
use Rattle.std.specs.Prelude.{◌≡◌, ℕ, true, ◌↔◌, List, map}
use Rattle.std.specs.FinSet as set
use Rattle.std.specs.List.{Contains}
use Rattle.std.specs.List.Sorted.{IsStrictlySortedBy}
use Rattle.std.specs.Ordering.{nat_cmp}
use Rattle.std.specs.Cmp.Lexicographic.{slice_cmp}
use Rattle.std.specs.declared.cmp.Ordering.{Ordering}
use Rattle.dsde_bank.specs.declared.handle.Handle.{Handle}
use Rattle.dsde_routes_wiring.specs.declared.row.Row.{Row}
use Rattle.dsde_routes_wiring.specs.Sets.{Rows}
use Rattle.dsde_routes_wiring.specs.Flatten.{is_to}

-- the first number in which two ranks differ decides
abbrev pub rank_cmp : List ℕ → List ℕ → Ordering
rank_cmp = slice_cmp nat_cmp

-- these are the rows of a set to a port, in the order of their rank, no two of one rank
pub record AreRowsTo (table : Rows) (target : Handle) (port : ℕ) (list : List Row) : Type 0 where
  pub order : IsStrictlySortedBy rank_cmp (map (λ row. row.rank) list)
  pub each : (row : Row) → Contains list row ↔ ((set.contains table row ≡ true) × (is_to target port row ≡ true))
