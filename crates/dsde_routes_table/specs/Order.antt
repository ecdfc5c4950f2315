-- The order of the rows from one port of a source.
use Rattle.std.specs.Prelude.{◌≡◌, Bool, false, true, not, ◌||◌, ◌&&◌, List, [], ◌∷◌}
use Rattle.std.specs.List.{AllByRecursion, list_any, list_all}
use Rattle.std.specs.Ordering.{nat_cmp, on, then_cmp, is_gt}
use Rattle.std.specs.Cmp.Lexicographic.{slice_cmp}
use Rattle.std.specs.declared.cmp.Ordering.{Ordering}
use Rattle.dsde_routes_wiring.specs.declared.row.Row.{Row}
use Rattle.dsde_routes_wiring.specs.Rows.{is_same_row, among}

-- by the birth of the target, its port, and the rank
abbrev pub target_cmp : Row → Row → Ordering
target_cmp = then_cmp (on (λ row. row.target.birth) nat_cmp) (then_cmp (on (λ row. row.target_port) nat_cmp) (on (λ row. row.rank) (slice_cmp nat_cmp)))

-- a row stands nowhere behind another
abbrev pub IsUpTo : Row → Row → Type 0
IsUpTo row other = is_gt (target_cmp row other) ≡ false

-- no row stands behind a later one
abbrev pub AreInOrder : List Row → Type 0
AreInOrder [] = Unit {0}
AreInOrder (row ∷ rows) = AllByRecursion (IsUpTo row) rows × AreInOrder rows

-- no row is equal to a later one
abbrev pub AreOnce : List Row → Type 0
AreOnce [] = Unit {0}
AreOnce (row ∷ rows) = (list_any (is_same_row row) rows ≡ false) × AreOnce rows

-- a row was put among these, which says whether it is new
pub record Puts (row : Row) (old new : List Row) (is_new : Bool) : Type 0 where
  pub added : is_new ≡ not (among old row)
  pub rows : (own : Row) → among new own ≡ (is_same_row own row || among old own)
  pub order : AreInOrder new
  pub once : AreOnce new
  pub each : (P : Row → Bool) → list_all P new ≡ (P row && list_all P old)

-- a row was taken out of these, which says whether it was there
pub record Takes (row : Row) (old new : List Row) (was_there : Bool) : Type 0 where
  pub taken : was_there ≡ among old row
  pub rows : (own : Row) → among new own ≡ (not (is_same_row own row) && among old own)
  pub order : AreInOrder new
  pub once : AreOnce new
  pub each : (P : Row → Bool) → list_all P old ≡ true → list_all P new ≡ true
