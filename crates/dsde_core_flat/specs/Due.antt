-- Who is due.
use Rattle.std.specs.Prelude.{◌≡◌, ◌↔◌, ◌==◌, ◌&&◌, not, ℕ, Bool, true, false, if◌then◌else◌, List, [], ◌∷◌, ◌++◌, filter, Option, Some, None}
use Rattle.std.specs.List.{Contains}
use Rattle.std.specs.List.Sorted.{IsStrictlySortedBy}
use Rattle.std.specs.Ordering.{on, eq_by_cmp}
use Rattle.std.specs.declared.cmp.Ordering.{Ordering}
use Rattle.dsde_bank.specs.declared.handle.Handle.{Handle}
use Rattle.dsde_values.specs.Path.{path_cmp}
use Rattle.dsde_grove.specs.Grove.{Grove, value_of}
use Rattle.dsde_sim_movers.specs.Asking.{Seated}
use Rattle.dsde_routes_wiring.specs.Wired.{is_same_handle}
use Rattle.dsde_core_flat.specs.declared.spot.Spot.{Spot}
use Rattle.dsde_core_flat.specs.Shown.{leaf_in}
use Rattle.dsde_core_flat.specs.Grafts.{path_at}
use Rattle.dsde_core_flat.specs.Scheduled.{is_next}
use Rattle.dsde_core_flat.specs.declared.due.Due.{Due}

-- A component or an executive that is due at this time lives under the handle, and this is its path.
pub record IsDue (own : Grove Spot) (time : ℕ) (due : Due) : Type 0 where
  pub next : is_next (value_of own due.handle) time ≡ true
  pub path : due.path ≡ path_at own due.handle

-- in path order
abbrev pub due_cmp : Due → Due → Ordering
due_cmp = on (λ due. due.path) path_cmp

-- two have one path
abbrev pub is_tied : Due → Due → Bool
is_tied = eq_by_cmp due_cmp

-- whose handle
abbrev pub handle_of : Due → Handle
handle_of due = due.handle

-- who asks, by handle and path
abbrev pub asked : Grove Spot → Due → Seated
asked own due = record { path = due.path; leaf = leaf_in (value_of own due.handle) }

-- These are who is due at a time, each once, in path order.
pub record AreDue (own : Grove Spot) (time : ℕ) (list : List Due) : Type 0 where
  pub order : IsStrictlySortedBy due_cmp list
  pub each : (due : Due) → Contains list due ↔ IsDue own time due

-- who lives under a handle, with its path
abbrev pub due_at : Grove Spot → Handle → Due
due_at own handle = record { path = path_at own handle; handle = handle }

-- the pairs of this time, and all others
abbrev pub at_time : ℕ → List (ℕ × Handle) → List (ℕ × Handle)
at_time time pairs = filter (λ pair. pair.0 == time) pairs

abbrev pub after_time : ℕ → List (ℕ × Handle) → List (ℕ × Handle)
after_time time pairs = filter (λ pair. not (pair.0 == time)) pairs

-- whether a handle is the one before it
abbrev pub is_again : Option Handle → Handle → Bool
is_again None handle = false
is_again (Some last) handle = is_same_handle last handle

-- whether who lives under a handle is due, and is not the one before it
abbrev pub is_new : Grove Spot → ℕ → Option Handle → Handle → Bool
is_new own time last handle = is_next (value_of own handle) time && not (is_again last handle)

-- those of these handles under which somebody is due, each that comes again and again once
abbrev pub due_after : Grove Spot → ℕ → Option Handle → List Handle → List Due
due_after own time last [] = []
due_after own time last (handle ∷ handles) =
    if is_new own time last handle then due_at own handle ∷ due_after own time (Some handle) handles else due_after own time last handles
