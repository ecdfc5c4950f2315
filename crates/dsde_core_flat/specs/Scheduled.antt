-- A schedule serves what lies under handles.
use Rattle.std.specs.Prelude.{◌≡◌, ◌⊎◌, ℕ, Bool, false, List, Contains, Option, Some, None}
use Rattle.dsde_bank.specs.declared.handle.Handle.{Handle}
use Rattle.dsde_values.specs.declared.when.When.{When}
use Rattle.dsde_values.specs.declared.when.When.TheVariants.{At, Never}
use Rattle.dsde_sim_tree.specs.given.formalism.leaf_Leaf.{Leaf}
use Rattle.dsde_sim_tree.specs.given.formalism.Leaf.{is_due}
use Rattle.dsde_queue.specs.Queue.{put}
use Rattle.dsde_grove.specs.Grove.{Grove, value_of}
use Rattle.dsde_core_flat.specs.declared.spot.Spot.{Spot}
use Rattle.dsde_core_flat.specs.declared.spot.Spot.TheVariants as variant

-- the component or the executive that is held, if it is one
abbrev pub held_leaf : Option Spot → Option Leaf
held_leaf (Some (variant.Leaf leaf)) = Some leaf
held_leaf _ = None

-- what is held is a component or an executive that is due at this time
abbrev pub is_next : Option Spot → ℕ → Bool
is_next (Some (variant.Leaf leaf)) time = is_due leaf time
is_next _ time = false

-- A pair is current: who lives under its handle is due at its time. All others are stale.
abbrev pub is_current : Grove Spot → ℕ × Handle → Bool
is_current own pair = is_next (value_of own pair.1) pair.0

-- the schedule with the next event under a handle, if there is one
abbrev pub scheduled : Handle → When → List (ℕ × Handle) → List (ℕ × Handle)
scheduled handle (At time) pairs = put (time, handle) pairs
scheduled handle Never pairs = pairs

-- Who lives and will be due has a pair in the schedule, but for those that wait for their move.
pub record IsScheduledBut (own : Grove Spot) (waiting : List Handle) (pairs : List (ℕ × Handle)) : Type 0 where
  pub due : (handle : Handle) (leaf : Leaf) (next : ℕ) → value_of own handle ≡ Some (variant.Leaf leaf) → leaf.next ≡ At next → Contains waiting handle ⊎ Contains pairs (next, handle)

-- Who lives and will be due has a pair in the schedule.
pub record IsScheduled (own : Grove Spot) (pairs : List (ℕ × Handle)) : Type 0 where
  pub due : (handle : Handle) (leaf : Leaf) (next : ℕ) → value_of own handle ≡ Some (variant.Leaf leaf) → leaf.next ≡ At next → Contains pairs (next, handle)

-- a time, or never
abbrev pub when_of : Option ℕ → When
when_of (Some time) = At time
when_of None = Never
