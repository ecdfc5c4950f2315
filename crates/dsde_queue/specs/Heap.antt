-- What the steps of the heap keep, of pairs that lie by index: the children of the pair at `at` lie
-- at `2 * at + 1` and `2 * at + 2`.
use Rattle.std.specs.Prelude.{◌≡◌, ◌≢◌, ℕ, ◌+◌, ◌*◌, ◌<◌, ◌≤◌, Bool, false, List, length, slice_index_or}
use Rattle.dsde_bank.specs.declared.handle.Handle.{Handle}
use Rattle.dsde_queue.specs.Queue.{comes_before}

-- whether the pair at one index comes before that at another
abbrev pub ComesBeforeAt : List (ℕ × Handle) → ℕ → ℕ → Bool → Type 0
ComesBeforeAt pairs at other answer = (d : ℕ × Handle) → comes_before (slice_index_or pairs at d) (slice_index_or pairs other d) ≡ answer

-- `child` lies below `parent`, in the list
pub record IsChild (pairs : List (ℕ × Handle)) (parent child : ℕ) : Type 0 where
  pub above : parent * 2 + 1 ≤ child
  pub below : child ≤ parent * 2 + 2
  pub within : child < length pairs

-- from the parent at `low` on, no child comes before its parent
pub record IsHeapFrom (pairs : List (ℕ × Handle)) (low : ℕ) : Type 0 where
  pub child : (parent child : ℕ) → low ≤ parent → IsChild pairs parent child → ComesBeforeAt pairs child parent false

-- no child comes before its parent
abbrev pub IsHeap : List (ℕ × Handle) → Type 0
IsHeap pairs = IsHeapFrom pairs 0

-- the pair at `at` may come before its parent; it comes after none of its children, and no
-- grandchild of its parent through it comes before that parent
pub record IsHeapBut (pairs : List (ℕ × Handle)) (at : ℕ) : Type 0 where
  pub child : (parent child : ℕ) → child ≢ at → IsChild pairs parent child → ComesBeforeAt pairs child parent false
  pub through : (parent child : ℕ) → IsChild pairs parent at → IsChild pairs at child → ComesBeforeAt pairs child parent false

-- no child of `at` comes before the one at `child`
pub record IsFirstChild (pairs : List (ℕ × Handle)) (at child : ℕ) : Type 0 where
  pub first : (other : ℕ) → IsChild pairs at other → ComesBeforeAt pairs other child false
