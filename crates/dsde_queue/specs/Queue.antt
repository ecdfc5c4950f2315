-- What a contract sees of a `Queue`.
use Rattle.std.specs.Prelude.{◌≡◌, ◌≢◌, ℕ, ◌+◌, Bool, false, List, [], ◌∷◌, map, filter, not, ◌==◌, ◌&&◌, Option, Some, None, if◌then◌else◌}
use Rattle.std.specs.Ordering.{nat_cmp, ordering_then, is_lt}
use Rattle.std.specs.declared.cmp.Ordering.{Ordering}
use Rattle.dsde_bank.specs.declared.handle.Handle.{Handle}

-- the pairs of a time and a handle, the first first, and how many more fit with no memory
pub record Queue : Type 0 where
  pub pairs : List (ℕ × Handle)
  pub spare : ℕ

-- pairs are ordered by time, then by birth; those of one birth, which no bank gives out twice, by slot
abbrev pub order : ℕ × Handle → ℕ × Handle → Ordering
order p q = ordering_then (nat_cmp p.0 q.0) (ordering_then (nat_cmp p.1.birth q.1.birth) (nat_cmp p.1.slot q.1.slot))

abbrev pub comes_before : ℕ × Handle → ℕ × Handle → Bool
comes_before p q = is_lt (order p q)

-- the list with a pair put in before the first that does not come before it
abbrev pub put : ℕ × Handle → List (ℕ × Handle) → List (ℕ × Handle)
put p [] = p ∷ []
put p (q ∷ rest) = if comes_before q p then q ∷ put p rest else p ∷ q ∷ rest

-- the pairs of a list, put in one after another
abbrev pub in_order : List (ℕ × Handle) → List (ℕ × Handle)
in_order [] = []
in_order (p ∷ rest) = put p (in_order rest)

-- no pair of the list comes before p
abbrev pub NoneBefore : ℕ × Handle → List (ℕ × Handle) → Type 0
NoneBefore p [] = Unit {0}
NoneBefore p (q ∷ rest) = (comes_before q p ≡ false) × NoneBefore p rest

-- no pair comes before an earlier one of the list
abbrev pub IsOrdered : List (ℕ × Handle) → Type 0
IsOrdered [] = Unit {0}
IsOrdered (p ∷ rest) = NoneBefore p rest × IsOrdered rest

-- the first pair
abbrev pub first_of : List (ℕ × Handle) → Option (ℕ × Handle)
first_of [] = None
first_of (p ∷ rest) = Some p

-- the pairs at the time of the first
abbrev pub due_of : List (ℕ × Handle) → List (ℕ × Handle)
due_of [] = []
due_of (p ∷ rest) = filter (λ q. q.0 == p.0) (p ∷ rest)

-- the pairs at another time than the first
abbrev pub later_than_due : List (ℕ × Handle) → List (ℕ × Handle)
later_than_due [] = []
later_than_due (p ∷ rest) = filter (λ q. not (q.0 == p.0)) (p ∷ rest)

-- the time of a pair
abbrev pub time_of : ℕ × Handle → ℕ
time_of p = p.0

-- the handles of these pairs
abbrev pub handles : List (ℕ × Handle) → List Handle
handles pairs = map (λ p. p.1) pairs

-- the first pair leaves, and its room comes free
pub record TakesFirst (old new : Queue) (first : ℕ × Handle) : Type 0 where
  pub pairs : old.pairs ≡ first ∷ new.pairs
  pub spare : new.spare ≡ old.spare + 1

-- the first pair, if there is one, is of another time
abbrev pub IsNotFirst : ℕ → List (ℕ × Handle) → Type 0
IsNotFirst time [] = Unit {0}
IsNotFirst time (p ∷ rest) = p.0 ≢ time

-- whether two pairs are the same
abbrev pub is_same : ℕ × Handle → ℕ × Handle → Bool
is_same p q = p.0 == q.0 && (p.1.birth == q.1.birth && p.1.slot == q.1.slot)

-- each answer that may come at a pair is that of the test
abbrev pub Admits : (ℕ → Handle → Bool → Type 0) → (ℕ × Handle → Bool) → Type 0
Admits answers test = (time : ℕ) (handle : Handle) (answer : Bool) → answers time handle answer → answer ≡ test (time, handle)
