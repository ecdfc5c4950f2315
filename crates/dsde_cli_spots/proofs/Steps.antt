-- Steps of the tree of which each fault stands at one of so many tokens.
use Rattle.std.proofs.Common.{ℕ, Bool, true, false, List, Result, Ok, Err}
use Rattle.std.specs.Prelude.{◌<◌, if◌then◌else◌}
use Rattle.dsde_values.specs.declared.path.Path.{Path}
use Rattle.dsde_faults.specs.declared.end.LeafEnd.{LeafEnd}
use Rattle.dsde_faults.specs.declared.end.LeafEnd.TheVariants as leaf_end
use Rattle.dsde_formalism.specs.Leaf as leaf
use Rattle.dsde_sim_tree.specs.declared.event.Event.{Event}
use Rattle.dsde_sim_tree.specs.declared.fault.TurnEnd.{TurnEnd}
use Rattle.dsde_sim_tree.specs.declared.fault.TurnEnd.TheVariants as turn_end
use Rattle.dsde_sim_tree.specs.Told.{Told, ◌then◌, at}
use Rattle.dsde_cli_spots.specs.Placed.{Ends, IsLeafBelow}

abbrev pub IsTurnBelow : ℕ → TurnEnd → Type 0
IsTurnBelow n (turn_end.Fault path site kind place) = place < n
IsTurnBelow n turn_end.Memory = Unit {0}

-- what a step of a component comes to is what it comes to at a path
pub at-below : {A : Type 0} (n : ℕ) (path : Path) (result : Result A LeafEnd) → Ends (IsLeafBelow n) result → Ends (IsTurnBelow n) (at path result)
at-below n path (Ok value) own = tt
at-below n path (Err (leaf_end.Fault site kind place)) own = own
at-below n path (Err leaf_end.Memory) own = tt

pub bind-ends : {A B H : Type 0} (P : H → Type 0) (own : Result A H) (next : A → Result B H) → Ends P own → ((value : A) → Ends P (next value)) → Ends P (leaf.◌>>=◌ own next)
bind-ends P (Ok value) next one two = two value
bind-ends P (Err why) next one two = one

pub if-ends : {A H : Type 0} (P : H → Type 0) (test : Bool) (one other : Result A H) → Ends P one → Ends P other → Ends P (if test then one else other)
if-ends P true one other own else_own = own
if-ends P false one other own else_own = else_own

by-end : {A B : Type 0} (P : TurnEnd → Type 0) (events : List Event) (end : Result A TurnEnd) (next : A → Told B) → Ends P end → ((value : A) → Ends P (next value).end)
    → Ends P (let step : Told A = record { events = events; end = end } in step then next).end
by-end P events (Ok value) next one two = two value
by-end P events (Err why) next one two = one

-- a step, and the next
pub then-ends : {A B : Type 0} (P : TurnEnd → Type 0) (first : Told A) (next : A → Told B) → Ends P first.end → ((value : A) → Ends P (next value).end) → Ends P (first then next).end
then-ends P first next one two = by-end P first.events first.end next one two
