-- Steps of the tree that come to a value of which something holds, or to a fault, and never to nothing.
use Rattle.std.proofs.Common.{List, Result, Ok, Err}
use Rattle.dsde_values.specs.declared.path.Path.{Path}
use Rattle.dsde_faults.specs.declared.end.LeafEnd.{LeafEnd}
use Rattle.dsde_faults.specs.declared.end.LeafEnd.TheVariants as leaf_end
use Rattle.dsde_formalism.specs.Leaf as leaf
use Rattle.dsde_sim_tree.specs.declared.event.Event.{Event}
use Rattle.dsde_sim_tree.specs.declared.fault.TurnEnd.{TurnEnd}
use Rattle.dsde_sim_tree.specs.declared.fault.TurnEnd.TheVariants as turn_end
use Rattle.dsde_sim_tree.specs.Told.{Told, ◌then◌, at}
use Rattle.dsde_sim_starting.specs.given.sound_structures.Sure.{Sure}

abbrev pub Safe : {A : Type 0} → (A → Type 0) → Result A TurnEnd → Type 0
Safe P (Ok value) = P value
Safe P (Err (turn_end.Fault path site kind place)) = Unit {0}
Safe P (Err turn_end.Memory) = ⊥

-- what a step of a component comes to is what it comes to at a path
pub safe-at : {A : Type 0} (P : A → Type 0) (path : Path) (result : Result A LeafEnd) → Sure P result → Safe P (at path result)
safe-at P path (Ok value) h = h
safe-at P path (Err (leaf_end.Fault site kind place)) h = tt
safe-at P path (Err leaf_end.Memory) h = absurd h

-- what holds more
pub safe-more : {A : Type 0} (P Q : A → Type 0) (end : Result A TurnEnd) → Safe P end → ((value : A) → P value → Q value) → Safe Q end
safe-more P Q (Ok value) h more = more value h
safe-more P Q (Err (turn_end.Fault path site kind place)) h more = tt
safe-more P Q (Err turn_end.Memory) h more = absurd h

safe-by : {A B : Type 0} (P : A → Type 0) (Q : B → Type 0) (events : List Event) (end : Result A TurnEnd) (next : A → Told B) → Safe P end → ((value : A) → P value → Safe Q (next value).end)
    → Safe Q (let step : Told A = record { events = events; end = end } in step then next).end
safe-by P Q events (Ok value) next h step = step value h
safe-by P Q events (Err (turn_end.Fault path site kind place)) next h step = tt
safe-by P Q events (Err turn_end.Memory) next h step = absurd h

-- a step, and the next on what holds
pub safe-then : {A B : Type 0} (P : A → Type 0) (Q : B → Type 0) (first : Told A) (next : A → Told B) → Safe P first.end → ((value : A) → P value → Safe Q (next value).end) → Safe Q (first then next).end
safe-then P Q first next h step = safe-by P Q first.events first.end next h step

-- an answer, and the next on what holds
pub safe-bind : {A B : Type 0} (P : A → Type 0) (Q : B → Type 0) (first : Result A TurnEnd) (next : A → Result B TurnEnd) → Safe P first → ((value : A) → P value → Safe Q (next value)) → Safe Q (leaf.◌>>=◌ first next)
safe-bind P Q (Ok value) next h step = step value h
safe-bind P Q (Err (turn_end.Fault path site kind place)) next h step = tt
safe-bind P Q (Err turn_end.Memory) next h step = absurd h
