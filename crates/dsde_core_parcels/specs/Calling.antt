-- Who is called in a turn: those who are due, and those to whom something comes. This project's profile.
use Rattle.std.specs.Prelude.{◌≡◌, ◌<◌, ◌^◌, ℕ, true, false, if◌then◌else◌, slice_get, List, [], ◌∷◌, ◌++◌, length, map, Option, Some, None, IsSome}
use Rattle.std.specs.List.{AllByRecursion, flat_map}
use Rattle.std.specs.Ordering.{on}
use Rattle.std.specs.declared.cmp.Ordering.{Ordering}
use Rattle.dsde_bank.specs.declared.handle.Handle.{Handle}
use Rattle.dsde_values.specs.declared.path.Path.{Path}
use Rattle.dsde_values.specs.Path.{path_cmp}
use Rattle.dsde_sim_tree.specs.given.formalism.leaf_Leaf.{Leaf}
use Rattle.dsde_sim_tree.specs.given.formalism.Leaf.{component_of, has_come, is_due}
use Rattle.dsde_sim_tree.specs.given.formalism.System.{System}
use Rattle.dsde_core_moves.specs.given.grove.Grove.{Grove, value_of}
use Rattle.dsde_routes_wiring.specs.Wired.{is_same_handle}
use Rattle.dsde_core_moves.specs.given.core_flat.spot_Spot.{Spot}
use Rattle.dsde_core_moves.specs.given.core_flat.Grafts.{path_at}
use Rattle.dsde_core_moves.specs.given.core_flat.Scheduled.{held_leaf}
use Rattle.dsde_core_moves.specs.given.core_flat.Shown.{leaf_in}
use Rattle.dsde_core_moves.specs.given.core_flat.due_Due.{Due}
use Rattle.dsde_core_parcels.specs.declared.inbox.Get.{Get}
use Rattle.dsde_core_parcels.specs.declared.inbox.Inbox.{Inbox}
use Rattle.dsde_core_parcels.specs.Inboxes.{spread}
use Rattle.dsde_core_moves.specs.declared.flat.Mover.{Mover}

-- None of these inboxes is for a target; or the one at an index is.
abbrev pub AreOthers : Handle → List Inbox → Type 0
AreOthers target inboxes = AllByRecursion (λ inbox. is_same_handle inbox.target target ≡ false) inboxes

pub record IsFor (target : Handle) (inboxes : List Inbox) (index : ℕ) : Type 0 where
  pub inbox : Inbox
  pub there : slice_get inboxes index ≡ Some inbox
  pub is : is_same_handle inbox.target target ≡ true

-- what came to a target
abbrev pub gets_for : Handle → List Inbox → List Get
gets_for target inboxes = flat_map (λ inbox. if is_same_handle inbox.target target then inbox.gets else []) inboxes

-- an inbox from which all is taken, and one from which it is if it is a target's
abbrev pub without_gets : Inbox → Inbox
without_gets inbox = record { target = inbox.target; gets = [] }

abbrev pub emptied : Handle → Inbox → Inbox
emptied target inbox = if is_same_handle inbox.target target then without_gets inbox else inbox

-- who lives under a handle, to whom this comes
abbrev pub mover_with : System → Grove Spot → Handle → Path → List Get → Mover
mover_with system own handle path gets = record {
  handle = handle;
  path = path;
  model = (leaf_in (value_of own handle)).model;
  got = spread (component_of system (leaf_in (value_of own handle))).ins gets;
}

-- somebody who is due, with what the inboxes bring to it
abbrev pub due_mover : System → Grove Spot → List Inbox → Due → Mover
due_mover system own inboxes due = mover_with system own due.handle due.path (gets_for due.handle inboxes)

-- so each of these, one after another; what came to one is then taken
abbrev pub due_movers : System → Grove Spot → List Due → List Inbox → List Mover
due_movers system own [] inboxes = []
due_movers system own (due ∷ later) inboxes = due_mover system own inboxes due ∷ due_movers system own later (map (emptied due.handle) inboxes)

abbrev pub left_by : List Due → List Inbox → List Inbox
left_by [] inboxes = inboxes
left_by (due ∷ later) inboxes = left_by later (map (emptied due.handle) inboxes)

-- a mover to whom something came
abbrev pub if_come : Mover → List Mover
if_come mover = if has_come mover.got then mover ∷ [] else []

-- a mover, where this component or executive is not due and something came
abbrev pub told_as : Option Leaf → ℕ → Mover → List Mover
told_as None time mover = []
told_as (Some leaf) time mover = if is_due leaf time then [] else if_come mover

-- the target of an inbox, where it is a component or an executive that is not due
abbrev pub told_by : System → Grove Spot → ℕ → Inbox → List Mover
told_by system own time inbox = told_as (held_leaf (value_of own inbox.target)) time (mover_with system own inbox.target (path_at own inbox.target) inbox.gets)

-- who is called in a turn, where these are due and these inboxes are filled
abbrev pub called : System → Grove Spot → ℕ → List Due → List Inbox → List Mover
called system own time due inboxes = map (due_mover system own inboxes) due ++ flat_map (told_by system own time) inboxes

-- in path order
abbrev pub mover_cmp : Mover → Mover → Ordering
mover_cmp = on (λ mover. mover.path) path_cmp

-- A component or an executive lives under the handle of somebody who is due.
abbrev pub IsLeafAt : Grove Spot → Due → Type 0
IsLeafAt own due = IsSome (held_leaf (value_of own due.handle))

-- It gets values at no more ports than 32 bits count.
abbrev pub IsFew : Mover → Type 0
IsFew mover = length mover.got < 2 ^ 32
