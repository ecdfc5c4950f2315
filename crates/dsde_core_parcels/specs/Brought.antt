-- What inboxes bring to a port.
use Rattle.std.specs.Prelude.{ℕ, ◌<◌, if◌then◌else◌, List, [], ◌∷◌}
use Rattle.std.specs.List.{AllByRecursion, flat_map}
use Rattle.dsde_bank.specs.declared.handle.Handle.{Handle}
use Rattle.dsde_values.specs.declared.value.Value.{Value}
use Rattle.dsde_routes_wiring.specs.Wired.{is_same_handle}
use Rattle.dsde_core_parcels.specs.declared.inbox.Inbox.{Inbox}
use Rattle.dsde_core_parcels.specs.Inboxes.{values_at}

-- what an inbox has for a port of a target
abbrev pub meant : Handle → ℕ → Inbox → List Value
meant target port inbox = if is_same_handle inbox.target target then values_at port inbox.gets else []

-- what inboxes bring to a port of a target
abbrev pub brought : List Inbox → Handle → ℕ → List Value
brought inboxes target port = flat_map (meant target port) inboxes

-- Births of targets rise: no two inboxes are for one.
abbrev pub Rise : List Inbox → Type 0
Rise [] = Unit {0}
Rise (inbox ∷ inboxes) = AllByRecursion (λ later. inbox.target.birth < later.target.birth) inboxes × Rise inboxes
