-- What comes out of the ports of those who are due, and what came to the root. This project's profile.
use Rattle.std.specs.Prelude.{ℕ, ◌+◌, List, [], ◌∷◌, ◌++◌}
use Rattle.std.specs.List.{flat_map}
use Rattle.dsde_bank.specs.declared.handle.Handle.{Handle}
use Rattle.dsde_values.specs.declared.value.Value.{Value}
use Rattle.dsde_sim_tree.specs.given.formalism.System.{Ports, System}
use Rattle.dsde_core_moves.specs.given.grove.Grove.{Grove, value_of}
use Rattle.dsde_core_moves.specs.given.core_flat.spot_Spot.{Spot}
use Rattle.dsde_core_moves.specs.given.core_flat.due_Due.{Due}
use Rattle.dsde_core_parcels.specs.declared.parcel.Outlet.{Outlet}
use Rattle.dsde_core_parcels.specs.Traffic.{sent_in}

-- what comes out of a port, if it is anything
abbrev pub outlet_with : Handle → ℕ → List Value → List Outlet
outlet_with source port [] = []
outlet_with source port (value ∷ values) = record { source = source; port = port; values = value ∷ values } ∷ []

-- what comes out of the ports from this number on
abbrev pub outlets_from : Handle → ℕ → Ports → List Outlet
outlets_from source port [] = []
outlets_from source port (values ∷ later) = outlet_with source port values ++ outlets_from source (port + 1) later

-- what somebody who is due sends
abbrev pub outlets_by : System → ℕ → Grove Spot → Due → List Outlet
outlets_by system time own due = outlets_from due.handle 0 (sent_in system time (value_of own due.handle))

-- what those who are due send, and behind it what came to the root
abbrev pub turn_outlets : System → ℕ → Grove Spot → Handle → Ports → List Due → List Outlet
turn_outlets system time own top got due = flat_map (outlets_by system time own) due ++ outlets_from top 0 got
