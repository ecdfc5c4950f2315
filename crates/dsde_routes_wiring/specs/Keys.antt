-- What tells routes apart.
use Rattle.std.specs.Prelude.{ℕ, ◌==◌, ◌&&◌, Bool, true, false, List, [], ◌∷◌}
use Rattle.dsde_bank.specs.declared.handle.Handle.{Handle}
use Rattle.dsde_routes_wiring.specs.Routes.{Route, rank_of}
use Rattle.dsde_routes_wiring.specs.Wired.{is_same_handle}

abbrev pub is_same_rank : List ℕ → List ℕ → Bool
is_same_rank [] [] = true
is_same_rank (number ∷ rank) (other ∷ others) = number == other && is_same_rank rank others
is_same_rank _ _ = false

-- a route to this port with this rank
abbrev pub has_key : Handle → ℕ → List ℕ → Route → Bool
has_key target port rank route = is_same_handle target route.target && (port == route.target_port && is_same_rank rank (rank_of route.steps))
