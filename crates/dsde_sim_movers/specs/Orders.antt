-- Orders of the movers of a turn: that components move before the executive of their network is this project's profile.
use Rattle.std.specs.Prelude.{◌≡◌, ◌&&◌, Bool, false, List, [], ◌∷◌, ◌++◌}
use Rattle.std.specs.List.{AllByRecursion}
use Rattle.dsde_values.specs.declared.path.Path.{Path}
use Rattle.dsde_sim_movers.specs.Deliveries.{Delivery}
use Rattle.dsde_sim_movers.specs.Places.{begin_with}
use Rattle.dsde_sim_movers.specs.Movers.{seat_behind}

-- The first path is an executive's, and the other stands beneath its network, in what stands at a path.
abbrev pub is_over : Path → Path → Path → Bool
is_over path own other = (seat_behind path own).is_boss && begin_with (seat_behind path own).names (seat_behind path other).names

-- The same of those to whom it is delivered.
abbrev pub is_above : Path → Delivery → Delivery → Bool
is_above path own other = is_over path own.path other.path

-- Each executive comes after every other beneath its network.
abbrev pub IsLawful : Path → List Delivery → Type 0
IsLawful path [] = Unit {0}
IsLawful path (own ∷ later) = AllByRecursion (λ other. is_above path own other ≡ false) later × IsLawful path later

-- The one list is an order of the other: each is taken out of those that are left.
abbrev pub IsOrderOf : List Delivery → List Delivery → Type 0
IsOrderOf all [] = all ≡ []
IsOrderOf all (own ∷ order) = (before after : List Delivery) × (all ≡ before ++ own ∷ after) × IsOrderOf (before ++ after) order

-- An order that is drawn: each time one of those that are left beneath whom no other is left.
abbrev pub IsDrawn : Path → List Delivery → List Delivery → Type 0
IsDrawn path all [] = all ≡ []
IsDrawn path all (own ∷ order) =
    (before after : List Delivery) × (all ≡ before ++ own ∷ after) × AllByRecursion (λ other. is_above path own other ≡ false) (before ++ after) × IsDrawn path (before ++ after) order
