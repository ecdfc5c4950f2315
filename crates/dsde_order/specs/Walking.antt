-- The walk that finds who moves in a turn.
use Rattle.std.specs.Prelude.{◌≡◌, ℕ, ◌<◌, ◌^◌, List, [], ◌∷◌, ◌++◌, length, Ok}
use Rattle.std.specs.List.{AllByRecursion}
use Rattle.dsde_syntax.specs.declared.decl.Model.{Model}
use Rattle.dsde_values.specs.declared.path.Path.{Path}
use Rattle.dsde_sim_tree.specs.given.formalism.System.{Ports, System}
use Rattle.dsde_sim_moving.specs.given.system.Program.{system}
use Rattle.dsde_sim_moving.specs.given.system.Fitting.{FitsInputs}
use Rattle.dsde_sim_tree.specs.Told.{below}
use Rattle.dsde_sim_tree.specs.declared.sim.Kid.{Kid}
use Rattle.dsde_sim_tree.specs.declared.sim.Sim.{Sim}
use Rattle.dsde_sim_tree.specs.declared.sim.Sim.TheViews.{out-Kid}
use Rattle.dsde_sim_tree.specs.Output.{output}
use Rattle.dsde_sim_tree.specs.Tree.{name_of}
use Rattle.dsde_sim_movers.specs.Deliveries.{Delivery}
use Rattle.dsde_sim_movers.specs.Movers.{movers}
use Rattle.dsde_sim_movers.specs.Names.{IsNamed}

-- What comes to a component or an executive fits its model, at so few ports that 32 bits count them.
pub record FitsDelivery (model : Model) (own : Delivery) : Type 0 where
  pub fits : FitsInputs model own.model.0 own.ports
  pub few : length own.ports < 2 ^ 32

-- What stands at a path answers the output message at a time.
abbrev pub Answers : System → Sim → Path → ℕ → Type 0
Answers system tree path time = (sent : Ports) × (output system tree path time ≡ Ok sent)

-- So do the components of the network at a path.
abbrev pub KidsAnswer : System → List Kid → Path → ℕ → Type 0
KidsAnswer system kids path time = AllByRecursion (λ kid. Answers system (out-Kid kid).sim (below path (name_of kid)) time) kids

-- The components of a network beneath which components are named apart.
abbrev pub AreNamed : List Kid → Type 0
AreNamed kids = AllByRecursion (λ kid. IsNamed (out-Kid kid).sim) kids

-- the movers of the components of the network at a path, each of which gets these values
abbrev pub movers_with : System → List Kid → List Ports → Path → ℕ → List Delivery
movers_with system (kid ∷ kids) (got ∷ gots) path time =
    movers system (out-Kid kid).sim (below path (name_of kid)) time got ++ movers_with system kids gots path time
movers_with system _ _ path time = []
