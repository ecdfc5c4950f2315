-- The output message as what it asks, one after another in path order.
use Rattle.std.specs.Prelude.{◌≡◌, ◌≤◌, map, ℕ, List, [], ◌∷◌, ◌++◌, filter, Result, Ok}
use Rattle.std.specs.List.{AllByRecursion, Contains, flat_map}
use Rattle.dsde_values.specs.declared.when.When.{When}
use Rattle.dsde_values.specs.declared.when.When.TheVariants.{At, Never}
use Rattle.dsde_values.specs.declared.path.Path.{Path}
use Rattle.dsde_sim_tree.specs.given.formalism.leaf_Leaf.{Leaf}
use Rattle.dsde_sim_tree.specs.given.formalism.System.{System}
use Rattle.dsde_sim_tree.specs.given.formalism.Leaf.{is_due}
use Rattle.dsde_sim_tree.specs.declared.fault.TurnEnd.{TurnEnd}
use Rattle.dsde_sim_tree.specs.Told.{at, below, to_boss}
use Rattle.dsde_sim_tree.specs.declared.sim.Kid.{Kid}
use Rattle.dsde_sim_tree.specs.declared.sim.Net.{Net}
use Rattle.dsde_sim_tree.specs.declared.sim.Sim.{Sim}
use Rattle.dsde_sim_tree.specs.declared.sim.Sim.TheFolds.{fold-Sim, fold-Kid, fold-Net}
use Rattle.dsde_sim_tree.specs.declared.sim.Sim.TheOpen.{Sim-F, Net-F, Kid-F}
use Rattle.dsde_sim_tree.specs.declared.sim.Sim.TheOpen as layer
use Rattle.dsde_sim_tree.specs.Output.{◌>>=◌, sent}

-- a component or an executive at its path
pub record Seated : Type 0 where
  pub path : Path
  pub leaf : Leaf

abbrev pub Seatings : Type 0
Seatings = Path → List Seated

abbrev pub seated_step : Sim-F Seatings Seatings Seatings → Seatings
seated_step (layer.Leaf leaf) path = record { path = path; leaf = leaf } ∷ []
seated_step (layer.Net net) path = net path

abbrev pub seated_kid : Kid-F Seatings Seatings Seatings → Seatings
seated_kid kid path = kid.sim (below path kid.name)

abbrev pub seated_net : Net-F Seatings Seatings Seatings → Seatings
seated_net net path = flat_map (λ kid. kid path) net.kids ++ record { path = to_boss path; leaf = net.boss } ∷ []

-- the components and the executives of what stands at a path, in path order
abbrev pub seated : Sim → Seatings
seated = fold-Sim Seatings Seatings Seatings seated_step seated_kid seated_net

abbrev pub seated_of_kid : Kid → Seatings
seated_of_kid = fold-Kid Seatings Seatings Seatings seated_step seated_kid seated_net

abbrev pub seated_of_net : Net → Seatings
seated_of_net = fold-Net Seatings Seatings Seatings seated_step seated_kid seated_net

-- Each is asked for what it sends, one after another; the first fault ends.
abbrev pub ask_each : System → ℕ → List Seated → Result (Unit {0}) TurnEnd
ask_each system time [] = Ok tt
ask_each system time (own ∷ others) = at own.path (sent system own.leaf time) >>= (λ _. ask_each system time others)

-- how it ends, whatever it comes to
abbrev pub ending : {A : Type 0} → Result A TurnEnd → Result (Unit {0}) TurnEnd
ending result = result >>= (λ _. Ok tt)

-- those that are due
abbrev pub due_ones : ℕ → List Seated → List Seated
due_ones time list = filter (λ own. is_due own.leaf time) list

-- no earlier than this time
abbrev pub IsFrom : ℕ → When → Type 0
IsFrom time (At other) = time ≤ other
IsFrom time Never = Unit {0}

-- one of these who are due at this time, and none earlier; or none is ever due
abbrev pub IsNext : When → List Seated → Type 0
IsNext (At time) list = Contains (map (λ own. own.leaf.next) list) (At time) × AllByRecursion (λ own. IsFrom time own.leaf.next) list
IsNext Never list = AllByRecursion (λ own. own.leaf.next ≡ Never) list
