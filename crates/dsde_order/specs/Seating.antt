-- What comes to whoever has a seat in a tree, and components of a network by their names and places.
use Rattle.std.specs.Prelude.{◌≡◌, ℕ, Bool, zero, suc, ◌<◌, ◌^◌, List, [], ◌∷◌, ◌++◌, length, Option, Some, None, IfSome}
use Rattle.dsde_syntax.specs.declared.decl.Model.{Model}
use Rattle.dsde_values.specs.declared.name.Name.{Name}
use Rattle.dsde_sim_tree.specs.given.formalism.leaf_Leaf.{Leaf}
use Rattle.dsde_sim_tree.specs.given.formalism.System.{Ports}
use Rattle.dsde_sim_moving.specs.given.system.Fitting.{FitsInputs}
use Rattle.dsde_sim_tree.specs.declared.sim.Kid.{Kid}
use Rattle.dsde_sim_tree.specs.declared.sim.Sim.{Sim}
use Rattle.dsde_sim_tree.specs.declared.sim.Sim.TheViews.{out-Kid}
use Rattle.dsde_sim_tree.specs.Start.{kid_of}
use Rattle.dsde_sim_tree.specs.Tree.{name_of}
use Rattle.dsde_sim_movers.specs.Movers.{Seat, leaf_at}
use Rattle.dsde_sim_movers.specs.lemmas.Seats.{NoneNamed}

-- What comes to the component or the executive that has a seat in a tree fits it, if one has.
abbrev pub FitsSeat : Model → List Name → Bool → Ports → Sim → Type 0
FitsSeat model names is_boss got tree = IfSome (leaf_at (record { names = names; is_boss = is_boss }) tree) (λ leaf. FitsInputs model leaf.model.0 got)

-- The first component of a name stands at an index, with this simulator.
pub record IsAt (name : Name) (kids : List Kid) (index : ℕ) : Type 0 where
  pub before : List Kid
  pub own : Sim
  pub after : List Kid
  pub is : kids ≡ before ++ kid_of name own ∷ after
  pub place : length before ≡ index
  pub none : NoneNamed name before

-- components of which the one at an index has another simulator
abbrev pub with_sim : ℕ → Sim → List Kid → List Kid
with_sim index own [] = []
with_sim zero own (kid ∷ kids) = kid_of (name_of kid) own ∷ kids
with_sim (suc index) own (kid ∷ kids) = kid ∷ with_sim index own kids

-- the simulator of the component at an index
abbrev pub sim_at : ℕ → List Kid → Option Sim
sim_at index [] = None
sim_at zero (kid ∷ kids) = Some (out-Kid kid).sim
sim_at (suc index) (kid ∷ kids) = sim_at index kids
