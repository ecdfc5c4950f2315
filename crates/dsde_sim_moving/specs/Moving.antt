-- How components move that have what comes to them.
use Rattle.std.specs.Prelude.{ℕ, ◌<◌, ◌^◌, List, [], ◌∷◌, ◌++◌, length}
use Rattle.std.specs.List.{AllByRecursion}
use Rattle.dsde_language.specs.given.syntax.decl_Model.{Model}
use Rattle.dsde_values.specs.declared.name.Name.{Name}
use Rattle.dsde_values.specs.declared.path.Path.{Path}
use Rattle.dsde_sim_tree.specs.given.structure.plan_Link.{Link}
use Rattle.dsde_sim_tree.specs.given.structure.plan_Part_TheVariants as part
use Rattle.dsde_sim_tree.specs.given.structure.sources_Sources.{Sources}
use Rattle.dsde_sim_tree.specs.given.structure.Gather.{gathered}
use Rattle.dsde_sim_tree.specs.given.formalism.System.{System, Ports}
use Rattle.dsde_sim_tree.specs.Told.{Told, told, ◌then◌, below}
use Rattle.dsde_sim_tree.specs.declared.sim.Kid.{Kid}
use Rattle.dsde_sim_tree.specs.declared.sim.Net.{Net}
use Rattle.dsde_sim_tree.specs.declared.sim.Sim.{Sim}
use Rattle.dsde_sim_tree.specs.declared.sim.Sim.TheViews.{out-Kid, out-Net}
use Rattle.dsde_sim_tree.specs.Opened.{shape_in}
use Rattle.dsde_sim_tree.specs.Tree.{model_of}
use Rattle.dsde_sim_tree.specs.Start.{kid_of}
use Rattle.dsde_sim_tree.specs.Move.{move, ins_of}
use Rattle.dsde_sim_changing.specs.given.sim_starting.Fitting.{FitsBodySent, FitsGot, FitsShape, FitsTree}
use Rattle.dsde_sim_changing.specs.given.sim_starting.Asking.{AreAsked}

-- a component under its name
abbrev pub as_kid : Name → Sim × ℕ → Told (Kid × ℕ)
as_kid name after = told [] (kid_of name after.0, after.1)

-- a component moves with what it got
abbrev pub kid_with : System → Kid → Path → ℕ → Ports → ℕ → Told (Kid × ℕ)
kid_with system kid path time got room =
    move system (out-Kid kid).sim (below path (out-Kid kid).name) time got room then as_kid (out-Kid kid).name

-- components move one after another, each with what it got, behind those that have
abbrev pub kids_with : System → List Kid → List Ports → Path → ℕ → ℕ → List Kid → Told (List Kid × ℕ)
kids_with system (kid ∷ kids) (got ∷ gots) path time room done =
    kid_with system kid path time got room then (λ one.
    kids_with system kids gots path time one.1 (done ++ one.0 ∷ []))
kids_with system _ _ path time room done = told [] (done, room)

-- Something comes to each component that fits it.
abbrev pub AreGot : Model → List Kid → List Ports → Type 0
AreGot model [] [] = Unit {0}
AreGot model (kid ∷ kids) (got ∷ gots) = FitsGot model (model_of (out-Kid kid).sim).0 got × AreGot model kids gots
AreGot model _ _ = ⊥

-- The simulator of a component fits the program.
abbrev pub FitsInside : Model → Kid → Type 0
FitsInside model kid = FitsTree model (out-Kid kid).sim

-- Values come at so few ports that 32 bits count them.
abbrev pub AreFew : Ports → Type 0
AreFew got = length got < 2 ^ 32

-- The links of a network that fits carry from these.
pub record IsAsked (model : Model) (net : Net) (sources : Sources) : Type 0 where
  pub shape : FitsShape model (shape_in net)
  pub kids : AllByRecursion (FitsInside model) (out-Net net).kids
  pub got : FitsGot model (out-Net net).model.0 sources.net
  pub boss : FitsBodySent model (out-Net net).boss.model.0 sources.boss
  pub asked : AreAsked model (out-Net net).kids sources.kids
