-- Where runs begin, and how the engine stands with which one ends. This project's profile.
use Rattle.std.specs.Prelude.{◌≡◌, ◌≤◌, ℕ, List, Some, Ok}
use Rattle.dsde_syntax.specs.declared.decl.Model.{Model}
use Rattle.dsde_language.specs.Right.{IsRight}
use Rattle.dsde_language.specs.DeclaredModels.{top_ins, types_of}
use Rattle.dsde_values.specs.When.{IsMoment}
use Rattle.dsde_formalism.specs.System.{System}
use Rattle.dsde_sound_runs.specs.given.system.Program.{system}
use Rattle.dsde_sim_tree.specs.declared.sim.Sim.{Sim}
use Rattle.dsde_sim_tree.specs.Engine.{Engine}
use Rattle.dsde_sim_tree.specs.Turn.{start}
use Rattle.dsde_sim_movers.specs.Stands.{StandsTree}
use Rattle.dsde_run_free.specs.given.sim_working.Working.{Stands}
use Rattle.dsde_sound_runs.specs.given.run_meaning.Run.{Run, Spots, records_in, run}
use Rattle.dsde_cli.specs.LawCut.{CanGoOn}

-- Nothing is done yet.
pub record HasBegun (engine : Engine) : Type 0 where
  pub turn : engine.turn ≡ 0
  pub time : engine.time ≡ 0
  pub taken : engine.taken ≡ 0

abbrev pub RunsBegin : Type 0
RunsBegin = (system : System) (engine : Engine) → (start system).end ≡ Ok engine → HasBegun engine

-- An engine has a tree of the program, which stands at its time, a moment of a run; it has done so many turns at
-- most, and taken no more records than it has done turns.
pub record HasStanding (model : Model) (turns : ℕ) (engine : Engine) : Type 0 where
  pub tree : Sim
  pub is : engine.tree ≡ Some tree
  pub fits : Stands model tree
  pub stands : StandsTree (system model) engine.time tree
  pub moment : IsMoment engine.time
  pub taken : engine.taken ≤ engine.turn
  pub bounded : engine.turn ≤ turns

-- a run of a program on an input
abbrev pub run_of : Model → Spots → List ℕ → ℕ → Run
run_of model spots bytes turns = run (system model) spots (records_in (top_ins model) (types_of model) bytes) turns

abbrev pub RunsStand : Type 0
RunsStand =
    (model : Model) (spots : Spots) (bytes : List ℕ) (turns more : ℕ)
    → IsRight model → CanGoOn (run_of model spots bytes turns) more → HasStanding model turns (run_of model spots bytes turns).state
