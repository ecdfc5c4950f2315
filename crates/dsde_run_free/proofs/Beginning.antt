-- What the start of an engine that draws comes to.
use Rattle.std.proofs.Common.{◌≡◌, ℕ, List, [], Result, Ok, Err, sym, ap, subst}
use Rattle.std.specs.Prelude.{IfOk, IfErr}
use Rattle.dsde_syntax.specs.declared.decl.Model.{Model}
use Rattle.dsde_language.specs.DeclaredModels.{top_number}
use Rattle.dsde_sim_tree.specs.given.formalism.System.{System}
use Rattle.dsde_sim_tree.specs.declared.event.Event.{Event}
use Rattle.dsde_sim_tree.specs.declared.fault.TurnEnd.{TurnEnd}
use Rattle.dsde_sim_tree.specs.Told.{Tells, told}
use Rattle.dsde_sim_tree.specs.Engine.{Engine}
use Rattle.dsde_sim_tree.specs.Turn as turning
use Rattle.dsde_sim_movers.specs.lemmas.Steps.{same-ok, split-then}
use Rattle.dsde_run.specs.given.system.Program.{system}
use Rattle.dsde_run.specs.given.sim_working.Working as sim
use Rattle.dsde_drawing.specs.Words.{seeded}
use Rattle.dsde_order.specs.Free as drawing
use Rattle.dsde_order.specs.Free.{Drawing}
use Rattle.dsde_run_free.specs.Drawn.{Drawn, engine_of}
use Rattle.dsde_run.specs.Run.{Running}
use Rattle.dsde_run.specs.Steps.{Begins, IsBegun, Starts}
use Rattle.dsde_run.specs.lemmas.Beginning.{begins-by, is_begun}

-- the generator of a seed beside an engine
abbrev beside : ℕ → Engine → Drawing
beside seed engine = record { engine = engine; generator = seeded seed }

-- An engine that draws and has started.
drawn-begun : (system : System) (seed : ℕ) (own : Drawing) → (drawing.start system seed).end ≡ Ok own → IsBegun (engine_of own)
drawn-begun system seed own ends =
    let start = turning.start system in
    let first = split-then start.events start.end (λ engine. told [] (beside seed engine)) own ends in
    subst IsBegun (ap engine_of (same-ok (beside seed first.0) own first.2)) (is_begun system first.0 first.1)

module _ (own : Running) (seed : ℕ) (model : Model) (is : model ≡ own.model) (none all : List Event) (started : Result Drawn TurnEnd)
    (ok : IfOk started (λ free. Tells (drawing.start (system model) seed) none all (Ok free.drawing))) where
  here : IfOk started (λ free. Tells (drawing.start (system own.model) seed) none all (Ok free.drawing))
  here = subst (λ (m : Model). IfOk started (λ (free : Drawn). Tells (drawing.start (system m) seed) none all (Ok free.drawing))) is ok

  -- The events are those of the start, and it came to this.
  pub begins-drawn : IfErr started (λ why. Tells (drawing.start (system model) seed) none all (Err why)) → none ≡ [] → (list : List Event) → list ≡ all →
      Begins (λ (free : Drawn). free.drawing) (drawing.start (system own.model) seed) list started
  begins-drawn err empty list are =
      subst (λ (events : List Event). Begins (λ (free : Drawn). free.drawing) (drawing.start (system own.model) seed) events started) (sym are)
      (begins-by (λ (free : Drawn). free.drawing) (drawing.start (system own.model) seed) none all started empty here
      (subst (λ (m : Model). IfErr started (λ (why : TurnEnd). Tells (drawing.start (system m) seed) none all (Err why))) is err))

starts-by : (own : Running) (seed : ℕ) (none all : List Event) (started : Result Drawn TurnEnd) → IfOk started (λ free. free.program ≡ own.model) → IfOk started (λ free. sim.IsRoot (top_number own.model) free.drawing.engine) →
    IfOk started (λ free. Tells (drawing.start (system own.model) seed) none all (Ok free.drawing)) → IfOk started (λ free. Starts own free.program (engine_of free.drawing))
starts-by own seed none all (Ok free) is rooted tells = record { is_program = is; root = rooted; begun = drawn-begun (system own.model) seed free.drawing tells.1 }
starts-by own seed none all (Err why) is rooted tells = tt

-- A start in drawn orders, of the program that runs.
pub drawn-starts : (own : Running) (seed : ℕ) (model : Model) → model ≡ own.model → (none all : List Event) (started : Result Drawn TurnEnd) → IfOk started (λ free. free.program ≡ model) →
    IfOk started (λ free. sim.IsRoot (top_number model) free.drawing.engine) → IfOk started (λ free. Tells (drawing.start (system model) seed) none all (Ok free.drawing)) →
    IfOk started (λ free. Starts own free.program (engine_of free.drawing))
drawn-starts own seed model is none all started program rooted tells =
    starts-by own seed none all started
    (subst (λ (m : Model). IfOk started (λ (free : Drawn). free.program ≡ m)) is program)
    (subst (λ (m : Model). IfOk started (λ (free : Drawn). sim.IsRoot (top_number m) free.drawing.engine)) is rooted)
    (subst (λ (m : Model). IfOk started (λ (free : Drawn). Tells (drawing.start (system m) seed) none all (Ok free.drawing))) is tells)
