-- The start of an engine, whose tree is then laid into a grove.
use Rattle.std.proofs.Common.{◌≡◌, List, [], Result, Ok, Err, IfErr, subst, sym}
use Rattle.dsde_values.specs.declared.value.Value.{Value}
use Rattle.dsde_values.specs.Path.{root}
use Rattle.dsde_language.specs.declared.ids.ModelId.{ModelId}
use Rattle.dsde_sim_tree.specs.given.formalism.System.{Chosen, System}
use Rattle.dsde_sim_tree.specs.declared.event.Event.{Event}
use Rattle.dsde_sim_tree.specs.declared.fault.TurnEnd.{TurnEnd}
use Rattle.dsde_sim_tree.specs.declared.fault.TurnEnd.TheVariants.{Memory}
use Rattle.dsde_sim_tree.specs.Told.{at, told, Tells, Told, ◌then◌}
use Rattle.dsde_core_moving.specs.given.sim_telling.lemmas_GoingOn.{goes-begin, goes-end, goes-memory, goes-ok, goes-step, GoesOn}
use Rattle.dsde_sim_tree.specs.declared.sim.Sim.{Sim}
use Rattle.dsde_sim_tree.specs.Engine.{begun, Engine}
use Rattle.dsde_sim_tree.specs.Turn.{start, started_tree}

module _ (own : System) (model : ModelId) (args : List Value) (old : List Event) (comes : at root own.top ≡ Ok (record { model = model; args = args })) where
  abbrev step : Told Sim
  step = started_tree own model args

  abbrev next : Sim → Told Engine
  next tree = told [] (begun tree)

  chosen-goes : GoesOn (start own) (step then next) old old
  chosen-goes = goes-ok (start own) (at root own.top) (λ (chosen : Chosen). started_tree own chosen.model chosen.args then next) old old (record { model = model; args = args }) (goes-begin (start own) old) comes

  module _ (tree : Sim) (new : List Event) (tells : Tells step old new (Ok tree)) where
    started-goes : GoesOn (start own) (next tree) old new
    started-goes = goes-step (start own) step next old old new tree chosen-goes tells.0 tells.1

    -- there was no memory for the grove
    pub not-laid : {A : Type 0} (result : Result A TurnEnd) → result ≡ Err Memory → IfErr result (λ end. Tells (start own) old new (Err end))
    not-laid result is = subst (λ (r : Result _ TurnEnd). IfErr r (λ end. Tells (start own) old new (Err end))) (sym is) (goes-memory (start own) (next tree) old new started-goes)

    pub laid : (shown : Sim) → shown ≡ tree → Tells (start own) old new (Ok (begun shown))
    laid shown same = subst (λ (one : Sim). Tells (start own) old new (Ok (begun one))) (sym same) (goes-end (start own) (begun tree) old new started-goes)
