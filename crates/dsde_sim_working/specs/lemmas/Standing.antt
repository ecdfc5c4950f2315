-- An engine of a program stands behind its start and behind each turn.
use Rattle.std.proofs.Common.{◌≡◌, ℕ, ◌+◌, ◌≤◌, Bool, true, false, List, [], Option, Some, None, ap, ◌∙◌, arith}
use Rattle.std.specs.Prelude.{Result, Ok, Err, IfSome, if◌then◌else◌}
use Rattle.dsde_syntax.specs.declared.decl.Model.{Model}
use Rattle.dsde_values.specs.declared.arrival.Arrival.{Arrival}
use Rattle.dsde_values.specs.declared.value.Value.{Value}
use Rattle.dsde_values.specs.Path.{root}
use Rattle.dsde_values.specs.When.{IsMoment}
use Rattle.dsde_language.specs.declared.ids.ModelId.{ModelId}
use Rattle.dsde_sim_tree.specs.given.formalism.System.{System, Chosen}
use Rattle.dsde_sim_tree.specs.declared.fault.TurnEnd.{TurnEnd}
use Rattle.dsde_sim_tree.specs.Told.{Told, at, told, quietly, ◌then◌}
use Rattle.dsde_system.specs.Program.{system}
use Rattle.dsde_sim_tree.specs.declared.sim.Sim.{Sim}
use Rattle.dsde_sim_tree.specs.declared.step.Step.{Step}
use Rattle.dsde_sim_tree.specs.Engine.{Engine, begun}
use Rattle.dsde_sim_tree.specs.Turn.{start, started_tree, advance}
use Rattle.dsde_sim_movers.specs.Stands.{StartStands, AdvanceStands}
use Rattle.dsde_sim_working.specs.Forward.{ProgramsLeadOn}
use Rattle.dsde_sim_working.specs.Working.{StandsAt}

-- a start whose tree has started
pub start-is : (own : System) (model : ModelId) (args : List Value) (tree : Sim) → at root own.top ≡ Ok (record { model = model; args = args }) → (started_tree own model args).end ≡ Ok tree → (start own).end ≡ Ok (begun tree)
start-is own model args tree top is =
    ap (λ (found : Result Chosen TurnEnd). (quietly found then (λ chosen. started_tree own chosen.model chosen.args then (λ one. told [] (begun one)))).end) top
    ∙ ap (λ (found : Result Sim TurnEnd). let step : Told Sim = record { events = (started_tree own model args).events; end = found } in (step then (λ one. told [] (begun one))).end) is

pub starts : StartStands → ProgramsLeadOn → (model : Model) (engine : Engine) → (start (system model)).end ≡ Ok engine → IsMoment engine.time → StandsAt model engine
starts start_stands leads model engine is moment = record { stands = start_stands (system model) (leads model) engine is; moment = moment }

pub goes-on : AdvanceStands → ProgramsLeadOn → (model : Model) (engine : Engine) (head : Option Arrival) (step : Step) (after : Engine) → StandsAt model engine → IfSome head (λ own. engine.time ≤ own.time)
    → (advance (system model) engine head).end ≡ Ok (step, after) → IsMoment after.time → StandsAt model after
goes-on advance_stands leads model engine head step after here early is moment =
    record { stands = advance_stands (system model) (leads model) engine head (step, after) here.stands early is; moment = moment }

-- no more records are taken than turns are done
pub counts : (took : Bool) (taken turn count : ℕ) → taken ≤ turn → count ≡ (if took then 1 else 0) → taken + count ≤ turn + 1
counts true taken turn count within is = omega (arith, within, is)
counts false taken turn count within is = omega (arith, within, is)
