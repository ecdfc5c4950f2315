use Rattle.std.proofs.Common.{◌≡◌, ◌∙◌, ◌+◌, ◌≤◌, ℕ, Bool, ap, sym, subst, List, Option, Some, IfSome, Result, Ok, Err, IfOk, IfErr, if◌then◌else◌, rules}
use Rattle.std.proofs.lemmas.Result.{err_from_is_err_and}
use Rattle.std.specs.Option.{option_copied}
use Rattle.dsde_values.specs.declared.arrival.Item.{Item}
use Rattle.dsde_sim_tree.specs.declared.fault.TurnEnd.{TurnEnd}
use Rattle.dsde_sim_tree.specs.Told.{Tells}
use Rattle.dsde_run.specs.given.system.Program.{system}
use Rattle.dsde_sim_tree.specs.declared.sim.Sim.{Sim}
use Rattle.dsde_sim_tree.specs.Tree.{model_of, next_time}
use Rattle.dsde_sim_tree.specs.declared.step.Step.{Step}
use Rattle.dsde_sim_tree.specs.declared.step.Step.TheVariants.{Turned}
use Rattle.dsde_sim_tree.specs.Engine.{Engine, turned}
use Rattle.dsde_sim_tree.specs.Turn.{turn, turn_time, items_at, is_taken, advance}
use Rattle.dsde_sim_movers.specs.Places.{IsInOrder}
use Rattle.dsde_run.specs.given.sim_working.Working.{Working, Comes, HeadComes, Stands, StandsAt, StandsIf}
use Rattle.dsde_run.specs.given.sim_working.lemmas_Advancing.{advance-ok, advance-err, turn-moment, head-early, items-fit}
use Rattle.dsde_run.specs.given.sim_working.lemmas_Delivering.{in-order}
use Rattle.dsde_values.specs.When.{IsMoment}
use Rattle.dsde_run.specs.given.sim_working.lemmas_Standing.{counts, goes-on}
use Rattle.dsde_run.specs.given.sim_working.lemmas_Times.{in-time}
use Rattle.dsde_plain.proofs.plain.Plain.advance.Goals as goal

pub turn-requires-clause-moment : goal.turn-requires-clause-moment
turn-requires-clause-moment c =
    let here : c.self.inside.tree ≡ Some c.in-Some.tree = search rules in
    let stands : Stands c.self.inside.program.now c.in-Some.tree = subst (StandsIf c.self.inside.program.now) here c.self.invariant.0 in
    let head : IfSome c.self.inside.tree (λ tree. IfSome (option_copied c.args.head) (Comes c.self.inside.program.now (model_of tree))) =
    subst (λ own. HeadComes own (option_copied c.args.head)) (sym c.self.view_is) c.requires.head in
    let comes : IfSome (option_copied c.args.head) (Comes c.self.inside.program.now (model_of c.in-Some.tree)) =
    subst (λ (own : Option Sim). IfSome own (λ tree. IfSome (option_copied c.args.head) (Comes c.self.inside.program.now (model_of tree)))) here head in
    turn-moment (next_time c.in-Some.tree) (option_copied c.args.head) c.in-Some-turn_time.time (in-time c.self.inside.program.now c.in-Some.tree stands.fits)
    (head-early c.self.inside.program.now c.in-Some.tree stands.fits (option_copied c.args.head) comes) (search rules)

pub turn-requires-clause-items : goal.turn-requires-clause-items
turn-requires-clause-items c =
    let here : c.self.inside.tree ≡ Some c.in-Some.tree = search rules in
    let stands : Stands c.self.inside.program.now c.in-Some.tree = subst (StandsIf c.self.inside.program.now) here c.self.invariant.0 in
    let head : IfSome c.self.inside.tree (λ tree. IfSome (option_copied c.args.head) (Comes c.self.inside.program.now (model_of tree))) =
    subst (λ own. HeadComes own (option_copied c.args.head)) (sym c.self.view_is) c.requires.head in
    let comes : IfSome (option_copied c.args.head) (Comes c.self.inside.program.now (model_of c.in-Some.tree)) =
    subst (λ (own : Option Sim). IfSome own (λ tree. IfSome (option_copied c.args.head) (Comes c.self.inside.program.now (model_of tree)))) here head in
    rw c.items_at.ensures (items-fit c.self.inside.program.now c.in-Some.tree stands.fits (option_copied c.args.head) c.in-Some-turn_time.time comes)

pub returns-in_err-tree-clause-err : goal.returns-in_err-tree-clause-err
returns-in_err-tree-clause-err c =
    let e = err_from_is_err_and c.from_residual.result c.from_residual.ensures.1 in
    let here : c.self.inside.tree ≡ Some c.in-Some.tree = search rules in
    let at : turn_time (next_time c.in-Some.tree) (option_copied c.args.head) ≡ Some c.in-Some-turn_time.time = search rules in
    let s = system c.self.inside.program.now in
    let engine : Engine = record { tree = c.self.inside.tree; turn = c.self.inside.turn; time = c.self.inside.time; taken = c.self.inside.taken } in
    let step : Tells (turn s c.in-Some.tree (c.self.inside.turn + 1) c.in-Some-turn_time.time (items_at (option_copied c.args.head) c.in-Some-turn_time.time)) c.args.events.now c.turn.new.events (Err c.in_err-tree.field-0.0) =
    subst (λ (items : List Item). Tells (turn s c.in-Some.tree (c.self.inside.turn + 1) c.in-Some-turn_time.time items) c.args.events.now c.turn.new.events (Err c.in_err-tree.field-0.0)) c.items_at.ensures c.in_err-tree.ensures.told in
    let tells = advance-err s engine c.in-Some.tree (option_copied c.args.head) c.in-Some-turn_time.time c.in_err-tree.field-0.0 c.args.events.now c.turn.new.events here at step in
    subst (λ (own : Working). IfErr c.from_residual.result (λ end. Tells (advance (system own.program) own.engine (option_copied c.args.head)) c.args.events.now c.turn.new.events (Err end))) c.self.view_is
    (subst (λ (result : Result Step TurnEnd). IfErr result (λ end. Tells (advance s engine (option_copied c.args.head)) c.args.events.now c.turn.new.events (Err end))) (sym (e.1 ∙ ap Err e.2)) tells)

pub returns-clause-ok : goal.returns-clause-ok
returns-clause-ok c =
    let here : c.self.inside.tree ≡ Some c.in-Some.tree = search rules in
    let at : turn_time (next_time c.in-Some.tree) (option_copied c.args.head) ≡ Some c.in-Some-turn_time.time = search rules in
    let s = system c.self.inside.program.now in
    let engine : Engine = record { tree = c.self.inside.tree; turn = c.self.inside.turn; time = c.self.inside.time; taken = c.self.inside.taken } in
    let step : Tells (turn s c.in-Some.tree (c.self.inside.turn + 1) c.in-Some-turn_time.time (items_at (option_copied c.args.head) c.in-Some-turn_time.time)) c.args.events.now c.turn.new.events (Ok c.in_ok-tree.tree) =
    subst (λ (items : List Item). Tells (turn s c.in-Some.tree (c.self.inside.turn + 1) c.in-Some-turn_time.time items) c.args.events.now c.turn.new.events (Ok c.in_ok-tree.tree)) c.items_at.ensures c.in_ok-tree.ensures.told in
    let tells = advance-ok s engine c.in-Some.tree (option_copied c.args.head) c.in-Some-turn_time.time c.in_ok-tree.tree c.args.events.now c.turn.new.events here at step in
    let counted : c.from.result ≡ (if c.is_taken-took_input.result then 1 else 0) = search rules in
    subst (λ (own : Working). Tells (advance (system own.program) own.engine (option_copied c.args.head)) c.args.events.now c.turn.new.events
    (Ok (Turned c.is_taken-took_input.result, record { tree = Some c.in_ok-tree.tree; turn = c.self.inside.turn + 1; time = c.in-Some-turn_time.time; taken = c.self.inside.taken + c.from.result }))) c.self.view_is
    (rw (counted, c.is_taken-took_input.ensures) tells)

pub returns-in_err-tree-clause-delivered : goal.returns-in_err-tree-clause-delivered
returns-in_err-tree-clause-delivered c =
    let e = err_from_is_err_and c.from_residual.result c.from_residual.ensures.1 in
    let own = c.args.self.now in
    let s = system own.program in
    let head = option_copied c.args.head in
    let order : IfSome own.engine.tree IsInOrder = subst (λ (own : Working). IfSome own.engine.tree IsInOrder) c.self.view_is (in-order c.self.inside.program.now c.self.inside.tree c.self.invariant.0) in
    let none : IfOk c.from_residual.result (λ step. Tells (advance s own.engine head) c.args.events.now c.turn.new.events (Ok (step, own.engine))) =
    subst (λ (result : Result Step TurnEnd). IfOk result (λ step. Tells (advance s own.engine head) c.args.events.now c.turn.new.events (Ok (step, own.engine)))) (sym (e.1 ∙ ap Err e.2)) tt in
    c.advances_are_delivered.ensures s own.engine own.engine head c.args.events.now c.turn.new.events c.from_residual.result order none (returns-in_err-tree-clause-err c)

pub returns-clause-delivered : goal.returns-clause-delivered
returns-clause-delivered c =
    let own = c.args.self.now in
    let order : IfSome own.engine.tree IsInOrder = subst (λ (own : Working). IfSome own.engine.tree IsInOrder) c.self.view_is (in-order c.self.inside.program.now c.self.inside.tree c.self.invariant.0) in
    c.advances_are_delivered.ensures (system own.program) own.engine _ (option_copied c.args.head) c.args.events.now c.turn.new.events (Ok (Turned c.is_taken-took_input.result)) order (returns-clause-ok c) tt

pub invariant_of-self-2 : goal.invariant_of-self-2
invariant_of-self-2 c =
    let here : c.self.inside.tree ≡ Some c.in-Some.tree = search rules in
    let at : turn_time (next_time c.in-Some.tree) (option_copied c.args.head) ≡ Some c.in-Some-turn_time.time = search rules in
    let model = c.self.inside.program.now in
    let s = system model in
    let engine : Engine = record { tree = c.self.inside.tree; turn = c.self.inside.turn; time = c.self.inside.time; taken = c.self.inside.taken } in
    let stands : Stands model c.in-Some.tree = subst (StandsIf model) here c.self.invariant.0 in
    let head : IfSome c.self.inside.tree (λ tree. IfSome (option_copied c.args.head) (Comes model (model_of tree))) =
    subst (λ own. HeadComes own (option_copied c.args.head)) (sym c.self.view_is) c.requires.head in
    let comes : IfSome (option_copied c.args.head) (Comes model (model_of c.in-Some.tree)) =
    subst (λ (own : Option Sim). IfSome own (λ tree. IfSome (option_copied c.args.head) (Comes model (model_of tree)))) here head in
    let moment : IsMoment c.in-Some-turn_time.time =
    turn-moment (next_time c.in-Some.tree) (option_copied c.args.head) c.in-Some-turn_time.time (in-time model c.in-Some.tree stands.fits) (head-early model c.in-Some.tree stands.fits (option_copied c.args.head) comes) at in
    let early : IfSome (option_copied c.args.head) (λ arrival. c.self.inside.time ≤ arrival.time) =
    subst (λ (own : Working). IfSome (option_copied c.args.head) (λ arrival. own.engine.time ≤ arrival.time)) (sym c.self.view_is) c.requires.late in
    let step : Tells (turn s c.in-Some.tree (c.self.inside.turn + 1) c.in-Some-turn_time.time (items_at (option_copied c.args.head) c.in-Some-turn_time.time)) c.args.events.now c.turn.new.events (Ok c.in_ok-tree.tree) =
    subst (λ (items : List Item). Tells (turn s c.in-Some.tree (c.self.inside.turn + 1) c.in-Some-turn_time.time items) c.args.events.now c.turn.new.events (Ok c.in_ok-tree.tree)) c.items_at.ensures c.in_ok-tree.ensures.told in
    let tells = advance-ok s engine c.in-Some.tree (option_copied c.args.head) c.in-Some-turn_time.time c.in_ok-tree.tree c.args.events.now c.turn.new.events here at step in
    let took = is_taken (option_copied c.args.head) c.in-Some-turn_time.time in
    let counted : c.from.result ≡ (if c.is_taken-took_input.result then 1 else 0) = search rules in
    let count : c.from.result ≡ (if took then 1 else 0) = counted ∙ ap (λ (b : Bool). if b then 1 else 0) c.is_taken-took_input.ensures in
    let after = goes-on c.trees_stand.ensures.advance c.programs_lead_on.ensures model engine (option_copied c.args.head) (Turned took) (turned engine c.in_ok-tree.tree c.in-Some-turn_time.time took) c.self.invariant.2 early tells.1 moment in (
      c.in_ok-tree.ensures.stands,
      counts took c.self.inside.taken c.self.inside.turn c.from.result c.self.invariant.1 count,
      subst (λ (n : ℕ). StandsAt model (record { tree = Some c.in_ok-tree.tree; turn = c.self.inside.turn + 1; time = c.in-Some-turn_time.time; taken = c.self.inside.taken + n })) (sym count) after,
    )
