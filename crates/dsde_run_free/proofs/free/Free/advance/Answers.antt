use Rattle.std.proofs.Common.{◌≡◌, ◌∙◌, ◌+◌, ap, sym, subst, List, Option, Some, IfSome, Result, Ok, Err, IfErr, if◌then◌else◌, rules}
use Rattle.std.proofs.lemmas.Result.{err_from_is_err_and}
use Rattle.std.specs.Option.{option_copied}
use Rattle.dsde_values.specs.declared.arrival.Item.{Item}
use Rattle.dsde_sim_tree.specs.declared.fault.TurnEnd.{TurnEnd}
use Rattle.dsde_sim_tree.specs.Told.{Tells}
use Rattle.dsde_run.specs.given.system.Program.{system}
use Rattle.dsde_sim_tree.specs.declared.sim.Sim.{Sim}
use Rattle.dsde_sim_tree.specs.Tree.{model_of, next_time}
use Rattle.dsde_sim_tree.specs.declared.step.Step.{Step}
use Rattle.dsde_sim_tree.specs.declared.step.Step.TheVariants.{Turned}
use Rattle.dsde_sim_tree.specs.Engine.{Engine}
use Rattle.dsde_sim_tree.specs.Turn.{turn_time, items_at}
use Rattle.dsde_sim_movers.specs.Names.{IsNamed}
use Rattle.dsde_run.specs.given.sim_working.Working.{Comes, HeadComes, Stands, StandsIf, working}
use Rattle.dsde_drawing.specs.Words.{behind}
use Rattle.dsde_order.specs.Free.{Drawing, advance, drawn_turn, moves_of}
use Rattle.dsde_run_free.specs.Drawn.{Drawn}
use Rattle.dsde_run_free.proofs.Advancing.{advance-err, advance-ok, agrees, counts, if-named}
use Rattle.dsde_run.specs.given.sim_working.lemmas_Advancing.{turn-comes}
use Rattle.dsde_run_free.proofs.free.Free.advance.Goals as goal

pub drawn_turn-requires-clause-moment : goal.drawn_turn-requires-clause-moment
drawn_turn-requires-clause-moment c =
    let here : c.self.inside.tree ≡ Some c.in-Some.tree = search rules in
    let at : turn_time (next_time c.in-Some.tree) (option_copied c.args.head) ≡ Some c.in-Some-turn_time.time = search rules in
    let stands : Stands c.self.inside.program.now c.in-Some.tree = subst (StandsIf c.self.inside.program.now) here c.self.invariant.0 in
    let head : IfSome c.self.inside.tree (λ tree. IfSome (option_copied c.args.head) (Comes c.self.inside.program.now (model_of tree))) =
    subst (λ (own : Drawn). HeadComes (working own.program own.drawing.engine) (option_copied c.args.head)) (sym c.self.view_is) c.requires.head in
    let comes : IfSome (option_copied c.args.head) (Comes c.self.inside.program.now (model_of c.in-Some.tree)) =
    subst (λ (own : Option Sim). IfSome own (λ tree. IfSome (option_copied c.args.head) (Comes c.self.inside.program.now (model_of tree)))) here head in
    (turn-comes c.self.inside.program.now c.in-Some.tree (option_copied c.args.head) c.in-Some-turn_time.time stands.fits comes at).0

pub drawn_turn-requires-clause-items : goal.drawn_turn-requires-clause-items
drawn_turn-requires-clause-items c =
    let here : c.self.inside.tree ≡ Some c.in-Some.tree = search rules in
    let at : turn_time (next_time c.in-Some.tree) (option_copied c.args.head) ≡ Some c.in-Some-turn_time.time = search rules in
    let stands : Stands c.self.inside.program.now c.in-Some.tree = subst (StandsIf c.self.inside.program.now) here c.self.invariant.0 in
    let head : IfSome c.self.inside.tree (λ tree. IfSome (option_copied c.args.head) (Comes c.self.inside.program.now (model_of tree))) =
    subst (λ (own : Drawn). HeadComes (working own.program own.drawing.engine) (option_copied c.args.head)) (sym c.self.view_is) c.requires.head in
    let comes : IfSome (option_copied c.args.head) (Comes c.self.inside.program.now (model_of c.in-Some.tree)) =
    subst (λ (own : Option Sim). IfSome own (λ tree. IfSome (option_copied c.args.head) (Comes c.self.inside.program.now (model_of tree)))) here head in
    rw c.items_at.ensures ((turn-comes c.self.inside.program.now c.in-Some.tree (option_copied c.args.head) c.in-Some-turn_time.time stands.fits comes at).1)

pub returns-in_err-tree-clause-err : goal.returns-in_err-tree-clause-err
returns-in_err-tree-clause-err c =
    let e = err_from_is_err_and c.from_residual.result c.from_residual.ensures.1 in
    let here : c.self.inside.tree ≡ Some c.in-Some.tree = search rules in
    let at : turn_time (next_time c.in-Some.tree) (option_copied c.args.head) ≡ Some c.in-Some-turn_time.time = search rules in
    let s = system c.self.inside.program.now in
    let engine : Engine = record { tree = c.self.inside.tree; turn = c.self.inside.turn; time = c.self.inside.time; taken = c.self.inside.taken } in
    let drawing : Drawing = record { engine = engine; generator = c.self.inside.words } in
    let step : Tells (drawn_turn s c.in-Some.tree (c.self.inside.turn + 1) c.in-Some-turn_time.time (items_at (option_copied c.args.head) c.in-Some-turn_time.time) c.self.inside.words) c.args.events.now c.drawn_turn.new.events (Err c.in_err-tree.field-0.0) =
    subst (λ (items : List Item). Tells (drawn_turn s c.in-Some.tree (c.self.inside.turn + 1) c.in-Some-turn_time.time items c.self.inside.words) c.args.events.now c.drawn_turn.new.events (Err c.in_err-tree.field-0.0)) c.items_at.ensures c.in_err-tree.ensures.told in
    let tells = advance-err s drawing c.in-Some.tree (option_copied c.args.head) c.args.events.now here c.in-Some-turn_time.time at c.in_err-tree.field-0.0 c.drawn_turn.new.events step in
    subst (λ (own : Drawn). IfErr c.from_residual.result (λ end. Tells (advance (system own.program) own.drawing (option_copied c.args.head)) c.args.events.now c.drawn_turn.new.events (Err end))) c.self.view_is
    (subst (λ (result : Result Step TurnEnd). IfErr result (λ end. Tells (advance s drawing (option_copied c.args.head)) c.args.events.now c.drawn_turn.new.events (Err end))) (sym (e.1 ∙ ap Err e.2)) tells)

pub returns-clause-ok : goal.returns-clause-ok
returns-clause-ok c =
    let here : c.self.inside.tree ≡ Some c.in-Some.tree = search rules in
    let at : turn_time (next_time c.in-Some.tree) (option_copied c.args.head) ≡ Some c.in-Some-turn_time.time = search rules in
    let s = system c.self.inside.program.now in
    let engine : Engine = record { tree = c.self.inside.tree; turn = c.self.inside.turn; time = c.self.inside.time; taken = c.self.inside.taken } in
    let drawing : Drawing = record { engine = engine; generator = c.self.inside.words } in
    let step : Tells (drawn_turn s c.in-Some.tree (c.self.inside.turn + 1) c.in-Some-turn_time.time (items_at (option_copied c.args.head) c.in-Some-turn_time.time) c.self.inside.words) c.args.events.now c.drawn_turn.new.events (Ok c.in_ok-tree.tree) =
    subst (λ (items : List Item). Tells (drawn_turn s c.in-Some.tree (c.self.inside.turn + 1) c.in-Some-turn_time.time items c.self.inside.words) c.args.events.now c.drawn_turn.new.events (Ok c.in_ok-tree.tree)) c.items_at.ensures c.in_ok-tree.ensures.told in
    let tells = advance-ok s drawing c.in-Some.tree (option_copied c.args.head) c.args.events.now here c.in-Some-turn_time.time at c.in_ok-tree.tree c.drawn_turn.new.events step in
    let counted : c.from.result ≡ (if c.is_taken-took_input.result then 1 else 0) = search rules in
    let drew : c.drawn_turn.new.words ≡ behind (moves_of s c.in-Some.tree c.in-Some-turn_time.time (items_at (option_copied c.args.head) c.in-Some-turn_time.time)) c.self.inside.words =
    subst (λ (items : List Item). c.drawn_turn.new.words ≡ behind (moves_of s c.in-Some.tree c.in-Some-turn_time.time items) c.self.inside.words) c.items_at.ensures c.in_ok-tree.ensures.words in
    subst (λ (own : Drawn). Tells (advance (system own.program) own.drawing (option_copied c.args.head)) c.args.events.now c.drawn_turn.new.events
    (Ok (Turned c.is_taken-took_input.result, record { engine = record { tree = Some c.in_ok-tree.tree; turn = c.self.inside.turn + 1; time = c.in-Some-turn_time.time; taken = c.self.inside.taken + c.from.result }; generator = c.drawn_turn.new.words }))) c.self.view_is
    (rw (counted, c.is_taken-took_input.ensures, drew) tells)

pub returns-clause-agrees : goal.returns-clause-agrees
returns-clause-agrees c =
    let own = c.args.self.now in
    let named : IfSome own.drawing.engine.tree IsNamed =
    subst (λ (own : Drawn). IfSome own.drawing.engine.tree IsNamed) c.self.view_is (if-named c.fitting_trees_are_named.ensures c.self.inside.program.now c.self.inside.tree c.self.invariant.0) in
    agrees c.drawn_advances_agree.ensures (system own.program) own.drawing _ (option_copied c.args.head) (Turned c.is_taken-took_input.result) c.args.events.now c.drawn_turn.new.events named (returns-clause-ok c)

pub invariant_of-self-2 : goal.invariant_of-self-2
invariant_of-self-2 c =
    let counted : c.from.result ≡ (if c.is_taken-took_input.result then 1 else 0) = search rules in
    (c.in_ok-tree.ensures.stands, counts c.is_taken-took_input.result c.self.inside.taken c.self.inside.turn c.from.result c.self.invariant.1 counted)
