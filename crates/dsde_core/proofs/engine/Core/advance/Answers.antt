use Rattle.std.proofs.Common.{◌≡◌, ◌∙◌, ◌+◌, ◌*◌, ◌≤◌, length, List, Some, Result, Ok, Err, IfErr, IfOk, if◌then◌else◌, ap, sym, subst, rules}
use Rattle.std.proofs.lemmas.Result.{err_from_is_err_and}
use Rattle.std.specs.Option.{option_copied}
use Rattle.dsde_values.specs.declared.arrival.Item.{Item}
use Rattle.dsde_values.specs.declared.when.When.{When}
use Rattle.dsde_sim_tree.specs.declared.fault.TurnEnd.{TurnEnd}
use Rattle.dsde_sim_tree.specs.Told.{Tells}
use Rattle.dsde_core_outputs.specs.given.system.Program.{system}
use Rattle.dsde_sim_tree.specs.declared.step.Step.{Step}
use Rattle.dsde_sim_tree.specs.declared.step.Step.TheVariants.{Turned}
use Rattle.dsde_sim_tree.specs.Engine.{next_of}
use Rattle.dsde_sim_tree.specs.Turn.{advance, turn, turn_time}
use Rattle.dsde_core_outputs.specs.given.sim_working.lemmas_Standing.{counts}
use Rattle.dsde_core_moving.specs.given.sim_movers.Work.{turn_entries, work}
use Rattle.dsde_core_moving.specs.given.core_moves.Flat.{tree_of}
use Rattle.dsde_core_outputs.specs.Rows.{HasRows}
use Rattle.dsde_core.specs.Standing.{HasFewPairs}
use Rattle.dsde_core.proofs.EngineResting.{its-few}
use Rattle.dsde_core.proofs.EngineTurning as turning
use Rattle.dsde_core.proofs.engine.Core.advance.Goals as goal

pub turn-requires-clause-moment : goal.turn-requires-clause-moment
turn-requires-clause-moment g c =
    let i = c.self.inside in
    let due : turn_time (next_of c.args.self.now.engine) (option_copied c.args.head) ≡ Some c.in-Some.time = ap (λ (next : When). turn_time next (option_copied c.args.head)) (sym c.next.ensures) ∙ sym c.turn_time.ensures ∙ c.in-Some.is in
    turning.moment i.program.now i.spent i.flat i.turn i.time i.taken c.args.self.now c.self.view_is c.self.invariant c.requires.fresh (option_copied c.args.head) c.requires.head c.in-Some.time due

pub turn-requires-clause-rests : goal.turn-requires-clause-rests
turn-requires-clause-rests g c = let i = c.self.inside in turning.rests i.program.now i.spent i.flat i.turn i.time i.taken c.args.self.now c.self.view_is c.self.invariant c.requires.fresh

pub turn-requires-clause-items : goal.turn-requires-clause-items
turn-requires-clause-items g c =
    let i = c.self.inside in
    let due : turn_time (next_of c.args.self.now.engine) (option_copied c.args.head) ≡ Some c.in-Some.time = ap (λ (next : When). turn_time next (option_copied c.args.head)) (sym c.next.ensures) ∙ sym c.turn_time.ensures ∙ c.in-Some.is in
    rw c.items_at.ensures (turning.items i.program.now i.spent i.flat i.turn i.time i.taken c.args.self.now c.self.view_is c.self.invariant c.requires.fresh (option_copied c.args.head) c.requires.head c.in-Some.time due)

pub returns-in_err-turn-clause-err : goal.returns-in_err-turn-clause-err
returns-in_err-turn-clause-err g c =
    let i = c.self.inside in
    let due : turn_time (next_of c.args.self.now.engine) (option_copied c.args.head) ≡ Some c.in-Some.time = ap (λ (next : When). turn_time next (option_copied c.args.head)) (sym c.next.ensures) ∙ sym c.turn_time.ensures ∙ c.in-Some.is in
    let e = err_from_is_err_and c.from_residual.result c.from_residual.ensures.1 in
    let step = subst (λ (items : List Item). Tells (turn (system i.program.now) (tree_of i.flat) (i.turn + 1) c.in-Some.time items) c.args.events.now c.turn.new.events (Err c.in_err-turn.field-0.0)) c.items_at.ensures c.in_err-turn.ensures.told in
    subst (λ (result : Result Step TurnEnd). IfErr result (λ end. Tells (advance (system c.args.self.now.program) c.args.self.now.engine (option_copied c.args.head)) c.args.events.now c.turn.new.events (Err end))) (sym (e.1 ∙ ap Err e.2))
    (turning.err i.program.now i.spent i.flat i.turn i.time i.taken c.args.self.now c.self.view_is c.self.invariant c.requires.fresh (option_copied c.args.head) c.requires.head c.in-Some.time due c.in_err-turn.field-0.0 c.args.events.now c.turn.new.events step)

pub returns-in_err-turn-clause-delivered : goal.returns-in_err-turn-clause-delivered
returns-in_err-turn-clause-delivered g c =
    let i = c.self.inside in
    let e = err_from_is_err_and c.from_residual.result c.from_residual.ensures.1 in
    let own = c.args.self.now in
    let s = system own.program in
    let head = option_copied c.args.head in
    let none : IfOk c.from_residual.result (λ step. Tells (advance s own.engine head) c.args.events.now c.turn.new.events (Ok (step, own.engine))) =
    subst (λ (result : Result Step TurnEnd). IfOk result (λ step. Tells (advance s own.engine head) c.args.events.now c.turn.new.events (Ok (step, own.engine)))) (sym (e.1 ∙ ap Err e.2)) tt in
    c.advances_are_delivered.ensures s own.engine own.engine head c.args.events.now c.turn.new.events c.from_residual.result (turning.order i.program.now i.spent i.flat i.turn i.time i.taken c.args.self.now c.self.view_is c.self.invariant c.requires.fresh) none (returns-in_err-turn-clause-err g c)

pub returns-clause-ok : goal.returns-clause-ok
returns-clause-ok g c =
    let i = c.self.inside in
    let due : turn_time (next_of c.args.self.now.engine) (option_copied c.args.head) ≡ Some c.in-Some.time = ap (λ (next : When). turn_time next (option_copied c.args.head)) (sym c.next.ensures) ∙ sym c.turn_time.ensures ∙ c.in-Some.is in
    let counted : c.from.result ≡ (if c.is_taken-took_input.result then 1 else 0) = search rules in
    let step = subst (λ (items : List Item). Tells (turn (system i.program.now) (tree_of i.flat) (i.turn + 1) c.in-Some.time items) c.args.events.now c.turn.new.events (Ok (tree_of c.turn.new.flat))) c.items_at.ensures c.in_ok-turn.ensures.told in
    turning.ok i.program.now i.spent i.flat i.turn i.time i.taken c.args.self.now c.self.view_is c.self.invariant c.requires.fresh (option_copied c.args.head) c.requires.head c.in-Some.time due c.is_taken-took_input.result c.is_taken-took_input.ensures c.from.result counted (tree_of c.turn.new.flat) c.args.events.now c.turn.new.events step

pub returns-clause-delivered : goal.returns-clause-delivered
returns-clause-delivered g c =
    let i = c.self.inside in
    let own = c.args.self.now in
    c.advances_are_delivered.ensures (system own.program) own.engine _ (option_copied c.args.head) c.args.events.now c.turn.new.events (Ok (Turned c.is_taken-took_input.result)) (turning.order i.program.now i.spent i.flat i.turn i.time i.taken c.args.self.now c.self.view_is c.self.invariant c.requires.fresh) (returns-clause-ok g c) tt

pub returns-clause-few : goal.returns-clause-few
returns-clause-few g c = c.in_ok-turn.ensures.rests.few

pub returns-in_default-clause-few : goal.returns-in_default-clause-few
returns-in_default-clause-few g c =
    let i = c.self.inside in
    subst HasFewPairs c.self.view_is (its-few i.spent i.program.now i.flat c.self.invariant.0)

pub returns-clause-root : goal.returns-clause-root
returns-clause-root g c number is =
    let i = c.self.inside in
    let due : turn_time (next_of c.args.self.now.engine) (option_copied c.args.head) ≡ Some c.in-Some.time = ap (λ (next : When). turn_time next (option_copied c.args.head)) (sym c.next.ensures) ∙ sym c.turn_time.ensures ∙ c.in-Some.is in
    let counted : c.from.result ≡ (if c.is_taken-took_input.result then 1 else 0) = search rules in
    let step = subst (λ (items : List Item). Tells (turn (system i.program.now) (tree_of i.flat) (i.turn + 1) c.in-Some.time items) c.args.events.now c.turn.new.events (Ok (tree_of c.turn.new.flat))) c.items_at.ensures c.in_ok-turn.ensures.told in
    turning.root i.program.now i.spent i.flat i.turn i.time i.taken c.args.self.now c.self.view_is c.self.invariant c.requires.fresh (option_copied c.args.head) c.requires.head c.in-Some.time due c.is_taken-took_input.result c.is_taken-took_input.ensures c.from.result counted c.trees_stand.ensures.advance c.programs_lead_on.ensures c.requires.late (tree_of c.turn.new.flat) c.args.events.now c.turn.new.events step number is

pub invariant_of-self-2 : goal.invariant_of-self-2
invariant_of-self-2 g c =
    let i = c.self.inside in
    let due : turn_time (next_of c.args.self.now.engine) (option_copied c.args.head) ≡ Some c.in-Some.time = ap (λ (next : When). turn_time next (option_copied c.args.head)) (sym c.next.ensures) ∙ sym c.turn_time.ensures ∙ c.in-Some.is in
    let counted : c.from.result ≡ (if c.is_taken-took_input.result then 1 else 0) = search rules in
    let step = subst (λ (items : List Item). Tells (turn (system i.program.now) (tree_of i.flat) (i.turn + 1) c.in-Some.time items) c.args.events.now c.turn.new.events (Ok (tree_of c.turn.new.flat))) c.items_at.ensures c.in_ok-turn.ensures.told in (
      c.in_ok-turn.ensures.rests,
      counts c.is_taken-took_input.result i.taken i.turn c.from.result c.self.invariant.1 counted,
      turning.stands-on i.program.now i.spent i.flat i.turn i.time i.taken c.args.self.now c.self.view_is c.self.invariant c.requires.fresh (option_copied c.args.head) c.requires.head c.in-Some.time due c.is_taken-took_input.result c.is_taken-took_input.ensures c.from.result counted c.trees_stand.ensures.advance c.programs_lead_on.ensures c.requires.late (tree_of c.turn.new.flat) c.args.events.now c.turn.new.events step,
    )

pub returns-clause-paid : goal.returns-clause-paid
returns-clause-paid g c =
    let i = c.self.inside in
    let S = system i.program.now in
    let due : turn_time (next_of c.args.self.now.engine) (option_copied c.args.head) ≡ Some c.in-Some.time = ap (λ (next : When). turn_time next (option_copied c.args.head)) (sym c.next.ensures) ∙ sym c.turn_time.ensures ∙ c.in-Some.is in
    let all = c.in_ok-turn.ensures.paid in
    let paid = subst (λ (items : List Item). HasRows i.program.now i.flat c.in-Some.time items all.0 × (c.turn.new.looks + 4 * length c.turn.new.flat.queue.pairs + 128 * work c.args.events.now
    ≤ c.args.looks.now + 4 * length i.flat.queue.pairs + 128 * (work c.turn.new.events + turn_entries S (tree_of i.flat) c.in-Some.time items + all.0 + 1))) c.items_at.ensures (all.1, all.2) in
    turning.paid i.program.now i.spent i.flat i.turn i.time i.taken c.args.self.now c.self.view_is c.self.invariant c.requires.fresh (option_copied c.args.head) c.requires.head c.in-Some.time due
    c.args.looks.now c.turn.new.looks (length c.turn.new.flat.queue.pairs) (work c.args.events.now) (work c.turn.new.events) all.0 paid.0 paid.1
