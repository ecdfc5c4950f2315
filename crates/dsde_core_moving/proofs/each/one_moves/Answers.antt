use Rattle.std.proofs.Common.{◌≡◌, ◌∙◌, ℕ, [], ◌∷◌, length, Option, Result, Err, map, refl, ap, sym, subst, arith}
use Rattle.std.specs.Prelude.{option_to_list}
use Rattle.std.proofs.lemmas.Result.{err_from_is_err_and}
use Rattle.dsde_values.specs.Path.{root}
use Rattle.dsde_sim_tree.specs.declared.fault.TurnEnd.{TurnEnd}
use Rattle.dsde_sim_tree.specs.Told.{Tells}
use Rattle.dsde_sim_starting.specs.given.system.Program.{system}
use Rattle.dsde_sim_movers.specs.Movers.{move_each}
use Rattle.dsde_core_moves.specs.declared.flat.Mover.{Mover}
use Rattle.dsde_core_moves.specs.Flat.{delivery_of, tree_of}
use Rattle.dsde_core_moving.specs.Restructured.{with_room}
use Rattle.dsde_core_moving.proofs.Going.{all-gone, all-scheduled, births-left, gone-none, next-called, next-fits, next-gone, next-stops, next-there}
use Rattle.dsde_core_moving.proofs.Priced.{entries-next}
use Rattle.dsde_core_moving.proofs.each.one_moves.Goals as goal

pub mover_steps-requires-clause-there : goal.mover_steps-requires-clause-there
mover_steps-requires-clause-there g c =
    let a = c.args in
    let all = option_to_list a.mover in
    let here = gone-none a.program.now a.time c.requires.movers.0 a.flat.now all a.room a.events.now c.requires.stands c.requires.movers.1 c.requires.waits in
    let is : all ≡ c.in-Some.mover ∷ [] = ap (λ (own : Option Mover). option_to_list own) c.in-Some.is in
    next-there a.program.now a.time c.requires.movers.0 a.flat.now all a.room a.events.now c.requires.stands c.requires.movers.1 all a.flat.now a.room a.events.now here c.in-Some.mover [] is

pub mover_steps-requires-clause-called : goal.mover_steps-requires-clause-called
mover_steps-requires-clause-called g c =
    let a = c.args in
    let all = option_to_list a.mover in
    let here = gone-none a.program.now a.time c.requires.movers.0 a.flat.now all a.room a.events.now c.requires.stands c.requires.movers.1 c.requires.waits in
    let is : all ≡ c.in-Some.mover ∷ [] = ap (λ (own : Option Mover). option_to_list own) c.in-Some.is in
    next-called a.program.now a.time c.requires.movers.0 a.flat.now all a.room a.events.now c.requires.stands c.requires.movers.1 all a.flat.now a.room a.events.now here c.in-Some.mover [] is c.movers_wait.ensures

pub mover_steps-requires-clause-fits : goal.mover_steps-requires-clause-fits
mover_steps-requires-clause-fits g c =
    let a = c.args in
    let all = option_to_list a.mover in
    let here = gone-none a.program.now a.time c.requires.movers.0 a.flat.now all a.room a.events.now c.requires.stands c.requires.movers.1 c.requires.waits in
    let is : all ≡ c.in-Some.mover ∷ [] = ap (λ (own : Option Mover). option_to_list own) c.in-Some.is in
    next-fits a.program.now a.time c.requires.movers.0 a.flat.now all a.room a.events.now c.requires.stands c.requires.movers.1 all a.flat.now a.room a.events.now here c.in-Some.mover [] is c.movers_wait.ensures

pub mover_steps-requires-clause-births : goal.mover_steps-requires-clause-births
mover_steps-requires-clause-births g c = omega (arith, c.requires.births)

pub returns-in_err-rest-clause-told : goal.returns-in_err-rest-clause-told
returns-in_err-rest-clause-told g c =
    let a = c.args in
    let all = option_to_list a.mover in
    let here = gone-none a.program.now a.time c.requires.movers.0 a.flat.now all a.room a.events.now c.requires.stands c.requires.movers.1 c.requires.waits in
    let is : all ≡ c.in-Some.mover ∷ [] = ap (λ (own : Option Mover). option_to_list own) c.in-Some.is in
    let e = err_from_is_err_and c.from_residual.result c.from_residual.ensures.1 in
    subst (λ (result : Result ℕ TurnEnd). Tells (move_each (system a.program.now) root a.time (map delivery_of all) (tree_of a.flat.now) a.room) a.events.now c.mover_steps.new.events (with_room c.mover_steps.new.flat result)) (sym (e.1 ∙ ap Err e.2))
    (next-stops a.program.now a.time c.requires.movers.0 a.flat.now all a.room a.events.now c.requires.stands c.requires.movers.1 all a.flat.now a.room a.events.now here c.in-Some.mover [] is c.in_err-rest.field-0.0 c.mover_steps.new.events c.in_err-rest.ensures.told)

pub returns-clause-told : goal.returns-clause-told
returns-clause-told g c =
    let a = c.args in
    let all = option_to_list a.mover in
    let here = gone-none a.program.now a.time c.requires.movers.0 a.flat.now all a.room a.events.now c.requires.stands c.requires.movers.1 c.requires.waits in
    let is : all ≡ c.in-Some.mover ∷ [] = ap (λ (own : Option Mover). option_to_list own) c.in-Some.is in
    let gone = next-gone a.program.now a.time c.requires.movers.0 a.flat.now all a.room a.events.now c.requires.stands c.requires.movers.1 all a.flat.now a.room a.events.now here c.in-Some.mover [] is c.path_order_is_lawful.ensures c.mover_steps.new.flat c.in_ok-rest.rest c.mover_steps.new.events c.in_ok-rest.ensures.told c.in_ok-rest.ensures.stands c.in_ok-rest.ensures.others
    c.in_ok-rest.ensures.waits c.in_ok-rest.ensures.births in
    all-gone a.program.now a.time c.requires.movers.0 a.flat.now all a.room a.events.now c.requires.stands c.requires.movers.1 [] c.mover_steps.new.flat c.in_ok-rest.rest c.mover_steps.new.events gone refl

pub returns-clause-scheduled : goal.returns-clause-scheduled
returns-clause-scheduled g c =
    let a = c.args in
    let all = option_to_list a.mover in
    let here = gone-none a.program.now a.time c.requires.movers.0 a.flat.now all a.room a.events.now c.requires.stands c.requires.movers.1 c.requires.waits in
    let is : all ≡ c.in-Some.mover ∷ [] = ap (λ (own : Option Mover). option_to_list own) c.in-Some.is in
    let gone = next-gone a.program.now a.time c.requires.movers.0 a.flat.now all a.room a.events.now c.requires.stands c.requires.movers.1 all a.flat.now a.room a.events.now here c.in-Some.mover [] is c.path_order_is_lawful.ensures c.mover_steps.new.flat c.in_ok-rest.rest c.mover_steps.new.events c.in_ok-rest.ensures.told c.in_ok-rest.ensures.stands c.in_ok-rest.ensures.others
    c.in_ok-rest.ensures.waits c.in_ok-rest.ensures.births in
    all-scheduled a.program.now a.time c.requires.movers.0 a.flat.now all a.room a.events.now c.requires.stands c.requires.movers.1 [] c.mover_steps.new.flat c.in_ok-rest.rest c.mover_steps.new.events gone refl

pub returns-clause-births : goal.returns-clause-births
returns-clause-births g c =
    let a = c.args in
    let all = option_to_list a.mover in
    let here = gone-none a.program.now a.time c.requires.movers.0 a.flat.now all a.room a.events.now c.requires.stands c.requires.movers.1 c.requires.waits in
    let is : all ≡ c.in-Some.mover ∷ [] = ap (λ (own : Option Mover). option_to_list own) c.in-Some.is in
    let gone = next-gone a.program.now a.time c.requires.movers.0 a.flat.now all a.room a.events.now c.requires.stands c.requires.movers.1 all a.flat.now a.room a.events.now here c.in-Some.mover [] is c.path_order_is_lawful.ensures c.mover_steps.new.flat c.in_ok-rest.rest c.mover_steps.new.events c.in_ok-rest.ensures.told c.in_ok-rest.ensures.stands c.in_ok-rest.ensures.others
    c.in_ok-rest.ensures.waits c.in_ok-rest.ensures.births in
    births-left a.program.now a.time c.requires.movers.0 a.flat.now all a.room a.events.now c.requires.stands c.requires.movers.1 [] c.mover_steps.new.flat c.in_ok-rest.rest c.mover_steps.new.events gone c.executives_are_few.ensures c.requires.room

pub returns-clause-many : goal.returns-clause-many
returns-clause-many g c =
    let a = c.args in
    let all = option_to_list a.mover in
    let is : all ≡ c.in-Some.mover ∷ [] = ap (λ (own : Option Mover). option_to_list own) c.in-Some.is in
    let one = ap length is in
    omega (arith, one, c.in_ok-rest.ensures.some)

pub returns-clause-work : goal.returns-clause-work
returns-clause-work g c =
    let a = c.args in
    let all = option_to_list a.mover in
    let is : all ≡ c.in-Some.mover ∷ [] = ap (λ (own : Option Mover). option_to_list own) c.in-Some.is in
    let entries = entries-next (system a.program.now) a.time c.in-Some.mover [] all (tree_of a.flat.now) (tree_of c.mover_steps.new.flat) a.room c.in_ok-rest.rest is c.in_ok-rest.ensures.told.1 in
    omega (arith, entries, c.in_ok-rest.ensures.work)

pub returns-in_default-clause-told : goal.returns-in_default-clause-told
returns-in_default-clause-told g c =
    let a = c.args in
    let all = option_to_list a.mover in
    let here = gone-none a.program.now a.time c.requires.movers.0 a.flat.now all a.room a.events.now c.requires.stands c.requires.movers.1 c.requires.waits in
    let none : all ≡ [] = ap (λ (own : Option Mover). option_to_list own) c.in_default.is in
    all-gone a.program.now a.time c.requires.movers.0 a.flat.now all a.room a.events.now c.requires.stands c.requires.movers.1 all a.flat.now a.room a.events.now here none

pub returns-in_default-clause-scheduled : goal.returns-in_default-clause-scheduled
returns-in_default-clause-scheduled g c =
    let a = c.args in
    let all = option_to_list a.mover in
    let here = gone-none a.program.now a.time c.requires.movers.0 a.flat.now all a.room a.events.now c.requires.stands c.requires.movers.1 c.requires.waits in
    let none : all ≡ [] = ap (λ (own : Option Mover). option_to_list own) c.in_default.is in
    all-scheduled a.program.now a.time c.requires.movers.0 a.flat.now all a.room a.events.now c.requires.stands c.requires.movers.1 all a.flat.now a.room a.events.now here none
