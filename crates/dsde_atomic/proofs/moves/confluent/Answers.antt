use Rattle.std.proofs.Common.{Err, Result, sym, subst}
use Rattle.std.proofs.lemmas.Result.{err_from_is_err_and}
use Rattle.dsde_system.specs.given.formalism.System.{State}
use Rattle.dsde_faults.specs.declared.end.LeafEnd.{LeafEnd}
use Rattle.dsde_system.specs.given.formalism.Leaf as formalism
use Rattle.dsde_system.specs.Program.{system}
use Rattle.dsde_atomic.proofs.Ends.{leaf-end, leaf-then}
use Rattle.dsde_atomic.proofs.Transitions.{confluent-none, confluent-has, confluent-gives}
use Rattle.dsde_atomic.proofs.moves.confluent.Goals as goal

pub returns-in_err-moved-in-None-clause-gives : goal.returns-in_err-moved-in-None-clause-gives
returns-in_err-moved-in-None-clause-gives c =
    let p = err_from_is_err_and c.from_residual.result c.from_residual.ensures.1 in
    rw (p.1, p.2)
    (subst (λ (o : Result State LeafEnd). formalism.Gives o (let r : Result State LeafEnd = Err c.in_err-moved-in-None.field-0.0 in r))
    (sym (confluent-none c.args.program.now c.args.model c.code_of-code.result.now c.code_of-code.ensures c.args.args.now c.requires.args c.args.state c.args.elapsed c.args.got.ports c.in-None.is))
    (leaf-end (((system c.args.program.now).component c.args.model c.args.args.now).internal c.args.state) (λ moved. ((system c.args.program.now).component c.args.model c.args.args.now).external moved 0 c.args.got.ports)
    c.in_err-moved-in-None.field-0.0 c.in_err-moved-in-None.ensures.gives))

pub returns-in_ok-moved-in-None-clause-gives : goal.returns-in_ok-moved-in-None-clause-gives
returns-in_ok-moved-in-None-clause-gives c =
    subst (λ (o : Result State LeafEnd). formalism.Gives o c.external.result)
    (sym (confluent-none c.args.program.now c.args.model c.code_of-code.result.now c.code_of-code.ensures c.args.args.now c.requires.args c.args.state c.args.elapsed c.args.got.ports c.in-None.is))
    (leaf-then (((system c.args.program.now).component c.args.model c.args.args.now).internal c.args.state) (λ moved. ((system c.args.program.now).component c.args.model c.args.args.now).external moved 0 c.args.got.ports)
    c.in_ok-moved-in-None.moved c.external.result c.in_ok-moved-in-None.ensures.gives c.external.ensures.gives)

pub seeing-requires-clause-phase : goal.seeing-requires-clause-phase
seeing-requires-clause-phase c = confluent-has c.args.program.now c.args.model c.code_of-code.result.now c.code_of-code.ensures c.args.args.now c.requires.args c.args.state c.args.elapsed c.args.got.ports c.in-Some.block c.in-Some.is

pub returns-in-Some-clause-gives : goal.returns-in-Some-clause-gives
returns-in-Some-clause-gives c = confluent-gives c.args.program.now c.args.model c.code_of-code.result.now c.code_of-code.ensures c.args.args.now c.requires.args c.args.state c.args.elapsed c.args.got.ports c.in-Some.block c.in-Some.is c.seeing.result c.seeing.ensures.gives
