use Rattle.dsde_atomic.proofs.Transitions.{external-none, external-has, external-gives}
use Rattle.dsde_atomic.proofs.moves.external.Goals as goal

pub returns-in-None-clause-gives : goal.returns-in-None-clause-gives
returns-in-None-clause-gives c = external-none c.args.program.now c.args.model c.code_of-code.result.now c.code_of-code.ensures c.args.args.now c.requires.args c.args.state c.args.elapsed c.args.got.ports c.in-None.is

pub seeing-requires-clause-phase : goal.seeing-requires-clause-phase
seeing-requires-clause-phase c = external-has c.args.program.now c.args.model c.code_of-code.result.now c.code_of-code.ensures c.args.args.now c.requires.args c.args.state c.args.elapsed c.args.got.ports c.in-Some.block c.in-Some.is

pub returns-in-Some-clause-gives : goal.returns-in-Some-clause-gives
returns-in-Some-clause-gives c = external-gives c.args.program.now c.args.model c.code_of-code.result.now c.code_of-code.ensures c.args.args.now c.requires.args c.args.state c.args.elapsed c.args.got.ports c.in-Some.block c.in-Some.is c.seeing.result c.seeing.ensures.gives
