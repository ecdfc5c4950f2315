use Rattle.std.proofs.Common.{◌++◌, length}
use Rattle.dsde_atomic.proofs.Inner.{internal-none, internal-can, internal-ok, internal-fits, internal-end}
use Rattle.dsde_atomic.proofs.Phases.{resized}
use Rattle.dsde_atomic.proofs.moves.internal.Goals as goal

pub moved-requires-clause-can : goal.moved-requires-clause-can
moved-requires-clause-can c =
    let same = c.in_ok-slots.ensures in
    rw same (internal-can c.args.program.now c.args.model c.code_of.result.now c.code_of.ensures c.args.args.now c.args.state c.requires.args c.requires.state c.in-Some.block c.in-Some.is)

pub returns-in-None-clause-gives : goal.returns-in-None-clause-gives
returns-in-None-clause-gives c =
    internal-none c.args.program.now c.args.model c.code_of.result.now c.code_of.ensures c.args.args.now c.args.state c.requires.args c.requires.state c.in-None.is

pub returns-in-Ok-clause-gives : goal.returns-in-Ok-clause-gives
returns-in-Ok-clause-gives c =
    internal-ok c.args.program.now c.args.model c.code_of.result.now c.code_of.ensures c.args.args.now c.args.state c.requires.args c.requires.state c.in-Some.block c.in-Some.is c.moved.result
    (resized c.args.program.now c.in-Some.block.0 c.in_ok-slots.slots (c.args.args.now ++ c.args.state) c.len.result (length c.args.args.now) c.len-states.result (length c.args.state) c.moved.result c.in_ok-slots.ensures c.len.ensures c.len-states.ensures c.moved.ensures)
    c.in-Ok.state c.in-Ok.is

pub returns-in-Ok-clause-fits : goal.returns-in-Ok-clause-fits
returns-in-Ok-clause-fits c =
    internal-fits c.args.program.now c.args.model c.code_of.result.now c.code_of.ensures c.args.args.now c.args.state c.requires.args c.requires.state c.in-Some.block c.in-Some.is c.moved.result
    (resized c.args.program.now c.in-Some.block.0 c.in_ok-slots.slots (c.args.args.now ++ c.args.state) c.len.result (length c.args.args.now) c.len-states.result (length c.args.state) c.moved.result c.in_ok-slots.ensures c.len.ensures c.len-states.ensures c.moved.ensures)
    c.in-Ok.state c.in-Ok.is

pub returns-in-Err-clause-gives : goal.returns-in-Err-clause-gives
returns-in-Err-clause-gives c =
    rw c.at_site.ensures
    (internal-end c.args.program.now c.args.model c.code_of.result.now c.code_of.ensures c.args.args.now c.args.state c.requires.args c.requires.state c.in-Some.block c.in-Some.is c.moved.result
    (resized c.args.program.now c.in-Some.block.0 c.in_ok-slots.slots (c.args.args.now ++ c.args.state) c.len.result (length c.args.args.now) c.len-states.result (length c.args.state) c.moved.result c.in_ok-slots.ensures c.len.ensures c.len-states.ensures c.moved.ensures)
    c.in-Err.end c.in-Err.is)
