use Rattle.std.proofs.Common.{◌≡◌, ◌++◌, List, ◌∙◌, ap}
use Rattle.dsde_values.specs.declared.value.Value.{Value}
use Rattle.dsde_atomic.proofs.Settling.{leaf-args, leaf-state, ran-at}
use Rattle.dsde_atomic.proofs.Inner.{output-none, output-nothing, output-can, output-ok, output-fits, output-end}
use Rattle.dsde_atomic.proofs.leaf.output_leaf.Goals as goal

pub returns-in-None-clause-gives : goal.returns-in-None-clause-gives
returns-in-None-clause-gives c =
    let none = c.new-sends.ensures in
    rw none (output-none c.args.program.now c.args.leaf.now.model c.code_of.result.now c.code_of.ensures c.args.leaf.now.args c.args.leaf.now.state (leaf-args c.args.program.now c.args.leaf.now c.requires) (leaf-state c.args.program.now c.args.leaf.now c.requires) c.in-None.is)

pub returns-in-None-clause-fits : goal.returns-in-None-clause-fits
returns-in-None-clause-fits c =
    let none = c.new-sends.ensures in
    rw none (output-nothing c.args.program.now c.args.leaf.now.model c.code_of.result.now c.code_of.ensures c.args.leaf.now.args c.args.leaf.now.state (leaf-args c.args.program.now c.args.leaf.now c.requires) (leaf-state c.args.program.now c.args.leaf.now c.requires))

pub run_block-requires : goal.run_block-requires
run_block-requires c =
    let same : c.in_ok-slots.slots ≡ c.args.leaf.now.args ++ c.args.leaf.now.state = c.in_ok-slots.ensures ∙ ap (λ (l : List Value). c.args.leaf.now.args ++ l) (c.in_ok-state.ensures ∙ c.as_slice.ensures) in
    let none = c.new-sends.ensures in
    rw (same, none) (output-can c.args.program.now c.args.leaf.now.model c.code_of.result.now c.code_of.ensures c.args.leaf.now.args c.args.leaf.now.state (leaf-args c.args.program.now c.args.leaf.now c.requires) (leaf-state c.args.program.now c.args.leaf.now c.requires) c.in-Some.block c.in-Some.is)

pub returns-in-Ok-clause-gives : goal.returns-in-Ok-clause-gives
returns-in-Ok-clause-gives c =
    let same : c.in_ok-slots.slots ≡ c.args.leaf.now.args ++ c.args.leaf.now.state = c.in_ok-slots.ensures ∙ ap (λ (l : List Value). c.args.leaf.now.args ++ l) (c.in_ok-state.ensures ∙ c.as_slice.ensures) in
    output-ok c.args.program.now c.args.leaf.now.model c.code_of.result.now c.code_of.ensures c.args.leaf.now.args c.args.leaf.now.state (leaf-args c.args.program.now c.args.leaf.now c.requires) (leaf-state c.args.program.now c.args.leaf.now c.requires) c.in-Some.block c.in-Some.is
    c.run_block.new.env.slots c.run_block.new.sends c.in-Ok.field-0
    (ran-at c.args.program.now c.in-Some.block.0 _ _ _ _ _ _ c.run_block.new.env.slots c.run_block.new.sends same c.new-sends.ensures c.in-Ok.is c.run_block.ensures.ran)

pub returns-in-Ok-clause-fits : goal.returns-in-Ok-clause-fits
returns-in-Ok-clause-fits c =
    let same : c.in_ok-slots.slots ≡ c.args.leaf.now.args ++ c.args.leaf.now.state = c.in_ok-slots.ensures ∙ ap (λ (l : List Value). c.args.leaf.now.args ++ l) (c.in_ok-state.ensures ∙ c.as_slice.ensures) in
    output-fits c.args.program.now c.args.leaf.now.model c.code_of.result.now c.code_of.ensures c.args.leaf.now.args c.args.leaf.now.state (leaf-args c.args.program.now c.args.leaf.now c.requires) (leaf-state c.args.program.now c.args.leaf.now c.requires) c.in-Some.block c.in-Some.is
    c.run_block.new.env.slots c.run_block.new.sends c.in-Ok.field-0
    (ran-at c.args.program.now c.in-Some.block.0 _ _ _ _ _ _ c.run_block.new.env.slots c.run_block.new.sends same c.new-sends.ensures c.in-Ok.is c.run_block.ensures.ran)

pub returns-in-Err-clause-gives : goal.returns-in-Err-clause-gives
returns-in-Err-clause-gives c =
    let same : c.in_ok-slots.slots ≡ c.args.leaf.now.args ++ c.args.leaf.now.state = c.in_ok-slots.ensures ∙ ap (λ (l : List Value). c.args.leaf.now.args ++ l) (c.in_ok-state.ensures ∙ c.as_slice.ensures) in
    rw c.at_site.ensures
    (output-end c.args.program.now c.args.leaf.now.model c.code_of.result.now c.code_of.ensures c.args.leaf.now.args c.args.leaf.now.state (leaf-args c.args.program.now c.args.leaf.now c.requires) (leaf-state c.args.program.now c.args.leaf.now c.requires) c.in-Some.block c.in-Some.is
    c.run_block.new.env.slots c.run_block.new.sends c.in-Err.end
    (ran-at c.args.program.now c.in-Some.block.0 _ _ _ _ _ _ c.run_block.new.env.slots c.run_block.new.sends same c.new-sends.ensures c.in-Err.is c.run_block.ensures.ran))
