use Rattle.std.proofs.Common.{List, Ok, Err, subst}
use Rattle.std.proofs.lemmas.Result.{err_from_is_err_and}
use Rattle.dsde_values.specs.declared.arrival.Item.{Item}
use Rattle.dsde_system.specs.given.sound_expressions.Conditions.{Ran}
use Rattle.dsde_atomic.proofs.Landing.{move-can, move-long, move-fails, moved-by}
use Rattle.dsde_atomic.proofs.moves.moved.Goals as goal

pub run_block-requires : goal.run_block-requires
run_block-requires c = rw c.new-sends.ensures (move-can c.args.program.now c.args.block.0 c.args.slots c.args.params c.args.states c.requires.can)

pub behind-state-requires : goal.behind-state-requires
behind-state-requires c =
    move-long c.args.program.now c.args.block.0 c.args.slots c.args.params c.args.states c.run_block.new.env.slots c.run_block.new.sends c.in_ok-run_block.field-0 c.requires.can
    (subst (λ (l : List Item). Ran c.args.program.now c.args.block.0 c.args.slots l (Ok c.in_ok-run_block.field-0) c.run_block.new.env.slots c.run_block.new.sends) c.new-sends.ensures c.in_ok-run_block.ensures.ran) c.requires.params

pub returns-in_err-run_block : goal.returns-in_err-run_block
returns-in_err-run_block c =
    let p = err_from_is_err_and c.from_residual.result c.from_residual.ensures.1 in
    rw (p.1, p.2)
    (move-fails c.args.program.now c.args.block.0 c.args.slots c.args.params c.args.states c.run_block.new.env.slots c.run_block.new.sends c.in_err-run_block.field-0.0
    (subst (λ (l : List Item). Ran c.args.program.now c.args.block.0 c.args.slots l (Err c.in_err-run_block.field-0.0) c.run_block.new.env.slots c.run_block.new.sends) c.new-sends.ensures c.in_err-run_block.ensures.ran))

pub returns : goal.returns
returns c =
    rw (c.truncate.ensures, c.behind-state.ensures)
    (moved-by c.args.program.now c.args.block.0 c.args.slots c.args.params c.args.states c.run_block.new.env.slots c.run_block.new.sends c.in_ok-run_block.field-0
    (subst (λ (l : List Item). Ran c.args.program.now c.args.block.0 c.args.slots l (Ok c.in_ok-run_block.field-0) c.run_block.new.env.slots c.run_block.new.sends) c.new-sends.ensures c.in_ok-run_block.ensures.ran))
