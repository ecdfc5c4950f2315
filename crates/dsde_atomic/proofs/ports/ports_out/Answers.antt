use Rattle.std.proofs.Common.{◌∙◌, length, ap, sym}
use Rattle.dsde_atomic.proofs.Infos.{body_fields, outs-at}
use Rattle.dsde_atomic.proofs.ports.ports_out.Goals as goal

-- src/ports.rt:18:9
pub returns-then-info : goal.returns-then-info
returns-then-info c = λ args.
    outs-at c.args.program.now c.args.model args c.info-info.result.now c.info-info.ensures
    ∙ ap (λ network. length (body_fields network c.info-info.result.now.boss_outs c.info-info.result.now.outs)) c.if-info.true
    ∙ sym c.len.ensures

pub returns : goal.returns
returns c = λ args.
    outs-at c.args.program.now c.args.model args c.info-info.result.now c.info-info.ensures
    ∙ ap (λ network. length (body_fields network c.info-info.result.now.boss_outs c.info-info.result.now.outs)) c.if-info.false
    ∙ sym c.len-2.ensures
