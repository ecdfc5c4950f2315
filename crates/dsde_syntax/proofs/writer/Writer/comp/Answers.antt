use Rattle.dsde_syntax.proofs.Writing.{then}
use Rattle.dsde_syntax.proofs.writer.Writer.comp.Goals as goal

pub returns : goal.returns
returns c = then (then (then (then (then c.word.ensures c.component.ensures) c.entry_mark.ensures) c.id.ensures) c.args-2.ensures) c.sign.ensures
