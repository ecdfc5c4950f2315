use Rattle.dsde_values.specs.Reading.{truth_text}
use Rattle.std.proofs.Common.{true, false}
use Rattle.dsde_values.proofs.Fronts.{no_truth, word_other}
use Rattle.dsde_values.proofs.reading.Reader.truth.Goals as goal

pub returns-else-eq-2 : goal.returns-else-eq-2
returns-else-eq-2 c =
    no_truth c.word-word.result.now c.word-word.new.self c.args.self.now c.word-word.ensures.front c.word-word.ensures.word c.word-word.ensures.end
    (word_other c.word-word.result.now (truth_text true) c.as_slice.result.now c.if-eq.ensures c.as_slice.ensures)
    (word_other c.word-word.result.now (truth_text false) c.as_slice-else-eq.result.now c.if-eq-2.ensures c.as_slice-else-eq.ensures)
