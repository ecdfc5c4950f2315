use Rattle.dsde_values.proofs.Fronts.{word_all, word_end}
use Rattle.dsde_values.proofs.reading.Reader.word.Goals as goal

pub returns-clause-word : goal.returns-clause-word
returns-clause-word c = word_all c.self.inside.left.now c.split_at.result.0.now c.word_size.result c.word_size.ensures.size c.split_at.ensures.front

pub returns-clause-end : goal.returns-clause-end
returns-clause-end c = word_end c.self.inside.left.now c.split_at.result.1.now c.word_size.result c.word_size.ensures.size c.split_at.ensures.back
