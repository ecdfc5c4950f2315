use Rattle.dsde_lexer.proofs.Sizes.{tokens-size}
use Rattle.dsde_lexer.proofs.GoodLemmas.{tokens-good}
use Rattle.dsde_lexer.proofs.CutLemmas.{long, no_memory}
use Rattle.dsde_lexer.proofs.law.texts_are_cut.Goals as goal

pub returns : goal.returns
returns c = record { well_formed = tokens-good; few = tokens-size; too_long = long; no_memory = no_memory }
