use Rattle.dsde_syntax.specs.Grammar.{tokens_of}
use Rattle.dsde_lexer.proofs.PrintedLemmas.{printed-tokens}
use Rattle.dsde_lexer.proofs.printed.printed_tokens.Goals as goal

pub returns : goal.returns
returns c = λ model shaped short. printed-tokens (tokens_of model) shaped.tokens short
