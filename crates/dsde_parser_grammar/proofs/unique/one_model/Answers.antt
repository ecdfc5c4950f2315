use Rattle.dsde_parser_grammar.proofs.DeclReads.{same-model}
use Rattle.dsde_parser_grammar.proofs.unique.one_model.Goals as goal

pub returns : goal.returns
returns c = same-model
