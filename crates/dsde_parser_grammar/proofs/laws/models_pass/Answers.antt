use Rattle.dsde_parser_grammar.proofs.DeclPasses.{model-passes}
use Rattle.dsde_parser_grammar.proofs.laws.models_pass.Goals as goal

pub returns : goal.returns
returns c = model-passes
