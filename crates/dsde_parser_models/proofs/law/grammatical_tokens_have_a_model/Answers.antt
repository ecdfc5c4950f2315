use Rattle.dsde_parser_models.proofs.DeclLaid.{shaped}
use Rattle.dsde_parser_models.proofs.law.grammatical_tokens_have_a_model.Goals as goal

pub returns : goal.returns
returns c = shaped
