use Rattle.dsde_parser_grammar.proofs.FirstWrong.{first-wrong}
use Rattle.dsde_parser_grammar.proofs.laws.stops_are_first_wrong.Goals as goal

pub returns : goal.returns
returns c = first-wrong
