use Rattle.dsde_parser_grammar.proofs.Stopping.{came-begins, all-came}
use Rattle.dsde_parser_grammar.proofs.laws.what_came_begins_a_model.Goals as goal

pub returns : goal.returns
returns c = record { begins = came-begins; whole = all-came }
