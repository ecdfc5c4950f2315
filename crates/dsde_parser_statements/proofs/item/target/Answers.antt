use Rattle.dsde_syntax.specs.Grammar.{end_tokens}
use Rattle.dsde_syntax.specs.Places.{end_span}
use Rattle.dsde_syntax.specs.Levels.{is_end}
use Rattle.dsde_parser_expressions.specs.Parts.{IsOk}
use Rattle.dsde_parser_expressions.proofs.PartLemmas.{reads-behind}
use Rattle.dsde_parser_statements.proofs.item.target.Goals as goal

pub returns-clause-took : goal.returns-clause-took
returns-clause-took c = reads-behind end_tokens end_span (IsOk is_end) c.end.new.parser c.end.result c.in_ok-sign.ensures.took c.end.ensures.took
