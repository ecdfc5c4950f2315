use Rattle.dsde_parser_expressions.proofs.NodeLemmas.{boxed-Reads}
use Rattle.dsde_parser_expressions.proofs.LayerLemmas.{empty_of-Took}
use Rattle.dsde_parser_expressions.proofs.parser.Parser.empty_of.Goals as goal

pub returns-clause-took : goal.returns-clause-took
returns-clause-took c =
    boxed-Reads _ _ c.boxed.ensures.own (rw c.into_inner-ty.ensures (empty_of-Took _ _ c.in_ok-at.ensures.took c.in_ok-at.ensures.place c.in_ok-part_type.ensures.took))
