use Rattle.std.proofs.Common.{refl}
use Rattle.dsde_parser_expressions.proofs.PartLemmas.{one-at, own, ◌⨟◌, wide, read-all}
use Rattle.dsde_parser_expressions.proofs.NodeLemmas.{taken}
use Rattle.dsde_parser_declarations.proofs.decl.phase.Goals as goal

pub returns-clause-took : goal.returns-clause-took
returns-clause-took c =
    let begun = taken _ _ _ _ c.takes_key.ensures.took c.if-not-takes_key.false in
    let stmts = c.in_ok-stmts.ensures.took in
    read-all (wide (one-at begun c.at-at.ensures ⨟ own stmts)) refl refl stmts.good
