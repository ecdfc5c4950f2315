use Rattle.std.proofs.Common.{refl}
use Rattle.dsde_parser_expressions.proofs.PartLemmas.{one, own, ◌⨟◌, read, whole-expr}
use Rattle.dsde_parser_statements.proofs.stmt.for_in.Goals as goal

pub returns-clause-took : goal.returns-clause-took
returns-clause-took c =
    let list = c.in_ok-list.ensures.took in
    read (one c.in_ok-key.ensures.took ⨟ own c.in_ok-name.ensures.took ⨟ one c.in_ok-key-2.ensures.took ⨟ own list) refl refl (whole-expr list)
