use Rattle.std.proofs.Common.{refl}
use Rattle.dsde_parser_expressions.proofs.PartLemmas.{one, one-at, own, ◌⨟◌, read}
use Rattle.dsde_parser_declarations.proofs.decl.top.Goals as goal

pub returns-clause-took : goal.returns-clause-took
returns-clause-took c =
    let args = c.in_ok-args.ensures.took in
    read (one-at c.in_ok-at.ensures.took c.in_ok-at.ensures.place ⨟ own c.in_ok-name.ensures.took ⨟ own args ⨟ one c.in_ok-sign.ensures.took) refl refl args.good
