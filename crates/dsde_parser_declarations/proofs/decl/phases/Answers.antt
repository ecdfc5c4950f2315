use Rattle.std.proofs.Common.{refl}
use Rattle.dsde_parser_expressions.proofs.PartLemmas.{all, ◌⨟◌, read-all}
use Rattle.dsde_parser_declarations.proofs.decl.phases.Goals as goal

pub returns-clause-took : goal.returns-clause-took
returns-clause-took c =
    let output = c.in_ok-output.ensures.took in
    let internal = c.in_ok-internal.ensures.took in
    let external = c.in_ok-external.ensures.took in
    let confluent = c.in_ok-confluent.ensures.took in
    read-all (all output ⨟ all internal ⨟ all external ⨟ all confluent) refl refl
    (record { output = output.good; internal = internal.good; external = external.good; confluent = confluent.good })
