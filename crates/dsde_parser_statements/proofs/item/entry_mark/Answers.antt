use Rattle.std.proofs.Common.{rules, refl, [], ◌∷◌}
use Rattle.dsde_words.specs.declared.key.Key.TheVariants as key
use Rattle.dsde_parser_grammar.specs.Want as want
use Rattle.dsde_parser_expressions.proofs.PartLemmas.{one, read}
use Rattle.dsde_parser_expressions.proofs.LedLemmas.{leads-from}
use Rattle.dsde_parser_expressions.proofs.StepLemmas.{entry_mark-hard}
use Rattle.dsde_parser_statements.proofs.item.entry_mark.Goals as goal

pub returns-clause-took : goal.returns-clause-took
returns-clause-took c =
    let last = rw c.if-takes_sign.ensures.took at c.in_ok-key.ensures.took in
    read (one last) refl refl tt

pub returns-in_err-key-clause-same : goal.returns-in_err-key-clause-same
returns-in_err-key-clause-same c =
    leads-from (want.entry_mark ∷ []) (want.word key.Is ∷ []) [] c.args.parser.now c.key.new.self _ (λ s. entry_mark-hard s c.args.parser.now.0 c.args.parser.now.1 (search rules)) (search rules)
