use Rattle.std.proofs.Common.{rules, sym, [], ◌∷◌, ◌++◌, refl}
use Rattle.dsde_words.specs.declared.key.Key.TheVariants as key
use Rattle.dsde_syntax.specs.declared.token.Sign.TheVariants as sign
use Rattle.dsde_parser_grammar.specs.Want as want
use Rattle.dsde_parser_grammar.specs.Steps.{typed}
use Rattle.dsde_parser_expressions.proofs.LedLemmas.{leads-from}
use Rattle.dsde_parser_expressions.proofs.StepLemmas.{port-in}
use Rattle.dsde_parser_expressions.proofs.PartLemmas.{one, own, ◌⨟◌, read}
use Rattle.dsde_parser_expressions.proofs.NodeLemmas.{taken}
use Rattle.dsde_parser_declarations.proofs.decl.port.Goals as goal

pub returns-in_err-key-clause-same : goal.returns-in_err-key-clause-same
returns-in_err-key-clause-same c =
    leads-from (want.port ∷ []) (want.word key.In ∷ (typed ++ want.mark sign.Semicolon ∷ [])) [] c.args.parser.now c.key.new.self _ (λ s. port-in s c.args.parser.now.0 c.args.parser.now.1 (sym c.if-takes_key.ensures.comes)) (search rules)

pub returns-in_err-name-2-clause-same : goal.returns-in_err-name-2-clause-same
returns-in_err-name-2-clause-same c =
    leads-from (want.port ∷ []) (want.word key.In ∷ (typed ++ want.mark sign.Semicolon ∷ [])) [] c.args.parser.now c.typed-2.new.parser _ (λ s. port-in s c.args.parser.now.0 c.args.parser.now.1 (sym c.if-takes_key.ensures.comes)) (search rules)

pub returns-in_err-sign-2-clause-same : goal.returns-in_err-sign-2-clause-same
returns-in_err-sign-2-clause-same c =
    leads-from (want.port ∷ []) (want.word key.In ∷ (typed ++ want.mark sign.Semicolon ∷ [])) [] c.args.parser.now c.sign-2.new.self _ (λ s. port-in s c.args.parser.now.0 c.args.parser.now.1 (sym c.if-takes_key.ensures.comes)) (search rules)

pub returns-then-takes_key-clause-took : goal.returns-then-takes_key-clause-took
returns-then-takes_key-clause-took c =
    let out = taken _ _ _ _ c.takes_key.ensures.took c.if-takes_key.true in
    read (one out ⨟ own c.in_ok-name.ensures.took ⨟ one c.in_ok-sign.ensures.took) refl refl refl

pub returns-clause-took : goal.returns-clause-took
returns-clause-took c =
    let begun = rw c.if-takes_key.ensures.took at c.in_ok-key.ensures.took in
    read (one begun ⨟ own c.in_ok-name-2.ensures.took ⨟ one c.in_ok-sign-2.ensures.took) refl refl refl
