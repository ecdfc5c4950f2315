use Rattle.std.proofs.Common.{sym, [], ◌∷◌, ◌++◌}
use Rattle.dsde_parser_grammar.specs.Steps.{params, typed, args, body, function_body, network_body}
use Rattle.dsde_words.specs.declared.key.Key.TheVariants as key
use Rattle.dsde_syntax.specs.declared.token.Sign.TheVariants as sign
use Rattle.dsde_parser_grammar.specs.Want as want
use Rattle.dsde_parser_expressions.proofs.LedLemmas.{leads-from}
use Rattle.dsde_parser_expressions.proofs.StepLemmas.{decl-enum, decl-record, decl-function, decl-atomic, decl-network, decl-top}
use Rattle.dsde_parser_declarations.proofs.decl.decl.Goals as goal

pub returns-then-next_is_key-clause-same : goal.returns-then-next_is_key-clause-same
returns-then-next_is_key-clause-same c =
    leads-from (want.decl ∷ []) (want.word key.Enum ∷ want.name ∷ want.mark sign.OpenBrace ∷ want.name ∷ want.more_names ∷ want.mark sign.CloseBrace ∷ []) [] c.args.parser.now c.an_enum.new.parser _ (λ s. decl-enum s c.args.parser.now.0 c.args.parser.now.1 (sym c.if-next_is_key.ensures)) c.an_enum.ensures.same

pub returns-then-next_is_key-2-clause-same : goal.returns-then-next_is_key-2-clause-same
returns-then-next_is_key-2-clause-same c =
    leads-from (want.decl ∷ []) (want.word key.Record ∷ want.name ∷ want.mark sign.OpenBrace ∷ (typed ++ want.more_typed ∷ want.mark sign.CloseBrace ∷ [])) [] c.args.parser.now c.record.new.parser _ (λ s. decl-record s c.args.parser.now.0 c.args.parser.now.1 (sym c.if-next_is_key-2.ensures)) c.record.ensures.same

pub returns-then-next_is_key-3-clause-same : goal.returns-then-next_is_key-3-clause-same
returns-then-next_is_key-3-clause-same c =
    leads-from (want.decl ∷ []) (want.word key.Fn ∷ want.name ∷ (params ++ want.mark sign.Arrow ∷ want.ty ∷ function_body)) [] c.args.parser.now c.function.new.parser _ (λ s. decl-function s c.args.parser.now.0 c.args.parser.now.1 (sym c.if-next_is_key-3.ensures)) c.function.ensures.same

pub returns-then-next_is_key-4-clause-same : goal.returns-then-next_is_key-4-clause-same
returns-then-next_is_key-4-clause-same c =
    leads-from (want.decl ∷ []) (want.word key.Atomic ∷ want.name ∷ (params ++ want.mark sign.OpenBrace ∷ (body ++ want.mark sign.CloseBrace ∷ []))) [] c.args.parser.now c.atomic.new.parser _ (λ s. decl-atomic s c.args.parser.now.0 c.args.parser.now.1 (sym c.if-next_is_key-4.ensures)) c.atomic.ensures.same

pub returns-then-next_is_key-5-clause-same : goal.returns-then-next_is_key-5-clause-same
returns-then-next_is_key-5-clause-same c =
    leads-from (want.decl ∷ []) (want.word key.Network ∷ want.name ∷ (params ++ network_body)) [] c.args.parser.now c.network.new.parser _ (λ s. decl-network s c.args.parser.now.0 c.args.parser.now.1 (sym c.if-next_is_key-5.ensures)) c.network.ensures.same

pub returns-clause-same : goal.returns-clause-same
returns-clause-same c =
    leads-from (want.decl ∷ []) (want.word key.Top ∷ want.name ∷ (args ++ want.mark sign.Semicolon ∷ [])) [] c.args.parser.now c.top.new.parser _ (λ s. decl-top s c.args.parser.now.0 c.args.parser.now.1 (sym c.if-next_is_key.ensures) (sym c.if-next_is_key-2.ensures) (sym c.if-next_is_key-3.ensures) (sym c.if-next_is_key-4.ensures) (sym c.if-next_is_key-5.ensures)) c.top.ensures.same
