use Rattle.std.proofs.Common.{rules, sym, ◌∙◌, [], ◌∷◌}
use Rattle.dsde_parser_grammar.specs.Want as want
use Rattle.dsde_parser_expressions.specs.Follows.{stop_at}
use Rattle.dsde_parser_expressions.proofs.TookLemmas.{Took-push}
use Rattle.dsde_parser_expressions.proofs.LedLemmas.{refused-from}
use Rattle.dsde_parser_expressions.proofs.StepLemmas.{decls-more, none-left}
use Rattle.dsde_parser_declarations.proofs.decl.decls.Goals as goal

pub decls-preserved : goal.decls-preserved
decls-preserved c = record {
  took = rw c.in_ok-push.ensures.ok (Took-push _ c.decls.invariant.took c.in_ok-decl.ensures.took);
  same = c.decls.invariant.same ∙ (decls-more c.decls.parser.0 c.decls.parser.1 (sym c.decls-test.ensures) ∙ c.in_ok-decl.ensures.same (want.decls ∷ []));
}

pub returns-in_err-decl-clause-same : goal.returns-in_err-decl-clause-same
returns-in_err-decl-clause-same c =
    refused-from _ _ (stop_at (want.decl ∷ want.decls ∷ []) c.decls.parser) (c.decls.invariant.same ∙ decls-more c.decls.parser.0 c.decls.parser.1 (sym c.decls-test.ensures)) (search rules)

pub returns-clause-whole : goal.returns-clause-whole
returns-clause-whole c = none-left c.decls.parser.1 (sym c.decls-test.ensures)
