-- What is read so far, from the start of the loop on.
use Rattle.std.proofs.Common.{length, ◌≡◌}
use Rattle.dsde_syntax.specs.Grammar.{decl_tokens}
use Rattle.dsde_syntax.specs.Places.{decl_span}
use Rattle.dsde_syntax.specs.Levels.{is_decl}
use Rattle.dsde_parser_expressions.specs.Took.{TookAll}
use Rattle.dsde_parser_expressions.specs.Parts.{AllOk, joined_by, all_by}
use Rattle.dsde_parser_grammar.specs.Steps.{start}
use Rattle.dsde_parser_expressions.specs.Follows.{stop_at}
use Rattle.dsde_parser_declarations.proofs.decl.decls.Given as goal

abbrev pub invariant-decls : goal.invariant-decls
invariant-decls l = record {
  took : TookAll (joined_by decl_tokens) (all_by decl_span) (AllOk is_decl) l.fn.parser l.parser l.decls;
  same : stop_at start l.fn.parser ≡ stop_at start l.parser;
}

abbrev pub decreases-decls : goal.decreases-decls
decreases-decls l = length l.parser.1
