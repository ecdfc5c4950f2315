-- What the braces lay over the parameters.
use Rattle.std.proofs.Common.{◌≡◌, [], length, IfOk, OnOk, ap, subst, ◌∙◌}
use Rattle.dsde_language.specs.declared.known.Known.{Known}
use Rattle.dsde_language.specs.DeclaredModels.{typed_fields}
use Rattle.dsde_language.specs.Names.{Scope, with_slots}
use Rattle.dsde_program_expressions.specs.given.program_layout.LayPieces.{put, roomy}
use Rattle.dsde_program_expressions.specs.given.program_layout.LayStatements.{func_parts}
use Rattle.dsde_program_bodies.proofs.functions.func.Goals as goal

pub returns-clause-own : goal.returns-clause-own
returns-clause-own c =
    subst (λ (scope : Scope). IfOk c.braces.result (λ code. code ≡ record { block = record { 0 = length c.args.tables.now.blocks }; value = (func_parts c.args.resolver.now c.args.stmts.now c.args.value.now scope (roomy c.args.tables.now)).own.value }))
    (c.in_ok-scope.ensures ∙ ap (λ (known : Known). with_slots [] (typed_fields known c.args.params.now)) c.known.ensures)
    c.braces.ensures.own

pub returns-clause-tables : goal.returns-clause-tables
returns-clause-tables c =
    subst (λ (scope : Scope). OnOk c.braces.result (c.braces.new.tables ≡ put (func_parts c.args.resolver.now c.args.stmts.now c.args.value.now scope (roomy c.args.tables.now)).tables (length c.args.tables.now.blocks) (func_parts c.args.resolver.now c.args.stmts.now c.args.value.now scope (roomy c.args.tables.now)).own.acts))
    (c.in_ok-scope.ensures ∙ ap (λ (known : Known). with_slots [] (typed_fields known c.args.params.now)) c.known.ensures)
    c.braces.ensures.tables
