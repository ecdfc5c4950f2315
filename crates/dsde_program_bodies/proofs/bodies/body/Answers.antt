use Rattle.std.proofs.Common.{◌≡◌, [], IfOk, OnOk, ap, subst, ◌∙◌}
use Rattle.dsde_language.specs.declared.known.Known.{Known}
use Rattle.dsde_language.specs.DeclaredModels.{typed_fields}
use Rattle.dsde_language.specs.Names.{Scope, with_slots}
use Rattle.dsde_program_bodies.specs.Parts.{lay_code}
use Rattle.dsde_program_bodies.proofs.bodies.body.Goals as goal

pub returns-clause-own : goal.returns-clause-own
returns-clause-own c =
    subst (λ (scope : Scope). IfOk c.code.result (λ code. code ≡ (lay_code c.args.resolver.now scope c.args.at c.args.body.now [] c.args.tables.now).own))
    (c.in_ok-scope.ensures ∙ ap (λ (known : Known). with_slots [] (typed_fields known c.args.params.now)) c.known.ensures)
    c.code.ensures.own

pub returns-clause-tables : goal.returns-clause-tables
returns-clause-tables c =
    subst (λ (scope : Scope). OnOk c.code.result (c.code.new.tables ≡ (lay_code c.args.resolver.now scope c.args.at c.args.body.now [] c.args.tables.now).tables))
    (c.in_ok-scope.ensures ∙ ap (λ (known : Known). with_slots [] (typed_fields known c.args.params.now)) c.known.ensures)
    c.code.ensures.tables
