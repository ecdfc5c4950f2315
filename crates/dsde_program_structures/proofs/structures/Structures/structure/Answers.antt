-- What is laid at the place that was made is laid at that of the definitions.
use Rattle.std.proofs.Common.{◌≡◌, IfOk, OnOk, [], subst}
use Rattle.dsde_language.specs.DeclaredStructures.{Place}
use Rattle.dsde_language.specs.Statements.{body_scope}
use Rattle.dsde_program_expressions.specs.given.program_layout.LayPieces.{over}
use Rattle.dsde_program_expressions.specs.given.program_layout.LayItems.{lay_items}
use Rattle.dsde_program_structures.proofs.structures.Structures.structure.Goals as goal

pub returns-clause-own : goal.returns-clause-own
returns-clause-own c =
    subst (λ (place : Place). IfOk c.behind.result (λ makes. makes ≡ (over (body_scope place.known c.args.params.now c.args.body.now) (lay_items place c.args.items.now) [] c.args.tables.now).own))
    c.in_ok-place.ensures c.behind.ensures.own

pub returns-clause-tables : goal.returns-clause-tables
returns-clause-tables c =
    subst (λ (place : Place). OnOk c.behind.result (c.behind.new.tables ≡ (over (body_scope place.known c.args.params.now c.args.body.now) (lay_items place c.args.items.now) [] c.args.tables.now).tables))
    c.in_ok-place.ensures c.behind.ensures.tables
