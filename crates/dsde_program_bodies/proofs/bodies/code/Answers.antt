use Rattle.std.proofs.Common.{◌≡◌, [], List, IfOk, OnOk, ap, subst, ◌∙◌}
use Rattle.dsde_syntax.specs.declared.decl.StateDecl.{StateDecl}
use Rattle.dsde_language.specs.declared.node_ids.ExprId.{ExprId}
use Rattle.dsde_language.specs.declared.tables.Tables.{Tables}
use Rattle.dsde_language.specs.DeclaredModels.{state_fields}
use Rattle.dsde_language.specs.Names.{Scope, with_slots}
use Rattle.dsde_program_expressions.specs.given.program_layout.LayStatements.{lay_states}
use Rattle.dsde_program_bodies.specs.Parts.{lay_moves}
use Rattle.dsde_program_bodies.proofs.bodies.code.Goals as goal

pub returns-clause-own : goal.returns-clause-own
returns-clause-own c =
    let known = c.args.resolver.now in
    let scope : Scope = with_slots c.args.scope.now (state_fields known c.args.body.now.states) in
    let seen : c.states.new.scope ≡ scope =
    c.in_ok-inits.ensures.scope ∙ ap (λ (states : List StateDecl). with_slots c.args.scope.now (state_fields known states)) c.as_slice.ensures in
    let first : c.in_ok-inits.inits ≡ (lay_states known c.args.body.now.states c.args.scope.now c.args.tables.now).own =
    c.in_ok-inits.ensures.own ∙ ap (λ (states : List StateDecl). (lay_states known states c.args.scope.now c.args.tables.now).own) c.as_slice.ensures in
    let laid : c.states.new.tables ≡ (lay_states known c.args.body.now.states c.args.scope.now c.args.tables.now).tables =
    c.in_ok-inits.ensures.tables ∙ ap (λ (states : List StateDecl). (lay_states known states c.args.scope.now c.args.tables.now).tables) c.as_slice.ensures in
    subst (λ (own : Scope). IfOk c.moves.result (λ code. code ≡ (lay_moves known own c.args.at c.args.body.now (lay_states known c.args.body.now.states c.args.scope.now c.args.tables.now).own [] (lay_states known c.args.body.now.states c.args.scope.now c.args.tables.now).tables).own)) seen
    (subst (λ (own : List ExprId). IfOk c.moves.result (λ code. code ≡ (lay_moves known c.states.new.scope c.args.at c.args.body.now own [] (lay_states known c.args.body.now.states c.args.scope.now c.args.tables.now).tables).own)) first
    (subst (λ (own : Tables). IfOk c.moves.result (λ code. code ≡ (lay_moves known c.states.new.scope c.args.at c.args.body.now c.in_ok-inits.inits [] own).own)) laid
    c.moves.ensures.own))

pub returns-clause-tables : goal.returns-clause-tables
returns-clause-tables c =
    let known = c.args.resolver.now in
    let scope : Scope = with_slots c.args.scope.now (state_fields known c.args.body.now.states) in
    let seen : c.states.new.scope ≡ scope =
    c.in_ok-inits.ensures.scope ∙ ap (λ (states : List StateDecl). with_slots c.args.scope.now (state_fields known states)) c.as_slice.ensures in
    let laid : c.states.new.tables ≡ (lay_states known c.args.body.now.states c.args.scope.now c.args.tables.now).tables =
    c.in_ok-inits.ensures.tables ∙ ap (λ (states : List StateDecl). (lay_states known states c.args.scope.now c.args.tables.now).tables) c.as_slice.ensures in
    subst (λ (own : Scope). OnOk c.moves.result (c.moves.new.tables ≡ (lay_moves known own c.args.at c.args.body.now c.in_ok-inits.inits [] (lay_states known c.args.body.now.states c.args.scope.now c.args.tables.now).tables).tables)) seen
    (subst (λ (own : Tables). OnOk c.moves.result (c.moves.new.tables ≡ (lay_moves known c.states.new.scope c.args.at c.args.body.now c.in_ok-inits.inits [] own).tables)) laid
    c.moves.ensures.tables)
