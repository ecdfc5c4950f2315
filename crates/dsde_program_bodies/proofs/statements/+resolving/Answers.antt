-- A statement or an arm lays what its parts lay.
use Rattle.std.proofs.Common.{◌≡◌, List, Option, Some, IfOk, OnOk, sym, ap, subst, ◌∙◌, arith}
use Rattle.dsde_syntax.specs.declared.stmt.Stmt.{Stmt}
use Rattle.dsde_syntax.specs.declared.stmt.Stmt.TheVariants as stmt
use Rattle.dsde_syntax.specs.declared.stmt.StmtArm.{StmtArm}
use Rattle.dsde_language.specs.declared.act.Act.{Act}
use Rattle.dsde_language.specs.lemmas.Lists.{kept_on}
use Rattle.dsde_program_expressions.specs.given.program_layout.LayPieces.{Step}
use Rattle.dsde_program_expressions.specs.given.program_layout.LayStatements.{lay_stmt}
use Rattle.dsde_program_bodies.specs.Parts.{lay_arm, lay_for}
use Rattle.dsde_program_bodies.proofs.Branches.{arm_own, arm_tables, arm_seen, some_own, some_tables, some_seen, none_own, none_tables, none_seen}
use Rattle.dsde_program_bodies.proofs.Loops.{next_own, next_tables, next_scope}
use Rattle.dsde_program_bodies.proofs.Opened.{stmt_for, stmt_let, stmt_send, stmt_set}
use Rattle.dsde_program_bodies.proofs.statements.+resolving.Goals as goal

pub stmt-returns-in-For-clause-own : goal.stmt-returns-in-For-clause-own
stmt-returns-in-For-clause-own t c =
    subst (λ (step : Step Act). IfOk c.for_of.result (λ own. own ≡ (step c.args.scope.now c.args.tables.now).own))
    (sym (ap (lay_stmt c.args.resolver.now c.args.outs.now) c.in-For.is ∙ stmt_for c.args.resolver.now c.args.outs.now c.in-For.name c.in-For.list c.in-For.body))
    (subst (λ (l : List Stmt). IfOk c.for_of.result (λ own. own ≡ (lay_for c.args.resolver.now c.args.outs.now c.in-For.name c.in-For.list l c.args.scope.now c.args.tables.now).own)) c.as_slice-in-For.ensures c.for_of.ensures.own)

pub stmt-returns-in-For-clause-tables : goal.stmt-returns-in-For-clause-tables
stmt-returns-in-For-clause-tables t c =
    subst (λ (step : Step Act). OnOk c.for_of.result (c.for_of.new.tables ≡ (step c.args.scope.now c.args.tables.now).tables))
    (sym (ap (lay_stmt c.args.resolver.now c.args.outs.now) c.in-For.is ∙ stmt_for c.args.resolver.now c.args.outs.now c.in-For.name c.in-For.list c.in-For.body))
    (subst (λ (l : List Stmt). OnOk c.for_of.result (c.for_of.new.tables ≡ (lay_for c.args.resolver.now c.args.outs.now c.in-For.name c.in-For.list l c.args.scope.now c.args.tables.now).tables)) c.as_slice-in-For.ensures c.for_of.ensures.tables)

pub stmt-returns-in-For-clause-scope : goal.stmt-returns-in-For-clause-scope
stmt-returns-in-For-clause-scope t c =
    subst (λ (step : Step Act). OnOk c.for_of.result (c.for_of.new.scope ≡ (step c.args.scope.now c.args.tables.now).scope))
    (sym (ap (lay_stmt c.args.resolver.now c.args.outs.now) c.in-For.is ∙ stmt_for c.args.resolver.now c.args.outs.now c.in-For.name c.in-For.list c.in-For.body))
    (subst (λ (l : List Stmt). OnOk c.for_of.result (c.for_of.new.scope ≡ (lay_for c.args.resolver.now c.args.outs.now c.in-For.name c.in-For.list l c.args.scope.now c.args.tables.now).scope)) c.as_slice-in-For.ensures c.for_of.ensures.scope)

pub stmt-returns-in-Let-clause-own : goal.stmt-returns-in-Let-clause-own
stmt-returns-in-Let-clause-own t c =
    subst (λ (step : Step Act). IfOk c.let_of.result (λ own. own ≡ (step c.args.scope.now c.args.tables.now).own))
    (sym (ap (lay_stmt c.args.resolver.now c.args.outs.now) c.in-Let.is ∙ stmt_let c.args.resolver.now c.args.outs.now _ c.in-Let.name c.in-Let.value))
    c.let_of.ensures.own

pub stmt-returns-in-Let-clause-tables : goal.stmt-returns-in-Let-clause-tables
stmt-returns-in-Let-clause-tables t c =
    subst (λ (step : Step Act). OnOk c.let_of.result (c.let_of.new.tables ≡ (step c.args.scope.now c.args.tables.now).tables))
    (sym (ap (lay_stmt c.args.resolver.now c.args.outs.now) c.in-Let.is ∙ stmt_let c.args.resolver.now c.args.outs.now _ c.in-Let.name c.in-Let.value))
    c.let_of.ensures.tables

pub stmt-returns-in-Let-clause-scope : goal.stmt-returns-in-Let-clause-scope
stmt-returns-in-Let-clause-scope t c =
    subst (λ (step : Step Act). OnOk c.let_of.result (c.let_of.new.scope ≡ (step c.args.scope.now c.args.tables.now).scope))
    (sym (ap (lay_stmt c.args.resolver.now c.args.outs.now) c.in-Let.is ∙ stmt_let c.args.resolver.now c.args.outs.now _ c.in-Let.name c.in-Let.value))
    c.let_of.ensures.scope

pub stmt-returns-in-Set-clause-own : goal.stmt-returns-in-Set-clause-own
stmt-returns-in-Set-clause-own t c =
    subst (λ (step : Step Act). IfOk c.set_of.result (λ own. own ≡ (step c.args.scope.now c.args.tables.now).own))
    (sym (ap (lay_stmt c.args.resolver.now c.args.outs.now) c.in-Set.is ∙ stmt_set c.args.resolver.now c.args.outs.now c.in-Set.name c.in-Set.value))
    c.set_of.ensures.own

pub stmt-returns-in-Set-clause-tables : goal.stmt-returns-in-Set-clause-tables
stmt-returns-in-Set-clause-tables t c =
    subst (λ (step : Step Act). OnOk c.set_of.result (c.set_of.new.tables ≡ (step c.args.scope.now c.args.tables.now).tables))
    (sym (ap (lay_stmt c.args.resolver.now c.args.outs.now) c.in-Set.is ∙ stmt_set c.args.resolver.now c.args.outs.now c.in-Set.name c.in-Set.value))
    c.set_of.ensures.tables

pub stmt-returns-in-Set-clause-scope : goal.stmt-returns-in-Set-clause-scope
stmt-returns-in-Set-clause-scope t c =
    subst (λ (step : Step Act). OnOk c.set_of.result (c.set_of.new.scope ≡ (step c.args.scope.now c.args.tables.now).scope))
    (sym (ap (lay_stmt c.args.resolver.now c.args.outs.now) c.in-Set.is ∙ stmt_set c.args.resolver.now c.args.outs.now c.in-Set.name c.in-Set.value))
    c.set_of.ensures.scope

pub stmt-returns-in-Send-clause-own : goal.stmt-returns-in-Send-clause-own
stmt-returns-in-Send-clause-own t c =
    subst (λ (step : Step Act). IfOk c.send_of.result (λ own. own ≡ (step c.args.scope.now c.args.tables.now).own))
    (sym (ap (lay_stmt c.args.resolver.now c.args.outs.now) c.in-Send.is ∙ stmt_send c.args.resolver.now c.args.outs.now c.in-Send.port c.in-Send.value))
    c.send_of.ensures.own

pub stmt-returns-in-Send-clause-tables : goal.stmt-returns-in-Send-clause-tables
stmt-returns-in-Send-clause-tables t c =
    subst (λ (step : Step Act). OnOk c.send_of.result (c.send_of.new.tables ≡ (step c.args.scope.now c.args.tables.now).tables))
    (sym (ap (lay_stmt c.args.resolver.now c.args.outs.now) c.in-Send.is ∙ stmt_send c.args.resolver.now c.args.outs.now c.in-Send.port c.in-Send.value))
    c.send_of.ensures.tables

pub stmt-returns-in-Send-clause-scope : goal.stmt-returns-in-Send-clause-scope
stmt-returns-in-Send-clause-scope t c =
    subst (λ (step : Step Act). OnOk c.send_of.result (c.send_of.new.scope ≡ (step c.args.scope.now c.args.tables.now).scope))
    (sym (ap (lay_stmt c.args.resolver.now c.args.outs.now) c.in-Send.is ∙ stmt_send c.args.resolver.now c.args.outs.now c.in-Send.port c.in-Send.value))
    c.send_of.ensures.scope

pub lay_arm-returns-clause-own : goal.lay_arm-returns-clause-own
lay_arm-returns-clause-own t c =
    arm_own c.args.resolver.now c.args.outs.now c.args.arm.now c.as_slice.result.now c.args.scope.now c.number_of.new.scope c.args.tables.now c.number_of.new.tables c.as_slice.ensures c.in_ok-cond.ensures.scope c.in_ok-cond.ensures.tables
    c.in_ok-cond.cond c.in_ok-then.then c.in_ok-cond.ensures.number c.in_ok-then.ensures.own

pub lay_arm-returns-clause-tables : goal.lay_arm-returns-clause-tables
lay_arm-returns-clause-tables t c =
    arm_tables c.args.resolver.now c.args.outs.now c.args.arm.now c.as_slice.result.now c.args.scope.now c.number_of.new.scope c.args.tables.now c.number_of.new.tables c.as_slice.ensures c.in_ok-cond.ensures.scope c.in_ok-cond.ensures.tables
    c.block.new.tables c.in_ok-then.ensures.tables

pub lay_arm-returns-clause-scope : goal.lay_arm-returns-clause-scope
lay_arm-returns-clause-scope t c =
    arm_seen c.args.resolver.now c.args.outs.now c.args.arm.now c.as_slice.result.now c.args.scope.now c.number_of.new.scope c.args.tables.now c.number_of.new.tables c.as_slice.ensures c.in_ok-cond.ensures.scope c.in_ok-cond.ensures.tables
    c.block.new.scope c.in_ok-then.ensures.kept

pub stmts-loop-each-preserved : goal.stmts-loop-each-preserved
stmts-loop-each-preserved t c = (
  next_own c.args.stmts.now c.loop-each.each-index c.each-item.result c.loop-each-test.true c.each-item.is (lay_stmt c.args.resolver.now c.args.outs.now) c.loop-each.scope c.stmt.new.scope c.loop-each.tables c.stmt.new.tables c.in_ok-stmt.ensures.scope c.in_ok-stmt.ensures.tables c.loop-each.acts c.push.new.self c.in_ok-stmt.field-0 c.in_ok-push.ensures.ok c.in_ok-stmt.ensures.own ∙ c.loop-each.invariant.0,
  next_tables c.args.stmts.now c.loop-each.each-index c.each-item.result c.loop-each-test.true c.each-item.is (lay_stmt c.args.resolver.now c.args.outs.now) c.loop-each.scope c.stmt.new.scope c.loop-each.tables c.stmt.new.tables c.in_ok-stmt.ensures.scope c.in_ok-stmt.ensures.tables ∙ c.loop-each.invariant.1,
  next_scope c.args.stmts.now c.loop-each.each-index c.each-item.result c.loop-each-test.true c.each-item.is (lay_stmt c.args.resolver.now c.args.outs.now) c.loop-each.scope c.stmt.new.scope c.loop-each.tables c.stmt.new.tables c.in_ok-stmt.ensures.scope c.in_ok-stmt.ensures.tables ∙ c.loop-each.invariant.2,
  omega (arith, c.loop-each.invariant.3, c.in_ok-stmt.ensures.grows),
  kept_on c.args.scope.now c.loop-each.scope c.stmt.new.scope c.loop-each.invariant.4 c.in_ok-stmt.ensures.kept,
)

pub lay_arms-loop-arm-preserved : goal.lay_arms-loop-arm-preserved
lay_arms-loop-arm-preserved t c = (
  next_own c.args.arms.now c.loop-arm.arm-index c.arm-item.result c.loop-arm-test.true c.arm-item.is (lay_arm c.args.resolver.now c.args.outs.now) c.loop-arm.scope c.lay_arm.new.scope c.loop-arm.tables c.lay_arm.new.tables c.in_ok-lay_arm.ensures.scope c.in_ok-lay_arm.ensures.tables c.loop-arm.found c.push.new.self c.in_ok-lay_arm.field-0 c.in_ok-push.ensures.ok c.in_ok-lay_arm.ensures.own ∙ c.loop-arm.invariant.0,
  next_tables c.args.arms.now c.loop-arm.arm-index c.arm-item.result c.loop-arm-test.true c.arm-item.is (lay_arm c.args.resolver.now c.args.outs.now) c.loop-arm.scope c.lay_arm.new.scope c.loop-arm.tables c.lay_arm.new.tables c.in_ok-lay_arm.ensures.scope c.in_ok-lay_arm.ensures.tables ∙ c.loop-arm.invariant.1,
  next_scope c.args.arms.now c.loop-arm.arm-index c.arm-item.result c.loop-arm-test.true c.arm-item.is (lay_arm c.args.resolver.now c.args.outs.now) c.loop-arm.scope c.lay_arm.new.scope c.loop-arm.tables c.lay_arm.new.tables c.in_ok-lay_arm.ensures.scope c.in_ok-lay_arm.ensures.tables ∙ c.loop-arm.invariant.2,
  omega (arith, c.loop-arm.invariant.3, c.in_ok-lay_arm.ensures.grows),
  c.in_ok-lay_arm.ensures.kept ∙ c.loop-arm.invariant.4,
)

pub stmt-returns-in_ok-last-in-Some-clause-own : goal.stmt-returns-in_ok-last-in-Some-clause-own
stmt-returns-in_ok-last-in-Some-clause-own t c =
    some_own c.args.resolver.now c.args.outs.now c.args.stmt.now c.as_slice.result.now c.args.scope.now c.lay_arms.new.scope c.args.tables.now c.lay_arms.new.tables c.in_ok-own-in-If.own c.in_ok-own-in-If.ensures.own c.in_ok-own-in-If.ensures.scope c.in_ok-own-in-If.ensures.tables c.as_slice-in-Some.result.now
    (c.in-If.is ∙ ap (λ (l : List StmtArm). stmt.If l c.in-If.other) (sym c.as_slice.ensures) ∙ ap (λ (o : Option (List Stmt)). stmt.If c.as_slice.result.now o) (c.in-Some.is ∙ ap Some (sym c.as_slice-in-Some.ensures))) c.in_ok-last-in-Some.last c.in_ok-last-in-Some.ensures.own

pub stmt-returns-in_ok-last-in-Some-clause-tables : goal.stmt-returns-in_ok-last-in-Some-clause-tables
stmt-returns-in_ok-last-in-Some-clause-tables t c =
    some_tables c.args.resolver.now c.args.outs.now c.args.stmt.now c.as_slice.result.now c.args.scope.now c.lay_arms.new.scope c.args.tables.now c.lay_arms.new.tables c.in_ok-own-in-If.own c.in_ok-own-in-If.ensures.own c.in_ok-own-in-If.ensures.scope c.in_ok-own-in-If.ensures.tables c.as_slice-in-Some.result.now
    (c.in-If.is ∙ ap (λ (l : List StmtArm). stmt.If l c.in-If.other) (sym c.as_slice.ensures) ∙ ap (λ (o : Option (List Stmt)). stmt.If c.as_slice.result.now o) (c.in-Some.is ∙ ap Some (sym c.as_slice-in-Some.ensures))) c.block.new.tables c.in_ok-last-in-Some.ensures.tables

pub stmt-returns-in_ok-last-in-Some-clause-scope : goal.stmt-returns-in_ok-last-in-Some-clause-scope
stmt-returns-in_ok-last-in-Some-clause-scope t c =
    some_seen c.args.resolver.now c.args.outs.now c.args.stmt.now c.as_slice.result.now c.args.scope.now c.lay_arms.new.scope c.args.tables.now c.lay_arms.new.tables c.in_ok-own-in-If.own c.in_ok-own-in-If.ensures.own c.in_ok-own-in-If.ensures.scope c.in_ok-own-in-If.ensures.tables c.as_slice-in-Some.result.now
    (c.in-If.is ∙ ap (λ (l : List StmtArm). stmt.If l c.in-If.other) (sym c.as_slice.ensures) ∙ ap (λ (o : Option (List Stmt)). stmt.If c.as_slice.result.now o) (c.in-Some.is ∙ ap Some (sym c.as_slice-in-Some.ensures))) c.block.new.scope c.in_ok-last-in-Some.ensures.kept

pub stmt-returns-in-None-clause-own : goal.stmt-returns-in-None-clause-own
stmt-returns-in-None-clause-own t c =
    none_own c.args.resolver.now c.args.outs.now c.args.stmt.now c.as_slice.result.now c.args.scope.now c.lay_arms.new.scope c.args.tables.now c.lay_arms.new.tables c.in_ok-own-in-If.own c.in_ok-own-in-If.ensures.own c.in_ok-own-in-If.ensures.scope c.in_ok-own-in-If.ensures.tables
    (c.in-If.is ∙ ap (λ (l : List StmtArm). stmt.If l c.in-If.other) (sym c.as_slice.ensures) ∙ ap (λ (o : Option (List Stmt)). stmt.If c.as_slice.result.now o) c.in-None.is)

pub stmt-returns-in-None-clause-tables : goal.stmt-returns-in-None-clause-tables
stmt-returns-in-None-clause-tables t c =
    none_tables c.args.resolver.now c.args.outs.now c.args.stmt.now c.as_slice.result.now c.args.scope.now c.lay_arms.new.scope c.args.tables.now c.lay_arms.new.tables c.in_ok-own-in-If.own c.in_ok-own-in-If.ensures.own c.in_ok-own-in-If.ensures.scope c.in_ok-own-in-If.ensures.tables
    (c.in-If.is ∙ ap (λ (l : List StmtArm). stmt.If l c.in-If.other) (sym c.as_slice.ensures) ∙ ap (λ (o : Option (List Stmt)). stmt.If c.as_slice.result.now o) c.in-None.is)

pub stmt-returns-in-None-clause-scope : goal.stmt-returns-in-None-clause-scope
stmt-returns-in-None-clause-scope t c =
    none_seen c.args.resolver.now c.args.outs.now c.args.stmt.now c.as_slice.result.now c.args.scope.now c.lay_arms.new.scope c.args.tables.now c.lay_arms.new.tables c.in_ok-own-in-If.own c.in_ok-own-in-If.ensures.own c.in_ok-own-in-If.ensures.scope c.in_ok-own-in-If.ensures.tables
    (c.in-If.is ∙ ap (λ (l : List StmtArm). stmt.If l c.in-If.other) (sym c.as_slice.ensures) ∙ ap (λ (o : Option (List Stmt)). stmt.If c.as_slice.result.now o) c.in-None.is)
