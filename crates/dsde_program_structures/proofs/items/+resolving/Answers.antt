-- An item or an arm lays what its part lays.
use Rattle.std.proofs.Common.{◌≡◌, List, Option, Some, IfOk, OnOk, sym, ap, subst, ◌∙◌}
use Rattle.dsde_syntax.specs.declared.expr.Expr.{Expr}
use Rattle.dsde_syntax.specs.declared.item.Item.{Item}
use Rattle.dsde_syntax.specs.declared.item.Item.TheVariants as item
use Rattle.dsde_syntax.specs.declared.item.ItemArm.{ItemArm}
use Rattle.dsde_language.specs.declared.known.Known.{Known}
use Rattle.dsde_language.specs.declared.make.Make.{Make}
use Rattle.dsde_language.specs.lemmas.Lists.{kept_on}
use Rattle.dsde_program_expressions.specs.given.program_layout.LayPieces.{Step}
use Rattle.dsde_program_expressions.specs.given.program_layout.LayItems.{lay_item}
use Rattle.dsde_program_structures.specs.Parts.{lay_arm, lay_comp, lay_for}
use Rattle.dsde_program_structures.proofs.Branches.{arm_own, arm_tables, arm_seen, some_own, some_tables, some_seen, none_own, none_tables, none_seen}
use Rattle.dsde_program_structures.proofs.Loops.{next_own, next_tables, next_scope}
use Rattle.dsde_program_structures.proofs.Opened.{item_comp, item_for, item_let, item_link}
use Rattle.dsde_program_structures.proofs.items.+resolving.Goals as goal

pub arm-returns-clause-own : goal.arm-returns-clause-own
arm-returns-clause-own t c =
    arm_own c.args.place.now c.args.arm.now c.resolver.result.now c.as_slice.result.now c.args.scope.now c.number.new.scope c.args.tables.now c.number.new.tables c.resolver.ensures c.as_slice.ensures c.in_ok-cond.ensures.kept c.in_ok-cond.ensures.tables
    c.in_ok-cond.cond c.in_ok-makes.makes c.in_ok-cond.ensures.own c.in_ok-makes.ensures.own

pub arm-returns-clause-tables : goal.arm-returns-clause-tables
arm-returns-clause-tables t c =
    arm_tables c.args.place.now c.args.arm.now c.resolver.result.now c.as_slice.result.now c.args.scope.now c.number.new.scope c.args.tables.now c.number.new.tables c.resolver.ensures c.as_slice.ensures c.in_ok-cond.ensures.kept c.in_ok-cond.ensures.tables
    c.inside.new.tables c.in_ok-makes.ensures.tables

pub arm-returns-clause-seen : goal.arm-returns-clause-seen
arm-returns-clause-seen t c =
    arm_seen c.args.place.now c.args.arm.now c.resolver.result.now c.as_slice.result.now c.args.scope.now c.number.new.scope c.args.tables.now c.number.new.tables c.resolver.ensures c.as_slice.ensures c.in_ok-cond.ensures.kept c.in_ok-cond.ensures.tables
    c.inside.new.scope c.in_ok-makes.ensures.kept

pub item-returns-in-Link-clause-own : goal.item-returns-in-Link-clause-own
item-returns-in-Link-clause-own t c =
    subst (λ (step : Step Make). IfOk c.link.result (λ own. own ≡ (step c.args.scope.now c.args.tables.now).own))
    (sym (ap (lay_item c.args.place.now) c.in-Link.is ∙ item_link c.args.place.now c.in-Link.at c.in-Link.from c.in-Link.to c.in-Link.via))
    c.link.ensures.own

pub item-returns-in-Link-clause-tables : goal.item-returns-in-Link-clause-tables
item-returns-in-Link-clause-tables t c =
    subst (λ (step : Step Make). OnOk c.link.result (c.link.new.tables ≡ (step c.args.scope.now c.args.tables.now).tables))
    (sym (ap (lay_item c.args.place.now) c.in-Link.is ∙ item_link c.args.place.now c.in-Link.at c.in-Link.from c.in-Link.to c.in-Link.via))
    c.link.ensures.tables

pub item-returns-in-Link-clause-seen : goal.item-returns-in-Link-clause-seen
item-returns-in-Link-clause-seen t c =
    subst (λ (step : Step Make). OnOk c.link.result (c.link.new.scope ≡ (step c.args.scope.now c.args.tables.now).scope))
    (sym (ap (lay_item c.args.place.now) c.in-Link.is ∙ item_link c.args.place.now c.in-Link.at c.in-Link.from c.in-Link.to c.in-Link.via))
    c.link.ensures.seen

pub item-returns-in-Let-clause-own : goal.item-returns-in-Let-clause-own
item-returns-in-Let-clause-own t c =
    subst (λ (step : Step Make). IfOk c.let_of.result (λ own. own ≡ (step c.args.scope.now c.args.tables.now).own))
    (sym (ap (lay_item c.args.place.now) c.in-Let.is ∙ item_let c.args.place.now c.in-Let.name c.in-Let.value))
    c.let_of.ensures.own

pub item-returns-in-Let-clause-tables : goal.item-returns-in-Let-clause-tables
item-returns-in-Let-clause-tables t c =
    subst (λ (step : Step Make). OnOk c.let_of.result (c.let_of.new.tables ≡ (step c.args.scope.now c.args.tables.now).tables))
    (sym (ap (lay_item c.args.place.now) c.in-Let.is ∙ item_let c.args.place.now c.in-Let.name c.in-Let.value))
    c.let_of.ensures.tables

pub item-returns-in-Let-clause-seen : goal.item-returns-in-Let-clause-seen
item-returns-in-Let-clause-seen t c =
    subst (λ (step : Step Make). OnOk c.let_of.result (c.let_of.new.scope ≡ (step c.args.scope.now c.args.tables.now).scope))
    (sym (ap (lay_item c.args.place.now) c.in-Let.is ∙ item_let c.args.place.now c.in-Let.name c.in-Let.value))
    c.let_of.ensures.seen

pub item-returns-in-For-clause-own : goal.item-returns-in-For-clause-own
item-returns-in-For-clause-own t c =
    subst (λ (step : Step Make). IfOk c.for_of.result (λ own. own ≡ (step c.args.scope.now c.args.tables.now).own))
    (sym (ap (lay_item c.args.place.now) c.in-For.is ∙ item_for c.args.place.now c.in-For.name c.in-For.list c.in-For.body))
    (subst (λ (l : List Item). IfOk c.for_of.result (λ own. own ≡ (lay_for c.args.place.now c.in-For.name c.in-For.list l c.args.scope.now c.args.tables.now).own)) c.as_slice-in-For.ensures c.for_of.ensures.own)

pub item-returns-in-For-clause-tables : goal.item-returns-in-For-clause-tables
item-returns-in-For-clause-tables t c =
    subst (λ (step : Step Make). OnOk c.for_of.result (c.for_of.new.tables ≡ (step c.args.scope.now c.args.tables.now).tables))
    (sym (ap (lay_item c.args.place.now) c.in-For.is ∙ item_for c.args.place.now c.in-For.name c.in-For.list c.in-For.body))
    (subst (λ (l : List Item). OnOk c.for_of.result (c.for_of.new.tables ≡ (lay_for c.args.place.now c.in-For.name c.in-For.list l c.args.scope.now c.args.tables.now).tables)) c.as_slice-in-For.ensures c.for_of.ensures.tables)

pub item-returns-in-For-clause-seen : goal.item-returns-in-For-clause-seen
item-returns-in-For-clause-seen t c =
    subst (λ (step : Step Make). OnOk c.for_of.result (c.for_of.new.scope ≡ (step c.args.scope.now c.args.tables.now).scope))
    (sym (ap (lay_item c.args.place.now) c.in-For.is ∙ item_for c.args.place.now c.in-For.name c.in-For.list c.in-For.body))
    c.for_of.ensures.kept

pub item-returns-in-Comp-clause-own : goal.item-returns-in-Comp-clause-own
item-returns-in-Comp-clause-own t c =
    subst (λ (step : Step Make). IfOk c.comp.result (λ own. own ≡ (step c.args.scope.now c.args.tables.now).own))
    (sym (ap (lay_item c.args.place.now) c.in-Comp.is ∙ item_comp c.args.place.now c.in-Comp.at c.in-Comp.name c.in-Comp.index c.in-Comp.soft c.in-Comp.model c.in-Comp.args))
    (subst (λ (known : Known). IfOk c.comp.result (λ own. own ≡ (lay_comp known c.in-Comp.at c.in-Comp.name c.in-Comp.index c.in-Comp.soft c.in-Comp.model c.in-Comp.args c.args.scope.now c.args.tables.now).own)) c.resolver.ensures (subst (λ (l : List Expr). IfOk c.comp.result (λ own. own ≡ (lay_comp c.resolver.result.now c.in-Comp.at c.in-Comp.name c.in-Comp.index c.in-Comp.soft c.in-Comp.model l c.args.scope.now c.args.tables.now).own)) c.as_slice.ensures c.comp.ensures.own))

pub item-returns-in-Comp-clause-tables : goal.item-returns-in-Comp-clause-tables
item-returns-in-Comp-clause-tables t c =
    subst (λ (step : Step Make). OnOk c.comp.result (c.comp.new.tables ≡ (step c.args.scope.now c.args.tables.now).tables))
    (sym (ap (lay_item c.args.place.now) c.in-Comp.is ∙ item_comp c.args.place.now c.in-Comp.at c.in-Comp.name c.in-Comp.index c.in-Comp.soft c.in-Comp.model c.in-Comp.args))
    (subst (λ (known : Known). OnOk c.comp.result (c.comp.new.tables ≡ (lay_comp known c.in-Comp.at c.in-Comp.name c.in-Comp.index c.in-Comp.soft c.in-Comp.model c.in-Comp.args c.args.scope.now c.args.tables.now).tables)) c.resolver.ensures (subst (λ (l : List Expr). OnOk c.comp.result (c.comp.new.tables ≡ (lay_comp c.resolver.result.now c.in-Comp.at c.in-Comp.name c.in-Comp.index c.in-Comp.soft c.in-Comp.model l c.args.scope.now c.args.tables.now).tables)) c.as_slice.ensures c.comp.ensures.tables))

pub item-returns-in-Comp-clause-seen : goal.item-returns-in-Comp-clause-seen
item-returns-in-Comp-clause-seen t c =
    subst (λ (step : Step Make). OnOk c.comp.result (c.comp.new.scope ≡ (step c.args.scope.now c.args.tables.now).scope))
    (sym (ap (lay_item c.args.place.now) c.in-Comp.is ∙ item_comp c.args.place.now c.in-Comp.at c.in-Comp.name c.in-Comp.index c.in-Comp.soft c.in-Comp.model c.in-Comp.args))
    (subst (λ (known : Known). OnOk c.comp.result (c.comp.new.scope ≡ (lay_comp known c.in-Comp.at c.in-Comp.name c.in-Comp.index c.in-Comp.soft c.in-Comp.model c.in-Comp.args c.args.scope.now c.args.tables.now).scope)) c.resolver.ensures (subst (λ (l : List Expr). OnOk c.comp.result (c.comp.new.scope ≡ (lay_comp c.resolver.result.now c.in-Comp.at c.in-Comp.name c.in-Comp.index c.in-Comp.soft c.in-Comp.model l c.args.scope.now c.args.tables.now).scope)) c.as_slice.ensures c.comp.ensures.seen))

pub items-loop-own-preserved : goal.items-loop-own-preserved
items-loop-own-preserved t c = (
  next_own c.args.items.now c.loop-own.own-index c.own-item.result c.loop-own-test.true c.own-item.is (lay_item c.args.place.now) c.loop-own.scope c.item.new.scope c.loop-own.tables c.item.new.tables c.in_ok-item.ensures.seen c.in_ok-item.ensures.tables c.loop-own.makes c.push.new.self c.in_ok-item.field-0 c.in_ok-push.ensures.ok c.in_ok-item.ensures.own ∙ c.loop-own.invariant.0,
  next_tables c.args.items.now c.loop-own.own-index c.own-item.result c.loop-own-test.true c.own-item.is (lay_item c.args.place.now) c.loop-own.scope c.item.new.scope c.loop-own.tables c.item.new.tables c.in_ok-item.ensures.seen c.in_ok-item.ensures.tables ∙ c.loop-own.invariant.1,
  next_scope c.args.items.now c.loop-own.own-index c.own-item.result c.loop-own-test.true c.own-item.is (lay_item c.args.place.now) c.loop-own.scope c.item.new.scope c.loop-own.tables c.item.new.tables c.in_ok-item.ensures.seen c.in_ok-item.ensures.tables ∙ c.loop-own.invariant.2,
  kept_on c.args.scope.now c.loop-own.scope c.item.new.scope c.loop-own.invariant.3 c.in_ok-item.ensures.kept,
)

pub arms-loop-own-preserved : goal.arms-loop-own-preserved
arms-loop-own-preserved t c = (
  next_own c.args.arms.now c.loop-own.own-index c.own-item.result c.loop-own-test.true c.own-item.is (lay_arm c.args.place.now) c.loop-own.scope c.arm.new.scope c.loop-own.tables c.arm.new.tables c.in_ok-arm.ensures.seen c.in_ok-arm.ensures.tables c.loop-own.found c.push.new.self c.in_ok-arm.field-0 c.in_ok-push.ensures.ok c.in_ok-arm.ensures.own ∙ c.loop-own.invariant.0,
  next_tables c.args.arms.now c.loop-own.own-index c.own-item.result c.loop-own-test.true c.own-item.is (lay_arm c.args.place.now) c.loop-own.scope c.arm.new.scope c.loop-own.tables c.arm.new.tables c.in_ok-arm.ensures.seen c.in_ok-arm.ensures.tables ∙ c.loop-own.invariant.1,
  next_scope c.args.arms.now c.loop-own.own-index c.own-item.result c.loop-own-test.true c.own-item.is (lay_arm c.args.place.now) c.loop-own.scope c.arm.new.scope c.loop-own.tables c.arm.new.tables c.in_ok-arm.ensures.seen c.in_ok-arm.ensures.tables ∙ c.loop-own.invariant.2,
  c.in_ok-arm.ensures.kept ∙ c.loop-own.invariant.3,
)

pub item-returns-in_ok-last-in-Some-clause-own : goal.item-returns-in_ok-last-in-Some-clause-own
item-returns-in_ok-last-in-Some-clause-own t c =
    some_own c.args.place.now c.args.item.now c.as_slice-in-If.result.now c.args.scope.now c.arms.new.scope c.args.tables.now c.arms.new.tables c.in_ok-own-in-If.own c.in_ok-own-in-If.ensures.own c.in_ok-own-in-If.ensures.seen c.in_ok-own-in-If.ensures.tables c.as_slice-in-Some.result.now
    (c.in-If.is ∙ ap (λ (l : List ItemArm). item.If l c.in-If.other) (sym c.as_slice-in-If.ensures) ∙ ap (λ (o : Option (List Item)). item.If c.as_slice-in-If.result.now o) (c.in-Some.is ∙ ap Some (sym c.as_slice-in-Some.ensures))) c.in_ok-last-in-Some.last c.in_ok-last-in-Some.ensures.own

pub item-returns-in_ok-last-in-Some-clause-tables : goal.item-returns-in_ok-last-in-Some-clause-tables
item-returns-in_ok-last-in-Some-clause-tables t c =
    some_tables c.args.place.now c.args.item.now c.as_slice-in-If.result.now c.args.scope.now c.arms.new.scope c.args.tables.now c.arms.new.tables c.in_ok-own-in-If.own c.in_ok-own-in-If.ensures.own c.in_ok-own-in-If.ensures.seen c.in_ok-own-in-If.ensures.tables c.as_slice-in-Some.result.now
    (c.in-If.is ∙ ap (λ (l : List ItemArm). item.If l c.in-If.other) (sym c.as_slice-in-If.ensures) ∙ ap (λ (o : Option (List Item)). item.If c.as_slice-in-If.result.now o) (c.in-Some.is ∙ ap Some (sym c.as_slice-in-Some.ensures))) c.inside.new.tables c.in_ok-last-in-Some.ensures.tables

pub item-returns-in_ok-last-in-Some-clause-seen : goal.item-returns-in_ok-last-in-Some-clause-seen
item-returns-in_ok-last-in-Some-clause-seen t c =
    some_seen c.args.place.now c.args.item.now c.as_slice-in-If.result.now c.args.scope.now c.arms.new.scope c.args.tables.now c.arms.new.tables c.in_ok-own-in-If.own c.in_ok-own-in-If.ensures.own c.in_ok-own-in-If.ensures.seen c.in_ok-own-in-If.ensures.tables c.as_slice-in-Some.result.now
    (c.in-If.is ∙ ap (λ (l : List ItemArm). item.If l c.in-If.other) (sym c.as_slice-in-If.ensures) ∙ ap (λ (o : Option (List Item)). item.If c.as_slice-in-If.result.now o) (c.in-Some.is ∙ ap Some (sym c.as_slice-in-Some.ensures))) c.inside.new.scope c.in_ok-last-in-Some.ensures.kept

pub item-returns-in-None-clause-own : goal.item-returns-in-None-clause-own
item-returns-in-None-clause-own t c =
    none_own c.args.place.now c.args.item.now c.as_slice-in-If.result.now c.args.scope.now c.arms.new.scope c.args.tables.now c.arms.new.tables c.in_ok-own-in-If.own c.in_ok-own-in-If.ensures.own c.in_ok-own-in-If.ensures.seen c.in_ok-own-in-If.ensures.tables
    (c.in-If.is ∙ ap (λ (l : List ItemArm). item.If l c.in-If.other) (sym c.as_slice-in-If.ensures) ∙ ap (λ (o : Option (List Item)). item.If c.as_slice-in-If.result.now o) c.in-None.is)

pub item-returns-in-None-clause-tables : goal.item-returns-in-None-clause-tables
item-returns-in-None-clause-tables t c =
    none_tables c.args.place.now c.args.item.now c.as_slice-in-If.result.now c.args.scope.now c.arms.new.scope c.args.tables.now c.arms.new.tables c.in_ok-own-in-If.own c.in_ok-own-in-If.ensures.own c.in_ok-own-in-If.ensures.seen c.in_ok-own-in-If.ensures.tables
    (c.in-If.is ∙ ap (λ (l : List ItemArm). item.If l c.in-If.other) (sym c.as_slice-in-If.ensures) ∙ ap (λ (o : Option (List Item)). item.If c.as_slice-in-If.result.now o) c.in-None.is)

pub item-returns-in-None-clause-seen : goal.item-returns-in-None-clause-seen
item-returns-in-None-clause-seen t c =
    none_seen c.args.place.now c.args.item.now c.as_slice-in-If.result.now c.args.scope.now c.arms.new.scope c.args.tables.now c.arms.new.tables c.in_ok-own-in-If.own c.in_ok-own-in-If.ensures.own c.in_ok-own-in-If.ensures.seen c.in_ok-own-in-If.ensures.tables
    (c.in-If.is ∙ ap (λ (l : List ItemArm). item.If l c.in-If.other) (sym c.as_slice-in-If.ensures) ∙ ap (λ (o : Option (List Item)). item.If c.as_slice-in-If.result.now o) c.in-None.is)
