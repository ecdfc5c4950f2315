use Rattle.std.proofs.Common.{rules}
use Rattle.dsde_structure.specs.Survival.{compared}
use Rattle.dsde_structure.proofs.Walking.{went-old, went-new, went-less, went-greater, went-equal}
use Rattle.dsde_structure.proofs.survival.compare_plans.Goals as goal

pub loop-change-preserved-in-None-Some : goal.loop-change-preserved-in-None-Some
loop-change-preserved-in-None-Some c =
    went-new c.loop-change.change (compared c.args.old.now.entries c.args.new.now.entries) c.push.new.self c.loop-change.olds.now c.loop-change.news.now c.in-None-Some.new.now c.in-None-Some.rest.now
    c.loop-change.invariant c.in-None-Some.ensures.cases (search rules) (search rules)

pub loop-change-preserved-in-Some-None : goal.loop-change-preserved-in-Some-None
loop-change-preserved-in-Some-None c =
    went-old c.loop-change.change (compared c.args.old.now.entries c.args.new.now.entries) c.push-in-Some-None.new.self c.loop-change.olds.now c.loop-change.news.now c.in-Some-None.old.now c.in-Some-None.later.now
    c.loop-change.invariant (search rules) c.in-Some-None.ensures'.cases (search rules)

pub loop-change-preserved-in-Less : goal.loop-change-preserved-in-Less
loop-change-preserved-in-Less c =
    went-less c.loop-change.change (compared c.args.old.now.entries c.args.new.now.entries) c.loop-change.olds.now c.loop-change.news.now
    c.in-Some-Some.old.now c.in-Some-Some.later.now c.in-Some-Some.new.now c.in-Some-Some.rest.now
    c.loop-change.invariant (search rules) (search rules) c.push-in-Less.new.self (search rules) (search rules)

pub loop-change-preserved-in-Greater : goal.loop-change-preserved-in-Greater
loop-change-preserved-in-Greater c =
    went-greater c.loop-change.change (compared c.args.old.now.entries c.args.new.now.entries) c.loop-change.olds.now c.loop-change.news.now
    c.in-Some-Some.old.now c.in-Some-Some.later.now c.in-Some-Some.new.now c.in-Some-Some.rest.now
    c.loop-change.invariant (search rules) (search rules) c.push-in-Greater.new.self (search rules) (search rules)

pub loop-change-preserved : goal.loop-change-preserved
loop-change-preserved c =
    went-equal c.loop-change.change (compared c.args.old.now.entries c.args.new.now.entries) c.loop-change.olds.now c.loop-change.news.now
    c.in-Some-Some.old.now c.in-Some-Some.later.now c.in-Some-Some.new.now c.in-Some-Some.rest.now
    c.loop-change.invariant (search rules) (search rules) c.meet.new.change (search rules) (search rules)
