use Rattle.std.proofs.Common.{◌++◌, ap, arith}
use Rattle.dsde_routes_wiring.specs.given.structure.plan_Part_TheVariants as part
use Rattle.dsde_routes.specs.Passing.{come_of, from_parts, passing}
use Rattle.dsde_routes.specs.Putting.{comes_to}
use Rattle.dsde_routes.proofs.Flows.{passing-more, joined, passing-none}
use Rattle.dsde_routes.proofs.comes.carried.Goals as goal

pub loop-number-init : goal.loop-number-init
loop-number-init c = (
  ap (λ list. list ++ passing (from_parts (come_of c.args.come) c.args.boss c.args.kids.now) 0 c.args.links.now part.Boss) c.new-comes.ensures.boss,
  λ name. ap (λ list. list ++ passing (from_parts (come_of c.args.come) c.args.boss c.args.kids.now) 0 c.args.links.now (part.Kid name)) (c.new-comes.ensures.kids name),
)

pub loop-number-preserved : goal.loop-number-preserved
loop-number-preserved c = (
  joined c.loop-number.comes.boss c.add.new.self.boss _ _ _ _ c.loop-number.invariant.0
      (passing-more (from_parts (come_of c.args.come) c.args.boss c.args.kids.now) c.args.links.now c.loop-number.number c.index-links-number.result part.Boss c.loop-number-test.true c.index-links-number.is)
      c.in_ok-add.ensures.boss,
  λ name. joined (comes_to c.loop-number.comes name) (comes_to c.add.new.self name) _ _ _ _ (c.loop-number.invariant.1 name)
      (passing-more (from_parts (come_of c.args.come) c.args.boss c.args.kids.now) c.args.links.now c.loop-number.number c.index-links-number.result (part.Kid name) c.loop-number-test.true c.index-links-number.is)
      (c.in_ok-add.ensures.kids name),
)

pub returns-clause-boss : goal.returns-clause-boss
returns-clause-boss c = passing-none c.loop-number.comes.boss (from_parts (come_of c.args.come) c.args.boss c.args.kids.now) c.args.links.now c.loop-number.number part.Boss _ (omega arith) c.loop-number.invariant.0

pub returns-clause-kids : goal.returns-clause-kids
returns-clause-kids c = λ name. passing-none (comes_to c.loop-number.comes name) (from_parts (come_of c.args.come) c.args.boss c.args.kids.now) c.args.links.now c.loop-number.number (part.Kid name) _ (omega arith) (c.loop-number.invariant.1 name)
