use Rattle.std.proofs.Common.{◌≡◌, false, List, sym, subst, ◌∙◌}
use Rattle.dsde_executive_plans.specs.given.structure.plan_Entry.{Entry}
use Rattle.dsde_executive_plans.specs.given.structure.Survival.{IsInOrder}
use Rattle.dsde_executive_plans.specs.Layout.{is_there, inserted}
use Rattle.dsde_executive_plans.specs.lemmas.Inserting.{inserted-in-order}
use Rattle.dsde_executive_planner.specs.Few.{IsFree}
use Rattle.dsde_executive_planner.proofs.Placing.{absent, placed}
use Rattle.dsde_executive_planner.proofs.Searching.{total}
use Rattle.dsde_executive_planner.proofs.few.put_in_list.Goals as goal

free : (c : goal.In_ok-insert-in-Some) → IsFree c.args.entry.name c.args.list.now.items c.in-Some.index
free c = subst (λ (entries : List Entry). IsFree c.args.entry.name entries c.in-Some.index) c.as_slice.ensures.value c.in-Some.ensures

none : (c : goal.In_ok-insert-in-Some) → is_there c.args.entry.name c.args.list.now.items ≡ false
none c = absent c.args.entry.name c.args.list.now.items c.in-Some.index (free c)

is : (c : goal.In_ok-insert-in-Some) → c.insert.new.self.items ≡ inserted c.args.entry c.args.list.now.items
is c = c.in_ok-insert-in-Some.ensures.items ∙ placed total c.args.entry c.args.list.now.items c.in-Some.index (free c)

pub returns-in_ok-insert-in-Some-clause-taken : goal.returns-in_ok-insert-in-Some-clause-taken
returns-in_ok-insert-in-Some-clause-taken c = sym (none c)

pub returns-in_ok-insert-in-Some-clause-put : goal.returns-in_ok-insert-in-Some-clause-put
returns-in_ok-insert-in-Some-clause-put c = λ put. is c

pub returns-in_ok-insert-in-Some-clause-order : goal.returns-in_ok-insert-in-Some-clause-order
returns-in_ok-insert-in-Some-clause-order c = subst IsInOrder (sym (is c)) (inserted-in-order total c.args.entry c.args.list.now.items c.requires (none c))
