use Rattle.std.proofs.Common.{◌≡◌, ◌+◌, ◌*◌, ◌≤◌, ◌++◌}
use Rattle.std.specs.List.{AllByRecursion}
use Rattle.dsde_sim_moving.specs.given.system.Program.{system}
use Rattle.dsde_sim_tree.specs.Tree.{parts, parts_of_kids, parts_of_net}
use Rattle.dsde_sim_moving.specs.Moving.{AreGot, FitsInside}
use Rattle.dsde_order.specs.Walking.{AreNamed, FitsDelivery, KidsAnswer, movers_with}
use Rattle.dsde_order.proofs.walk.+walking.Given as goal

abbrev pub decreases-movers_in : goal.decreases-movers_in
decreases-movers_in l = 4 * parts l.sim.now + 1

abbrev pub decreases-net_movers_in : goal.decreases-net_movers_in
decreases-net_movers_in l = 4 * parts_of_net l.net.now

abbrev pub decreases-kids_movers_in : goal.decreases-kids_movers_in
decreases-kids_movers_in l = 4 * parts_of_kids l.kids.now + 4

abbrev pub invariant-kids_movers_in-loop-kid : goal.invariant-kids_movers_in-loop-kid
invariant-kids_movers_in-loop-kid l =
    (l.found ++ movers_with (system l.program) l.kid-iterator.a.rest.now l.kid-iterator.b.rest.items l.path l.time
    ≡ l.fn.found ++ movers_with (system l.program) l.fn.kids l.fn.gots l.path l.time)
    × AllByRecursion (FitsDelivery l.program) l.found
    × AreNamed l.kid-iterator.a.rest.now
    × AllByRecursion (FitsInside l.program) l.kid-iterator.a.rest.now
    × AreGot l.program l.kid-iterator.a.rest.now l.kid-iterator.b.rest.items
    × KidsAnswer (system l.program) l.kid-iterator.a.rest.now l.path l.time
    × (parts_of_kids l.kid-iterator.a.rest.now ≤ parts_of_kids l.fn.kids)
    × (goal.iterator-kids_movers_in-loop-kid).can_next l.kid-iterator
    × (goal.iterator-kids_movers_in-loop-kid).is_finite l.kid-iterator
