use Rattle.std.proofs.Common.{◌≡◌, ◌+◌, ◌*◌, ◌≤◌, [], ◌++◌, map}
use Rattle.std.specs.List.{AllByRecursion}
use Rattle.dsde_sim_changing.specs.given.sim_telling.lemmas_GoingOn.{GoesOn}
use Rattle.dsde_sim_changing.specs.given.system.Program.{system}
use Rattle.dsde_sim_tree.specs.Tree.{parts, parts_of_kid, parts_of_kids, parts_of_net, entry_of}
use Rattle.dsde_sim_changing.specs.given.sim_starting.Fitting.{FitsKid}
use Rattle.dsde_sim_moving.specs.Moving.{kids_with, AreGot, FitsInside}
use Rattle.dsde_sim_moving.proofs.walk.+moving.Given as goal

abbrev pub decreases-move_sim : goal.decreases-move_sim
decreases-move_sim l = 8 * parts l.sim + 2

abbrev pub decreases-move_net : goal.decreases-move_net
decreases-move_net l = 8 * parts_of_net l.net + 1

abbrev pub decreases-with_sources : goal.decreases-with_sources
decreases-with_sources l = 8 * parts_of_net l.net

abbrev pub decreases-moved : goal.decreases-moved
decreases-moved l = 8 * parts_of_kids l.kids + 4

abbrev pub decreases-move_kid : goal.decreases-move_kid
decreases-move_kid l = 8 * parts_of_kid l.kid + 3

abbrev pub invariant-moved-loop-kid : goal.invariant-moved-loop-kid
invariant-moved-loop-kid l =
    GoesOn
    (kids_with (system l.program) l.fn.kids l.fn.gots l.path l.time l.fn.room [])
    (kids_with (system l.program) l.kid-iterator.a.rest.items l.kid-iterator.b.rest.items l.path l.time l.room l.done)
    l.fn.events l.events
    × (parts_of_kids l.done + l.room + parts_of_kids l.kid-iterator.a.rest.items ≤ parts_of_kids l.fn.kids + l.fn.room)
    × AllByRecursion (FitsKid l.program) l.done
    × AllByRecursion (FitsInside l.program) l.kid-iterator.a.rest.items
    × AreGot l.program l.kid-iterator.a.rest.items l.kid-iterator.b.rest.items
    × (map entry_of l.done ++ map entry_of l.kid-iterator.a.rest.items ≡ map entry_of l.fn.kids)
    × (parts_of_kids l.kid-iterator.a.rest.items ≤ parts_of_kids l.fn.kids)
    × (goal.iterator-moved-loop-kid).can_next l.kid-iterator
    × (goal.iterator-moved-loop-kid).is_finite l.kid-iterator
