use Rattle.std.proofs.Common.{◌≡◌, ◌++◌, map}
use Rattle.dsde_repair_walks.specs.Walks.{extended_way}
use Rattle.dsde_repair_walks.proofs.crossing.extend_all.Given as goal

abbrev pub invariant-loop-way : goal.invariant-loop-way
invariant-loop-way l = l.ways ++ map (extended_way l.side l.number l.link) l.way-iterator.rest.items ≡ l.fn.ways ++ map (extended_way l.side l.number l.link) l.fn.more
