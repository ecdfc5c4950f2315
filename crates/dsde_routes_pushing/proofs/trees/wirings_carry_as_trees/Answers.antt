use Rattle.dsde_routes_pushing.proofs.Tying.{each-tied, root-handle}
use Rattle.dsde_routes_pushing.proofs.trees.wirings_carry_as_trees.Goals as goal

pub returns-clause-received : goal.returns-clause-received
returns-clause-received c = λ system handle time traffic net path of got. (each-tied system handle time traffic of.translate net path of.each).1 got

pub returns-clause-sent : goal.returns-clause-sent
returns-clause-sent c = λ system handle time traffic net path of. (each-tied system handle time traffic of.translate net path of.each).0

pub returns-clause-root : goal.returns-clause-root
returns-clause-root c = λ system handle time traffic net path of. root-handle system handle time traffic of.translate net path
