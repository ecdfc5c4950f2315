use Rattle.std.proofs.lemmas.Bool.Decides.{same_from_decides}
use Rattle.dsde_values_equality.specs.Same.{are_same_values}
use Rattle.dsde_values_equality.proofs.SameValues.{exact-values}
use Rattle.dsde_values_equality.proofs.same.are_same.Goals as goal

pub returns : goal.returns
returns c =
    same_from_decides c.are_equal.result (are_same_values c.args.values.now c.args.others.now) c.are_equal.ensures (exact-values c.args.values.now c.args.others.now)
