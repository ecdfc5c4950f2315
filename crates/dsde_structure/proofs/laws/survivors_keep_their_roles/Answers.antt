use Rattle.dsde_structure.proofs.Surviving.{survives-exactly, survives-found}
use Rattle.dsde_structure.proofs.laws.survivors_keep_their_roles.Goals as goal

pub returns : goal.returns
returns c = record {
  exact = survives-exactly c.one_name.ensures c.same_values_are_equal.ensures.values;
  found = survives-found c.one_name.ensures c.same_values_are_equal.ensures.values;
}
