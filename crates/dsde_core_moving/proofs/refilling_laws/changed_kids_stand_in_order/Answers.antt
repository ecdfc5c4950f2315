use Rattle.dsde_core_moving.proofs.Permuted.{placed-in-order}
use Rattle.dsde_core_moving.proofs.refilling_laws.changed_kids_stand_in_order.Goals as goal

pub returns : goal.returns
returns c entries kids news all sorted order are permutes in_order = placed-in-order entries kids news all sorted order are permutes in_order
