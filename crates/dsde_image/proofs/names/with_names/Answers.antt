use Rattle.std.proofs.Common.{subst}
use Rattle.std.specs.List.{AllByRecursion}
use Rattle.dsde_image.specs.Form.{SpellsRow}
use Rattle.dsde_image.proofs.Each.{owes-less, owes-none}
use Rattle.dsde_image.proofs.names.with_names.Goals as goal

pub loop-row-preserved : goal.loop-row-preserved
loop-row-preserved c =
    owes-less SpellsRow c.as_slice-row-items.result.now c.loop-row.row-index c.row-item.result c.loop-row-test.true c.row-item.is
    c.in_ok-check_location.ensures.ok c.loop-row.invariant

pub returns-clause-names : goal.returns-clause-names
returns-clause-names c =
    subst (AllByRecursion SpellsRow) c.as_slice-row-items.ensures
    (owes-none SpellsRow c.as_slice-row-items.result.now c.loop-row.row-index c.loop-row-test.false c.loop-row.invariant)
