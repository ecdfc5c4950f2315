use Rattle.std.proofs.Common.{◌≡◌, drop}
use Rattle.dsde_language.specs.Types.{depths_from}
use Rattle.dsde_check_tables.proofs.text.add_depths.Given as goal

abbrev pub invariant-loop-shape : goal.invariant-loop-shape
invariant-loop-shape l = depths_from l.depths (drop l.shape-index l.shapes) ≡ depths_from l.fn.depths l.shapes
