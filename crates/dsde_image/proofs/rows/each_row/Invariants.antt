use Rattle.std.proofs.Common.{◌≡◌, drop}
use Rattle.serde_json.specs.View.{items_view}
use Rattle.dsde_image.specs.Form.{each_of, behind, row_of}
use Rattle.dsde_image.proofs.rows.each_row.Given as goal

abbrev pub invariant-loop-item : goal.invariant-loop-item
invariant-loop-item l = behind l.rows (each_of (row_of l.version) (items_view (drop l.item-index l.items))) ≡ each_of (row_of l.version) (items_view l.fn.items)
