use Rattle.std.proofs.Common.{◌≡◌, drop}
use Rattle.serde_json.specs.View.{items_view}
use Rattle.serde_json.specs.Find.{as_str}
use Rattle.dsde_image.specs.Form.{each_of, behind}
use Rattle.dsde_image.proofs.fields.each_text.Given as goal

abbrev pub invariant-loop-item : goal.invariant-loop-item
invariant-loop-item l = behind l.texts (each_of as_str (items_view (drop l.item-index l.items))) ≡ each_of as_str (items_view l.fn.items)
