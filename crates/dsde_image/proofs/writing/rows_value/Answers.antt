use Rattle.std.proofs.Common.{◌≡◌, rules, ap, map, ◌∙◌}
use Rattle.std.proofs.lemmas.List.{take_all}
use Rattle.serde_json.specs.Data.{array}
use Rattle.serde_json.specs.View.{view, items_view, items_of}
use Rattle.serde_json.specs.declared.value.Value.{Array, the_lemmas}
use Rattle.dsde_image.specs.Json.{row_data}
use Rattle.dsde_image.proofs.Written.{items-are}
use Rattle.dsde_image.proofs.writing.rows_value.Goals as goal

pub returns : goal.returns
returns c =
    let built : view (Array c.loop-row.values) ≡ array (items_view c.loop-row.values.items) = search (rules, the_lemmas) in
    built ∙ ap (λ vs. array (items_of vs)) (c.loop-row.invariant ∙ ap (map row_data) (take_all c.loop-row.row-index c.args.rows.now c.loop-row-test.false)) ∙ ap array (items-are row_data c.args.rows.now)
