use Rattle.std.proofs.Common.{◌≡◌, rules, ap, map, ◌∙◌}
use Rattle.std.proofs.lemmas.List.{take_all}
use Rattle.serde_json.specs.Data.{array}
use Rattle.serde_json.specs.View.{view, items_view, items_of}
use Rattle.serde_json.specs.declared.value.Value.{Array, the_lemmas}
use Rattle.serde_json.specs.Data.{string}
use Rattle.dsde_image.proofs.Written.{items-are}
use Rattle.dsde_image.proofs.writing.texts_value.Goals as goal

pub returns : goal.returns
returns c =
    let built : view (Array c.loop-text.values) ≡ array (items_view c.loop-text.values.items) = search (rules, the_lemmas) in
    built ∙ ap (λ vs. array (items_of vs)) (c.loop-text.invariant ∙ ap (map string) (take_all c.loop-text.text-index c.args.texts.now c.loop-text-test.false)) ∙ ap array (items-are string c.args.texts.now)
