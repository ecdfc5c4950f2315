use Rattle.std.proofs.Common.{◌≡◌, ◌++◌, length, map, take, drop}
use Rattle.std.specs.Prelude.{codes}
use Rattle.std.specs.List.{flat_map}
use Rattle.dsde_values.specs.Value.{spelling, field_texts}
use Rattle.dsde_values.proofs.spelling.+writing.Given as goal

abbrev pub invariant-append_list-loop-item : goal.invariant-append_list-loop-item
invariant-append_list-loop-item l =
    (l.text ++ flat_map (λ later. codes ", " ++ later) (map (spelling l.types) (drop l.item-index l.others))
    ≡ l.initial.text ++ flat_map (λ later. codes ", " ++ later) (map (spelling l.types) l.others))
    × (take (length l.fn.text) l.text ≡ l.fn.text)

abbrev pub invariant-append_fields-loop-field : goal.invariant-append_fields-loop-field
invariant-append_fields-loop-field l =
    (l.text ++ flat_map (λ later. codes ", " ++ later) (field_texts l.field-iterator.a.rest.now (map (spelling l.types) l.field-iterator.b.rest.now))
    ≡ l.initial.text ++ flat_map (λ later. codes ", " ++ later) (field_texts l.initial.field-iterator.a.rest.now (map (spelling l.types) l.initial.field-iterator.b.rest.now)))
    × (take (length l.fn.text) l.text ≡ l.fn.text)
