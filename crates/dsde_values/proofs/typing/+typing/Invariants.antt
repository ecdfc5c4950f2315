use Rattle.std.proofs.Common.{◌≡◌, length, map, drop}
use Rattle.std.specs.List.{list_all}
use Rattle.dsde_values.specs.Value.{has_type, fill}
use Rattle.dsde_values.proofs.typing.+typing.Given as goal

abbrev pub invariant-are_typed-loop-value : goal.invariant-are_typed-loop-value
invariant-are_typed-loop-value l =
    list_all (λ value. has_type l.types value l.ty) (drop l.value-index l.values)
    ≡ list_all (λ value. has_type l.types value l.ty) l.values

abbrev pub invariant-fill-loop-value : goal.invariant-fill-loop-value
invariant-fill-loop-value l =
    fill (map (has_type l.types) (drop (length l.yielded) l.values)) (drop (length l.yielded) l.fields)
    ≡ fill (map (has_type l.types) l.values) l.fields
