use Rattle.std.proofs.Common.{◌≡◌, ◌∷◌, ◌++◌, length, take}
use Rattle.std.specs.List.{flat_map}
use Rattle.dsde_values.specs.Path.{name_text}
use Rattle.dsde_values.proofs.path.append_path.Given as goal

abbrev pub invariant-loop-name : goal.invariant-loop-name
invariant-loop-name l =
    (l.text ≡ l.initial.text ++ flat_map (λ later. 47 ∷ name_text later) (take l.name-index l.others))
    × (take (length l.fn.text) l.text ≡ l.fn.text)
