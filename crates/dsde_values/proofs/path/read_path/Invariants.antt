use Rattle.std.proofs.Common.{◌≡◌, true, length, take, map}
use Rattle.std.specs.List.{list_all}
use Rattle.dsde_values.specs.Path.{name_text, is_name}
use Rattle.dsde_values.proofs.Pieces.{pieces}
use Rattle.dsde_values.proofs.path.read_path.Given as goal

abbrev pub invariant-loop-piece : goal.invariant-loop-piece
invariant-loop-piece l =
    (map name_text l.names ≡ take (length l.yielded) (pieces l.bytes)) × (list_all is_name l.names ≡ true)
