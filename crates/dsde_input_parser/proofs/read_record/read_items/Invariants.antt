use Rattle.std.proofs.Common.{◌-◌, ◌≤◌, length, drop}
use Rattle.dsde_input_parser.proofs.ItemLists.{SoFar}
use Rattle.dsde_input_parser.proofs.read_record.read_items.Given as goal

abbrev pub invariant-loop-at : goal.invariant-loop-at
invariant-loop-at l = record {
  within : l.at ≤ length l.text;
  so_far : SoFar l.ports l.types l.text l.items (drop l.at l.text);
}

abbrev pub decreases-loop-at : goal.decreases-loop-at
decreases-loop-at l = length l.text - l.at
