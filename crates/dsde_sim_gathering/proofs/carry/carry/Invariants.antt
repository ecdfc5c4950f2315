use Rattle.std.proofs.Common.{◌≡◌, ◌++◌, [], drop, filter_map, slice_index_or}
use Rattle.dsde_sim_tree.specs.given.structure.Gather.{carried, from_part, through}
use Rattle.dsde_sound_structures.specs.given.system.Program.{system}
use Rattle.dsde_sim_gathering.proofs.carry.carry.Given as goal

abbrev pub invariant-loop-value : goal.invariant-loop-value
invariant-loop-value l =
    l.values ++ filter_map (through (system l.program).translate l.link) (drop l.value-index (slice_index_or (from_part l.sources l.link.from.part) l.link.from.port []))
    ≡ l.initial.values ++ carried (system l.program).translate l.sources l.link
