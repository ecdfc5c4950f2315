-- How the turns of a run end, in one list.
use Rattle.std.specs.Prelude.{Result, Ok, Err}
use Rattle.dsde_sim_tree.specs.declared.event.Finish.{Finish}
use Rattle.dsde_sim_tree.specs.declared.event.Finish.TheVariants as how
use Rattle.dsde_run.specs.declared.run.Cut.{Cut}
use Rattle.dsde_run.specs.declared.run.Cut.TheVariants as cut
use Rattle.dsde_run.specs.declared.ends.RunEnd.{RunEnd}
use Rattle.dsde_run.specs.declared.ends.RunEnd.TheVariants.{Bound, Quiet, BadInput, Fault, ReadFault, Unwritten, Memory}

-- the end of the trace that it is, or why there is none
abbrev pub answer_of : RunEnd → Result Finish Cut
answer_of Bound = Ok how.Bound
answer_of Quiet = Ok how.Quiet
answer_of (BadInput kind line) = Ok (how.Input kind line)
answer_of (Fault fault) = Ok (how.Fault fault)
answer_of ReadFault = Err cut.ReadFault
answer_of Unwritten = Err cut.Unwritten
answer_of Memory = Err cut.Memory
