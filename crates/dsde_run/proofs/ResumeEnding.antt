-- The turns of a run that is taken up end as it does.
use Rattle.std.proofs.Common.{◌≡◌, Bool, true, refl}
use Rattle.std.specs.Prelude.{Result, Ok, Err, IfOk}
use Rattle.dsde_sim_tree.specs.declared.event.Finish.{Finish}
use Rattle.dsde_sim_tree.specs.declared.event.Finish.TheVariants as how
use Rattle.dsde_run.specs.declared.ends.RunEnd.{RunEnd}
use Rattle.dsde_run.specs.declared.ends.RunEnd.TheVariants as run_end
use Rattle.dsde_run.specs.declared.run.Cut.{Cut}
use Rattle.dsde_run.specs.Ends.{answer_of}
use Rattle.dsde_run.specs.Reading.{IsWhole}
use Rattle.dsde_run.specs.declared.resuming.Unresumed.{Unresumed}
use Rattle.dsde_run.specs.Resuming.{taken_up}

abbrev Back : Type 0
Back = Result Finish Unresumed

pub turns-quiet : (end : RunEnd) → (let back : Back = Ok how.Quiet in taken_up (answer_of end) ≡ back) → end ≡ run_end.Quiet
turns-quiet run_end.Bound is = absurd (cc is)
turns-quiet run_end.Quiet is = refl
turns-quiet (run_end.BadInput kind line) is = absurd (cc is)
turns-quiet (run_end.Fault fault) is = absurd (cc is)
turns-quiet run_end.ReadFault is = absurd (cc is)
turns-quiet run_end.Unwritten is = absurd (cc is)
turns-quiet run_end.Memory is = absurd (cc is)

-- What holds where the turns of a run end so holds where a run that is taken up does.
pub ends-back : (Holds : Finish → Type 0) (answer : Result Finish Cut) → IfOk answer Holds → IfOk (taken_up answer) Holds
ends-back Holds (Ok how) holds = holds
ends-back Holds (Err why) holds = tt

-- An engine that is not spent stays so, however a run ends.
pub stays-fresh : (back : Back) (is_fresh : Bool) → is_fresh ≡ true → IfOk back (λ how. IsWhole how → is_fresh ≡ true)
stays-fresh (Ok how) is_fresh fresh = λ whole. fresh
stays-fresh (Err why) is_fresh fresh = tt
