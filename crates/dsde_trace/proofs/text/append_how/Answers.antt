use Rattle.std.proofs.Common.{arith}
use Rattle.std.proofs.lemmas.Grind.{common_steps}
use Rattle.dsde_trace.proofs.Writing.{grown}
use Rattle.dsde_trace.proofs.text.append_how.Goals as goal

pub returns-in_ok-extend_from_slice-in-Fault-clause-grows :
    goal.returns-in_ok-extend_from_slice-in-Fault-clause-grows
returns-in_ok-extend_from_slice-in-Fault-clause-grows c =
    grown c.args.text.now c.extend_from_slice-in-Fault.new.self c.append_fault.new.text
    (grind (arith, common_steps)) c.append_fault.ensures.grows
