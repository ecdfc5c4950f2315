-- How the output message of a tree ends where those who are due were asked.
use Rattle.std.proofs.Common.{◌≡◌, Result, Ok, Err, refl, ap, ◌∙◌}
use Rattle.dsde_sim_tree.specs.given.formalism.System.{Ports}
use Rattle.dsde_sim_tree.specs.declared.fault.TurnEnd.{TurnEnd}
use Rattle.dsde_sim_tree.specs.declared.fault.TurnEnd.TheVariants as turn_end
use Rattle.dsde_sim_tree.specs.Told.{Comes}
use Rattle.dsde_sim_working.specs.given.sim_movers.Asking.{ending}

-- without a fault something is sent
pub sends : (output : Result Ports TurnEnd) (asked : Result (Unit {0}) TurnEnd) → ending output ≡ asked → asked ≡ Ok tt → (sent : Ports) × (output ≡ Ok sent)
sends (Ok sent) asked is came = (sent, refl)
sends (Err end) asked is came = absurd (let wrong : (let one : Result (Unit {0}) TurnEnd = Err end in one) ≡ Ok tt = is ∙ came in cc)

fault-of : (output : Result Ports TurnEnd) (end : TurnEnd) → ending output ≡ Err end → output ≡ Err end
fault-of (Ok sent) end is = absurd (let wrong : (let one : Result (Unit {0}) TurnEnd = Ok tt in one) ≡ Err end = is in cc)
fault-of (Err other) end is = ap (λ (one : TurnEnd). let r : Result Ports TurnEnd = Err one in r) (let same : other ≡ end = (let e : (let one : Result (Unit {0}) TurnEnd = Err other in one) ≡ Err end = is in cc) in same)

-- a fault is that of the output message
pub faults : (output : Result Ports TurnEnd) (asked : Result (Unit {0}) TurnEnd) (end : TurnEnd) → ending output ≡ asked → Comes asked (let r : Result (Unit {0}) TurnEnd = Err end in r) → Comes output (let r : Result Ports TurnEnd = Err end in r)
faults output asked (turn_end.Fault path site kind place) is came = fault-of output (turn_end.Fault path site kind place) (is ∙ came)
faults output asked turn_end.Memory is came = tt
