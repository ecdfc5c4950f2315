use Rattle.dsde_bank.proofs.SlotLemmas.{sound-empty}
use Rattle.dsde_bank.proofs.bank.Bank.new.Goals as goal

pub invariant_of-result : goal.invariant_of-result
invariant_of-result g c = sound-empty _ c.new.ensures.empty
